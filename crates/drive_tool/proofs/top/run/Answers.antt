use Rattle.std.proofs.Common.{List, ℕ, map, string_bytes, Global, refl, sym, subst, false}
use Rattle.named_files.specs.Texts.{usage_line}
use Rattle.drive_tool.specs.declared.status.DriveStatus.TheVariants.{Usage}
use Rattle.drive_tool.specs.Words.{HasUsage, AreRefused}
use Rattle.drive_tool.specs.Named.{wire_named}
use Rattle.drive_tool.specs.Plans.{refusal, usage, asked}
use Rattle.drive_tool.proofs.AnswerLemmas.{comes_torn, comes_as}
use Rattle.drive_tool.proofs.WordLemmas.{usage_is}
use Rattle.tool_frame.proofs.FileLemmas.{shelf_within}
use Rattle.drive_tool.proofs.TopLemmas.{of_asked, of_refused, of_any_words}
use Rattle.drive_tool.proofs.top.run.Goals as goal

pub returns-in-Ok-clause-did : goal.returns-in-Ok-clause-did
returns-in-Ok-clause-did g c =
    of_asked (g.S.Shelf.told c.args.shelf.now) (wire_named c.in-Ok.asked.wire) c.in-Ok.asked.play c.in-Ok.ensures.asked c.answer_asked.ensures.did
    (λ contents did. comes_as g.P.Peer g.K.Sink _ _ (λ sleeps plan p. asked (wire_named c.in-Ok.asked.wire) c.in-Ok.asked.play plan c.in-Ok.ensures.asked p.0 p.1) c.answer_asked.result did)

pub returns-in-Ok-clause-shelf : goal.returns-in-Ok-clause-shelf
returns-in-Ok-clause-shelf g c =
    shelf_within
    (λ named are. record { wire = wire_named c.in-Ok.asked.wire; play = c.in-Ok.asked.play; asked = c.in-Ok.ensures.asked; are = are })
    (λ path reached. record { wire = wire_named c.in-Ok.asked.wire; play = c.in-Ok.asked.play; asked = c.in-Ok.ensures.asked; reached = reached })
    c.answer_asked.ensures.shelf

pub returns-in_err-write-in-Err-Usage-clause-did : goal.returns-in_err-write-in-Err-Usage-clause-did
returns-in_err-write-in-Err-Usage-clause-did g c =
    let words : List (List ℕ) = map (string_bytes {Z = Global}) c.args.words.now in
    let refused : HasUsage words c.in-Err-Usage.n = subst (AreRefused words) c.in-Err-Usage.field-0-is c.in-Err-Usage.ensures.refused in
    of_refused (g.S.Shelf.told c.args.shelf.now) c.in-Err-Usage.n refused (λ contents.
    comes_torn g.P.Peer g.K.Sink _ _ _ false (refusal (usage_line _) (Usage _)) (usage _ (usage_is (sym c.in-Err-Usage.n-is) refused))
    (record { wrote = c.in_err-write-in-Err-Usage.ensures.front; still = refl }) c.from_residual.result c.from_residual.ensures.1)

pub returns-in_ok-write-in-Err-Usage-clause-did : goal.returns-in_ok-write-in-Err-Usage-clause-did
returns-in_ok-write-in-Err-Usage-clause-did g c =
    let words : List (List ℕ) = map (string_bytes {Z = Global}) c.args.words.now in
    let refused : HasUsage words c.in-Err-Usage.n = subst (AreRefused words) c.in-Err-Usage.field-0-is c.in-Err-Usage.ensures.refused in
    of_refused (g.S.Shelf.told c.args.shelf.now) c.in-Err-Usage.n refused (λ contents. record {
      sleeps = false;
      plan = refusal (usage_line _) (Usage _);
      planned = usage _ (usage_is (sym c.in-Err-Usage.n-is) refused);
      is = record { status_is = c.status.ensures; wrote = c.in_ok-write-in-Err-Usage.ensures.ok; still = refl };
    })

pub returns-in-Err-Memory-clause-did : goal.returns-in-Err-Memory-clause-did
returns-in-Err-Memory-clause-did g c =
    of_any_words (g.S.Shelf.told c.args.shelf.now) (map (string_bytes {Z = Global}) c.args.words.now) (λ contents. record { same_peer = refl; same_out = refl })
