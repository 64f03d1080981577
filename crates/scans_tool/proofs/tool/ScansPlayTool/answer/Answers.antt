use Rattle.std.proofs.Common.{ℕ, List, map, string_bytes, Global, refl, sym, subst}
use Rattle.tool_frame.proofs.AnswerLemmas.{says_within, says_failed, said_text, said_front}
use Rattle.play_words.specs.declared.status.Status.TheVariants.{Usage}
use Rattle.scans_tool.specs.Words.{HasUsage, AreRefused}
use Rattle.scans_tool.specs.Answers.{usage}
use Rattle.scans_tool.proofs.WordLemmas.{usage_is}
use Rattle.scans_tool.proofs.FileLemmas.{of_play, of_refused, of_all_words, shelf_of_words}
use Rattle.scans_tool.proofs.AnswerLemmas.{play_in_words}
use Rattle.scans_tool.proofs.tool.ScansPlayTool.answer.Goals as goal

pub returns-in-Ok-clause-answers : goal.returns-in-Ok-clause-answers
returns-in-Ok-clause-answers g c =
    let asks = c.in-Ok.ensures.play in
    of_play (g.S.Shelf.told c.args.shelf.now) c.in-Ok.play asks c.answer_play.ensures.says (λ contents says. record {
      says = says_within _ _ _ _ _ c.answer_play.result (play_in_words c.in-Ok.play contents asks) (λ same. same) says;
      left = c.answer_play.ensures.kinds;
    })

pub returns-in_err-put_usage-in-Err-Usage-clause-answers : goal.returns-in_err-put_usage-in-Err-Usage-clause-answers
returns-in_err-put_usage-in-Err-Usage-clause-answers g c =
    let words : List (List ℕ) = map (string_bytes {Z = Global}) c.args.words.now in
    let refused : HasUsage words c.in-Err-Usage.n = subst (AreRefused words) c.in-Err-Usage.field-0-is c.in-Err-Usage.ensures.refused in
    of_refused (g.S.Shelf.told c.args.shelf.now) words _ refused (λ contents. record {
      says = says_failed _ _ _ _ _ c.from_residual.result c.from_residual.ensures.1
          (said_front _ (Usage _) (usage _ (usage_is words (sym c.in-Err-Usage.n-is) refused)) c.in_err-put_usage-in-Err-Usage.ensures);
      left = refl;
    })

pub returns-in_ok-put_usage-in-Err-Usage-clause-answers : goal.returns-in_ok-put_usage-in-Err-Usage-clause-answers
returns-in_ok-put_usage-in-Err-Usage-clause-answers g c =
    let words : List (List ℕ) = map (string_bytes {Z = Global}) c.args.words.now in
    let refused : HasUsage words c.in-Err-Usage.n = subst (AreRefused words) c.in-Err-Usage.field-0-is c.in-Err-Usage.ensures.refused in
    of_refused (g.S.Shelf.told c.args.shelf.now) words _ refused (λ contents. record {
      says = said_text _ (usage _ (usage_is words (sym c.in-Err-Usage.n-is) refused)) c.in_ok-put_usage-in-Err-Usage.ensures;
      left = refl;
    })

pub returns-in-Err-Memory-clause-answers : goal.returns-in-Err-Memory-clause-answers
returns-in-Err-Memory-clause-answers g c =
    of_all_words (g.S.Shelf.told c.args.shelf.now) (map (string_bytes {Z = Global}) c.args.words.now) (λ contents. record { says = (refl, refl); left = refl })

pub returns-in-Ok-clause-shelf : goal.returns-in-Ok-clause-shelf
returns-in-Ok-clause-shelf g c = shelf_of_words c.in-Ok.play c.in-Ok.ensures.play c.answer_play.ensures.shelf
