use Rattle.std.proofs.Common.{List, ℕ, string_bytes, Global, sym, subst}
use Rattle.std.proofs.lemmas.List.{drop-map}
use Rattle.drive_tool.specs.Words.{AskForPlay, HasPlayUsage, no_play}
use Rattle.drive_tool.specs.Named.{wire_named}
use Rattle.drive_tool.proofs.WordLemmas.{rest_all}
use Rattle.drive_tool.proofs.words.read_asked.Goals as goal

pub returns-in-Ok-read_play-clause-asked : goal.returns-in-Ok-read_play-clause-asked
returns-in-Ok-read_play-clause-asked c = record {
  count = c.in-Ok.wire.count;
  named = c.in-Ok.ensures.named;
  asked = subst (λ (ws : List (List ℕ)). AskForPlay ws c.in-Ok-read_play.play) (sym (drop-map (string_bytes {Z = Global}) c.in-Ok.wire.count c.args.words.now))
      (rw (rest_all c.in-Ok.wire.count c.args.words.now) at c.in-Ok-read_play.ensures.play);
}

pub returns-in-Err-Usage-clause-refused : goal.returns-in-Err-Usage-clause-refused
returns-in-Err-Usage-clause-refused c =
    no_play (wire_named c.in-Ok.wire) c.in-Ok.wire.count c.in-Err-Usage.n c.in-Ok.ensures.named
    (subst (λ (ws : List (List ℕ)). HasPlayUsage ws c.in-Err-Usage.n) (sym (drop-map (string_bytes {Z = Global}) c.in-Ok.wire.count c.args.words.now))
    (rw (c.in-Err-Usage.field-0-is, rest_all c.in-Ok.wire.count c.args.words.now) at c.in-Err-Usage.ensures.refused))
