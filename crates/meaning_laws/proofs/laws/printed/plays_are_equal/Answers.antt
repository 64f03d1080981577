use Rattle.meaning_laws.proofs.Plays.{plays_same, choices_same}
use Rattle.meaning_laws.proofs.laws.printed.plays_are_equal.Goals as goal

pub returns : goal.returns
returns c = record {
  play = λ a b chosen n base far same. plays_same a b same chosen n base far;
  choice = λ a b name asked skipped same. choices_same a b same name asked skipped;
}
