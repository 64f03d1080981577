use Rattle.meaning_laws.proofs.Plays.{plays_same, choices_same, same_as_printed}
use Rattle.meaning_laws.proofs.laws.printed.canonical_text_plays_alike.Goals as goal

pub returns : goal.returns
returns c = record {
  play = λ text statements own chosen n base far is printed. plays_same own statements (same_as_printed text statements own is printed) chosen n base far;
  choice = λ text statements own name asked skipped is printed. choices_same own statements (same_as_printed text statements own is printed) name asked skipped;
}
