use Rattle.std.proofs.lemmas.List.Elements.{recursion_from_All}
use Rattle.canonical_text.specs.Printable.{CanBePrinted}
use Rattle.canonical_text.proofs.CheckWords.{good_check_word}
use Rattle.canonical_text.proofs.laws.the_check_word_is_good.Goals as goal

pub returns : goal.returns
returns c = λ statements pieces piece n word others all. good_check_word statements pieces piece n word others (recursion_from_All CanBePrinted statements all)
