use Rattle.std.proofs.lemmas.List.Elements.{recursion_from_All}
use Rattle.canonical_text.specs.Printable.{CanBePrinted}
use Rattle.canonical_text.proofs.Programs.{canonical_read}
use Rattle.canonical_text.proofs.laws.canonical_text_is_read_back.Goals as goal

pub returns : goal.returns
returns c = λ statements all. canonical_read statements (recursion_from_All CanBePrinted statements all)
