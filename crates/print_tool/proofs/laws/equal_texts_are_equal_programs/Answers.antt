use Rattle.print_tool.proofs.CanonicalLemmas.{same_printed}
use Rattle.print_tool.proofs.laws.equal_texts_are_equal_programs.Goals as goal

pub returns : goal.returns
returns c = same_printed
