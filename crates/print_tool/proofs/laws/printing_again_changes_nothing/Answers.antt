use Rattle.print_tool.proofs.CanonicalLemmas.{printed_again}
use Rattle.print_tool.proofs.laws.printing_again_changes_nothing.Goals as goal

pub returns : goal.returns
returns c = printed_again
