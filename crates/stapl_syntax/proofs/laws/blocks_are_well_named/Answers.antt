use Rattle.stapl_syntax.proofs.SymbolLemmas.{well_named_blocks}
use Rattle.stapl_syntax.proofs.laws.blocks_are_well_named.Goals as goal

pub returns : goal.returns
returns c = well_named_blocks
