use Rattle.stapl_syntax.proofs.SymbolLemmas.{literals_hold}
use Rattle.stapl_syntax.proofs.laws.literals_have_bits.Goals as goal

pub returns : goal.returns
returns c = literals_hold
