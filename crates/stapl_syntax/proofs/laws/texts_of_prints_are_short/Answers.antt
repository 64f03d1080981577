use Rattle.stapl_syntax.proofs.SymbolLemmas.{short_strings}
use Rattle.stapl_syntax.proofs.laws.texts_of_prints_are_short.Goals as goal

pub returns : goal.returns
returns c = short_strings
