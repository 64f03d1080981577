use Rattle.stapl_syntax.proofs.SymbolLemmas.{seen_as_name}
use Rattle.stapl_syntax.proofs.laws.free_words_are_names.Goals as goal

pub returns : goal.returns
returns c = seen_as_name
