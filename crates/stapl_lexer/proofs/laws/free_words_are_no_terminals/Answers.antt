use Rattle.stapl_lexer.proofs.NameLemmas.{free_words}
use Rattle.stapl_lexer.proofs.laws.free_words_are_no_terminals.Goals as goal

pub returns : goal.returns
returns c = free_words
