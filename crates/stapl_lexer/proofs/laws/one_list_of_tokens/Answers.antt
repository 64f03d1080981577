use Rattle.stapl_lexer.proofs.ReasonLemmas.{one_list}
use Rattle.stapl_lexer.proofs.laws.one_list_of_tokens.Goals as goal

pub returns : goal.returns
returns c = one_list
