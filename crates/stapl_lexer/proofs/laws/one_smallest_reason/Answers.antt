use Rattle.stapl_lexer.proofs.ReasonLemmas.{one_smallest}
use Rattle.stapl_lexer.proofs.laws.one_smallest_reason.Goals as goal

pub returns : goal.returns
returns c = one_smallest
