use Rattle.stapl_syntax.proofs.ReasonLemmas.{one_smallest_reason}
use Rattle.stapl_syntax.proofs.laws.a_piece_has_one_smallest_reason.Goals as goal

pub returns : goal.returns
returns c = λ text piece r s one other. one_smallest_reason one other
