use Rattle.stapl_code.proofs.Bounds.{turn_at_most}
use Rattle.stapl_code.proofs.laws.turns_are_bounded.Goals as goal

pub returns : goal.returns
returns c = turn_at_most
