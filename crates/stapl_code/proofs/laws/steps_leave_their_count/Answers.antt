use Rattle.stapl_code.proofs.StepCounts.{step_leaves}
use Rattle.stapl_code.proofs.laws.steps_leave_their_count.Goals as goal

pub returns : goal.returns
returns c = step_leaves
