use Rattle.drive_tool.proofs.OnePlan.{one_plan, one_waiting}
use Rattle.drive_tool.proofs.laws.one_plan.Goals as goal

pub returns-clause-plan : goal.returns-clause-plan
returns-clause-plan c = one_plan

pub returns-clause-waits : goal.returns-clause-waits
returns-clause-waits c = one_waiting
