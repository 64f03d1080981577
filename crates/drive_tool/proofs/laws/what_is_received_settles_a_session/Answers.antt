use Rattle.drive_tool.proofs.OnePlan.{one_session}
use Rattle.drive_tool.proofs.laws.what_is_received_settles_a_session.Goals as goal

pub returns : goal.returns
returns c = one_session
