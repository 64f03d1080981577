use Rattle.stapl_code.proofs.ValidRuns.{never_stuck}
use Rattle.stapl_code.proofs.laws.never_stuck.Goals as goal

pub returns : goal.returns
returns c = λ code range valid. never_stuck code range valid
