use Rattle.stapl_code.proofs.ValidRuns.{within_depth}
use Rattle.stapl_code.proofs.laws.operands_keep_the_depth.Goals as goal

pub returns : goal.returns
returns c = λ code range valid. within_depth code range valid
