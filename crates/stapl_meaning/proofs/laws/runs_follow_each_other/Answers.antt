use Rattle.stapl_meaning.proofs.RunLaws.{runs_add}
use Rattle.stapl_meaning.proofs.laws.runs_follow_each_other.Goals as goal

pub returns : goal.returns
returns c = runs_add
