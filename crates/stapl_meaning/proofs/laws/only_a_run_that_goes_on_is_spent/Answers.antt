use Rattle.stapl_meaning.proofs.Endings.{spent_goes_on}
use Rattle.stapl_meaning.proofs.laws.only_a_run_that_goes_on_is_spent.Goals as goal

pub returns : goal.returns
returns c = spent_goes_on
