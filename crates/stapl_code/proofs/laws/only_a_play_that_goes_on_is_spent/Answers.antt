use Rattle.stapl_code.proofs.Endings.{spent_goes_on}
use Rattle.stapl_code.proofs.laws.only_a_play_that_goes_on_is_spent.Goals as goal

pub returns : goal.returns
returns c = spent_goes_on
