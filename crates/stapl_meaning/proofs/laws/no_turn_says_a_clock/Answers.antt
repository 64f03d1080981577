use Rattle.stapl_meaning.proofs.SaidEvents.{turn_says, beginning_says}
use Rattle.stapl_meaning.proofs.laws.no_turn_says_a_clock.Goals as goal

pub returns-clause-turns : goal.returns-clause-turns
returns-clause-turns c = turn_says

pub returns-clause-beginning : goal.returns-clause-beginning
returns-clause-beginning c = beginning_says
