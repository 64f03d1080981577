use Rattle.dev_card.proofs.RunsOfNeighbours.{around_run, base_of_run}
use Rattle.dev_card.proofs.laws.a_run_stands_between_the_cards_around_it.Goals as goal

pub returns-clause-board : goal.returns-clause-board
returns-clause-board c = λ cs run. around_run run cs

pub returns-clause-base : goal.returns-clause-base
returns-clause-base c = base_of_run
