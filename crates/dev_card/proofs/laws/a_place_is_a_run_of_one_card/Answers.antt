use Rattle.dev_card.proofs.RunsOfNeighbours.{run_of_place}
use Rattle.dev_card.proofs.laws.a_place_is_a_run_of_one_card.Goals as goal

pub returns : goal.returns
returns c = run_of_place
