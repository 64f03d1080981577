use Rattle.tap_states.proofs.Shortest.{at_most_one_path}
use Rattle.tap_states.proofs.laws.there_is_at_most_one_path.Goals as goal

pub returns : goal.returns
returns c = at_most_one_path
