use Rattle.tap_states.proofs.Shortest.{path_to_itself}
use Rattle.tap_states.proofs.laws.the_path_to_itself_is_empty.Goals as goal

pub returns : goal.returns
returns c = path_to_itself
