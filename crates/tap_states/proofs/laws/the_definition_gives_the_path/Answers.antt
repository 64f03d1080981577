use Rattle.tap_states.proofs.Shortest.{is_path}
use Rattle.tap_states.proofs.laws.the_definition_gives_the_path.Goals as goal

pub returns : goal.returns
returns c = is_path
