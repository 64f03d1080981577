use Rattle.tap_states.proofs.Shortest.{path_is_in_table}
use Rattle.tap_states.proofs.laws.the_table_holds_the_paths.Goals as goal

pub returns : goal.returns
returns c = path_is_in_table
