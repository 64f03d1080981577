use Rattle.tap_states.proofs.States.{tap_number-injective}
use Rattle.tap_states.proofs.laws.numbers_tell_states_apart.Goals as goal

pub returns : goal.returns
returns c = tap_number-injective
