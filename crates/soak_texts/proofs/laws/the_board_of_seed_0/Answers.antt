use Rattle.std.proofs.Common.{refl}
use Rattle.soak_texts.specs.Draws.{next_state, state_after, nth_draw}
use Rattle.soak_texts.specs.Boards.{soak_devices, register_length}
use Rattle.soak_texts.proofs.laws.the_board_of_seed_0.Goals as goal

pub returns : goal.returns
unfolding soak_devices register_length nth_draw state_after next_state
returns c = record { first_state = refl; devices = refl; second_state = refl; first_register = refl }
