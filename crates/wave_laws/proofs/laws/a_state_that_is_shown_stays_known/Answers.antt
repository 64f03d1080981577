use Rattle.wave_laws.proofs.ShownStates.{settled_by_five_ones, stays_shown}
use Rattle.wave_laws.proofs.laws.a_state_that_is_shown_stays_known.Goals as goal

pub returns : goal.returns
returns c = record { five_ones = settled_by_five_ones; stays = stays_shown }
