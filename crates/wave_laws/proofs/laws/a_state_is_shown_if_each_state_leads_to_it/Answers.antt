use Rattle.wave_laws.proofs.ShownStates.{shown_exactly, unknown_exactly}
use Rattle.wave_laws.proofs.laws.a_state_is_shown_if_each_state_leads_to_it.Goals as goal

pub returns : goal.returns
returns c = record { shown = shown_exactly; unknown = unknown_exactly }
