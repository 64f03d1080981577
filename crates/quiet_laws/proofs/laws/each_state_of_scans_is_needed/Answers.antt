use Rattle.quiet_laws.proofs.Needed.{capture_needed, instruction_shift_needed, data_shift_needed, stop_needed}
use Rattle.quiet_laws.proofs.laws.each_state_of_scans_is_needed.Goals as goal

pub returns : goal.returns
returns c = record { capture = capture_needed; instruction_shift = instruction_shift_needed; data_shift = data_shift_needed; stop = stop_needed }
