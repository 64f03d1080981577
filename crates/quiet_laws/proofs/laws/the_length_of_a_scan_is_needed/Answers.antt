use Rattle.quiet_laws.proofs.Needed.{long_instruction_needed, long_data_needed}
use Rattle.quiet_laws.proofs.laws.the_length_of_a_scan_is_needed.Goals as goal

pub returns : goal.returns
returns c = record { of_instruction = long_instruction_needed; of_data = long_data_needed }
