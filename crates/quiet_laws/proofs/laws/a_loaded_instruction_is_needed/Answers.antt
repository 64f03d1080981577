use Rattle.quiet_laws.proofs.Needed.{first_needed, reset_needed}
use Rattle.quiet_laws.proofs.laws.a_loaded_instruction_is_needed.Goals as goal

pub returns : goal.returns
returns c = record { first = first_needed; since = reset_needed }
