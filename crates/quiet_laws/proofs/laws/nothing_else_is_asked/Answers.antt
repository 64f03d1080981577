use Rattle.quiet_laws.proofs.Asked.{clock_is_quiet, instruction_is_quiet, data_is_quiet}
use Rattle.quiet_laws.proofs.laws.nothing_else_is_asked.Goals as goal

pub returns : goal.returns
returns c = record { clock = clock_is_quiet; of_instruction = instruction_is_quiet; of_data = data_is_quiet }
