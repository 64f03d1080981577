use Rattle.stapl_checker.proofs.Answered.{program_or_fault}
use Rattle.stapl_checker.proofs.laws.each_text_is_a_program_or_has_a_fault.Goals as goal

pub returns : goal.returns
returns c = program_or_fault
