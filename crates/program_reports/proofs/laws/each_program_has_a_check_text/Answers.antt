use Rattle.program_reports.proofs.CheckLemmas.{some_check_text}
use Rattle.program_reports.proofs.laws.each_program_has_a_check_text.Goals as goal

pub returns : goal.returns
returns c = some_check_text
