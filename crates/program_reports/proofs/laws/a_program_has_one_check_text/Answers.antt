use Rattle.program_reports.proofs.CheckLemmas.{one_check_text}
use Rattle.program_reports.proofs.laws.a_program_has_one_check_text.Goals as goal

pub returns : goal.returns
returns c = λ text program a b x y. one_check_text x y
