use Rattle.stapl_codegen.proofs.CodeNumbers.{code_fits}
use Rattle.stapl_codegen.proofs.laws.codes_of_programs_fit.Goals as goal

pub returns : goal.returns
returns c = λ text program is. code_fits text program is (c.programs_are_accepted.ensures text program is)
