use Rattle.stapl_checker.proofs.UniqueLemmas.{no_fault}
use Rattle.stapl_checker.proofs.laws.a_program_has_no_fault.Goals as goal

pub returns : goal.returns
returns c = λ text statements piece line reason program fault. no_fault statements program fault
