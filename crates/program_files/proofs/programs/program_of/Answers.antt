use Rattle.std.proofs.Common.{subst}
use Rattle.stapl_checker.specs.Answers.{IsCause}
use Rattle.program_files.proofs.ProgramLemmas.{text_fault_is}
use Rattle.program_files.proofs.programs.program_of.Goals as goal

pub returns-in-Err-Refused-clause-fault : goal.returns-in-Err-Refused-clause-fault
returns-in-Err-Refused-clause-fault c = λ piece line reason e.
    text_fault_is (cc) (cc) (cc) (subst (IsCause c.args.bytes.now) c.in-Err-Refused.field-0-is c.in-Err-Refused.ensures.refused)
