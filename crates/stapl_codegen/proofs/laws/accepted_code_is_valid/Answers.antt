use Rattle.stapl_codegen.proofs.Whole.{is_valid}
use Rattle.stapl_codegen.proofs.Generated.{in_range, code}
use Rattle.stapl_codegen.proofs.laws.accepted_code_is_valid.Goals as goal

pub returns-clause-in_range : goal.returns-clause-in_range
returns-clause-in_range c = in_range

pub returns-clause-valid : goal.returns-clause-valid
returns-clause-valid c = λ program accepted. is_valid program accepted.shaped accepted.typed

pub returns-clause-code : goal.returns-clause-code
returns-clause-code c = code
