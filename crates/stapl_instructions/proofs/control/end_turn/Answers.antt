use Rattle.std.proofs.Common.{arith}
use Rattle.stapl_instructions.proofs.MoveLemmas.{end_clean}
use Rattle.stapl_instructions.proofs.control.end_turn.Goals as goal

pub returns-clause-ends : goal.returns-clause-ends
returns-clause-ends c = λ piece s k. end_clean piece c.args.operands.now c.args.went s k (omega arith)
