use Rattle.syntax_laws.proofs.Bracketed.{left_bracketed, right_bracketed, only_bracketed, index_printed, taken_printed}
use Rattle.syntax_laws.proofs.laws.operands_are_bracketed_only_if_needed.Goals as goal

pub returns : goal.returns
returns c = record { left = left_bracketed; right = right_bracketed; only = only_bracketed; index = index_printed; taken = taken_printed }
