use Rattle.board_text.proofs.OneAnswer.{one_first_fault}
use Rattle.board_text.proofs.laws.one_first_fault.Goals as goal

pub returns : goal.returns
returns c = one_first_fault
