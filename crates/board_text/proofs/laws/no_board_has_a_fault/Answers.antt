use Rattle.board_text.proofs.OneAnswer.{no_board_has_a_fault}
use Rattle.board_text.proofs.laws.no_board_has_a_fault.Goals as goal

pub returns : goal.returns
returns c = no_board_has_a_fault
