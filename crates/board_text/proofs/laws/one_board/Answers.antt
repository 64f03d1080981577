use Rattle.board_text.proofs.OneAnswer.{one_board}
use Rattle.board_text.proofs.laws.one_board.Goals as goal

pub returns : goal.returns
returns c = one_board
