use Rattle.board_text.proofs.BoardFits.{board_fits}
use Rattle.board_text.proofs.laws.each_board_can_be_fitted.Goals as goal

pub returns : goal.returns
returns c = board_fits
