use Rattle.dev_card.proofs.Resetting.{five_ones_reset}
use Rattle.dev_card.proofs.laws.five_ones_reset_a_board.Goals as goal

pub returns : goal.returns
returns c = five_ones_reset
