use Rattle.dev_card.proofs.BlockSteps.{shifts_card_by_card}
use Rattle.dev_card.proofs.laws.a_board_shifts_card_by_card.Goals as goal

pub returns : goal.returns
returns c = shifts_card_by_card
