use Rattle.dev_card.proofs.BlockShifts.{shifts_block}
use Rattle.dev_card.proofs.laws.a_shifting_card_shifts_a_block.Goals as goal

pub returns : goal.returns
returns c = shifts_block
