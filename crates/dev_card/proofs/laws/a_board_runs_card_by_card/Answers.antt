use Rattle.dev_card.proofs.BlockSteps.{runs_card_by_card}
use Rattle.dev_card.proofs.laws.a_board_runs_card_by_card.Goals as goal

pub returns : goal.returns
returns c = runs_card_by_card
