use Rattle.dev_card.proofs.Soundness.{sound_board_after}
use Rattle.dev_card.proofs.laws.clocks_keep_a_board_sound.Goals as goal

pub returns : goal.returns
returns c = sound_board_after
