use Rattle.dev_card.proofs.Soundness.{fresh_sound}
use Rattle.dev_card.proofs.laws.a_fresh_card_is_sound.Goals as goal

pub returns : goal.returns
returns c = fresh_sound
