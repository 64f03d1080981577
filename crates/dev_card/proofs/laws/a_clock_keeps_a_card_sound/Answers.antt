use Rattle.dev_card.proofs.Soundness.{sound_step}
use Rattle.dev_card.proofs.laws.a_clock_keeps_a_card_sound.Goals as goal

pub returns : goal.returns
returns c = sound_step
