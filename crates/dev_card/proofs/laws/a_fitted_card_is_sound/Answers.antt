use Rattle.dev_card.proofs.Soundness.{fitted_is_sound}
use Rattle.dev_card.proofs.laws.a_fitted_card_is_sound.Goals as goal

pub returns : goal.returns
returns c = fitted_is_sound
