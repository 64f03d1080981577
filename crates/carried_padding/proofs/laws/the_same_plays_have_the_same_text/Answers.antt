use Rattle.carried_padding.proofs.CarriedPadding.{same_text}
use Rattle.carried_padding.proofs.laws.the_same_plays_have_the_same_text.Goals as goal

pub returns : goal.returns
returns c = same_text
