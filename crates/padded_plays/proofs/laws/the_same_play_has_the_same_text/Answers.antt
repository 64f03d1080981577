use Rattle.padded_plays.proofs.SameTexts.{text_of_same}
use Rattle.padded_plays.proofs.laws.the_same_play_has_the_same_text.Goals as goal

pub returns : goal.returns
returns c = text_of_same
