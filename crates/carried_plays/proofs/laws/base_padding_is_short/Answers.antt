use Rattle.carried_plays.proofs.ShortBases.{base_is_short}
use Rattle.carried_plays.proofs.laws.base_padding_is_short.Goals as goal

pub returns : goal.returns
returns c = base_is_short
