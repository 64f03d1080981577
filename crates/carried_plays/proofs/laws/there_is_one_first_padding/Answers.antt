use Rattle.carried_plays.proofs.FirstPaddings.{first_padding, no_first_padding, one_first_padding}
use Rattle.carried_plays.proofs.laws.there_is_one_first_padding.Goals as goal

pub returns : goal.returns
returns c = record { some = first_padding; none = no_first_padding; one = one_first_padding }
