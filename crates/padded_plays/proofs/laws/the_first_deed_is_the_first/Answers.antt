use Rattle.padded_plays.proofs.Firsts.{fewer_are_quiet, more_are_not, one_first}
use Rattle.padded_plays.proofs.laws.the_first_deed_is_the_first.Goals as goal

pub returns : goal.returns
returns c = record { fewer = fewer_are_quiet; more = more_are_not; one = one_first }
