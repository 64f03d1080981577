use Rattle.carried_plays.proofs.PadNumbers.{a_number, one_number}
use Rattle.carried_plays.proofs.laws.there_is_one_free_name.Goals as goal

pub returns : goal.returns
returns c = record { some = a_number; one = one_number }
