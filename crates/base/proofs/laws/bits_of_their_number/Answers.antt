use Rattle.base.proofs.NumberBits.{low_bits-number_of}
use Rattle.base.proofs.laws.bits_of_their_number.Goals as goal

pub returns : goal.returns
returns c = low_bits-number_of
