use Rattle.base.proofs.NumberBits.{number_of-low_bits}
use Rattle.base.proofs.laws.number_of_the_lowest_bits.Goals as goal

pub returns : goal.returns
returns c = number_of-low_bits
