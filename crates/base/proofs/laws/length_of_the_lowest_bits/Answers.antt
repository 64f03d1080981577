use Rattle.base.proofs.NumberBits.{length-low_bits}
use Rattle.base.proofs.laws.length_of_the_lowest_bits.Goals as goal

pub returns : goal.returns
returns c = length-low_bits
