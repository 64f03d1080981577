use Rattle.base.proofs.NumberBits.{low_bits_of_zero, low_bits_of_ones}
use Rattle.bit_list.proofs.words.word_of.Goals as goal

pub returns-then-bit : goal.returns-then-bit
returns-then-bit c = rw c.if-bit.true (λ n h. low_bits_of_ones n 64 h)

pub returns-else-bit : goal.returns-else-bit
returns-else-bit c = rw c.if-bit.false (λ n h. low_bits_of_zero n)
