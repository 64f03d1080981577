use Rattle.std.proofs.Common.{◌≡◌, ◌<◌, ◌*◌, ◌/◌, ◌^◌, reverse}
use Rattle.base.specs.Bits.{low_bits}
use Rattle.bit_list.proofs.words.reversed_whole.Given as goal

abbrev pub invariant-loop : goal.invariant-loop
invariant-loop l =
    (l.rest ≡ l.word / 2 ^ (4 * l.counter)) × (l.turned < 2 ^ (4 * l.counter))
    × (low_bits (4 * l.counter) l.turned ≡ reverse (low_bits (4 * l.counter) l.word))
