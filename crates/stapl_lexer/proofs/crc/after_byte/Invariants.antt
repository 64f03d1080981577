use Rattle.std.proofs.Common.{◌≡◌, ◌-◌}
use Rattle.stapl_lexer.specs.Crc.{low_bits, remainder}
use Rattle.stapl_lexer.proofs.crc.after_byte.Given as goal

abbrev pub invariant-loop-turn : goal.invariant-loop-turn
invariant-loop-turn l = remainder l.crc (low_bits (8 - l._turn) l.bits) ≡ remainder l.fn.crc (low_bits 8 l.byte)
