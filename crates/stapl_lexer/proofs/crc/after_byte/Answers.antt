use Rattle.std.proofs.Common.{◌∙◌, ◌+◌, ◌-◌, ◌/◌, ap, ℕ}
use Rattle.stapl_lexer.specs.Crc.{low_bits, remainder}
use Rattle.stapl_lexer.proofs.CrcLemmas.{remainder_more}
use Rattle.stapl_lexer.proofs.crc.after_byte.Goals as goal

pub loop-turn-preserved : goal.loop-turn-preserved
loop-turn-preserved c =
    ap (λ (r : ℕ). remainder r (low_bits (8 - (c.loop-turn._turn + 1)) (c.loop-turn.bits / 2))) c.after_bit-crc.ensures
    ∙ remainder_more c.loop-turn._turn c.loop-turn.crc c.loop-turn.bits c.loop-turn-test.true ∙ c.loop-turn.invariant
