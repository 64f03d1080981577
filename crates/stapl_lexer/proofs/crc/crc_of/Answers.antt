use Rattle.std.proofs.Common.{◌∙◌, ap, sym, ℕ, get_or}
use Rattle.stapl_lexer.specs.Crc.{remainder, bits_of_byte}
use Rattle.stapl_lexer.proofs.CrcLemmas.{text_more}
use Rattle.stapl_lexer.proofs.crc.crc_of.Goals as goal

pub loop-byte-preserved : goal.loop-byte-preserved
loop-byte-preserved c =
    c.after_byte-crc.ensures ∙ ap (λ (r : ℕ). remainder r (bits_of_byte (get_or c.args.bytes.now c.loop-byte.byte-index 0))) c.loop-byte.invariant
    ∙ sym (text_more c.args.bytes.now c.loop-byte.byte-index c.loop-byte-test.true)
