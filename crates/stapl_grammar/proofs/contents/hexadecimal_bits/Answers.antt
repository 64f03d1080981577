use Rattle.std.proofs.Common.{arith, ap, Err, ◌∙◌}
use Rattle.stapl_grammar.proofs.ContentLemmas.{all_hexadecimal, no_bad_digit}
use Rattle.stapl_grammar.proofs.contents.hexadecimal_bits.Goals as goal

pub from_hex-requires : goal.from_hex-requires
from_hex-requires c = rw c.deref.ensures.value (omega (arith, c.in_ok-digits.ensures.few))

pub unreachable-requires : goal.unreachable-requires
unreachable-requires c =
    no_bad_digit 16 c.deref.result.now c.in-Err-BadDigit.field-0-0 ((c.from_hex.ensures.bad_digit c.in-Err-BadDigit.field-0-0).0 (c.in-Err-BadDigit.is ∙ ap Err c.in-Err-BadDigit.field-0-is))
    (rw c.deref.ensures.value (all_hexadecimal c.in_ok-digits.digits.items c.in_ok-digits.ensures.each))
