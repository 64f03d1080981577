use Rattle.std.proofs.Common.{arith, ap, Err, ◌∙◌}
use Rattle.stapl_grammar.proofs.ContentLemmas.{all_binary, no_bad_digit}
use Rattle.stapl_grammar.proofs.contents.binary_bits.Goals as goal

pub from_binary-requires : goal.from_binary-requires
from_binary-requires c = rw c.deref.ensures.value (omega (arith, c.in_ok-digits.ensures.few))

pub unreachable-requires : goal.unreachable-requires
unreachable-requires c =
    no_bad_digit 2 c.deref.result.now c.in-Err-BadDigit.field-0-0 ((c.from_binary.ensures.bad_digit c.in-Err-BadDigit.field-0-0).0 (c.in-Err-BadDigit.is ∙ ap Err c.in-Err-BadDigit.field-0-is))
    (rw c.deref.ensures.value (all_binary c.in_ok-digits.digits.items c.in_ok-digits.ensures.each))
