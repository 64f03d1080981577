use Rattle.std.proofs.Common.{ℕ, List, ◌-◌, ◌++◌, ap, ◌∙◌, arith}
use Rattle.bit_list.specs.Hexadecimal.{hex_digit, hex_digits, all_hex_digits}
use Rattle.canonical_writer.proofs.DigitLemmas.{hex_more}
use Rattle.canonical_writer.proofs.digits.push_hex_digits.Goals as goal

pub loop-left-preserved : goal.loop-left-preserved
loop-left-preserved c = (
  ap (λ (v : List ℕ). v ++ hex_digits (c.loop-left.left - 1) c.args.bits.now) c.in_ok-push.ensures.items
      ∙ hex_more c.loop-left.out.items (c.args.out.now.items ++ all_hex_digits c.args.bits.now) c.args.bits.now c.loop-left.left (c.loop-left.left - 1) c.hex_byte.result
      (omega arith) (omega arith) c.loop-left.invariant.0 (c.hex_byte.ensures ∙ ap hex_digit c.word-digit.ensures.value),
  omega (arith, c.loop-left.invariant.1),
)
