use Rattle.std.proofs.Common.{◌≢◌, ◌<◌, length, length-set, get_or-set_other, get_or-set_same, below_more, ◌∙◌, arith}
use Rattle.bit_list.proofs.HexDigits.{digit_shifted}
use Rattle.bit_list.proofs.hexadecimal.word_digits.Goals as goal

pub loop-k-preserved : goal.loop-k-preserved
loop-k-preserved c =
    let k = c.loop-k.k in
    let inside : k < length c.loop-k.digits = omega (arith, c.loop-k.invariant.count) in
    record {
      count = length-set c.loop-k.digits k c.hex_byte.result ∙ c.loop-k.invariant.count;
      done = below_more _ _
          (λ j h. let other : j ≢ k = omega arith in rw get_or-set_other (c.loop-k.invariant.done j h))
          (rw get_or-set_same (c.hex_byte.ensures ∙ digit_shifted c.args.word k (omega arith)));
    }
