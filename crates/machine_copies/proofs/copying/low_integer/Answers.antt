use Rattle.std.proofs.Common.{rules, SFits, ◌≡◌, ◌≤◌, ◌<◌, ◌^◌, w32, length, subst, arith, ap, ◌∙◌}
use Rattle.std.specs.Int.{cast_signed}
use Rattle.std.proofs.lemmas.Int.{to_z-of_z}
use Rattle.std.proofs.Math.Pow.{pow_mono}
use Rattle.base.specs.Bits.{number_of}
use Rattle.base.proofs.NumberBits.{number_of-below}
use Rattle.bit_list.specs.Ranges.{taken}
use Rattle.bit_list.proofs.Splices.{length_taken}
use Rattle.stapl_meaning.specs.Values.{span_bits}
use Rattle.machine_memory.specs.Arrays.{span_in}
use Rattle.machine_memory.proofs.SpanLemmas.{lowest_word, length_span}
use Rattle.machine_copies.proofs.copying.low_integer.Goals as goal

pub overflow_cast-word : goal.overflow_cast-word
overflow_cast-word c =
    let span = c.args.span in let bits = c.args.bits.now in let n = c.min.result in let part = taken 0 n (span_bits (span_in span) bits) in
    let size : length part ≡ n = length_taken 0 n (span_bits (span_in span) bits) (omega (arith, c.min.ensures, length_span span bits c.requires)) in
    let below : number_of part < 2 ^ n = subst (λ k. number_of part < 2 ^ k) size (number_of-below part) in
    let most : 2 ^ n ≤ 2 ^ 32 = pow_mono {i = n} {j = 32} (omega (arith, c.min.ensures)) in
    record { fits = omega (arith, below, most, c.part_word-word.ensures) }

pub returns : goal.returns
returns c =
    let fits : SFits w32 c.cast_signed.result = search rules in
    to_z-of_z w32 c.cast_signed.result fits ∙ c.cast_signed.ensures
    ∙ ap (cast_signed w32) (c.part_word-word.ensures ∙ ap number_of (lowest_word c.min.result c.args.span c.args.bits.now c.min.ensures c.requires))
