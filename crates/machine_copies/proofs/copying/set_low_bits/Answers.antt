use Rattle.std.proofs.Common.{length, take, sym, ap, ◌∙◌, List, Bool, ℤ, w32, arith}
use Rattle.std.specs.Int.{cast_unsigned}
use Rattle.std.proofs.lemmas.Int.{to_z-of_z}
use Rattle.std.proofs.lemmas.List.{length-take-le}
use Rattle.base.proofs.NumberBits.{length-low_bits}
use Rattle.bit_list.specs.Integers.{bits_of_int}
use Rattle.bit_list.specs.Ranges.{spliced}
use Rattle.stapl_meaning.specs.declared.values.Held.{Held}
use Rattle.stapl_meaning.specs.declared.values.Held.TheVariants as held
use Rattle.stapl_meaning.specs.Values.{bits_of}
use Rattle.machine_memory.specs.Arrays.{with_bits}
use Rattle.machine_memory.proofs.SpanLemmas.{part_set}
use Rattle.machine_copies.proofs.copying.set_low_bits.Goals as goal

pub returns-in-Bits : goal.returns-in-Bits
returns-in-Bits c =
    let span = c.args.span in let value = c.args.value in let part : List Bool = take span.count (bits_of_int value) in
    let size = length-take-le span.count (bits_of_int value) (omega (arith, c.requires.width, length-low_bits 32 (cast_unsigned w32 value))) in
    ap (λ (l : List Bool). let h : Held = held.Bits l in h)
    (part_set span part c.in-Bits.bits c.set_low_bits.new.self c.turn_within.new.bits size
    (omega (arith, c.requires.is_part.inside, ap (λ h. length (bits_of h)) c.in-Bits.is))
    (c.set_low_bits.ensures.bits ∙ ap (λ (z : ℤ). spliced span.low (take span.count (bits_of_int z)) c.in-Bits.bits) (to_z-of_z w32 value c.ranges.value))
    c.turn_within.ensures)
    ∙ ap (λ h. with_bits h span part) (sym c.in-Bits.is)
