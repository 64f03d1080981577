use Rattle.std.proofs.Common.{length, sym, ap, ◌∙◌, List, Bool, arith}
use Rattle.stapl_meaning.specs.declared.values.Held.{Held}
use Rattle.stapl_meaning.specs.declared.values.Held.TheVariants as held
use Rattle.stapl_meaning.specs.Values.{bits_of}
use Rattle.machine_memory.specs.Arrays.{first_bits, with_bits}
use Rattle.machine_memory.proofs.SpanLemmas.{part_moved}
use Rattle.machine_copies.proofs.copying.move_bits.Goals as goal

pub returns-in-Bits : goal.returns-in-Bits
returns-in-Bits c =
    let span = c.args.span in let from = c.args.from in let old = c.in-Bits.bits in
    let long = ap (λ h. length (bits_of h)) c.in-Bits.is in
    ap (λ (l : List Bool). let h : Held = held.Bits l in h)
    (part_moved span from c.first_places-low.result old old c.requires.enough (omega (arith, c.requires.source.inside, long)) c.first_places-low.ensures
    c.copy_within.new.self c.turn_within.new.bits (omega (arith, c.requires.is_part.inside, long)) c.copy_within.ensures.copied c.turn_within.ensures)
    ∙ ap (λ h. with_bits h span (first_bits span.count from (bits_of h))) (sym c.in-Bits.is)
