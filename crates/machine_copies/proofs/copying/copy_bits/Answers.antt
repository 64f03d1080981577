use Rattle.std.proofs.Common.{length, sym, ap, ap₂, ◌∙◌, List, Bool, arith}
use Rattle.stapl_meaning.specs.declared.values.Held.{Held}
use Rattle.stapl_meaning.specs.declared.values.Held.TheVariants as held
use Rattle.stapl_meaning.specs.Values.{bits_of}
use Rattle.machine_memory.specs.Arrays.{first_bits, with_bits}
use Rattle.machine_memory.proofs.SpanLemmas.{part_copied}
use Rattle.machine_copies.proofs.copying.copy_bits.Goals as goal

pub returns-in-Bits-other : goal.returns-in-Bits-other
returns-in-Bits-other c =
    let span = c.args.span in let from = c.args.from in
    ap (λ (l : List Bool). let h : Held = held.Bits l in h)
    (part_copied span from c.first_places-low.result c.in-Bits-other.other c.in-Bits.bits c.requires.enough
    (omega (arith, c.requires.source.inside, ap (λ h. length (bits_of h)) c.in-Bits-other.is)) c.first_places-low.ensures c.copy_turned.new.to
    c.copy_turned.ensures.copied)
    ∙ ap₂ (λ o h. with_bits h span (first_bits span.count from (bits_of o))) (sym c.in-Bits-other.is) (sym c.in-Bits.is)
