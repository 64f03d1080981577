use Rattle.std.proofs.Common.{◌≡◌, take, subst, w32, ℤ}
use Rattle.std.proofs.lemmas.Int.{to_z-of_z}
use Rattle.bit_list.specs.Integers.{bits_of_int}
use Rattle.machine_memory.specs.Arrays.{with_bits}
use Rattle.machine_memory.proofs.ArrayLemmas.{part_put}
use Rattle.machine_copies.proofs.copying.put_integer.Goals as goal

pub returns : goal.returns
returns c =
    let part = c.args.part in let old = c.index_mut.result.now in let new = c.set_low_bits.new.held in
    part_put c.args.variables.now.items part (take part.span.count (bits_of_int c.args.value)) old new c.requires.is_part.there c.index_mut.ensures.value
    (subst (λ (z : ℤ). new ≡ with_bits old part.span (take part.span.count (bits_of_int z))) (to_z-of_z w32 c.args.value c.ranges.value) c.set_low_bits.ensures)
