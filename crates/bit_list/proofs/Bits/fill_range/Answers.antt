use Rattle.std.proofs.Common.{replicate, arith}
use Rattle.std.proofs.lemmas.List.{length-replicate}
use Rattle.bit_list.proofs.Packed.{packed_after, list_after}
use Rattle.bit_list.proofs.Bits.fill_range.Goals as goal

pub invariant_of-self : goal.invariant_of-self
invariant_of-self c =
    packed_after c.self.inside.words.items c.deref_mut.result.now c.fill_bits.new.words c.self.inside.words.len
    c.self.inside.len c.args.at (replicate c.args.n c.args.bit) c.args.self.now
    c.self.invariant c.self.view_is c.deref_mut.ensures.value c.deref_mut.ensures.len c.fill_bits.auto.words
    (omega (arith, length-replicate c.args.n c.args.bit)) (c.fill_bits.ensures)

pub returns-clause-bits : goal.returns-clause-bits
returns-clause-bits c =
    list_after c.self.inside.words.items c.deref_mut.result.now c.fill_bits.new.words c.self.inside.words.len
    c.self.inside.len c.args.at (replicate c.args.n c.args.bit) c.args.self.now
    c.self.invariant c.self.view_is c.deref_mut.ensures.value c.deref_mut.ensures.len c.fill_bits.auto.words
    (omega (arith, length-replicate c.args.n c.args.bit)) (c.fill_bits.ensures)
