use Rattle.std.proofs.Common.{◌≡◌, ◌-◌, ◌+◌, ap, ap₂, sym, ◌++◌, ◌∙◌, arith}
use Rattle.base.specs.Bits.{low_bits}
use Rattle.dev_kinds.proofs.RingBlocks.{part_below, all_of_it, ring_parts}
use Rattle.dev_kinds.proofs.ring.number_of_ring.Goals as goal

pub join-both-requires-clause-low : goal.join-both-requires-clause-low
join-both-requires-clause-low c =
    rw c.word.ensures.value
    (part_below c.args.head (c.args.len - c.args.head) c.args.ring.now
    (omega (arith, c.requires.inside, c.requires.within)))

pub join-both-requires-clause-high : goal.join-both-requires-clause-high
join-both-requires-clause-high c = rw c.word-2.ensures.value (part_below 0 c.args.head c.args.ring.now (omega (arith, c.requires.inside, c.requires.within)))

pub returns-clause-bits : goal.returns-clause-bits
returns-clause-bits c =
    let first = c.args.len - c.args.head in
    let whole : first + c.args.head ≡ c.args.len = omega (arith, c.requires.inside) in
    let after : c.args.head + first ≡ c.args.len = omega (arith, c.requires.inside) in
    all_of_it c.args.len c.join-both.result c.cut-number.result.0 c.cut-number.result.1 c.cut-number.ensures.bits
    ∙ ap (λ k. low_bits k c.join-both.result) (sym whole) ∙ c.join-both.ensures.bits
    ∙ ap₂ (λ u v. u ++ v) c.word.ensures.bits c.word-2.ensures.bits
    ∙ sym (ring_parts c.args.len c.args.head first c.args.ring.now after)
