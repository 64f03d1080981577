use Rattle.std.proofs.Common.{◌≡◌, ◌-◌, ◌+◌, ap, sym, take, ◌++◌, ◌∙◌, arith}
use Rattle.base.specs.Bits.{low_bits}
use Rattle.std.proofs.lemmas.List.{length-take-le}
use Rattle.dev_kinds.proofs.BlockNumbers.{lowest_same, lowest_below}
use Rattle.dev_kinds.proofs.RingBlocks.{front_has_room, in_two_steps, all_of_it}
use Rattle.dev_kinds.proofs.ring.turn.Goals as goal

pub cut-near-requires-clause-below : goal.cut-near-requires-clause-below
cut-near-requires-clause-below c =
    rw c.from.ensures (lowest_below c.args.n c.args.number c.lowest.result c.lowest.ensures)

pub exchange-high-requires-clause-inside : goal.exchange-high-requires-clause-inside
exchange-high-requires-clause-inside c =
    front_has_room c.args.n c.args.len c.args.head c.min-first.result c.wrapped-place.result c.min-first.ensures
    c.requires.inside c.requires.long c.wrapped-place.ensures.inside c.wrapped-place.ensures.anew

pub wrapped-requires-clause-inside : goal.wrapped-requires-clause-inside
wrapped-requires-clause-inside c =
    front_has_room c.args.n c.args.len c.args.head c.min-first.result c.wrapped-place.result c.min-first.ensures
    c.requires.inside c.requires.long c.wrapped-place.ensures.inside c.wrapped-place.ensures.anew

pub overflow_add-place : goal.overflow_add-place
overflow_add-place c =
    let room = front_has_room c.args.n c.args.len c.args.head c.min-first.result c.wrapped-place.result
    c.min-first.ensures c.requires.inside c.requires.long c.wrapped-place.ensures.inside
    c.wrapped-place.ensures.anew in
    omega (arith, room)

pub returns-clause-bits : goal.returns-clause-bits
returns-clause-bits c =
    let a = c.args in
    let first = c.min-first.result in
    let whole : first + (a.n - first) ≡ a.n = omega arith in
    let xs = take a.len c.exchange-low.new.ring in
    let ys = take a.len c.exchange-high.new.ring in
    let near = c.cut-near.result.0 in
    let far = c.cut-near.result.1 in
    let size = c.exchange-high.ensures.length ∙ c.exchange-low.ensures.length in
    in_two_steps _ _ _ _ _ _ (low_bits first c.exchange-low.result) (low_bits (a.n - first) c.exchange-high.result) _
    (sym (lowest_same a.n a.number c.lowest.result c.lowest.ensures) ∙ ap (low_bits a.n) (sym c.from.ensures)
    ∙ c.cut-near.ensures.bits)
    c.exchange-low.ensures.bits
    (ap (λ z. z ++ low_bits (a.n - first) far)
    (sym (c.wrapped-place.ensures.same xs
    (length-take-le a.len c.exchange-low.new.ring
    (omega (arith, c.exchange-low.ensures.length, c.requires.within)))))
    ∙ c.exchange-high.ensures.bits
    ∙ ap (λ z. low_bits (a.n - first) c.exchange-high.result ++ z)
    (sym (c.wrapped.ensures.same ys
    (length-take-le a.len c.exchange-high.new.ring (omega (arith, size, c.requires.within))))))
    (all_of_it a.n c.join.result c.cut-out.result.0 c.cut-out.result.1 c.cut-out.ensures.bits
    ∙ ap (λ k. low_bits k c.join.result) (sym whole) ∙ c.join.ensures.bits)
