use Rattle.std.proofs.Common.{ap, sym, subst, ◌∙◌, ◌+◌, ◌<◌, ◌^◌}
use Rattle.base.specs.Bits.{low_bits}
use Rattle.dev_kinds.proofs.BlockNumbers.{shifted_fits, joined_bits, joined_below}
use Rattle.dev_kinds.proofs.blocks.join.Goals as goal

pub returns-clause-bits : goal.returns-clause-bits
returns-clause-bits c =
    let a = c.args in
    ap (low_bits (a.len + a.n)) (shifted_fits a.low a.len a.high a.n _ _ c.requires.short c.requires.most c.requires.high c.from.ensures c.from-2.ensures)
    ∙ joined_bits a.low a.len a.high a.n c.requires.low

pub returns-clause-below : goal.returns-clause-below
returns-clause-below c =
    let a = c.args in
    subst (λ x. x < 2 ^ (a.len + a.n))
    (sym (shifted_fits a.low a.len a.high a.n _ _ c.requires.short c.requires.most c.requires.high c.from.ensures
    c.from-2.ensures))
    (joined_below a.low a.len a.high a.n c.requires.low c.requires.high)
