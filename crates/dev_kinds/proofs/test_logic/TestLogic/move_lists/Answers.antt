use Rattle.std.proofs.Common.{arith, ap, ◌∙◌, ◌≡◌}
use Rattle.base.specs.Bits.{low_bits}
use Rattle.dev_card.specs.Card.{shifted}
use Rattle.dev_kinds.proofs.BitNumbers.{low_bits_one, low_bits_shifted}
use Rattle.dev_kinds.proofs.test_logic.TestLogic.move_lists.Goals as goal

pub returns-in-IrCapture : goal.returns-in-IrCapture
returns-in-IrCapture c =
    let e = low_bits_one c.self.inside.desc.ir_len (omega (arith, c.self.invariant.good.shortest)) in
    rw (← c.self.view_is, c.in-IrCapture.is, e)

pub returns-in-IrShift : goal.returns-in-IrShift
returns-in-IrShift c =
    let n = c.self.inside.desc.ir_len in
    let e : low_bits n c.shift_in-self-inside.result ≡ shifted (low_bits n c.self.inside.ir_number) c.args.tdi =
    ap (λ x. low_bits n x) c.shift_in-self-inside.ensures.value ∙ low_bits_shifted n c.self.inside.ir_number c.args.tdi (omega (arith, c.self.invariant.good.shortest)) c.self.invariant.ir_fits in
    rw (← c.self.view_is, c.in-IrShift.is, e)
