use Rattle.dev_kinds.proofs.BitNumbers.{number_of-low_bits_below}
use Rattle.dev_kinds.proofs.test_logic.TestLogic.enter.Goals as goal

pub returns-in-IrUpdate : goal.returns-in-IrUpdate
returns-in-IrUpdate c =
    let e = number_of-low_bits_below c.self.inside.desc.ir_len c.self.inside.ir_number c.self.invariant.ir_fits in
    rw (c.in-IrUpdate.is, ← c.self.view_is, e)
