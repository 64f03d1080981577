use Rattle.std.proofs.Common.{arith}
use Rattle.dev_kinds.proofs.Fitting.{fresh_fitted}
use Rattle.dev_kinds.proofs.fitted.FittedDevice.new.Goals as goal

pub invariant_of-result : goal.invariant_of-result
invariant_of-result g c = record {
  fits = fresh_fitted g.R.DataRegisters.own_kind g.R.DataRegisters.longest c.args.desc.now c.longest_register.result
      c.in_ok-logic.logic (g.R.DataRegisters.contents c.in_ok-registers.registers) c.requires.good c.requires.kind
      (omega (arith, c.longest_register.ensures.value)) c.in_ok-logic.ensures c.in_ok-registers.ensures;
}
