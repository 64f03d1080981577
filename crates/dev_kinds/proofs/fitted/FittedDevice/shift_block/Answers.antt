use Rattle.dev_kinds.proofs.Fitting.{block_fitted}
use Rattle.dev_kinds.proofs.fitted.FittedDevice.shift_block.Goals as goal

pub invariant_of-self : goal.invariant_of-self
invariant_of-self g c =
    let s = c.args.self.now in
    record {
      fits = block_fitted g.R.DataRegisters.own_kind g.R.DataRegisters.longest s.logic c.shift_block.new.self
          (g.R.DataRegisters.contents s.registers) c.args.tdi c.args.n c.args.last _ s.fits c.shift_block.ensures.desc
          c.shift_block.ensures.room c.shift_block.ensures.shifted;
    }
