use Rattle.dev_kinds.proofs.Fitting.{fresh_fitted}
use Rattle.dev_kinds.proofs.fitted.FittedDevice.blank.Goals as goal

pub invariant_of-self : goal.invariant_of-self
invariant_of-self g c =
    let s = c.args.self.now in
    record {
      fits = fresh_fitted g.R.DataRegisters.own_kind g.R.DataRegisters.longest s.logic.desc s.logic.room
          c.blank.new.self (g.R.DataRegisters.contents c.blank-2.new.self) s.fits.sound.good s.fits.kind s.fits.room
          c.blank.ensures (c.blank-2.ensures s.logic s.fits);
    }
