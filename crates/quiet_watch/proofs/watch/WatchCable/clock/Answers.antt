use Rattle.scan_paths.proofs.Parts.{cable_failed, clock_failed}
use Rattle.quiet_watch.proofs.WatchSteps.{is_unclocked}
use Rattle.quiet_watch.proofs.watch.WatchCable.clock.Goals as goal

pub returns-in_err-tdo-clause-clocked : goal.returns-in_err-tdo-clause-clocked
returns-in_err-tdo-clause-clocked g c =
    let m = g.D.Device in
    clock_failed c.args.tms c.args.tdi c.from_residual.result c.from_residual.ensures.0
    (is_unclocked m.fitted m.kind_of c.args.self.now c.step.new.self c.args.tms c.args.tdi c.in_err-tdo.ensures.stayed)

pub returns-in_err-tdo-clause-kept : goal.returns-in_err-tdo-clause-kept
returns-in_err-tdo-clause-kept g c = cable_failed c.from_residual.result c.from_residual.ensures.0 c.in_err-tdo.ensures.kept
