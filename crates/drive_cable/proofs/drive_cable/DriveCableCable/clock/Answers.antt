use Rattle.std.proofs.Common.{refl}
use Rattle.scan_paths.proofs.Parts.{clock_failed}
use Rattle.drive_cable.proofs.CableLemmas.{clocked, not_clocked}
use Rattle.drive_cable.proofs.drive_cable.DriveCableCable.clock.Goals as goal

pub returns-in_err-tdo-clause-clocked : goal.returns-in_err-tdo-clause-clocked
returns-in_err-tdo-clause-clocked g c =
    clock_failed c.args.tms c.args.tdi c.from_residual.result c.from_residual.ensures.0
    (not_clocked g.P.Peer _ _ (record { before = c.requires; same_peer = refl; same_sleeps = refl }) c.args.tms c.args.tdi refl
    c.in_err-tdo.ensures.clocked)

pub returns-clause-clocked : goal.returns-clause-clocked
returns-clause-clocked g c =
    clocked g.P.Peer _ _ (record { before = c.requires; same_peer = refl; same_sleeps = refl }) c.args.tms c.args.tdi c.in_ok-tdo.tdo
    c.in_ok-tdo.ensures.clocked
