use Rattle.std.proofs.Common.{refl}
use Rattle.drive_cable.proofs.CableLemmas.{tuned, nothing_carried}
use Rattle.drive_cable.proofs.drive_cable.DriveCableCable.hertz.Goals as goal

pub returns-clause-signalled : goal.returns-clause-signalled
returns-clause-signalled g c =
    tuned g.P.Peer _ _ (record { before = c.requires; same_peer = refl; same_sleeps = refl }) c.args.n (nothing_carried g.P.Peer _)
