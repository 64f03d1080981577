use Rattle.std.proofs.Common.{refl, true, false}
use Rattle.scan_paths.proofs.Parts.{signal_failed}
use Rattle.drive_cable.proofs.CableLemmas.{waited, not_waited, nothing_carried}
use Rattle.drive_cable.proofs.drive_cable.DriveCableCable.usec.Goals as goal

pub returns-in_err-wait_peer-clause-signalled : goal.returns-in_err-wait_peer-clause-signalled
returns-in_err-wait_peer-clause-signalled g c =
    signal_failed c.from_residual.result c.from_residual.ensures.0
    (not_waited g.P.Peer _ _ (record { before = c.requires; same_peer = refl; same_sleeps = refl }) true c.if-self.true c.args.n refl
    c.in_err-wait_peer.ensures.sent)

pub returns-in_ok-wait_peer-clause-signalled : goal.returns-in_ok-wait_peer-clause-signalled
returns-in_ok-wait_peer-clause-signalled g c =
    waited g.P.Peer _ _ (record { before = c.requires; same_peer = refl; same_sleeps = refl }) true c.if-self.true c.args.n
    c.in_ok-wait_peer.ensures.sent

pub returns-else-self-clause-signalled : goal.returns-else-self-clause-signalled
returns-else-self-clause-signalled g c =
    waited g.P.Peer _ _ (record { before = c.requires; same_peer = refl; same_sleeps = refl }) false c.if-self.false c.args.n
    (nothing_carried g.P.Peer _)
