use Rattle.drive_cable.proofs.PeerLemmas.{both, still_or_failed}
use Rattle.drive_cable.proofs.calls.wait_peer.Goals as goal

pub returns-clause-sent : goal.returns-clause-sent
returns-clause-sent g c =
    still_or_failed g.P.Peer c.flush.result (both g.P.Peer c.in_ok-send_many.ensures.sent c.in_ok-send_many-2.ensures.sent) c.flush.ensures.still
