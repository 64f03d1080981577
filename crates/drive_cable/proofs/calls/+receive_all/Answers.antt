use Rattle.drive_cable.proofs.PeerLemmas.{received_more}
use Rattle.drive_cable.proofs.PartLemmas.{put_end}
use Rattle.drive_cable.proofs.calls.+receive_all.Goals as goal

pub returns-clause-received : goal.returns-clause-received
returns-clause-received g t c =
    received_more g.P.Peer c.receive_all.new.peer c.receive.new.into c.receive_all.new.into _ c.in_ok-n.n c.receive_all.result c.in_ok-n.ensures.received
    c.receive_all.ensures.received (put_end c.in_ok-n.n c.receive.new.into c.receive_all.new.into c.in_ok-n.ensures.received.within)
