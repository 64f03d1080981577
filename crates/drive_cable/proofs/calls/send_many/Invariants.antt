use Rattle.std.specs.Prelude.{replicate}
use Rattle.tool_io.specs.Causes.{NeverFalls}
use Rattle.drive_cable.proofs.PeerLemmas.{SentUpTo}
use Rattle.drive_cable.proofs.calls.send_many.Given as goal

abbrev pub invariant-turns : goal.invariant-turns
invariant-turns g l = record {
  sent : SentUpTo g.P.Peer l.fn.peer (replicate l.count l.byte) (replicate l.rest l.byte) l.peer;
  kept : NeverFalls g.P.Peer.faults g.P.Peer.is_last l.fn.peer l.peer;
}

abbrev pub decreases-turns : goal.decreases-turns
decreases-turns g l = l.rest
