use Rattle.std.proofs.Common.{length}
use Rattle.tool_io.specs.Causes.{NeverFalls}
use Rattle.drive_cable.proofs.PeerLemmas.{SentUpTo}
use Rattle.drive_cable.proofs.calls.send_all.Given as goal

abbrev pub invariant-turns : goal.invariant-turns
invariant-turns g l = record {
  sent : SentUpTo g.P.Peer l.fn.peer l.bytes l.rest l.peer;
  kept : NeverFalls g.P.Peer.faults g.P.Peer.is_last l.fn.peer l.peer;
}

abbrev pub decreases-turns : goal.decreases-turns
decreases-turns g l = length l.rest
