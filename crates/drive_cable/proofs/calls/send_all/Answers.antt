use Rattle.std.proofs.Common.{[], sym}
use Rattle.std.proofs.lemmas.List.{take_rest, take-append-drop}
use Rattle.tool_io.proofs.CauseLemmas.{kept_then, rose_after, cause_of_rose}
use Rattle.drive_cable.proofs.PeerLemmas.{failed, sent_more, sent_front}
use Rattle.drive_cable.proofs.calls.send_all.Goals as goal

pub returns-in_err-n-clause-sent : goal.returns-in_err-n-clause-sent
returns-in_err-n-clause-sent g c =
    failed g.P.Peer [] c.from_residual.result c.from_residual.ensures.0 (sent_front g.P.Peer c.turns.invariant.sent c.in_err-n.ensures.sent)

pub returns-in_err-n-clause-cause : goal.returns-in_err-n-clause-cause
returns-in_err-n-clause-cause g c =
    cause_of_rose c.from_residual.result (kept_then c.turns.invariant.kept c.in_err-n.ensures.cause.kept)
    (rose_after c.turns.invariant.kept c.in_err-n.ensures.cause.failed)

pub turns-preserved : goal.turns-preserved
turns-preserved g c = record {
  sent = rw take_rest (sent_more g.P.Peer _ _ c.turns.invariant.sent (sym (take-append-drop c.in_ok-n.n c.turns.rest.now))
      c.in_ok-n.ensures.sent.carried);
  kept = kept_then c.turns.invariant.kept c.in_ok-n.ensures.cause.kept;
}
