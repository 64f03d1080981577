use Rattle.std.proofs.Common.{[], take, ◌-◌}
use Rattle.std.specs.Prelude.{replicate}
use Rattle.tool_io.proofs.CauseLemmas.{kept_then}
use Rattle.drive_cable.proofs.PeerLemmas.{failed, sent_more, sent_broke}
use Rattle.drive_cable.proofs.BlockLemmas.{many_more}
use Rattle.drive_cable.proofs.calls.send_many.Goals as goal

pub returns-in_err-send_all-clause-sent : goal.returns-in_err-send_all-clause-sent
returns-in_err-send_all-clause-sent g c =
    failed g.P.Peer [] c.from_residual.result c.from_residual.ensures.0
    (sent_broke g.P.Peer (take c.min-n.result (replicate 192 c.args.byte)) (replicate (c.turns.rest - c.min-n.result) c.args.byte)
    c.turns.invariant.sent (many_more c.min-n.result c.turns.rest c.args.byte c.min-n.ensures) c.in_err-send_all.ensures.sent)

pub turns-preserved : goal.turns-preserved
turns-preserved g c = record {
  sent = sent_more g.P.Peer (take c.min-n.result (replicate 192 c.args.byte)) (replicate (c.turns.rest - c.min-n.result) c.args.byte)
      c.turns.invariant.sent (many_more c.min-n.result c.turns.rest c.args.byte c.min-n.ensures) c.in_ok-send_all.ensures.sent;
  kept = kept_then c.turns.invariant.kept c.in_ok-send_all.ensures.cause.kept;
}
