use Rattle.std.proofs.Common.{◌∙◌}
use Rattle.std.proofs.lemmas.List.{take_rest}
use Rattle.tool_io.proofs.CauseLemmas.{kept_start, kept_then, sum_kept}
use Rattle.link_cable.proofs.WireLemmas.{sent_more, room_left}
use Rattle.link_cable.proofs.CarryLemmas.{taken_next, front_next, all_failed, still_start, still_then, sum_still}
use Rattle.link_cable.proofs.calls.send_all.Goals as goal

pub returns-in_err-n-clause-went : goal.returns-in_err-n-clause-went
returns-in_err-n-clause-went g c = all_failed _ _ _ c.args.bytes.now c.from_residual.result c.from_residual.ensures.0
    (front_next g.W.Wire.carried g.met.W.Wire.none_carried g.met.W.Wire.both_carried _ _ _ c.args.bytes.now c.turns.rest.now c.turns.invariant.taken c.in_err-n.ensures.went)

pub returns-then-n-eq0-clause-went : goal.returns-then-n-eq0-clause-went
returns-then-n-eq0-clause-went g c = record {
  rest = _;
  taken = taken_next g.W.Wire.carried g.met.W.Wire.none_carried g.met.W.Wire.both_carried _ _ _ c.args.bytes.now c.turns.rest.now c.in_ok-n.n c.turns.invariant.taken c.in_ok-n.ensures.went;
}

pub turns-preserved : goal.turns-preserved
turns-preserved g c = record {
  ready = c.in_ok-n.ensures.kept.ready;
  steady = λ h. c.in_ok-n.ensures.steady (c.turns.invariant.steady h);
  sent = rw take_rest (sent_more _ _ c.turns.rest.now c.in_ok-n.n c.in_ok-n.ensures.sent ∙ c.turns.invariant.sent);
  taken = rw take_rest (taken_next g.W.Wire.carried g.met.W.Wire.none_carried g.met.W.Wire.both_carried _ _ _ _ c.turns.rest.now c.in_ok-n.n c.turns.invariant.taken c.in_ok-n.ensures.went);
  room = rw take_rest (λ h. room_left _ _ _ _ c.turns.rest.now c.in_ok-n.n c.in_ok-n.ensures.sent c.in_ok-n.ensures.steady (c.turns.invariant.room h));
  kept = kept_then c.turns.invariant.kept (sum_kept c.in_ok-n.ensures.kept.counts.cause.kept (kept_start _ _));
  calm = still_then c.turns.invariant.calm (sum_still c.in_ok-n.ensures.kept.counts.calm (still_start _ _));
}
