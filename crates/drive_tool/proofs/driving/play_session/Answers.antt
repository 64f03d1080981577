use Rattle.tool_io.specs.declared.outside.Failed.{Failed}
use Rattle.drive_tool.proofs.DriveLemmas.{keeps_failed, keeps_end, had_cut, had_end, had_torn, sink_torn, sink_kept}
use Rattle.drive_tool.proofs.driving.play_session.Goals as goal

pub returns-in_err-played-clause-driven : goal.returns-in_err-played-clause-driven
returns-in_err-played-clause-driven g c =
    had_torn g.P.Peer g.K.Sink _ _ _ c.in_err-played.field-0.0 c.in_err-played.ensures.written c.from_residual.result c.from_residual.ensures.0

pub returns-in_err-played-clause-sink : goal.returns-in_err-played-clause-sink
returns-in_err-played-clause-sink g c = sink_torn g.K.Sink c.args.lines.now c.write_play.new.lines c.from_residual.result c.in_err-played.ensures.written.0.kept c.in_err-played.ensures.written.1

pub returns-in_err-played-clause-same_sink : goal.returns-in_err-played-clause-same_sink
returns-in_err-played-clause-same_sink g c = c.in_err-played.ensures.written.0.same_sink

pub returns-in_err-played-clause-peer : goal.returns-in_err-played-clause-peer
returns-in_err-played-clause-peer g c = keeps_failed g.P.Peer g.K.Sink c.from_residual.result c.from_residual.ensures.0 c.write_play.ensures.kept

pub returns-in-Some-clause-driven : goal.returns-in-Some-clause-driven
returns-in-Some-clause-driven g c =
    let e = c.end_session.ensures in
    had_end g.P.Peer g.K.Sink _ _ _ Failed c.end_session.new.peer c.end_session.result (rw c.in-Some.is at c.in_ok-played.ensures.written) e.status e.sent e.broke

pub returns-in-Some-clause-sink : goal.returns-in-Some-clause-sink
returns-in-Some-clause-sink g c = let h = rw c.in-Some.is at c.in_ok-played.ensures.written in sink_kept g.K.Sink c.args.lines.now c.write_play.new.lines _ h.kept

pub returns-in-Some-clause-same_sink : goal.returns-in-Some-clause-same_sink
returns-in-Some-clause-same_sink g c = let h = rw c.in-Some.is at c.in_ok-played.ensures.written in h.same_sink

pub returns-in-Some-clause-peer : goal.returns-in-Some-clause-peer
returns-in-Some-clause-peer g c = keeps_end g.P.Peer g.K.Sink c.end_session.result c.write_play.ensures.kept c.end_session.ensures.kept c.end_session.ensures.rose

pub returns-in-None-clause-driven : goal.returns-in-None-clause-driven
returns-in-None-clause-driven g c = let h = rw c.in-None.is at c.in_ok-played.ensures.written in had_cut g.P.Peer g.K.Sink _ _ _ h.0

pub returns-in-None-clause-sink : goal.returns-in-None-clause-sink
returns-in-None-clause-sink g c = let h = rw c.in-None.is at c.in_ok-played.ensures.written in sink_kept g.K.Sink c.args.lines.now c.write_play.new.lines _ h.0.kept

pub returns-in-None-clause-same_sink : goal.returns-in-None-clause-same_sink
returns-in-None-clause-same_sink g c = let h = rw c.in-None.is at c.in_ok-played.ensures.written in h.0.same_sink

pub returns-in-None-clause-peer : goal.returns-in-None-clause-peer
returns-in-None-clause-peer g c = let h = rw c.in-None.is at c.in_ok-played.ensures.written in record { later = c.write_play.ensures.kept; wire = λ e. h.1 }
