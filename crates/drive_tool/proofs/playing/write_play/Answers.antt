use Rattle.std.proofs.Common.{refl}
use Rattle.tool_io.proofs.CauseLemmas.{kept_start, rose_after}
use Rattle.drive_tool.proofs.PlayLemmas.{rest_left, reached_end, reached_no_ending, reached_unfinished, reached_part, torn, reached_torn}
use Rattle.drive_tool.proofs.playing.write_play.Goals as goal

pub returns-in_err-put_ending-in-Ok-clause-written : goal.returns-in_err-put_ending-in-Ok-clause-written
returns-in_err-put_ending-in-Ok-clause-written g c =
    reached_no_ending g.P.Peer g.K.Sink _ _ _ c.requires.empty c.in-Ok.ensures.played c.in_err-put_ending-in-Ok.ensures c.from_residual.result c.from_residual.ensures.0

pub returns-in_err-finish-in-Ok-clause-written : goal.returns-in_err-finish-in-Ok-clause-written
returns-in_err-finish-in-Ok-clause-written g c =
    reached_unfinished g.P.Peer g.K.Sink _ _ _ c.requires.empty c.in-Ok.ensures.played c.in_ok-put_ending-in-Ok.ensures c.in_err-finish-in-Ok.ensures.put
    c.from_residual-in_err-finish-in-Ok.result c.from_residual-in_err-finish-in-Ok.ensures.0

pub returns-in_ok-finish-in-Ok-clause-written : goal.returns-in_ok-finish-in-Ok-clause-written
returns-in_ok-finish-in-Ok-clause-written g c =
    reached_end g.P.Peer g.K.Sink _ _ _ c.requires.empty c.in-Ok.ensures.played c.in_ok-put_ending-in-Ok.ensures c.in_ok-finish-in-Ok.ensures.put c.in_ok-finish-in-Ok.ensures.empty

pub returns-in_err-write_rest-in-Err-CableFault-clause-written : goal.returns-in_err-write_rest-in-Err-CableFault-clause-written
returns-in_err-write_rest-in-Err-CableFault-clause-written g c =
    let p = c.in-Err-CableFault.ensures.played in let w = c.in_err-write_rest-in-Err-CableFault.ensures in
    reached_torn g.P.Peer g.K.Sink _ _ _ c.requires.empty p (w.front _ _ p.front) w.same_sink w.kept (rose_after p.kept w.rose)
    c.from_residual-in_err-write_rest-in-Err-CableFault.result c.from_residual-in_err-write_rest-in-Err-CableFault.ensures.0

pub returns-in_ok-write_rest-in-Err-CableFault-clause-written : goal.returns-in_ok-write_rest-in-Err-CableFault-clause-written
returns-in_ok-write_rest-in-Err-CableFault-clause-written g c =
    let p = c.in-Err-CableFault.ensures.played in let w = c.in_ok-write_rest-in-Err-CableFault.ensures in
    (reached_part g.P.Peer g.K.Sink _ _ _ c.requires.empty p (w.front _ _ p.front) w.same_sink w.kept, rw c.in-Err-CableFault.field-0-is at p.cause)

pub returns-in-Err-WriteFault-clause-written : goal.returns-in-Err-WriteFault-clause-written
returns-in-Err-WriteFault-clause-written g c =
    let p = c.in-Err-WriteFault.ensures.played in
    (torn g.P.Peer g.K.Sink _ _ _ c.requires.empty (reached_part g.P.Peer g.K.Sink _ _ _ c.requires.empty p (rest_left g.K.Sink p.front) refl (kept_start _ _)), rw c.in-Err-WriteFault.field-0-is at p.cause)
