use Rattle.std.proofs.Common.{◌+◌, ap}
use Rattle.tool_io.proofs.PutLemmas.{put_then, put_then_front, front_with, put_failed}
use Rattle.wave_tool.specs.Found.{wave_held}
use Rattle.wave_tool.specs.Waves.{Wave, moment, low_levels, high_levels, states_clocked}
use Rattle.wave_tool.proofs.wave.put_clock.Goals as goal

pub returns-in_err-put_moment-clause-put : goal.returns-in_err-put_moment-clause-put
returns-in_err-put_moment-clause-put g c =
    let w = wave_held c.args.wave in
    let d = c.args.digit in
    put_failed c.from_residual.result c.from_residual.ensures.0
    (front_with (moment (w.time + 1) (low_levels w.levels d) (high_levels w.levels (states_clocked w.states d) d))
    (rw c.low_levels-low.ensures at c.in_err-put_moment.ensures))

pub returns-in_err-put_moment-2-clause-put : goal.returns-in_err-put_moment-2-clause-put
returns-in_err-put_moment-2-clause-put g c =
    let levels = ap (λ (w : Wave). w.levels) c.after_clock-after.ensures in
    put_failed c.from_residual-in_err-put_moment-2.result c.from_residual-in_err-put_moment-2.ensures.0
    (put_then_front (rw c.low_levels-low.ensures at c.in_ok-put_moment.ensures)
    (rw (c.low_levels-low.ensures, levels) at c.in_err-put_moment-2.ensures))

pub returns-clause-put : goal.returns-clause-put
returns-clause-put g c =
    let levels = ap (λ (w : Wave). w.levels) c.after_clock-after.ensures in
    put_then (rw c.low_levels-low.ensures at c.in_ok-put_moment.ensures)
    (rw (c.low_levels-low.ensures, levels) at c.in_ok-put_moment-2.ensures)
