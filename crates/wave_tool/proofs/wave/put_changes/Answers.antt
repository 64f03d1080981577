use Rattle.tool_io.proofs.PutLemmas.{put_then, put_then_front, front_with, put_failed}
use Rattle.wave_tool.specs.Waves.{wire_change, state_change}
use Rattle.wave_tool.proofs.wave.put_changes.Goals as goal

pub returns-in_err-put_wire : goal.returns-in_err-put_wire
returns-in_err-put_wire g c =
    put_failed c.from_residual.result c.from_residual.ensures.0
    (front_with (state_change c.args.old.state c.args.new.state) (front_with (wire_change 36 c.args.old.tdo c.args.new.tdo)
    (front_with (wire_change 35 c.args.old.tdi c.args.new.tdi) (front_with (wire_change 34 c.args.old.tms c.args.new.tms) c.in_err-put_wire.ensures))))

pub returns-in_err-put_wire-2 : goal.returns-in_err-put_wire-2
returns-in_err-put_wire-2 g c =
    put_failed c.from_residual-in_err-put_wire-2.result c.from_residual-in_err-put_wire-2.ensures.0
    (front_with (state_change c.args.old.state c.args.new.state) (front_with (wire_change 36 c.args.old.tdo c.args.new.tdo)
    (front_with (wire_change 35 c.args.old.tdi c.args.new.tdi) (put_then_front c.in_ok-put_wire.ensures c.in_err-put_wire-2.ensures))))

pub returns-in_err-put_wire-3 : goal.returns-in_err-put_wire-3
returns-in_err-put_wire-3 g c =
    put_failed c.from_residual-in_err-put_wire-3.result c.from_residual-in_err-put_wire-3.ensures.0
    (front_with (state_change c.args.old.state c.args.new.state) (front_with (wire_change 36 c.args.old.tdo c.args.new.tdo)
    (put_then_front (put_then c.in_ok-put_wire.ensures c.in_ok-put_wire-2.ensures) c.in_err-put_wire-3.ensures)))

pub returns-in_err-put_wire-4 : goal.returns-in_err-put_wire-4
returns-in_err-put_wire-4 g c =
    put_failed c.from_residual-in_err-put_wire-4.result c.from_residual-in_err-put_wire-4.ensures.0
    (front_with (state_change c.args.old.state c.args.new.state)
    (put_then_front (put_then (put_then c.in_ok-put_wire.ensures c.in_ok-put_wire-2.ensures) c.in_ok-put_wire-3.ensures)
    c.in_err-put_wire-4.ensures))

pub returns-in_err-put_state : goal.returns-in_err-put_state
returns-in_err-put_state g c =
    put_failed c.from_residual-in_err-put_state.result c.from_residual-in_err-put_state.ensures.0
    (put_then_front (put_then (put_then (put_then c.in_ok-put_wire.ensures c.in_ok-put_wire-2.ensures) c.in_ok-put_wire-3.ensures)
    c.in_ok-put_wire-4.ensures) c.in_err-put_state.ensures)

pub returns : goal.returns
returns g c =
    put_then (put_then (put_then (put_then c.in_ok-put_wire.ensures c.in_ok-put_wire-2.ensures) c.in_ok-put_wire-3.ensures)
    c.in_ok-put_wire-4.ensures) c.in_ok-put_state.ensures
