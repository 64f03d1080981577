use Rattle.tool_io.proofs.PutLemmas.{put_then, put_then_front, front_with, put_failed}
use Rattle.wave_tool.specs.Waves.{state_wire}
use Rattle.wave_tool.proofs.wave.put_state.Goals as goal

pub returns-in_err-put_state_wire : goal.returns-in_err-put_state_wire
returns-in_err-put_state_wire g c =
    put_failed c.from_residual.result c.from_residual.ensures.0
    (front_with (state_wire 40 1 c.args.old c.args.new) (front_with (state_wire 39 2 c.args.old c.args.new)
    (front_with (state_wire 38 4 c.args.old c.args.new) c.in_err-put_state_wire.ensures)))

pub returns-in_err-put_state_wire-2 : goal.returns-in_err-put_state_wire-2
returns-in_err-put_state_wire-2 g c =
    put_failed c.from_residual-in_err-put_state_wire-2.result c.from_residual-in_err-put_state_wire-2.ensures.0
    (front_with (state_wire 40 1 c.args.old c.args.new) (front_with (state_wire 39 2 c.args.old c.args.new)
    (put_then_front c.in_ok-put_state_wire.ensures c.in_err-put_state_wire-2.ensures)))

pub returns-in_err-put_state_wire-3 : goal.returns-in_err-put_state_wire-3
returns-in_err-put_state_wire-3 g c =
    put_failed c.from_residual-in_err-put_state_wire-3.result c.from_residual-in_err-put_state_wire-3.ensures.0
    (front_with (state_wire 40 1 c.args.old c.args.new)
    (put_then_front (put_then c.in_ok-put_state_wire.ensures c.in_ok-put_state_wire-2.ensures) c.in_err-put_state_wire-3.ensures))

pub returns-in_err-put_state_wire-4 : goal.returns-in_err-put_state_wire-4
returns-in_err-put_state_wire-4 g c =
    put_failed c.from_residual-in_err-put_state_wire-4.result c.from_residual-in_err-put_state_wire-4.ensures.0
    (put_then_front (put_then (put_then c.in_ok-put_state_wire.ensures c.in_ok-put_state_wire-2.ensures) c.in_ok-put_state_wire-3.ensures)
    c.in_err-put_state_wire-4.ensures)

pub returns : goal.returns
returns g c =
    put_then (put_then (put_then c.in_ok-put_state_wire.ensures c.in_ok-put_state_wire-2.ensures) c.in_ok-put_state_wire-3.ensures)
    c.in_ok-put_state_wire-4.ensures
