use Rattle.tool_io.proofs.PutLemmas.{put_then, put_then_front, front_with, put_failed}
use Rattle.wave_tool.specs.Waves.{changes}
use Rattle.wave_tool.proofs.wave.put_times.Goals as goal

pub returns-in_err-put_time : goal.returns-in_err-put_time
returns-in_err-put_time g c =
    put_failed c.from_residual.result c.from_residual.ensures.0 (front_with (changes c.args.old c.args.new) c.in_err-put_time.ensures)

pub returns-in_err-put_changes : goal.returns-in_err-put_changes
returns-in_err-put_changes g c =
    put_failed c.from_residual-in_err-put_changes.result c.from_residual-in_err-put_changes.ensures.0
    (put_then_front c.in_ok-put_time.ensures c.in_err-put_changes.ensures)

pub returns : goal.returns
returns g c = put_then c.in_ok-put_time.ensures c.in_ok-put_changes.ensures
