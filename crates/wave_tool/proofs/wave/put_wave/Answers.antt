use Rattle.std.proofs.Common.{ap}
use Rattle.tool_io.proofs.PutLemmas.{put_then, put_then_front, front_with, front_same, puts_same, put_failed}
use Rattle.wave_tool.specs.Items.{items_in}
use Rattle.wave_tool.specs.Waves.{first_wave, items_text, after_items, end_text}
use Rattle.wave_tool.proofs.wave.put_wave.Goals as goal

pub returns-in_err-put : goal.returns-in_err-put
returns-in_err-put g c =
    put_failed c.from_residual.result c.from_residual.ensures.0
    (front_with (end_text (after_items first_wave (items_in c.args.text.now))) (front_with (items_text first_wave (items_in c.args.text.now)) c.in_err-put.ensures.put))

pub returns-in_err-wave : goal.returns-in_err-wave
returns-in_err-wave g c =
    put_failed c.from_residual-in_err-wave.result c.from_residual-in_err-wave.ensures.0
    (front_with (end_text (after_items first_wave (items_in c.args.text.now))) (put_then_front c.in_ok-put.ensures.put c.in_err-wave.ensures.put))

pub returns-in_err-put_end : goal.returns-in_err-put_end
returns-in_err-put_end g c =
    put_failed c.from_residual-in_err-put_end.result c.from_residual-in_err-put_end.ensures.0
    (put_then_front (put_then c.in_ok-put.ensures.put c.in_ok-wave.ensures.put) (front_same (ap end_text c.in_ok-wave.ensures.next) c.in_err-put_end.ensures))

pub returns : goal.returns
returns g c =
    put_then (put_then c.in_ok-put.ensures.put c.in_ok-wave.ensures.put)
    (puts_same (ap end_text c.in_ok-wave.ensures.next) c.in_ok-put_end.ensures)
