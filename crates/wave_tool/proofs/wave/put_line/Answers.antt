use Rattle.std.proofs.Common.{ℕ, List, length, map, sym, ap, ◌∙◌, arith}
use Rattle.tool_io.proofs.PutLemmas.{front_with, front_same, put_failed, put_then_put}
use Rattle.trace_check.proofs.TraceLemmas.{digits_short}
use Rattle.pin_lines.specs.PinLines.{line_digits}
use Rattle.wave_tool.specs.Found.{wave_held}
use Rattle.wave_tool.specs.Items.{Clocked, line_waits}
use Rattle.wave_tool.specs.Waves.{Wave, items_text, after_items}
use Rattle.wave_tool.proofs.WaveLemmas.{text_join, clocked_time, has_put_same}
use Rattle.wave_tool.proofs.wave.put_line.Goals as goal

pub returns-in_err-clocked-clause-put : goal.returns-in_err-clocked-clause-put
returns-in_err-clocked-clause-put g c =
    let line = c.args.line.now in
    let w = wave_held c.args.wave in
    put_failed c.from_residual.result c.from_residual.ensures.0
    (front_same (sym (text_join (map Clocked (line_digits line)) (line_waits line) w))
    (front_with (items_text (after_items w (map Clocked (line_digits line))) (line_waits line)) (rw c.digits_of.ensures at c.in_err-clocked.ensures.put)))

pub put_wait-requires-clause-small : goal.put_wait-requires-clause-small
put_wait-requires-clause-small g c =
    let line = c.args.line.now in
    let led = ap (λ (v : Wave). v.time) c.in_ok-clocked.ensures.next ∙ clocked_time c.digits_of.result.now (wave_held c.args.wave) in
    let same = ap (λ (xs : List ℕ). length xs) c.digits_of.ensures in
    let short = digits_short line in
    let small = c.requires.small in
    omega (arith, led, same, short, small)

pub returns-clause-put : goal.returns-clause-put
returns-clause-put g c =
    let line = c.args.line.now in
    has_put_same _ _ _ c.put_wait.result (sym (text_join (map Clocked (line_digits line)) (line_waits line) (wave_held c.args.wave)))
    (put_then_put _ _ c.put_wait.result (rw c.digits_of.ensures at c.in_ok-clocked.ensures.put)
    (rw (c.in_ok-clocked.ensures.next, c.digits_of.ensures, c.wait_of.ensures.wait) at c.put_wait.ensures.put))
