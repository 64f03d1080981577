use Rattle.std.proofs.Common.{ap, ◌∙◌, arith}
use Rattle.std.proofs.lemmas.List.{take_rest}
use Rattle.tool_io.proofs.PutLemmas.{put_failed, puts_same}
use Rattle.wave_tool.specs.Found.{wave_held}
use Rattle.wave_tool.specs.Waves.{first_wave, items_text, after_items}
use Rattle.wave_tool.proofs.WaveLemmas.{none_put, line_good, line_put, line_failed, all_done}
use Rattle.wave_tool.proofs.wave.put_items.Goals as goal

pub lines-init : goal.lines-init
lines-init g c = record {
  put = rw c.first_wave-wave.ensures (none_put g.K.Sink c.args.text.now c.args.lines.now c.requires.whole c.requires.good);
}

pub put_line-requires-clause-good : goal.put_line-requires-clause-good
put_line-requires-clause-good g c =
    line_good g.K.Sink c.args.text.now c.args.lines.now c.lines.lines _ c.first_line-len.result.0.now c.lines.at c.first_line-len.result.1 (wave_held c.lines.wave)
    (take_rest c.args.text.now c.lines.at) c.lines.invariant.put c.first_line-len.ensures.some c.first_line-len.ensures.within c.first_line-len.ensures.short
    c.first_line-len.ensures.line

pub returns-in_err-wave-clause-put : goal.returns-in_err-wave-clause-put
returns-in_err-wave-clause-put g c =
    put_failed c.from_residual.result c.from_residual.ensures.0
    (line_failed g.K.Sink c.args.text.now c.args.lines.now c.lines.lines _ c.first_line-len.result.0.now c.lines.at c.first_line-len.result.1 (wave_held c.lines.wave)
    (take_rest c.args.text.now c.lines.at) c.lines.invariant.put c.first_line-len.ensures.some c.first_line-len.ensures.within c.first_line-len.ensures.short
    c.first_line-len.ensures.line _ c.in_err-wave.ensures.put)

pub lines-preserved : goal.lines-preserved
lines-preserved g c = record {
  put = line_put g.K.Sink c.args.text.now c.args.lines.now c.lines.lines _ c.first_line-len.result.0.now c.lines.at c.first_line-len.result.1 (wave_held c.lines.wave)
      (take_rest c.args.text.now c.lines.at) c.lines.invariant.put c.first_line-len.ensures.some c.first_line-len.ensures.within c.first_line-len.ensures.short
      c.first_line-len.ensures.line _ _ c.in_ok-wave.ensures.put c.in_ok-wave.ensures.next;
}

pub returns-clause-next : goal.returns-clause-next
returns-clause-next g c =
    let h = c.lines.invariant.put in
    h.is ∙ ap (after_items first_wave) (all_done g.K.Sink c.args.text.now c.args.lines.now c.lines.lines c.lines.at (wave_held c.lines.wave) h c.lines-test.false)

pub returns-clause-small : goal.returns-clause-small
returns-clause-small g c =
    let h = c.lines.invariant.put in
    let time = h.time in
    let within = h.within in
    let few = c.requires.few in
    omega (arith, time, within, few)

pub returns-clause-put : goal.returns-clause-put
returns-clause-put g c =
    let h = c.lines.invariant.put in
    puts_same (ap (items_text first_wave) (all_done g.K.Sink c.args.text.now c.args.lines.now c.lines.lines c.lines.at (wave_held c.lines.wave) h c.lines-test.false)) h.puts
