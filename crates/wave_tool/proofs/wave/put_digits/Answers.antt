use Rattle.std.proofs.Common.{get_or, map, refl, ap, ◌∙◌, arith}
use Rattle.tool_io.proofs.PutLemmas.{put_failed, puts_same}
use Rattle.wave_tool.specs.Found.{wave_held}
use Rattle.wave_tool.specs.Items.{Clocked}
use Rattle.wave_tool.specs.Waves.{items_text, after_items}
use Rattle.wave_tool.proofs.WaveLemmas.{none_clocked, clocked_so_far, clock_put, clock_failed, all_clocked}
use Rattle.wave_tool.proofs.wave.put_digits.Goals as goal

pub clocks-init : goal.clocks-init
clocks-init g c = record {
  clocked = none_clocked g.K.Sink c.args.digits.now c.args.lines.now (wave_held c.args.wave) c.requires.whole;
}

pub put_clock-requires-clause-small : goal.put_clock-requires-clause-small
put_clock-requires-clause-small g c =
    let far = clocked_so_far g.K.Sink c.args.digits.now c.clocks.invariant.clocked in
    let small = c.requires.small in
    let lt = c.clocks-test.true in
    omega (arith, far, small, lt)

pub returns-in_err-after-clause-put : goal.returns-in_err-after-clause-put
returns-in_err-after-clause-put g c =
    put_failed c.from_residual.result c.from_residual.ensures.0
    (clock_failed g.K.Sink c.args.digits.now c.args.lines.now c.clocks.lines (wave_held c.args.wave) c.clocks.n (get_or c.args.digits.now c.clocks.n 0) (wave_held c.clocks.after)
    c.clocks.invariant.clocked c.clocks-test.true refl _ c.in_err-after.ensures.put)

pub clocks-preserved : goal.clocks-preserved
clocks-preserved g c = record {
  clocked = clock_put g.K.Sink c.args.digits.now c.args.lines.now c.clocks.lines (wave_held c.args.wave) c.clocks.n (get_or c.args.digits.now c.clocks.n 0) (wave_held c.clocks.after)
      c.clocks.invariant.clocked c.clocks-test.true refl _ _ c.in_ok-after.ensures.put c.in_ok-after.ensures.next;
}

pub returns-clause-next : goal.returns-clause-next
returns-clause-next g c =
    let h = c.clocks.invariant.clocked in
    h.is ∙ ap (λ ds. after_items (wave_held c.args.wave) (map Clocked ds)) (all_clocked g.K.Sink c.args.digits.now h c.clocks-test.false)

pub returns-clause-put : goal.returns-clause-put
returns-clause-put g c =
    let h = c.clocks.invariant.clocked in
    puts_same (ap (λ ds. items_text (wave_held c.args.wave) (map Clocked ds)) (all_clocked g.K.Sink c.args.digits.now h c.clocks-test.false)) h.puts
