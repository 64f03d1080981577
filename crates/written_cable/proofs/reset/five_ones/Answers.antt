use Rattle.std.proofs.Common.{length, true, arith, ap}
use Rattle.tool_io.proofs.BytesLemmas.{on_err}
use Rattle.scan_paths.proofs.Way.{way_failed}
use Rattle.scan_paths.proofs.Parts.{line_start, pins_start, part_then}
use Rattle.scan_paths.proofs.Arriving.{next_same, none_same, told_reset}
use Rattle.written_cable.proofs.ResetLemmas.{noted_none, noted_more, noted_all, noted_way, length_more}
use Rattle.written_cable.proofs.reset.five_ones.Goals as goal

pub loop-turn-init : goal.loop-turn-init
loop-turn-init g c =
    let m = g.C.Cable in
    record {
      whole = c.requires.whole;
      few = omega (arith, ap length c.requires.none);
      within = omega arith;
      line = line_start _ _ _ c.requires.whole;
      pins = pins_start _ _ _ c.requires.whole;
      noted = noted_none m.board m.made c.args.cable.now c.args.digits.now c.requires.none (g.met.C.Cable.none_made c.args.cable.now);
    }

pub returns-in_err-tdo-clause-front : goal.returns-in_err-tdo-clause-front
returns-in_err-tdo-clause-front g c =
    let m = g.C.Cable in
    let n = rw (next_same 5 c.loop-turn._turn 1 true (omega arith) (λ t. omega arith) (omega arith)) at c.loop-turn.invariant.noted in
    on_err _ (way_failed m.board m.made g.met.C.Cable.both_made c.args.cable.now c.loop-turn.cable c.clock.new.self _ _ _ c.in_err-tdo.ensures.clocked
    (noted_way m.board m.made c.args.cable.now c.loop-turn.cable _ _ n))

pub returns-in_err-tdo-clause-line : goal.returns-in_err-tdo-clause-line
returns-in_err-tdo-clause-line g c = part_then c.loop-turn.invariant.line c.in_err-tdo.ensures.kept.line_cause

pub returns-in_err-tdo-clause-pins : goal.returns-in_err-tdo-clause-pins
returns-in_err-tdo-clause-pins g c = part_then c.loop-turn.invariant.pins c.in_err-tdo.ensures.kept.pins_cause

pub loop-turn-preserved : goal.loop-turn-preserved
loop-turn-preserved g c =
    let m = g.C.Cable in
    let n = rw (next_same 5 c.loop-turn._turn 1 true (omega arith) (λ t. omega arith) (omega arith)) at c.loop-turn.invariant.noted in
    record {
      whole = c.in_ok-tdo.ensures.kept.unbroken;
      few = rw (c.push.ensures) (length_more c.loop-turn.digits _ c.loop-turn._turn c.loop-turn.invariant.few);
      within = omega arith;
      line = part_then c.loop-turn.invariant.line c.in_ok-tdo.ensures.kept.line_cause;
      pins = part_then c.loop-turn.invariant.pins c.in_ok-tdo.ensures.kept.pins_cause;
      noted = rw (c.push.ensures, c.digit.ensures) (noted_more m.board m.made g.met.C.Cable.both_made c.args.cable.now c.loop-turn.cable c.clock.new.self _
          c.loop-turn.digits _ c.in_ok-tdo.ensures.clocked n);
    }

pub returns-clause-reset : goal.returns-clause-reset
returns-clause-reset g c =
    let m = g.C.Cable in
    noted_all m.board m.made c.args.cable.now c.loop-turn.cable c.loop-turn.digits (rw (none_same 5 c.loop-turn._turn true (omega arith)) at c.loop-turn.invariant.noted)

pub returns-clause-in_reset : goal.returns-clause-in_reset
returns-clause-in_reset g c =
    let m = g.C.Cable in
    let r = noted_all m.board m.made c.args.cable.now c.loop-turn.cable c.loop-turn.digits (rw (none_same 5 c.loop-turn._turn true (omega arith)) at c.loop-turn.invariant.noted) in
    told_reset _ _ r.made.made.cards
