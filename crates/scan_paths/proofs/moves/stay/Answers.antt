use Rattle.std.proofs.Common.{◌≡◌, ◌≤◌, ◌+◌, true, arith}
use Rattle.scan_paths.proofs.Way.{way_none, way_block, way_end, way_block_failed}
use Rattle.scan_paths.proofs.Parts.{cable_start, cable_then, cable_done, cable_failed, made_failed}
use Rattle.scan_paths.proofs.Capturing.{made_of_shifted}
use Rattle.scan_paths.proofs.Arriving.{all_same, next_same, none_same, told_stayed}
use Rattle.scan_paths.proofs.moves.stay.Goals as goal

pub loop-done-init : goal.loop-done-init
loop-done-init g c =
    let m = g.C.Cable in
    record {
      kept = cable_start tt _ _ _ _ _ c.requires.whole;
      inside = omega arith;
      way = way_none m.board m.made g.met.C.Cable.both_made c.args.cable.now _ _ (all_same c.args.n c.tms_at_rest-tms.result) (g.met.C.Cable.none_made c.args.cable.now);
    }

pub returns-in_err-shift_block-clause-made : goal.returns-in_err-shift_block-clause-made
returns-in_err-shift_block-clause-made g c =
    let m = g.C.Cable in
    let alone : c.tms_at_rest-tms.result ≡ true → c.min-len.result ≤ 1 = λ t. omega (arith, c.longest_stay-most.ensures.alone t) in
    let w = rw (next_same c.args.n c.loop-done.done c.min-len.result c.tms_at_rest-tms.result (omega arith) alone (omega arith)) at c.loop-done.invariant.way in
    let f = way_block_failed m.board m.made g.met.C.Cable.both_made c.args.cable.now c.loop-done.cable c.shift_block.new.self _ _ _ c.in_err-shift_block.ensures.shifted w in
    made_failed g.C.Cable c.from_residual.result c.from_residual.ensures.0 (rw c.tms_at_rest-tms.ensures at f)

pub returns-in_err-shift_block-clause-kept : goal.returns-in_err-shift_block-clause-kept
returns-in_err-shift_block-clause-kept g c =
    cable_failed c.from_residual.result c.from_residual.ensures.0 (cable_then c.loop-done.invariant.kept c.in_err-shift_block.ensures.kept)

pub loop-done-preserved : goal.loop-done-preserved
loop-done-preserved g c =
    let m = g.C.Cable in
    let alone : c.tms_at_rest-tms.result ≡ true → c.min-len.result ≤ 1 = λ t. omega (arith, c.longest_stay-most.ensures.alone t) in
    let h : c.loop-done.done + c.min-len.result ≤ c.args.n = omega arith in
    let w = rw (next_same c.args.n c.loop-done.done c.min-len.result c.tms_at_rest-tms.result (omega arith) alone h) at c.loop-done.invariant.way in
    record {
      kept = cable_then c.loop-done.invariant.kept (cable_done c.in_ok-shift_block.ensures.kept);
      inside = h;
      way = way_block m.board m.made g.met.C.Cable.both_made c.args.cable.now c.loop-done.cable c.shift_block.new.self _ _
          _ (made_of_shifted m.board m.made _ _ _ _ c.in_ok-shift_block.ensures.shifted) w;
    }

pub returns-clause-made : goal.returns-clause-made
returns-clause-made g c =
    let m = g.C.Cable in
    rw (← c.tms_at_rest-tms.ensures) (way_end m.board m.made g.met.C.Cable.both_made c.args.cable.now c.loop-done.cable _
    (rw (none_same c.args.n c.loop-done.done c.tms_at_rest-tms.result (omega arith)) at c.loop-done.invariant.way))

pub returns-clause-still : goal.returns-clause-still
returns-clause-still g c =
    let m = g.C.Cable in
    let w = way_end m.board m.made g.met.C.Cable.both_made c.args.cable.now c.loop-done.cable _
    (rw (none_same c.args.n c.loop-done.done c.tms_at_rest-tms.result (omega arith)) at c.loop-done.invariant.way) in
    told_stayed _ _ c.args.at c.args.n c.requires.stable (rw c.tms_at_rest-tms.ensures at w.made.cards) c.requires.at
