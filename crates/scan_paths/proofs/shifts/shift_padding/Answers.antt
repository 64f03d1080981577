use Rattle.std.proofs.Common.{◌≤◌, ◌+◌, refl, arith}
use Rattle.scan_paths.proofs.Way.{way_none, way_block, way_end, way_block_failed}
use Rattle.scan_paths.proofs.Parts.{cable_start, cable_then, cable_done, cable_failed, made_failed}
use Rattle.scan_paths.proofs.Capturing.{made_of_shifted}
use Rattle.scan_paths.proofs.Shifting.{next_block, none_in_list}
use Rattle.scan_paths.proofs.shifts.shift_padding.Goals as goal

pub loop-at-init : goal.loop-at-init
loop-at-init g c =
    let m = g.C.Cable in
    record {
      kept = cable_start tt _ _ _ _ _ c.requires.whole;
      inside = omega arith;
      way = way_none m.board m.made g.met.C.Cable.both_made c.args.cable.now _ _ refl (g.met.C.Cable.none_made c.args.cable.now);
    }

pub returns-in_err-shift_block-clause-made : goal.returns-in_err-shift_block-clause-made
returns-in_err-shift_block-clause-made g c =
    let m = g.C.Cable in
    let h : c.loop-at.at + c.min-len.result ≤ c.args.n = omega arith in
    let w = rw (
      next_block c.args.padding.now c.args.n c.loop-at.at c.min-len.result c.word.result c.args.last h
          c.requires.inside c.word.ensures.value,
      ← c.ends_at.ensures,
    ) at c.loop-at.invariant.way in
    made_failed g.C.Cable c.from_residual.result c.from_residual.ensures.0 (way_block_failed m.board m.made g.met.C.Cable.both_made c.args.cable.now c.loop-at.cable
    c.shift_block.new.self _ _ _ c.in_err-shift_block.ensures.shifted w)

pub returns-in_err-shift_block-clause-kept : goal.returns-in_err-shift_block-clause-kept
returns-in_err-shift_block-clause-kept g c =
    cable_failed c.from_residual.result c.from_residual.ensures.0 (cable_then c.loop-at.invariant.kept c.in_err-shift_block.ensures.kept)

pub loop-at-preserved : goal.loop-at-preserved
loop-at-preserved g c =
    let m = g.C.Cable in
    let h : c.loop-at.at + c.min-len.result ≤ c.args.n = omega arith in
    let w = rw (
      next_block c.args.padding.now c.args.n c.loop-at.at c.min-len.result c.word.result c.args.last h
          c.requires.inside c.word.ensures.value,
      ← c.ends_at.ensures,
    ) at c.loop-at.invariant.way in
    record {
      kept = cable_then c.loop-at.invariant.kept (cable_done c.in_ok-shift_block.ensures.kept);
      inside = h;
      way = way_block m.board m.made g.met.C.Cable.both_made c.args.cable.now c.loop-at.cable c.shift_block.new.self _ _
          _ (made_of_shifted m.board m.made _ _ _ _ c.in_ok-shift_block.ensures.shifted) w;
    }

pub returns-clause-made : goal.returns-clause-made
returns-clause-made g c =
    let m = g.C.Cable in
    way_end m.board m.made g.met.C.Cable.both_made c.args.cable.now c.loop-at.cable _
    (rw (none_in_list c.args.padding.now c.args.n c.loop-at.at c.args.last
    (omega arith) c.requires.inside) at c.loop-at.invariant.way)
