use Rattle.std.proofs.Common.{◌≡◌, ◌≤◌, ◌+◌, refl, length, ◌∙◌, arith}
use Rattle.scan_paths.proofs.CallsInARow.{clocks_nothing}
use Rattle.scan_paths.proofs.Parts.{cable_start, cable_then, cable_done, cable_failed, sees_failed}
use Rattle.scan_paths.proofs.Shifting.{next_block, none_in_list, front_of_word, after_word, length_of_word}
use Rattle.scan_paths.proofs.Capturing.{seen_none, seen_block, seen_all, seen_failed}
use Rattle.scan_paths.proofs.shifts.shift_data.Goals as goal

pub loop-at-init : goal.loop-at-init
loop-at-init g c =
    let m = g.C.Cable in
    let start = c.args.cable.now in
    record {
      kept = cable_start tt _ _ _ _ _ c.requires.whole;
      inside = omega arith;
      way = seen_none m.board m.made start _ _ refl (clocks_nothing m.board m.made start start (record { made = g.met.C.Cable.none_made start; cards = refl }));
      rest = refl;
      length = refl;
    }

pub returns-in_err-tdo-clause-made : goal.returns-in_err-tdo-clause-made
returns-in_err-tdo-clause-made g c =
    let m = g.C.Cable in
    let h : c.loop-at.at + c.min-len.result ≤ c.args.n = omega arith in
    let s = rw (
      next_block c.args.bits.now c.args.n c.loop-at.at c.min-len.result c.word.result c.args.last h
          c.requires.inside c.word.ensures.value,
      ← c.ends_at.ensures,
    ) at c.loop-at.invariant.way in
    sees_failed g.C.Cable _ _ c.from_residual.result c.from_residual.ensures.0
    (seen_failed m.board m.made g.met.C.Cable.both_made c.args.cable.now c.loop-at.cable c.shift_block.new.self _ _ _ _ c.in_err-tdo.ensures.shifted s)

pub returns-in_err-tdo-clause-kept : goal.returns-in_err-tdo-clause-kept
returns-in_err-tdo-clause-kept g c =
    cable_failed c.from_residual.result c.from_residual.ensures.0 (cable_then c.loop-at.invariant.kept c.in_err-tdo.ensures.kept)

pub loop-at-preserved : goal.loop-at-preserved
loop-at-preserved g c =
    let m = g.C.Cable in
    let h : c.loop-at.at + c.min-len.result ≤ c.args.n = omega arith in
    let room : c.loop-at.at + c.min-len.result ≤ length c.loop-at.captured = omega (arith, h, c.requires.room, c.loop-at.invariant.length) in
    let s = rw (
      next_block c.args.bits.now c.args.n c.loop-at.at c.min-len.result c.word.result c.args.last h
          c.requires.inside c.word.ensures.value,
      ← c.ends_at.ensures,
    ) at c.loop-at.invariant.way in
    let t = seen_block m.board m.made g.met.C.Cable.both_made c.args.cable.now c.loop-at.cable c.shift_block.new.self _
    _ _ _ _ _ _ c.in_ok-tdo.ensures.shifted s in
    record {
      kept = cable_then c.loop-at.invariant.kept (cable_done c.in_ok-tdo.ensures.kept);
      inside = h;
      way = rw (front_of_word c.loop-at.at c.min-len.result c.in_ok-tdo.tdo c.set_word.new.self c.loop-at.captured c.set_word.ensures.bits room) t;
      rest = after_word c.loop-at.at c.min-len.result c.args.n c.in_ok-tdo.tdo c.set_word.new.self c.loop-at.captured
          c.set_word.ensures.bits room h ∙ c.loop-at.invariant.rest;
      length = length_of_word c.loop-at.at c.min-len.result c.in_ok-tdo.tdo c.set_word.new.self c.loop-at.captured
          c.set_word.ensures.bits room ∙ c.loop-at.invariant.length;
    }

pub returns-clause-made : goal.returns-clause-made
returns-clause-made g c =
    let m = g.C.Cable in
    let e : c.loop-at.at ≡ c.args.n = omega arith in
    let s = rw (none_in_list c.args.bits.now c.args.n c.loop-at.at c.args.last (omega arith) c.requires.inside) at c.loop-at.invariant.way in
    seen_all m.board m.made c.args.cable.now c.loop-at.cable _ _ (rw e at s)
