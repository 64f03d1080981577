use Rattle.std.proofs.Common.{◌≡◌, ◌+◌, ap, length, take, sym, ◌∙◌, arith}
use Rattle.std.proofs.lemmas.List.{length-take-le}
use Rattle.scan_paths.specs.Scans.{planned_pre, scan_of}
use Rattle.scan_paths.proofs.Scanning.{some_taken, scan_made, scan_failed_1, scan_failed_2, scan_failed_3, scan_failed_4, at_the_pause, scanned, scanned_front, captured_of_line, captured_of_runs}
use Rattle.scan_paths.proofs.Parts.{cable_then, cable_failed, scan_failed}
use Rattle.scan_paths.proofs.scans.scan.Goals as goal

pub returns-in_err-send-clause-scanned : goal.returns-in_err-send-clause-scanned
returns-in_err-send-clause-scanned g c =
    let m = g.C.Cable in
    let s = scan_of c.args.plan c.args.bits.now c.args.pads.now in
    let some = some_taken c.args.plan.len c.args.bits.now c.requires.some c.requires.inside in
    let f1 = rw c.entry-tms.ensures.bits at c.in_err-send.ensures.made in
    scan_failed g.C.Cable _ c.from_residual.result c.from_residual.ensures.0
    (scanned_front m.board m.made c.args.cable.now c.args.at s c.requires.stable some c.requires.at (g.met.C.Cable.sound c.args.cable.now) c.send.new.cable
    (scan_failed_1 m.board m.made g.met.C.Cable.both_made c.args.at s c.args.cable.now c.send.new.cable f1))

pub returns-in_err-shift_padded-clause-scanned : goal.returns-in_err-shift_padded-clause-scanned
returns-in_err-shift_padded-clause-scanned g c =
    let m = g.C.Cable in
    let s = scan_of c.args.plan c.args.bits.now c.args.pads.now in
    let some = some_taken c.args.plan.len c.args.bits.now c.requires.some c.requires.inside in
    let m1 = rw c.entry-tms.ensures.bits at c.in_ok-send.ensures.made in
    scan_failed g.C.Cable _ c.from_residual-in_err-shift_padded.result c.from_residual-in_err-shift_padded.ensures.0
    (scanned_front m.board m.made c.args.cable.now c.args.at s c.requires.stable some c.requires.at (g.met.C.Cable.sound c.args.cable.now) c.shift_padded.new.cable
    (scan_failed_2 m.board m.made g.met.C.Cable.both_made c.args.at s c.args.cable.now c.send.new.cable c.shift_padded.new.cable m1 c.in_err-shift_padded.ensures.made))

pub returns-in_err-send-2-clause-scanned : goal.returns-in_err-send-2-clause-scanned
returns-in_err-send-2-clause-scanned g c =
    let m = g.C.Cable in
    let s = scan_of c.args.plan c.args.bits.now c.args.pads.now in
    let some = some_taken c.args.plan.len c.args.bits.now c.requires.some c.requires.inside in
    let m1 = rw c.entry-tms.ensures.bits at c.in_ok-send.ensures.made in
    scan_failed g.C.Cable _ c.from_residual-in_err-send-2.result c.from_residual-in_err-send-2.ensures.0
    (scanned_front m.board m.made c.args.cable.now c.args.at s c.requires.stable some c.requires.at (g.met.C.Cable.sound c.args.cable.now) c.send-2.new.cable
    (scan_failed_3 m.board m.made g.met.C.Cable.both_made c.args.at s c.args.cable.now c.send.new.cable c.shift_padded.new.cable c.send-2.new.cable _ _ m1
    c.in_ok-shift_padded.ensures.made c.in_err-send-2.ensures.made))

pub returns-in_err-state-clause-scanned : goal.returns-in_err-state-clause-scanned
returns-in_err-state-clause-scanned g c =
    let m = g.C.Cable in
    let s = scan_of c.args.plan c.args.bits.now c.args.pads.now in
    let some = some_taken c.args.plan.len c.args.bits.now c.requires.some c.requires.inside in
    let m1 = rw c.entry-tms.ensures.bits at c.in_ok-send.ensures.made in
    let f4 = rw c.pause.ensures at c.in_err-state.ensures.made in
    scan_failed g.C.Cable _ c.from_residual-in_err-state.result c.from_residual-in_err-state.ensures.0
    (scanned_front m.board m.made c.args.cable.now c.args.at s c.requires.stable some c.requires.at (g.met.C.Cable.sound c.args.cable.now) c.move_to.new.cable
    (scan_failed_4 m.board m.made g.met.C.Cable.both_made c.args.at s c.args.cable.now c.send.new.cable c.shift_padded.new.cable c.send-2.new.cable c.move_to.new.cable _
    _ m1 c.in_ok-shift_padded.ensures.made c.in_ok-send-2.ensures.made f4))

pub move_to-requires-clause-at : goal.move_to-requires-clause-at
move_to-requires-clause-at g c =
    let m = g.C.Cable in
    let s = scan_of c.args.plan c.args.bits.now c.args.pads.now in
    let some = some_taken c.args.plan.len c.args.bits.now c.requires.some c.requires.inside in
    let m1 = rw c.entry-tms.ensures.bits at c.in_ok-send.ensures.made in
    rw c.pause.ensures (at_the_pause m.board m.made g.met.C.Cable.both_made c.args.at s c.args.cable.now c.send.new.cable c.shift_padded.new.cable c.send-2.new.cable _ _ c.requires.stable some m1
    c.in_ok-shift_padded.ensures.made c.in_ok-send-2.ensures.made c.requires.at)

pub returns-clause-scanned : goal.returns-clause-scanned
returns-clause-scanned g c =
    let m = g.C.Cable in
    let s = scan_of c.args.plan c.args.bits.now c.args.pads.now in
    let pads = c.args.pads.now in
    let n = c.args.plan.len in
    let m1 = rw c.entry-tms.ensures.bits at c.in_ok-send.ensures.made in
    let m4 = rw c.pause.ensures at c.in_ok-state.ensures.made in
    let e : planned_pre c.args.plan + pads.pre ≡ s.paddings.base_pre + length s.paddings.pre =
    ap (λ k. planned_pre c.args.plan + k) (sym (length-take-le pads.pre pads.pre_bits c.requires.pads.pre)) in
    let n1 : length s.bits ≡ n = length-take-le n c.args.bits.now c.requires.inside in
    let n2 : length (take n c.shift_padded.new.captured) ≡ n = length-take-le n c.shift_padded.new.captured (omega (arith, c.requires.room, c.shift_padded.ensures.length)) in
    scanned m.board m.made c.args.cable.now c.args.at s c.requires.stable (some_taken n c.args.bits.now c.requires.some c.requires.inside) c.requires.at
    (g.met.C.Cable.sound c.args.cable.now) c.move_to.new.cable _ _ e (n2 ∙ sym n1)
    (scan_made m.board m.made g.met.C.Cable.both_made c.args.at s c.args.cable.now c.send.new.cable c.shift_padded.new.cable c.send-2.new.cable c.move_to.new.cable _ _ m1
    c.in_ok-shift_padded.ensures.made c.in_ok-send-2.ensures.made m4)

pub returns-clause-captured : goal.returns-clause-captured
returns-clause-captured g c =
    let m = g.C.Cable in
    let s = scan_of c.args.plan c.args.bits.now c.args.pads.now in
    let some = some_taken c.args.plan.len c.args.bits.now c.requires.some c.requires.inside in
    captured_of_line m.board m.made c.args.cable.now c.args.at s c.requires.stable some c.requires.at (g.met.C.Cable.sound c.args.cable.now) c.move_to.new.cable _ (returns-clause-scanned g c)

pub returns-clause-alone : goal.returns-clause-alone
returns-clause-alone g c =
    let m = g.C.Cable in
    let s = scan_of c.args.plan c.args.bits.now c.args.pads.now in
    let some = some_taken c.args.plan.len c.args.bits.now c.requires.some c.requires.inside in
    captured_of_runs m.board m.made c.args.cable.now c.args.at s c.requires.stable some c.requires.at (g.met.C.Cable.sound c.args.cable.now) c.move_to.new.cable _ (returns-clause-scanned g c)

pub returns-in_err-send-clause-kept : goal.returns-in_err-send-clause-kept
returns-in_err-send-clause-kept g c =
    cable_failed c.from_residual.result c.from_residual.ensures.0 c.in_err-send.ensures.kept

pub returns-in_err-shift_padded-clause-kept : goal.returns-in_err-shift_padded-clause-kept
returns-in_err-shift_padded-clause-kept g c =
    cable_failed c.from_residual-in_err-shift_padded.result c.from_residual-in_err-shift_padded.ensures.0
    (cable_then c.in_ok-send.ensures.kept c.in_err-shift_padded.ensures.kept)

pub returns-in_err-send-2-clause-kept : goal.returns-in_err-send-2-clause-kept
returns-in_err-send-2-clause-kept g c =
    cable_failed c.from_residual-in_err-send-2.result c.from_residual-in_err-send-2.ensures.0
    (cable_then c.in_ok-send.ensures.kept (cable_then c.in_ok-shift_padded.ensures.kept c.in_err-send-2.ensures.kept))

pub returns-in_err-state-clause-kept : goal.returns-in_err-state-clause-kept
returns-in_err-state-clause-kept g c =
    cable_failed c.from_residual-in_err-state.result c.from_residual-in_err-state.ensures.0
    (cable_then c.in_ok-send.ensures.kept (cable_then c.in_ok-shift_padded.ensures.kept (cable_then c.in_ok-send-2.ensures.kept c.in_err-state.ensures.kept)))

pub returns-clause-kept : goal.returns-clause-kept
returns-clause-kept g c = cable_then c.in_ok-send.ensures.kept (cable_then c.in_ok-shift_padded.ensures.kept (cable_then c.in_ok-send-2.ensures.kept c.in_ok-state.ensures.kept))
