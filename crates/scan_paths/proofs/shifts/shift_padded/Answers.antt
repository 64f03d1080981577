use Rattle.scan_paths.proofs.Parts.{cable_then, cable_failed, sees_failed}
use Rattle.scan_paths.proofs.Shifting.{base_before, program_before, data_part, program_after, base_after, parts_of_pads, place_of_data}
use Rattle.scan_paths.proofs.Scanning.{five_made, failed_1, failed_2, failed_3, failed_4, failed_5}
use Rattle.scan_paths.proofs.shifts.shift_padded.Goals as goal

pub returns-in_err-shift_ones-clause-made : goal.returns-in_err-shift_ones-clause-made
returns-in_err-shift_ones-clause-made g c =
    let m = g.C.Cable in
    let P = c.args.pads.now in
    let n = c.args.plan.len in
    sees_failed g.C.Cable _ _ c.from_residual.result c.from_residual.ensures.0
    (failed_1 m.board m.made g.met.C.Cable.both_made _ (base_before c.pre-before.result) (program_before P) (data_part P c.post-after.result c.args.bits.now n)
    (program_after P c.post-after.result) (base_after c.post-after.result)
    (parts_of_pads c.args.plan P c.args.bits.now c.pre-before.result c.post-after.result c.pre-before.ensures c.post-after.ensures c.requires.some c.requires.inside
    c.requires.pads) c.args.cable.now c.shift_ones.new.cable c.in_err-shift_ones.ensures.made)

pub returns-in_err-shift_padding-clause-made : goal.returns-in_err-shift_padding-clause-made
returns-in_err-shift_padding-clause-made g c =
    let m = g.C.Cable in
    let P = c.args.pads.now in
    let n = c.args.plan.len in
    sees_failed g.C.Cable _ _ c.from_residual-in_err-shift_padding.result c.from_residual-in_err-shift_padding.ensures.0
    (failed_2 m.board m.made g.met.C.Cable.both_made _ (base_before c.pre-before.result) (program_before P) (data_part P c.post-after.result c.args.bits.now n)
    (program_after P c.post-after.result) (base_after c.post-after.result)
    (parts_of_pads c.args.plan P c.args.bits.now c.pre-before.result c.post-after.result c.pre-before.ensures c.post-after.ensures c.requires.some c.requires.inside
    c.requires.pads) c.args.cable.now c.shift_ones.new.cable c.shift_padding.new.cable
    c.in_ok-shift_ones.ensures.made c.in_err-shift_padding.ensures.made)

pub returns-in_err-shift_data-clause-made : goal.returns-in_err-shift_data-clause-made
returns-in_err-shift_data-clause-made g c =
    let m = g.C.Cable in
    let P = c.args.pads.now in
    let n = c.args.plan.len in
    sees_failed g.C.Cable _ _ c.from_residual-in_err-shift_data.result c.from_residual-in_err-shift_data.ensures.0
    (failed_3 m.board m.made g.met.C.Cable.both_made _ (base_before c.pre-before.result) (program_before P) (data_part P c.post-after.result c.args.bits.now n)
    (program_after P c.post-after.result) (base_after c.post-after.result)
    (parts_of_pads c.args.plan P c.args.bits.now c.pre-before.result c.post-after.result c.pre-before.ensures c.post-after.ensures c.requires.some c.requires.inside
    c.requires.pads) c.args.cable.now c.shift_ones.new.cable c.shift_padding.new.cable c.shift_data.new.cable
    c.in_ok-shift_ones.ensures.made c.in_ok-shift_padding.ensures.made (rw c.ends_with_data.ensures at c.in_err-shift_data.ensures.made))

pub returns-in_err-shift_padding-2-clause-made : goal.returns-in_err-shift_padding-2-clause-made
returns-in_err-shift_padding-2-clause-made g c =
    let m = g.C.Cable in
    let P = c.args.pads.now in
    let n = c.args.plan.len in
    sees_failed g.C.Cable _ _ c.from_residual-in_err-shift_padding-2.result c.from_residual-in_err-shift_padding-2.ensures.0
    (failed_4 m.board m.made g.met.C.Cable.both_made _ (base_before c.pre-before.result) (program_before P) (data_part P c.post-after.result c.args.bits.now n)
    (program_after P c.post-after.result) (base_after c.post-after.result)
    (parts_of_pads c.args.plan P c.args.bits.now c.pre-before.result c.post-after.result c.pre-before.ensures c.post-after.ensures c.requires.some c.requires.inside
    c.requires.pads) c.args.cable.now c.shift_ones.new.cable c.shift_padding.new.cable c.shift_data.new.cable c.shift_padding-2.new.cable _
    c.in_ok-shift_ones.ensures.made c.in_ok-shift_padding.ensures.made (rw c.ends_with_data.ensures at c.in_ok-shift_data.ensures.made) c.in_err-shift_padding-2.ensures.made)

pub returns-in_err-shift_ones-2-clause-made : goal.returns-in_err-shift_ones-2-clause-made
returns-in_err-shift_ones-2-clause-made g c =
    let m = g.C.Cable in
    let P = c.args.pads.now in
    let n = c.args.plan.len in
    sees_failed g.C.Cable _ _ c.from_residual-in_err-shift_ones-2.result c.from_residual-in_err-shift_ones-2.ensures.0
    (failed_5 m.board m.made g.met.C.Cable.both_made _ (base_before c.pre-before.result) (program_before P) (data_part P c.post-after.result c.args.bits.now n)
    (program_after P c.post-after.result) (base_after c.post-after.result)
    (parts_of_pads c.args.plan P c.args.bits.now c.pre-before.result c.post-after.result c.pre-before.ensures c.post-after.ensures c.requires.some c.requires.inside
    c.requires.pads) c.args.cable.now c.shift_ones.new.cable c.shift_padding.new.cable c.shift_data.new.cable c.shift_padding-2.new.cable c.shift_ones-2.new.cable _
    c.in_ok-shift_ones.ensures.made c.in_ok-shift_padding.ensures.made
    (rw c.ends_with_data.ensures at c.in_ok-shift_data.ensures.made) c.in_ok-shift_padding-2.ensures.made c.in_err-shift_ones-2.ensures.made)

pub returns-clause-made : goal.returns-clause-made
returns-clause-made g c =
    let m = g.C.Cable in
    let P = c.args.pads.now in
    let n = c.args.plan.len in
    let all = five_made m.board m.made g.met.C.Cable.both_made _ (base_before c.pre-before.result) (program_before P) (data_part P c.post-after.result c.args.bits.now n)
    (program_after P c.post-after.result) (base_after c.post-after.result)
    (parts_of_pads c.args.plan P c.args.bits.now c.pre-before.result c.post-after.result c.pre-before.ensures c.post-after.ensures c.requires.some c.requires.inside
    c.requires.pads) c.args.cable.now c.shift_ones.new.cable c.shift_padding.new.cable c.shift_data.new.cable c.shift_padding-2.new.cable c.shift_ones-2.new.cable _
    c.in_ok-shift_ones.ensures.made c.in_ok-shift_padding.ensures.made
    (rw c.ends_with_data.ensures at c.in_ok-shift_data.ensures.made) c.in_ok-shift_padding-2.ensures.made c.in_ok-shift_ones-2.ensures.made in
    rw (place_of_data c.pre-before.result P c.requires.pads, c.pre-before.ensures) at all

pub returns-in_err-shift_ones-clause-kept : goal.returns-in_err-shift_ones-clause-kept
returns-in_err-shift_ones-clause-kept g c =
    cable_failed c.from_residual.result c.from_residual.ensures.0
    c.in_err-shift_ones.ensures.kept

pub returns-in_err-shift_padding-clause-kept : goal.returns-in_err-shift_padding-clause-kept
returns-in_err-shift_padding-clause-kept g c =
    cable_failed c.from_residual-in_err-shift_padding.result c.from_residual-in_err-shift_padding.ensures.0
    (cable_then c.in_ok-shift_ones.ensures.kept c.in_err-shift_padding.ensures.kept)

pub returns-in_err-shift_data-clause-kept : goal.returns-in_err-shift_data-clause-kept
returns-in_err-shift_data-clause-kept g c =
    cable_failed c.from_residual-in_err-shift_data.result c.from_residual-in_err-shift_data.ensures.0
    (cable_then c.in_ok-shift_ones.ensures.kept (cable_then c.in_ok-shift_padding.ensures.kept c.in_err-shift_data.ensures.kept))

pub returns-in_err-shift_padding-2-clause-kept : goal.returns-in_err-shift_padding-2-clause-kept
returns-in_err-shift_padding-2-clause-kept g c =
    cable_failed c.from_residual-in_err-shift_padding-2.result c.from_residual-in_err-shift_padding-2.ensures.0
    (cable_then c.in_ok-shift_ones.ensures.kept (cable_then c.in_ok-shift_padding.ensures.kept (cable_then c.in_ok-shift_data.ensures.kept c.in_err-shift_padding-2.ensures.kept)))

pub returns-in_err-shift_ones-2-clause-kept : goal.returns-in_err-shift_ones-2-clause-kept
returns-in_err-shift_ones-2-clause-kept g c =
    cable_failed c.from_residual-in_err-shift_ones-2.result c.from_residual-in_err-shift_ones-2.ensures.0
    (cable_then c.in_ok-shift_ones.ensures.kept (cable_then c.in_ok-shift_padding.ensures.kept (cable_then c.in_ok-shift_data.ensures.kept
    (cable_then c.in_ok-shift_padding-2.ensures.kept c.in_err-shift_ones-2.ensures.kept))))

pub returns-clause-kept : goal.returns-clause-kept
returns-clause-kept g c =
    cable_then c.in_ok-shift_ones.ensures.kept (cable_then c.in_ok-shift_padding.ensures.kept (cable_then c.in_ok-shift_data.ensures.kept
    (cable_then c.in_ok-shift_padding-2.ensures.kept c.in_ok-shift_ones-2.ensures.kept)))
