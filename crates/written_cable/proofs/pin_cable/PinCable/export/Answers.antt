use Rattle.std.proofs.Common.{refl}
use Rattle.stapl_code.specs.Safe.{constants_of}
use Rattle.machine_memory.specs.Exports.{export_event}
use Rattle.written_cable.proofs.DeedLemmas.{deeds_failed, digits_torn, line_torn, line_said}
use Rattle.written_cable.proofs.pin_cable.PinCable.export.Goals as goal

pub returns-in_err-finish : goal.returns-in_err-finish
returns-in_err-finish g c =
    let f = c.finish.ensures in
    deeds_failed c.from_residual.result c.from_residual.ensures.0
    (digits_torn g.C.Cable g.O.Paper (export_event (constants_of c.args.code.now) c.args.variables.now c.args.export) tt refl c.args.self.now c.finish.new.self c.requires f.still f.kept
    (g.met.C.Cable.none_made c.args.self.now.cable.now) c.in_err-finish.ensures.finished)

pub returns-in_err-put_export : goal.returns-in_err-put_export
returns-in_err-put_export g c =
    let f = c.finish.ensures in let same = f.kept.same in
    deeds_failed c.from_residual-in_err-put_export.result c.from_residual-in_err-put_export.ensures.0
    (line_torn g.C.Cable g.O.Paper (export_event (constants_of c.args.code.now) c.args.variables.now c.args.export) tt refl c.args.self.now c.finish.new.self c.requires f.still f.kept
    (g.met.C.Cable.none_made c.args.self.now.cable.now) _ c.in_ok-finish.ensures.finished
    (record { cable = same.cable; out = same.out; pins = same.pins; base = same.base }) refl refl c.in_err-put_export.ensures)

pub returns : goal.returns
returns g c =
    let f = c.finish.ensures in let same = f.kept.same in
    line_said g.C.Cable g.O.Paper (export_event (constants_of c.args.code.now) c.args.variables.now c.args.export) tt refl c.args.self.now c.finish.new.self c.requires f.still f.kept
    (g.met.C.Cable.none_made c.args.self.now.cable.now) _ c.in_ok-finish.ensures.finished
    (record { cable = same.cable; out = same.out; pins = same.pins; base = same.base }) refl refl refl refl c.in_ok-put_export.ensures
