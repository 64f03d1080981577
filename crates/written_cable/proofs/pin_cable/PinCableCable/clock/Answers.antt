use Rattle.std.proofs.Common.{refl, rules}
use Rattle.scan_paths.proofs.Parts.{clock_failed}
use Rattle.written_cable.specs.Pins.{port_breakage}
use Rattle.written_cable.proofs.BlockLemmas.{clock_by_line}
use Rattle.written_cable.proofs.TornLemmas.{clock_torn}
use Rattle.written_cable.proofs.pin_cable.PinCableCable.clock.Goals as goal

pub returns-in_err-tdo-clause-clocked : goal.returns-in_err-tdo-clause-clocked
returns-in_err-tdo-clause-clocked g c =
    let m = g.C.Cable in
    clock_failed c.args.tms c.args.tdi c.from_residual.result c.from_residual.ensures.0
    (clock_by_line (port_breakage m.breakage g.O.Paper.failed) g.O.Paper.shown m.board m.made c.args.self.now _
    (record { cable = refl; out = refl; pins = refl; base = refl }) refl refl c.args.tms c.args.tdi refl
    (search rules) c.in_err-tdo.ensures.clocked)

pub returns-in_err-note-clause-clocked : goal.returns-in_err-note-clause-clocked
returns-in_err-note-clause-clocked g c =
    let m = g.C.Cable in
    clock_failed c.args.tms c.args.tdi c.from_residual-in_err-note.result c.from_residual-in_err-note.ensures.0
    (clock_torn (port_breakage m.breakage g.O.Paper.failed) m.board m.made g.O.Paper.shown c.args.self.now _ c.args.tms
    c.args.tdi _ (record { cable = refl; out = refl; pins = refl; base = refl }) refl c.in_err-note.ensures.put.same
    c.if-not-self.false c.requires refl c.in_ok-tdo.ensures.clocked c.in_err-note.ensures.put.front)
