use Rattle.std.proofs.Common.{refl, rules}
use Rattle.scan_paths.proofs.Parts.{block_failed}
use Rattle.written_cable.specs.Pins.{port_breakage}
use Rattle.written_cable.proofs.BlockLemmas.{front_by_line, front_by_pins, shifted_quietly, shifted_noted}
use Rattle.written_cable.proofs.pin_cable.PinCableCable.shift_block.Goals as goal

pub returns-in_err-tdo-clause-shifted : goal.returns-in_err-tdo-clause-shifted
returns-in_err-tdo-clause-shifted g c =
    let m = g.C.Cable in
    let b = port_breakage m.breakage g.O.Paper.failed in
    block_failed c.from_residual.result c.from_residual.ensures.0
    (front_by_line b g.O.Paper.shown m.board m.made c.args.self.now _
    (record { cable = refl; out = refl; pins = refl; base = refl }) refl refl _ refl
    (search rules) c.in_err-tdo.ensures.shifted)

pub returns-then-not-self-clause-shifted : goal.returns-then-not-self-clause-shifted
returns-then-not-self-clause-shifted g c =
    let m = g.C.Cable in
    let b = port_breakage m.breakage g.O.Paper.failed in
    shifted_quietly b g.O.Paper.shown m.board m.made c.args.self.now _
    (record { cable = refl; out = refl; pins = refl; base = refl }) refl refl _ _
    (search rules) refl refl c.requires.whole (search rules) c.in_ok-tdo.ensures.shifted

pub returns-in_err-note_block-clause-shifted : goal.returns-in_err-note_block-clause-shifted
returns-in_err-note_block-clause-shifted g c =
    let m = g.C.Cable in
    let b = port_breakage m.breakage g.O.Paper.failed in
    block_failed c.from_residual-in_err-note_block.result c.from_residual-in_err-note_block.ensures.0
    (front_by_pins b g.O.Paper.shown m.board m.made c.args.self.now _
    (record {
      cable = refl;
      out = refl;
      pins = refl;
      base =
          refl;
    }) refl c.in_err-note_block.ensures.put.same _ c.block_tms.result c.args.tdi c.args.n c.in_ok-tdo.tdo
    (c.block_tms.ensures c.args.tdi) (search rules) c.requires.whole (search rules) c.in_ok-tdo.ensures.shifted c.in_err-note_block.ensures.put.front)

pub returns-clause-shifted : goal.returns-clause-shifted
returns-clause-shifted g c =
    let m = g.C.Cable in
    let b = port_breakage m.breakage g.O.Paper.failed in
    shifted_noted b g.O.Paper.shown m.board m.made c.args.self.now _
    (record {
      cable = refl;
      out = refl;
      pins = refl;
      base =
          refl;
    }) refl c.in_ok-note_block.ensures.put.same _ c.block_tms.result c.args.tdi c.args.n c.in_ok-tdo.tdo
    (c.block_tms.ensures c.args.tdi) (search rules) c.requires.whole
    (search rules) c.in_ok-tdo.ensures.shifted c.in_ok-note_block.ensures.put.put c.in_ok-note_block.ensures.digits
