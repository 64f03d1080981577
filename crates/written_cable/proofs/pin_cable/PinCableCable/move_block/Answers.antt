use Rattle.std.proofs.Common.{refl, rules}
use Rattle.scan_paths.proofs.Parts.{block_failed}
use Rattle.written_cable.specs.Pins.{port_breakage}
use Rattle.written_cable.proofs.BlockLemmas.{front_by_line, front_by_pins, shifted_quietly, shifted_noted, words_of_moves}
use Rattle.written_cable.proofs.pin_cable.PinCableCable.move_block.Goals as goal

pub returns-in_err-tdo-clause-moved : goal.returns-in_err-tdo-clause-moved
returns-in_err-tdo-clause-moved g c =
    let m = g.C.Cable in
    let b = port_breakage m.breakage g.O.Paper.failed in
    block_failed c.from_residual.result c.from_residual.ensures.0
    (front_by_line b g.O.Paper.shown m.board m.made c.args.self.now _
    (record { cable = refl; out = refl; pins = refl; base = refl }) refl refl _ refl
    (search rules) c.in_err-tdo.ensures.moved)

pub returns-then-not-self-clause-moved : goal.returns-then-not-self-clause-moved
returns-then-not-self-clause-moved g c =
    let m = g.C.Cable in
    let b = port_breakage m.breakage g.O.Paper.failed in
    shifted_quietly b g.O.Paper.shown m.board m.made c.args.self.now _
    (record { cable = refl; out = refl; pins = refl; base = refl }) refl refl _ _
    (search rules) refl refl c.requires.whole (search rules) c.in_ok-tdo.ensures.moved

pub returns-in_err-note_block-clause-moved : goal.returns-in_err-note_block-clause-moved
returns-in_err-note_block-clause-moved g c =
    let m = g.C.Cable in
    let b = port_breakage m.breakage g.O.Paper.failed in
    block_failed c.from_residual-in_err-note_block.result c.from_residual-in_err-note_block.ensures.0
    (front_by_pins b g.O.Paper.shown m.board m.made c.args.self.now _
    (record {
      cable = refl;
      out = refl;
      pins = refl;
      base =
          refl;
    }) refl c.in_err-note_block.ensures.put.same _ c.args.tms 0 c.args.n c.in_ok-tdo.tdo
    (words_of_moves c.args.n c.args.tms) (search rules) c.requires.whole (search rules) c.in_ok-tdo.ensures.moved c.in_err-note_block.ensures.put.front)

pub returns-clause-moved : goal.returns-clause-moved
returns-clause-moved g c =
    let m = g.C.Cable in
    let b = port_breakage m.breakage g.O.Paper.failed in
    shifted_noted b g.O.Paper.shown m.board m.made c.args.self.now _
    (record {
      cable = refl;
      out = refl;
      pins = refl;
      base =
          refl;
    }) refl c.in_ok-note_block.ensures.put.same _ c.args.tms 0 c.args.n c.in_ok-tdo.tdo
    (words_of_moves c.args.n c.args.tms) (search rules) c.requires.whole
    (search rules) c.in_ok-tdo.ensures.moved c.in_ok-note_block.ensures.put.put c.in_ok-note_block.ensures.digits
