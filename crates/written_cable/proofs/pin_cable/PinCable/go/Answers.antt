use Rattle.std.proofs.Common.{refl}
use Rattle.dev_card.specs.Clocks.{move_inputs}
use Rattle.stapl_meaning.specs.Deeds.{Goes}
use Rattle.written_cable.specs.declared.pin_cable.PinCable.{PinCable}
use Rattle.written_cable.proofs.DeedLemmas.{deeds_failed, pins_put, pins_put_front, kept_made, stays_open, one_did, one_did_front}
use Rattle.written_cable.proofs.pin_cable.PinCable.go.Goals as goal

pub returns-in_err-_state-clause-did : goal.returns-in_err-_state-clause-did
returns-in_err-_state-clause-did g c =
    let m = g.C.Cable in let p = g.O.Paper in let old = c.args.self.now in let s = c.in_err-_state.ensures in let f = s.made in let k = f.made in
    deeds_failed c.from_residual.result c.from_residual.ensures.0 (record {
      front = λ rest. one_did_front m p old c.move_to.new.cable c.args.to (Goes c.args.to) (move_inputs old.tap c.args.to) (λ far. refl) (λ far. refl) rest
          f.front f.rest k.clocks f.parts k.made.made (pins_put_front k.clocks k.made s.kept.broken) k.went_in k.seen;
      broken = s.kept.broken;
      kept = kept_made k.made s.kept.line_cause s.kept.pins_cause;
    })

pub returns-clause-did : goal.returns-clause-did
returns-clause-did g c =
    let m = g.C.Cable in let p = g.O.Paper in let old = c.args.self.now in let s = c.in_ok-_state.ensures in let h = s.made in let k = h.made in let same = k.made.same in
    let put = pins_put h.clocks k.made s.kept.unbroken in
    let new : PinCable g.row.C.Denot g.row.O.Denot = record c.move_to.new.cable { tap = c.args.to } in
    record {
      did = λ rest. one_did m p old new c.args.to (Goes c.args.to) (move_inputs old.tap c.args.to) (λ far. refl) (λ far. refl) rest
          h.clocks refl (record { cable = same.cable; out = same.out; pins = same.pins; base = same.base }) k.made.made
          (record { was_whole = put.was_whole; put = put.put; digits = put.digits }) k.went_in k.seen k.cards;
      open_now = stays_open m p new c.args.to refl s.kept.unbroken s.arrived.1;
      kept = record {
        same = record { cable = same.cable; out = same.out; pins = same.pins; base = same.base };
        over = k.made.over;
        line_cause = s.kept.line_cause;
        pins_cause = s.kept.pins_cause;
      };
    }
