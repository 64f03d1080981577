use Rattle.std.proofs.Common.{refl}
use Rattle.dev_card.specs.Clocks.{stay_inputs}
use Rattle.stapl_meaning.specs.Deeds.{Stays}
use Rattle.written_cable.proofs.DeedLemmas.{deeds_failed, pins_put, pins_put_front, kept_made, stays_open, one_did, one_did_front}
use Rattle.written_cable.proofs.pin_cable.PinCable.rest.Goals as goal

pub returns-in_err-stay : goal.returns-in_err-stay
returns-in_err-stay g c =
    let m = g.C.Cable in let p = g.O.Paper in let old = c.args.self.now in let s = c.in_err-stay.ensures in let f = s.made in let k = f.made in
    deeds_failed c.from_residual.result c.from_residual.ensures.0 (record {
      front = λ rest. one_did_front m p old c.stay.new.cable old.tap (Stays c.args.n) (stay_inputs old.tap c.args.n) (λ far. refl) (λ far. refl) rest
          f.front f.rest k.clocks f.parts k.made.made (pins_put_front k.clocks k.made s.kept.broken) k.went_in k.seen;
      broken = s.kept.broken;
      kept = kept_made k.made s.kept.line_cause s.kept.pins_cause;
    })

pub returns : goal.returns
returns g c =
    let m = g.C.Cable in let p = g.O.Paper in let old = c.args.self.now in let s = c.in_ok-stay.ensures in let h = s.made in let k = h.made in
    record {
      did = λ rest. one_did m p old c.stay.new.cable old.tap (Stays c.args.n) (stay_inputs old.tap c.args.n) (λ far. refl) (λ far. refl) rest
          h.clocks k.made.tap k.made.same k.made.made (pins_put h.clocks k.made s.kept.unbroken) k.went_in k.seen k.cards;
      open_now = stays_open m p c.stay.new.cable old.tap k.made.tap s.kept.unbroken s.still;
      kept = kept_made k.made s.kept.line_cause s.kept.pins_cause;
    }
