use Rattle.std.proofs.Common.{refl}
use Rattle.stapl_meaning.specs.declared.events.Event.TheVariants.{Hertz}
use Rattle.written_cable.proofs.DeedLemmas.{deeds_failed, signal_part, signal_all, kept_made}
use Rattle.written_cable.proofs.pin_cable.PinCable.tune.Goals as goal

pub returns-in_err-hertz : goal.returns-in_err-hertz
returns-in_err-hertz g c =
    let u = c.in_err-hertz.ensures in
    deeds_failed c.from_residual.result c.from_residual.ensures.0
    (signal_part g.C.Cable g.O.Paper (Hertz c.args.n) tt c.args.self.now c.hertz.new.self u.kept.broken u.signalled.made refl u.kept.line_cause u.kept.pins_cause)

pub returns : goal.returns
returns g c =
    let u = c.in_ok-hertz.ensures in
    signal_all g.C.Cable g.O.Paper (Hertz c.args.n) tt c.args.self.now c.hertz.new.self c.requires u.kept.unbroken u.signalled.made refl u.signalled.cards
    (kept_made u.signalled.made u.kept.line_cause u.kept.pins_cause)
