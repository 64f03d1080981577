use Rattle.std.proofs.Common.{rules, refl, sym, ap, subst, ◌∙◌, [], ◌∷◌}
use Rattle.scan_paths.proofs.Parts.{signal_failed}
use Rattle.scan_paths.specs.Cables.{Tunes}
use Rattle.stapl_meaning.specs.declared.events.Event.TheVariants.{Hertz}
use Rattle.written_cable.specs.Pins.{port_breakage}
use Rattle.written_cable.proofs.SaidLemmas.{said_wholly, said_not, pins_failed, line_failed}
use Rattle.written_cable.proofs.TornLemmas.{pins≢whole}
use Rattle.written_cable.proofs.pin_cable.PinCableCable.hertz.Goals as goal

pub returns-in_err-set_frequency-clause-signalled : goal.returns-in_err-set_frequency-clause-signalled
returns-in_err-set_frequency-clause-signalled g c =
    let m = g.C.Cable in
    signal_failed c.from_residual.result c.from_residual.ensures.0
    (said_not (port_breakage m.breakage g.O.Paper.failed) m.board m.made g.O.Paper.shown (Tunes c.args.n)
    (Hertz c.args.n) refl tt c.args.self.now _
    (record { cable = refl; out = refl; pins = refl; base = refl }) refl refl
    c.in_err-set_frequency.ensures.signalled.cards c.in_err-set_frequency.ensures.signalled.made refl (search rules))

pub returns-in_err-finish-clause-signalled : goal.returns-in_err-finish-clause-signalled
returns-in_err-finish-clause-signalled g c =
    let m = g.C.Cable in let f = c.finish.ensures in
    signal_failed c.from_residual-in_err-finish.result c.from_residual-in_err-finish.ensures.0
    (pins_failed (port_breakage m.breakage g.O.Paper.failed) m.board m.made g.O.Paper.shown (Tunes c.args.n)
    (Hertz c.args.n) refl tt c.args.self.now _
    (record { cable = f.kept.same.cable; out = f.kept.same.out; pins = f.kept.same.pins; base = f.kept.same.base }) f.still.tap f.kept.over
    (ap m.board f.still.cable ∙ c.in_ok-set_frequency.ensures.signalled.cards)
    (subst (λ x. m.made c.args.self.now.cable.now (Tunes c.args.n ∷ []) x)
    (sym f.still.cable) c.in_ok-set_frequency.ensures.signalled.made) c.requires
    (λ e. pins≢whole (sym c.in_err-finish.ensures.finished.broken ∙ e)) c.in_err-finish.ensures.finished.front)

pub returns-in_err-put_hertz-clause-signalled : goal.returns-in_err-put_hertz-clause-signalled
returns-in_err-put_hertz-clause-signalled g c =
    let m = g.C.Cable in let f = c.finish.ensures in
    signal_failed c.from_residual-in_err-put_hertz.result c.from_residual-in_err-put_hertz.ensures.0
    (line_failed (port_breakage m.breakage g.O.Paper.failed) m.board m.made g.O.Paper.shown (Tunes c.args.n)
    (Hertz c.args.n) refl tt c.args.self.now _
    (record { cable = f.kept.same.cable; out = f.kept.same.out; pins = f.kept.same.pins; base = f.kept.same.base }) f.still.tap
    (c.in_err-put_hertz.ensures.same ∙ f.kept.over) (ap m.board f.still.cable ∙ c.in_ok-set_frequency.ensures.signalled.cards) _
    (subst (λ x. m.made c.args.self.now.cable.now (Tunes c.args.n ∷ []) x)
    (sym f.still.cable) c.in_ok-set_frequency.ensures.signalled.made) c.requires pins≢whole c.in_ok-finish.ensures.finished.put
    c.in_err-put_hertz.ensures.front)

pub returns-clause-signalled : goal.returns-clause-signalled
returns-clause-signalled g c =
    let m = g.C.Cable in let f = c.finish.ensures in
    said_wholly (port_breakage m.breakage g.O.Paper.failed) m.board m.made g.O.Paper.shown (Tunes c.args.n)
    (Hertz c.args.n) refl tt c.args.self.now _
    (record { cable = f.kept.same.cable; out = f.kept.same.out; pins = f.kept.same.pins; base = f.kept.same.base }) f.still.tap
    (c.in_ok-put_hertz.ensures.same ∙ f.kept.over) (ap m.board f.still.cable ∙ c.in_ok-set_frequency.ensures.signalled.cards) _
    (subst (λ x. m.made c.args.self.now.cable.now (Tunes c.args.n ∷ []) x)
    (sym f.still.cable) c.in_ok-set_frequency.ensures.signalled.made) c.requires
    (search rules) c.in_ok-finish.ensures.finished.put c.in_ok-put_hertz.ensures.put c.in_ok-finish.ensures.finished.none
