use Rattle.std.proofs.Common.{refl, inl, ◌∷◌, [], arith}
use Rattle.std.proofs.lemmas.Bool.{false≢true}
use Rattle.scan_paths.proofs.Parts.{clock_failed}
use Rattle.link_cable.proofs.CableLemmas.{clock_led, led_front, made_nothing_over, unbroken}
use Rattle.link_cable.proofs.link_cable.LinkCableCable.clock.Goals as goal

pub returns-in_err-tdo-clause-clocked : goal.returns-in_err-tdo-clause-clocked
returns-in_err-tdo-clause-clocked g c =
    clock_failed c.args.tms c.args.tdi c.from_residual.result c.from_residual.ensures.0
    (inl (made_nothing_over g.W.Wire c.args.self.now _ refl (unbroken _ _ c.requires) refl
    (led_front g.W.Wire c.args.self.now _ refl (unbroken _ _ c.requires) (record { tms = c.args.tms; tdi = c.args.tdi } ∷ []) (omega arith) refl
    c.in_err-tdo.ensures.clocked (λ good. false≢true (c.in_err-tdo.ensures.good good).0))))

pub returns-clause-clocked : goal.returns-clause-clocked
returns-clause-clocked g c =
    clock_led g.W.Wire c.args.self.now _ refl (unbroken _ _ c.requires) c.args.tms c.args.tdi c.in_ok-tdo.tdo refl c.in_ok-tdo.ensures.clocked
    (λ good. record { good = (c.in_ok-tdo.ensures.good good).1; unbroken = refl; calm = c.in_ok-tdo.ensures.kept.counts.calm })
