use Rattle.std.proofs.Common.{◌≡◌, ap, ◌∙◌}
use Rattle.tap_states.specs.Tap.{next_of}
use Rattle.dev_card.specs.Card.{Card, during, entered, step}
use Rattle.dev_kinds.specs.DataRegisters.{card_with}
use Rattle.dev_kinds.proofs.Fitting.{clocked_fitted}
use Rattle.dev_kinds.proofs.fitted.FittedDevice.clock.Goals as goal

pub invariant_of-self : goal.invariant_of-self
invariant_of-self g c =
    let s = c.args.self.now in
    let old = g.R.DataRegisters.contents s.registers in
    let new = g.R.DataRegisters.contents c.come_to.new.registers in
    let card : Card = during s.logic.tap c.args.tdi (card_with s.logic old) in
    let e : card_with c.come_to.new.logic new ≡ step (card_with s.logic old) c.args.tms c.args.tdi =
    c.come_to.ensures.card ∙ ap (entered c.next-next.result) c.leave.ensures.card
    ∙ ap (λ t. entered t card) (c.next-next.ensures ∙ ap (λ t. next_of t c.args.tms) c.tap.ensures) in
    record {
      fits = clocked_fitted g.R.DataRegisters.own_kind g.R.DataRegisters.longest s.logic c.come_to.new.logic old new
          c.args.tms c.args.tdi s.fits (c.come_to.ensures.desc ∙ c.leave.ensures.desc)
          (c.come_to.ensures.room ∙ c.leave.ensures.room) (c.come_to.ensures.flash ∙ c.leave.ensures.flash) e;
    }
