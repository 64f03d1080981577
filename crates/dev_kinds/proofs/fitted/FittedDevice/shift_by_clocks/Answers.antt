use Rattle.std.proofs.Common.{◌≡◌, ◌+◌, ◌%◌, ◌&&◌, nat_eq, ◌∙◌, arith}
use Rattle.dev_card.specs.Card.{step}
use Rattle.dev_kinds.specs.DataRegisters.{card_with}
use Rattle.dev_kinds.proofs.BlockClocks.{card_at_first, tdo_at_first, card_at_next, tdo_at_next, card_at_last, tdo_at_last}
use Rattle.dev_kinds.proofs.fitted.FittedDevice.shift_by_clocks.Goals as goal

pub loop-i-init : goal.loop-i-init
loop-i-init g c = record {
  below = omega arith;
  card = card_at_first _ c.args.tdi c.args.n c.args.last;
  tdo = tdo_at_first _ c.args.tdi c.args.n c.args.last;
}

pub loop-i-preserved : goal.loop-i-preserved
loop-i-preserved g c =
    let held = g.R.DataRegisters.contents in
    let old = c.loop-i.self in
    let new = c.clock.new.self in
    let i = c.loop-i.i in
    let x = c.loop-i.rest in
    let clocked : card_with new.logic (held new.registers)
    ≡ step (card_with old.logic (held old.registers)) (c.args.last && nat_eq (i + 1) c.args.n) (nat_eq (x % 2) 1) =
    rw (← c.ends_at.ensures) c.clock.ensures in
    record {
      below = c.with_bit-seen.ensures.below;
      card = card_at_next _ _ c.args.n i x c.args.last (omega arith) clocked ∙ c.loop-i.invariant.card;
      tdo = tdo_at_next _ _ c.args.n i x c.loop-i.seen _ c.args.last _
          (omega arith) clocked (c.tdo-tdo.ensures _ _) c.with_bit-seen.ensures.value ∙ c.loop-i.invariant.tdo;
    }

pub returns-clause-card : goal.returns-clause-card
returns-clause-card g c =
    card_at_last _ c.args.n c.loop-i.i c.loop-i.rest c.args.last (omega arith) ∙ c.loop-i.invariant.card

pub returns-clause-tdo : goal.returns-clause-tdo
returns-clause-tdo g c =
    tdo_at_last _ c.args.n c.loop-i.i c.loop-i.rest c.loop-i.seen c.args.last (omega arith)
    ∙ c.loop-i.invariant.tdo
