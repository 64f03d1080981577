use Rattle.std.proofs.Common.{arith}
use Rattle.dev_card.specs.Card.{step}
use Rattle.chain_sim.proofs.Clocking.{card_read, card_changed, kinds_same, others_same}
use Rattle.chain_sim.proofs.rack.clock_at.Goals as goal

pub clock-requires : goal.clock-requires
clock-requires g c =
    rw (card_read g.D.Device.fitted c.args.rack.now.items c.args.place c.index_mut.result.now (omega arith) c.index_mut.ensures.value) at c.requires.fitted

pub returns-clause-kinds : goal.returns-clause-kinds
returns-clause-kinds g c = kinds_same _ _ _ _ _ c.index_mut.ensures.value c.clock.ensures.kind

pub returns-clause-card : goal.returns-clause-card
returns-clause-card g c =
    card_changed g.D.Device.fitted c.args.rack.now.items c.args.place c.index_mut.result.now c.clock.new.self (λ k. step k c.args.tms c.args.tdi)
    (omega arith) c.index_mut.ensures.value c.clock.ensures.card

pub returns-clause-others : goal.returns-clause-others
returns-clause-others g c = λ k n. others_same _ _ _ k n
