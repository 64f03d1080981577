use Rattle.std.proofs.Common.{arith}
use Rattle.dev_card.specs.Blocks.{card_after_block, card_block}
use Rattle.chain_sim.proofs.Clocking.{card_read, card_changed, kinds_same, others_same}
use Rattle.chain_sim.proofs.BlockRuns.{card_seen}
use Rattle.chain_sim.proofs.rack.shift_at.Goals as goal

pub shift_block-requires-clause-fitted : goal.shift_block-requires-clause-fitted
shift_block-requires-clause-fitted g c =
    rw (card_read g.D.Device.fitted c.args.rack.now.items c.args.place c.index_mut.result.now (omega arith) c.index_mut.ensures.value) at c.requires.fitted

pub returns-clause-kinds : goal.returns-clause-kinds
returns-clause-kinds g c = kinds_same _ _ _ _ _ c.index_mut.ensures.value c.shift_block.ensures.kind

pub returns-clause-card : goal.returns-clause-card
returns-clause-card g c =
    card_changed g.D.Device.fitted c.args.rack.now.items c.args.place c.index_mut.result.now c.shift_block.new.self
    (λ k. card_after_block k c.args.tdi c.args.n c.args.last) (omega arith) c.index_mut.ensures.value
    c.shift_block.ensures.card

pub returns-clause-tdo : goal.returns-clause-tdo
returns-clause-tdo g c =
    card_seen g.D.Device.fitted c.args.rack.now.items c.args.place c.index_mut.result.now
    (λ k. card_block k c.args.tdi c.args.n c.args.last) _
    (omega arith) c.index_mut.ensures.value c.shift_block.ensures.tdo

pub returns-clause-others : goal.returns-clause-others
returns-clause-others g c = λ k n. others_same _ _ _ k n
