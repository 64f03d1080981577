use Rattle.std.proofs.Common.{refl}
use Rattle.dev_card.specs.Blocks.{block_inputs}
use Rattle.chain_sim.specs.Chains.{devices_of, chain_places}
use Rattle.chain_sim.proofs.Clocking.{apart_if_whole}
use Rattle.chain_sim.proofs.BlockRuns.{chain_run, chain_shifted}
use Rattle.chain_sim.proofs.chain.ChainOfCable.shift_block.Goals as goal

pub shift_all-requires-clause-apart : goal.shift_all-requires-clause-apart
shift_all-requires-clause-apart g c = apart_if_whole _ c.args.self.now.places.now c.requires.whole

pub returns-clause-shifted : goal.returns-clause-shifted
returns-clause-shifted g c =
    let d = g.D.Device in
    let is = block_inputs c.args.tdi c.args.n c.args.last in
    let old = c.args.self.now in
    chain_shifted _ _ old _ is _ (
      refl,
      chain_run d.fitted d.kind_of (devices_of old) c.shift_all.new.rack.items
          (chain_places old) is c.shift_all.ensures.kinds c.shift_all.ensures.others c.shift_all.ensures.cards,
    )
    c.shift_all.ensures.cards c.shift_all.ensures.tdo
