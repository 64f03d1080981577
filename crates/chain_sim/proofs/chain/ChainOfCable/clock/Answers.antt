use Rattle.chain_sim.proofs.Clocking.{apart_if_whole}
use Rattle.chain_sim.proofs.chain.ChainOfCable.clock.Goals as goal

pub clock_all-requires-clause-apart : goal.clock_all-requires-clause-apart
clock_all-requires-clause-apart g c = apart_if_whole _ c.args.self.now.places.now c.requires
