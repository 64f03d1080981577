use Rattle.chain_sim.proofs.Clocking.{first_seen}
use Rattle.chain_sim.proofs.rack.first_tdo.Goals as goal

pub returns-in-Some : goal.returns-in-Some
returns-in-Some g c = first_seen _ c.args.places.now _ _ c.args.tdi _ c.in-Some.ensures.cases.0 c.requires.fitted c.tdo_at.ensures
