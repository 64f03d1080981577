use Rattle.std.proofs.Common.{length}
use Rattle.chain_sim.proofs.rack.+clock_all.Given as goal

abbrev pub decreases-clock_all : goal.decreases-clock_all
decreases-clock_all g l = length l.places.now
