use Rattle.std.proofs.Common.{length}
use Rattle.chain_sim.proofs.rack.+shift_all.Given as goal

abbrev pub decreases-shift_all : goal.decreases-shift_all
decreases-shift_all g l = length l.places.now
