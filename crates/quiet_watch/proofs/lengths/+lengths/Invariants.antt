use Rattle.std.proofs.Common.{length}
use Rattle.quiet_watch.proofs.lengths.+lengths.Given as goal

abbrev pub decreases-lengths : goal.decreases-lengths
decreases-lengths g l = length l.descs.now
