use Rattle.std.proofs.Common.{length}
use Rattle.quiet_watch.proofs.lengths.+register_length.Given as goal

abbrev pub decreases-register_length : goal.decreases-register_length
decreases-register_length l = length l.registers.now
