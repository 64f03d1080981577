use Rattle.std.proofs.Common.{length}
use Rattle.drive_cable.proofs.calls.+receive_all.Given as goal

abbrev pub decreases-receive_all : goal.decreases-receive_all
decreases-receive_all g l = length l.into.now
