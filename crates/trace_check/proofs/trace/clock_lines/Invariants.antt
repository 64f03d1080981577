use Rattle.std.proofs.Common.{length, ◌-◌}
use Rattle.trace_check.proofs.TraceLemmas.{AreTracedUpTo}
use Rattle.trace_check.proofs.trace.clock_lines.Given as goal

abbrev pub invariant-lines : goal.invariant-lines
invariant-lines g l = AreTracedUpTo g.D.Device.fitted g.D.Device.kind_of l.fn.rack.items l.rack.items l.places l.text l.at l.total

abbrev pub decreases-lines : goal.decreases-lines
decreases-lines g l = length l.text - l.at
