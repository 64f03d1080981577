use Rattle.std.proofs.Common.{length, ◌-◌}
use Rattle.trace_check.proofs.ClockLemmas.{AreClockedUpTo}
use Rattle.trace_check.proofs.clocks.clock_digits.Given as goal

abbrev pub invariant-clocks : goal.invariant-clocks
invariant-clocks g l = AreClockedUpTo g.D.Device.fitted g.D.Device.kind_of l.fn.rack.items l.rack.items l.places l.digits l.n

abbrev pub decreases-clocks : goal.decreases-clocks
decreases-clocks g l = length l.digits - l.n
