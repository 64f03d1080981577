use Rattle.std.proofs.Common.{length, ◌-◌}
use Rattle.trace_check.proofs.LineLemmas.{AreGoodUpTo}
use Rattle.trace_check.proofs.lines.first_bad_line.Given as goal

abbrev pub invariant-lines : goal.invariant-lines
invariant-lines l = AreGoodUpTo l.text l.at l.count

abbrev pub decreases-lines : goal.decreases-lines
decreases-lines l = length l.text - l.at
