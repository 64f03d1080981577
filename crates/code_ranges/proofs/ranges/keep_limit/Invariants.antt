use Rattle.std.proofs.Common.{◌≡◌, ◌+◌, take}
use Rattle.std.specs.Prelude.{sum_by}
use Rattle.stapl_code.specs.Ranges.{elements_of}
use Rattle.code_ranges.proofs.ranges.keep_limit.Given as goal

abbrev pub invariant-loop-variable : goal.invariant-loop-variable
invariant-loop-variable l = l.left + sum_by (elements_of l.scalar l.array) (take l.variable-index l.variables) ≡ l.limit
