use Rattle.std.proofs.Common.{◌≢◌, take}
use Rattle.std.specs.Prelude.{AllPairs}
use Rattle.stapl_code.specs.declared.raw.ActionDef.{ActionDef}
use Rattle.code_ranges.proofs.ranges.are_apart.Given as goal

abbrev pub invariant-loop-i : goal.invariant-loop-i
invariant-loop-i l = AllPairs (λ (a b : ActionDef). a.name ≢ b.name) (take l.i l.actions)
