use Rattle.std.proofs.Common.{◌≢◌, ◌<◌, take}
use Rattle.std.specs.Prelude.{AllPairs}
use Rattle.stapl_code.specs.declared.raw.ProcDef.{ProcDef}
use Rattle.code_ranges.proofs.ranges.are_in_order.Given as goal

abbrev pub invariant-loop-i : goal.invariant-loop-i
invariant-loop-i l = AllPairs (λ (p q : ProcDef). (p.name ≢ q.name) × (p.entry < q.entry)) (take l.i l.procedures)
