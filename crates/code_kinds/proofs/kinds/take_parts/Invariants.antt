use Rattle.std.proofs.Common.{◌≡◌, ◌-◌, List, Some, length, drop}
use Rattle.stapl_code.specs.declared.raw.VarDef.{VarDef}
use Rattle.stapl_code.specs.Machine.{part_slots}
use Rattle.stapl_code.specs.Kinds.{all_off}
use Rattle.code_kinds.proofs.kinds.take_parts.Given as goal

abbrev pub invariant-loop-done : goal.invariant-loop-done
invariant-loop-done l =
    (variables : List VarDef) →
    all_off variables (part_slots (drop (length l.parts - l.done) l.parts)) l.initial.kinds ≡ Some l.kinds
