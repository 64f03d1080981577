use Rattle.std.proofs.Common.{◌≡◌, List, Some, replicate}
use Rattle.stapl_meaning.specs.declared.values.ValueKind.TheVariants.{Int}
use Rattle.stapl_code.specs.declared.raw.VarDef.{VarDef}
use Rattle.stapl_code.specs.Machine.{Of}
use Rattle.stapl_code.specs.Kinds.{all_off}
use Rattle.code_kinds.proofs.kinds.take_integers.Given as goal

abbrev pub invariant-loop : goal.invariant-loop
invariant-loop l =
    (variables : List VarDef) → all_off variables (replicate l.counter (Of Int)) l.initial.kinds ≡ Some l.kinds
