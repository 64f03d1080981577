use Rattle.std.proofs.Common.{◌≡◌, ◌++◌, map, drop}
use Rattle.stapl_codegen.specs.Generated.{variable_def}
use Rattle.stapl_codegen.proofs.definitions.variables.Given as goal

abbrev pub invariant-loop-number : goal.invariant-loop-number
invariant-loop-number l = l.defs.items ++ map variable_def (drop l.number l.names.variables) ≡ map variable_def l.names.variables
