use Rattle.std.proofs.Common.{◌≡◌, ◌<◌, ◌^◌, ◌++◌, length, take}
use Rattle.std.specs.Prelude.{All}
use Rattle.std.specs.List.{flat_map}
use Rattle.stapl_code.specs.declared.raw.VarDef.{VarDef}
use Rattle.stapl_code.specs.Fields.{number}
use Rattle.stapl_code.specs.Files.{variable}
use Rattle.code_files.proofs.encoding.put_variables.Given as goal

abbrev pub invariant-loop-variable : goal.invariant-loop-variable
invariant-loop-variable l = record {
  put : l.out.items ≡ l.fn.out.items ++ number (length l.variables) ++ flat_map variable (take l.variable-index l.variables);
  fits : All (λ (v : VarDef). v.size < 2 ^ 32) (take l.variable-index l.variables);
}
