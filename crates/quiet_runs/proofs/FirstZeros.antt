-- The variables of the code of a program begin as the program's do.
use Rattle.std.proofs.Common.{◌≡◌, ℕ, List, [], ◌∷◌, map, refl, ap, ◌∙◌}
use Rattle.std.specs.Prelude.{nat_abs}
use Rattle.stapl_syntax.specs.declared.names.Key.{Key}
use Rattle.stapl_syntax.specs.declared.names.Variable.{Variable}
use Rattle.stapl_syntax.specs.declared.names.VarKind.{VarKind}
use Rattle.stapl_syntax.specs.declared.names.VarKind.TheVariants as variables
use Rattle.stapl_meaning.specs.Scopes.{Played, zeros_of}
use Rattle.stapl_meaning.specs.Scopes as scopes
use Rattle.stapl_code.specs.declared.raw.CodeLists.{CodeLists}
use Rattle.stapl_codegen.specs.Generated.{kind_number, variable_def, IsCodeOf}
use Rattle.machine_memory.specs.Zeros.{zero_of, zeros_of_code}

zero_same : (v : Key × Variable) → zero_of (variable_def v) ≡ scopes.zero_of v
zero_same v = by v.1.kind (nat_abs v.1.size)
  where
    by : (k : VarKind) (n : ℕ) → zero_of (record { kind = kind_number k; size = n }) ≡ scopes.zero_by k n
    by variables.Integer n = refl
    by variables.Boolean n = refl
    by variables.IntegerArray n = refl
    by variables.BooleanArray n = refl

zeros_are : (vs : List (Key × Variable)) → map zero_of (map variable_def vs) ≡ map scopes.zero_of vs
zeros_are [] = refl
zeros_are (v ∷ vs) = λ j. zero_same v j ∷ zeros_are vs j

pub same_zeros : (program : Played) (code : CodeLists) → IsCodeOf program code → zeros_of_code code ≡ zeros_of program
same_zeros program code is = ap zeros_of_code is.lists ∙ zeros_are program.names.variables
