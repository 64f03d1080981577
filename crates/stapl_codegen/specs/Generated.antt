-- The lists of the code of a program.
use Rattle.std.specs.Prelude.{◌≡◌, ℕ, nat_abs, map}
use Rattle.stapl_syntax.specs.declared.names.Key.{Key}
use Rattle.stapl_syntax.specs.declared.names.Variable.{Variable}
use Rattle.stapl_syntax.specs.declared.names.VarKind.{VarKind}
use Rattle.stapl_syntax.specs.declared.names.VarKind.TheVariants as kinds
use Rattle.stapl_meaning.specs.Values.{of_programs}
use Rattle.stapl_meaning.specs.Scopes.{Played, zeros_of}
use Rattle.stapl_code.specs.declared.raw.VarDef.{VarDef}
use Rattle.stapl_code.specs.declared.raw.CodeLists.{CodeLists}
use Rattle.stapl_code.specs.Safe.{entries_of, constants_of}
use Rattle.stapl_codegen.specs.Emit.{literals_of, texts_of, start_of, procedures_of, actions_of, program_code}
use Rattle.stapl_codegen.specs.Correct.{Stands}

-- the number of a kind of variables
abbrev pub kind_number : VarKind → ℕ
kind_number kinds.Integer = 0
kind_number kinds.Boolean = 1
kind_number kinds.IntegerArray = 2
kind_number kinds.BooleanArray = 3

abbrev pub variable_def : Key × Variable → VarDef
variable_def v = record { kind = kind_number v.1.kind; size = nat_abs v.1.size }

-- the lists of the code
abbrev pub lists_of : Played → CodeLists
lists_of program = record {
  profile = of_programs;
  variables = map variable_def program.names.variables;
  literals = literals_of program;
  texts = texts_of program;
  procedures = procedures_of program;
  actions = actions_of program;
  instrs = program_code program;
}

-- The code of a program: it has its lists, and stands for it.
pub record IsCodeOf (program : Played) (code : CodeLists) : Type 0 where
  pub lists : code ≡ lists_of program
  pub stands : Stands program (start_of program) (entries_of code.procedures) (constants_of code) code.instrs (zeros_of program)
