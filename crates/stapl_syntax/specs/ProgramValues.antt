-- A program as contracts see it.
use Rattle.std.specs.Prelude.{ℕ, List}
use Rattle.stapl_syntax.specs.declared.statement.Stmt.{Stmt}
use Rattle.stapl_syntax.specs.Trees.{StmtTree, trees}

-- the text of a program, and its statements
pub record ProgramValue : Type 0 where
  pub text : List ℕ
  pub statements : List Stmt

-- the statements of a program as trees
abbrev pub trees_of : ProgramValue → List StmtTree
trees_of program = trees program.statements
