-- The name of the new procedure.
use Rattle.std.specs.Prelude.{◌≡◌, ℕ, List}
use Rattle.stapl_syntax.specs.Trees.{StmtTree}
use Rattle.carried_plays.specs.PadNames.{pad_name, IsPadNumber}

-- the name is that with the least free number
pub record IsNewName (program : List StmtTree) (name : List ℕ) : Type 0 where
  pub number : ℕ
  pub named : IsPadNumber program number
  pub same : name ≡ pad_name number
