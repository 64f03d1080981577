-- What the checker reads of the pieces of a text.
use Rattle.std.specs.Prelude.{◌≡◌, ◌<◌, ◌≤◌, ◌+◌, ℕ, List, [], ◌∷◌, ◌++◌, Option, Some, None, map, take, length, slice_get}
use Rattle.stapl_lexer.specs.declared.piece.Piece.{Piece}
use Rattle.stapl_syntax.specs.declared.statement.Stmt.{Stmt}
use Rattle.stapl_syntax.specs.Trees.{StmtTree, stmt_tree}
use Rattle.stapl_syntax.specs.Names.{numbered, with_numbers}
use Rattle.stapl_checker.specs.declared.reading.Read.{Read}
use Rattle.stapl_checker.specs.declared.reading.Read.TheVariants.{Statement, Faulty}
use Rattle.stapl_checker.specs.declared.reading.Unread.{Unread}
use Rattle.stapl_checker.specs.declared.reading.Reading.{Reading}
use Rattle.stapl_checker.specs.Judgements.{What, statement, faulty, IsWhat, AreWhat, what_trees}

abbrev pub what_of : Read → What
what_of (Statement st) = statement (stmt_tree st)
what_of (Faulty reason) = faulty reason

-- what a piece is
abbrev pub IsRead : List ℕ → Piece → Read → Type 0
IsRead text piece read = IsWhat text piece (what_of read)

-- the first piece that has no statement: the one that was first, or else this one
abbrev pub first_unread : Option Unread → Unread → Option Unread
first_unread None unread = Some unread
first_unread (Some first) unread = Some first

-- The piece with this index is added.
abbrev pub Adds : ℕ → Read → Reading → Reading → Type 0
Adds i (Statement st) old new =
    (new.numbers.items ≡ old.numbers.items ++ (i + 1) ∷ []) × ((new.statements.items ≡ old.statements.items ++ st ∷ []) × (new.unread ≡ old.unread))
Adds i (Faulty reason) old new =
    (new.numbers.items ≡ old.numbers.items)
    × ((new.statements.items ≡ old.statements.items) × (new.unread ≡ first_unread old.unread (record { index = i; reason = reason })))

abbrev pub stmt_trees : List Stmt → List StmtTree
stmt_trees statements = map stmt_tree statements

-- the pieces before this one are these statements, and it is none
pub record IsReadFront (whats : List What) (statements : List StmtTree) (unread : Unread) : Type 0 where
  pub below : unread.index < length whats
  pub enough : unread.index ≤ length statements
  pub front : take unread.index whats ≡ map statement (take unread.index statements)
  pub here : slice_get whats unread.index ≡ Some (faulty unread.reason)

-- up to the first piece that has no statement, or to the end, the pieces are these statements
abbrev pub IsFrontTo : List What → List StmtTree → Option Unread → Type 0
IsFrontTo whats statements None = whats ≡ map statement statements
IsFrontTo whats statements (Some unread) = IsReadFront whats statements unread

-- What was read tells what each piece is.
pub record IsToldBy (whats : List What) (reading : Reading) : Type 0 where
  pub same : numbered (what_trees whats) ≡ with_numbers reading.numbers.items (stmt_trees reading.statements.items)
  pub as_many : length reading.numbers.items ≡ length reading.statements.items
  pub front : IsFrontTo whats (stmt_trees reading.statements.items) reading.unread

-- What the pieces of a text are: for some list of what each one is, the statements with their numbers, and the first
-- piece that has none.
pub record IsReading (text : List ℕ) (pieces : List Piece) (reading : Reading) : Type 0 where
  pub whats : List What
  pub are : AreWhat text pieces whats
  pub told : IsToldBy whats reading
