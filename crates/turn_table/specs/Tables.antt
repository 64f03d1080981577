-- The table that an account of a play needs: of each piece of a program its number, its line, and whether its statement
-- scans.
use Rattle.std.specs.Prelude.{◌≡◌, ℕ, ◌+◌, ◌<◌, List, Some, length, slice_get}
use Rattle.stapl_lexer.specs.declared.piece.Piece.{Piece}
use Rattle.stapl_lexer.specs.Pieces.{IsCut}
use Rattle.stapl_syntax.specs.Trees.{StmtTree}
use Rattle.stapl_syntax.specs.Programs.{line_of_index}
use Rattle.stapl_meaning.specs.Scopes.{Played, as_played}
use Rattle.scan_accounts.specs.MadeTurns.{scans_at}
use Rattle.account_lines.specs.declared.lines.TurnPlace.{TurnPlace}

-- what is said of the piece with this index: its number, counted from 1, the line of the text in which it begins, and
-- whether its statement scans
abbrev pub turn_place : List ℕ → List Piece → Played → ℕ → TurnPlace
turn_place text pieces program i = record {
  piece = i + 1;
  line = line_of_index text pieces i;
  scans = scans_at program i;
}

-- This is the table of the program with this text and these statements: one entry a piece, in the order of the text.
pub record IsTurnTable (text : List ℕ) (program : List StmtTree) (table : List TurnPlace) : Type 0 where
  pub count : length table ≡ length program
  pub each : (pieces : List Piece) (i : ℕ) → IsCut text pieces → i < length program →
      slice_get table i ≡ Some (turn_place text pieces (as_played program) i)
