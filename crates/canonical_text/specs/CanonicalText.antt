-- Canonical text, a line for each statement. Its form is this profile's.
use Rattle.std.specs.Prelude.{ℕ, List, [], ◌∷◌, ◌++◌, map, Some}
use Rattle.std.specs.List.{flat_map}
use Rattle.stapl_lexer.specs.Crc.{check_word}
use Rattle.stapl_lexer.specs.declared.piece.Piece.{Piece}
use Rattle.stapl_lexer.specs.Pieces.{IsCut}
use Rattle.stapl_syntax.specs.Programs.{AreReadAs}
use Rattle.stapl_syntax.specs.Trees.{BodyTree, crc, StmtTree}
use Rattle.canonical_text.specs.Spacing.{spaced}
use Rattle.canonical_text.specs.PrintedStatements.{stmt_tokens}

-- a line: the tokens, a semicolon (59) and a line feed (10)
abbrev pub line : StmtTree → List ℕ
line st = spaced (stmt_tokens st) ++ 59 ∷ 10 ∷ []

-- a CRC statement with the check word of the bytes before it; every other statement as it is
abbrev pub checked_body : List ℕ → BodyTree → BodyTree
checked_body before (crc n) = crc (check_word before)
checked_body before body = body

abbrev pub checked : List ℕ → StmtTree → StmtTree
checked before st = record { label = st.label; body = checked_body before st.body }

-- the statements whose lines stand after these bytes, with their check words
abbrev pub checked_from : List ℕ → List StmtTree → List StmtTree
checked_from before [] = []
checked_from before (st ∷ sts) = checked before st ∷ checked_from (before ++ line (checked before st)) sts

-- the lines of statements
abbrev pub lines : List StmtTree → List ℕ
lines sts = flat_map line sts

-- the statements with their check words
abbrev pub checked_statements : List StmtTree → List StmtTree
checked_statements sts = checked_from [] sts

-- the canonical text of statements
abbrev pub canonical_text : List StmtTree → List ℕ
canonical_text sts = lines (checked_statements sts)

-- a statement with the value of CRC left out
abbrev pub plain_body : BodyTree → BodyTree
plain_body (crc n) = crc 0
plain_body body = body

abbrev pub plain : StmtTree → StmtTree
plain st = record { label = st.label; body = plain_body st.body }

-- The pieces of the text are these statements, one a piece.
pub record HasStatements (text : List ℕ) (statements : List StmtTree) : Type 0 where
  pub pieces : List Piece
  pub cut : IsCut text pieces
  pub read : AreReadAs text pieces (map Some statements)
