-- Which texts are programs, and where the first fault of every other text is. The table of reasons, with one case for
-- each row, and the limit of pieces are this profile's.
use Rattle.std.specs.Prelude.{◌≡◌, ℕ, ◌+◌, ◌<◌, ◌≤◌, List, [], ◌∷◌, true, false, Option, None, Some, length, take, map, slice_get, is_some}
use Rattle.std.specs.Option.{option_map_or}
use Rattle.stapl_lexer.specs.declared.piece.Piece.{Piece}
use Rattle.stapl_lexer.specs.declared.reason.Reason.{Reason}
use Rattle.stapl_lexer.specs.declared.reason.Reason.TheVariants as reasons
use Rattle.stapl_lexer.specs.Pieces.{IsCut, line_at, text_limit}
use Rattle.stapl_lexer.specs.Reasons.{reason_number}
use Rattle.stapl_syntax.specs.Trees.{StmtTree}
use Rattle.stapl_syntax.specs.Statements.{IsPieceStatement}
use Rattle.stapl_syntax.specs.Reasons.{HasReason}
use Rattle.stapl_syntax.specs.Names.{numbered, names_of, inside_after}
use Rattle.stapl_syntax.specs.Rules.{is_action, any_body, Facts, facts_after, breaks}

-- how many pieces a text may have
abbrev pub piece_limit : ℕ
piece_limit = 100000

-- what a piece of the text is: a statement, or none
abbrev pub IsReadAs : List ℕ → Piece → Option StmtTree → Type 0
IsReadAs text piece (Some statement) = IsPieceStatement text piece statement
IsReadAs text piece None = (statement : StmtTree) → IsPieceStatement text piece statement → ⊥

-- what all pieces are
abbrev pub AreReadAs : List ℕ → List Piece → List (Option StmtTree) → Type 0
AreReadAs text [] [] = Unit {0}
AreReadAs text [] (r ∷ read) = ⊥
AreReadAs text (piece ∷ pieces) [] = ⊥
AreReadAs text (piece ∷ pieces) (r ∷ read) = IsReadAs text piece r × AreReadAs text pieces read

-- the line where a text ends, one more than its line feeds
abbrev pub end_line : List ℕ → ℕ
end_line text = line_at text (length text)

-- the line of the piece with this index, or that of the text's end where the pieces end
abbrev pub line_of_index : List ℕ → List Piece → ℕ → ℕ
line_of_index text pieces i = option_map_or (λ piece. piece.line) (slice_get pieces i) (end_line text)

-- the facts at the piece with this index of a program whose pieces are these
abbrev pub facts_at : List (Option StmtTree) → ℕ → Facts
facts_at read i = facts_after (names_of (numbered read)) (numbered (take i read))

-- A reason against the piece with this index, or against the end of the text if no piece has it.
pub data HasReasonAt (text : List ℕ) (read : List (Option StmtTree)) (i : ℕ) : Option Piece → Reason → Type 0 where
  -- there are too many pieces
  one_too_many : (piece : Piece) → piece_limit ≤ i → HasReasonAt text read i (Some piece) reasons.TooManyPieces
  -- the piece is no statement
  no_statement : (piece : Piece) (reason : Reason) → HasReason text piece reason → HasReasonAt text read i (Some piece) reason
  -- the statement that it is breaks a rule
  breaks_rule : (piece : Piece) (st : StmtTree) (reason : Reason) → IsPieceStatement text piece st → breaks (facts_at read i) st reason ≡ true →
      HasReasonAt text read i (Some piece) reason
  -- a block is open at the end
  not_closed : is_some (inside_after (numbered (take i read))) ≡ true → HasReasonAt text read i None reasons.NotClosed
  -- there is no ACTION
  nothing_to_do : any_body is_action (numbered (take i read)) ≡ false → HasReasonAt text read i None reasons.NothingToDo

-- Of the reasons that hold, the one with the smallest number.
pub record SmallestReasonAt (text : List ℕ) (read : List (Option StmtTree)) (i : ℕ) (piece : Option Piece) (reason : Reason) : Type 0 where
  pub holds : HasReasonAt text read i piece reason
  pub least : (other : Reason) → HasReasonAt text read i piece other → reason_number reason ≤ reason_number other

-- no reason holds against any piece with a lower index
abbrev pub NoneBefore : List ℕ → List Piece → List (Option StmtTree) → ℕ → Type 0
NoneBefore text pieces read i = (k : ℕ) → k < i → (reason : Reason) → HasReasonAt text read k (slice_get pieces k) reason → ⊥

-- The text is the program of these statements, one a piece: no reason holds against any of its pieces, nor against its
-- end.
pub record IsProgram (text : List ℕ) (statements : List StmtTree) : Type 0 where
  pub short : length text ≤ text_limit
  pub pieces : List Piece
  pub cut : IsCut text pieces
  pub read : AreReadAs text pieces (map Some statements)
  pub sound : NoneBefore text pieces (map Some statements) (length pieces + 1)

-- The first fault of a text: its piece, counted from 1, its line and its reason. A text that is too long has it at
-- piece 0 and line 0. Otherwise it is the first piece against which a reason holds, or if none does, the number one
-- above the last piece, at the line of the text's end.
pub data FirstFault (text : List ℕ) : ℕ → ℕ → Reason → Type 0 where
  is_too_long : text_limit < length text → FirstFault text 0 0 reasons.TooLong
  is_first : (pieces : List Piece) (read : List (Option StmtTree)) (i : ℕ) (reason : Reason) → length text ≤ text_limit → IsCut text pieces →
      AreReadAs text pieces read → i ≤ length pieces → SmallestReasonAt text read i (slice_get pieces i) reason →
      NoneBefore text pieces read i → FirstFault text (i + 1) (line_of_index text pieces i) reason
