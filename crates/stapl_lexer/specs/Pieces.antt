-- The pieces of a text (JESD71, program text): what stands between its semicolons, but for those in strings and
-- comments. The lines of pieces, and the piece that no semicolon ends, are this profile's.
use Rattle.std.specs.Prelude.{◌≡◌, ℕ, ◌+◌, ◌<◌, ◌≤◌, List, [], ◌∷◌, Bool, true, false, ◌||◌, ◌==◌, if◌then◌else◌, length, take, count_by, take_while, slice_index, slice_get, IfSome}
use Rattle.std.specs.List.{list_all, slice_split, AllAdjacentBelow}
use Rattle.stapl_lexer.specs.declared.piece.Piece.{Piece}
use Rattle.stapl_lexer.specs.Segments.{Segment, Plain, Closed, Open, Comment, spelling, Divides}

-- the most bytes of a text, which is this profile's limit
abbrev pub text_limit : ℕ
text_limit = 4194304

-- white space: space, tab, line feed, form feed, carriage return
abbrev pub is_white : ℕ → Bool
is_white b = (b == 32) || (b == 9) || (b == 10) || (b == 12) || (b == 13)

-- white space or a comment
abbrev pub is_blank : Segment → Bool
is_blank (Plain b) = is_white b
is_blank (Closed bytes) = false
is_blank (Open bytes) = false
is_blank (Comment bytes) = true

-- a semicolon that ends a piece: one outside strings and comments
abbrev pub is_semicolon : Segment → Bool
is_semicolon (Plain b) = b == 59
is_semicolon (Closed bytes) = false
is_semicolon (Open bytes) = false
is_semicolon (Comment bytes) = false

-- the line of a place, counted from 1: one more than the line feeds before it
abbrev pub line_at : List ℕ → ℕ → ℕ
line_at text at = count_by (λ b. b == 10) (take at text) + 1

-- The piece of a group of segments that begins at a place of the text. Its line is that of its first byte that is
-- neither white space nor comment, or where there is none that of its end, where its semicolon stands.
abbrev pub piece_of : List ℕ → ℕ → List Segment → Bool → Piece
piece_of text start group closed = record {
  start = start;
  end = start + length (spelling group);
  line = line_at text (start + length (spelling (take_while is_blank group)));
  closed = closed;
}

-- The pieces of the groups between the semicolons, from a place of the text on. Each group but the last is a closed
-- piece. The last one is a piece that is not closed, or none if it has white space and comments alone.
abbrev pub pieces_from : List ℕ → ℕ → List (List Segment) → List Piece
pieces_from text start [] = []
pieces_from text start (group ∷ []) = if list_all is_blank group then [] else piece_of text start group false ∷ []
pieces_from text start (group ∷ next ∷ groups) =
    piece_of text start group true ∷ pieces_from text (start + length (spelling group) + 1) (next ∷ groups)

-- These are the pieces of the text: it is divided into segments, and these are split at the semicolons.
pub record IsCut (text : List ℕ) (pieces : List Piece) : Type 0 where
  pub segments : List Segment
  pub divides : Divides segments text []
  pub pieces_are : pieces ≡ pieces_from text 0 (slice_split is_semicolon segments)

-- The piece lies in the text. A closed one ends at its semicolon, 59, and any other one ends with the text.
pub record LiesIn (text : List ℕ) (piece : Piece) : Type 0 where
  pub ordered : piece.start ≤ piece.end
  pub within : piece.end ≤ length text
  pub before_end : piece.closed ≡ true → piece.end < length text
  pub semicolon : piece.closed ≡ true → slice_index text piece.end ≡ 59
  pub at_end : piece.closed ≡ false → piece.end ≡ length text
  pub line_above : 1 ≤ piece.line
  pub line_below : piece.line ≤ length text + 1

-- The second piece begins right after the semicolon of the first.
pub record Follows (piece next : Piece) : Type 0 where
  pub closed : piece.closed ≡ true
  pub start : next.start ≡ piece.end + 1

-- The pieces stand in order and apart: the first one begins at the front of the text, and each other one right after
-- the semicolon of the one before.
pub record LieInOrder (pieces : List Piece) : Type 0 where
  pub first : IfSome (slice_get pieces 0) (λ piece. piece.start ≡ 0)
  pub next : AllAdjacentBelow Follows pieces (length pieces)
