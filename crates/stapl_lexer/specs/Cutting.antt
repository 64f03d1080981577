-- What the code knows of a text that it has read up to some place, segment by segment.
use Rattle.std.specs.Prelude.{◌≡◌, ℕ, ◌+◌, ◌≤◌, List, [], ◌∷◌, ◌++◌, false, length, drop, take_while, Option, None, Some, if◌then◌else◌}
use Rattle.std.specs.List.{list_all, slice_split}
use Rattle.stapl_lexer.specs.declared.piece.Piece.{Piece}
use Rattle.stapl_lexer.specs.declared.cutting.Progress.{Progress}
use Rattle.stapl_lexer.specs.Segments.{Segment, spelled, spelling, IsSegment, Divides}
use Rattle.stapl_lexer.specs.Pieces.{is_blank, is_semicolon, line_at, pieces_from}

-- the first n bytes are a segment
pub record BeginsWithSegment (text : List ℕ) (n : ℕ) : Type 0 where
  pub segment : Segment
  pub parts : text ≡ spelled segment ++ drop n text
  pub len : length (spelled segment) ≡ n
  pub valid : IsSegment segment (drop n text)

-- segments put before the first group
abbrev pub gather : List Segment → List (List Segment) → List (List Segment)
gather group [] = group ∷ []
gather group (first ∷ groups) = (group ++ first) ∷ groups

-- The text is cut up to a place: these are its pieces so far, and a group of segments is open.
pub record IsCutUpTo (text : List ℕ) (progress : Progress) (pieces : List Piece) : Type 0 where
  pub done : List Segment
  pub group : List Segment
  pub divides : Divides done text (drop progress.at text)
  pub so_far : (rest : List Segment) → pieces_from text 0 (slice_split is_semicolon (done ++ rest))
      ≡ pieces ++ pieces_from text progress.start (gather group (slice_split is_semicolon rest))
  pub place : progress.start + length (spelling group) ≡ progress.at
  pub line_is : progress.line ≡ line_at text progress.at
  pub first_is : progress.first ≡ (if list_all is_blank group then None
      else Some (line_at text (progress.start + length (spelling (take_while is_blank group)))))

-- the pieces with one more, if there is one
abbrev pub with_piece : List Piece → Option Piece → List Piece
with_piece pieces None = pieces
with_piece pieces (Some piece) = pieces ++ piece ∷ []

-- the numbers of how far a text is cut are within a place of it
pub record Within (limit : ℕ) (progress : Progress) : Type 0 where
  pub at : progress.at ≤ limit
  pub start : progress.start ≤ progress.at
  pub line : progress.line ≤ progress.at + 1

-- the piece that the end of the text leaves open
abbrev pub open_piece : ℕ → ℕ → Option ℕ → Option Piece
open_piece start at None = None
open_piece start at (Some line) = Some (record { start = start; end = at; line = line; closed = false })
