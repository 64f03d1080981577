-- The words of a line of a board. The notation of boards is this profile's. The lines of a text are std's `lines`: each
-- ends with a line feed, which the last may lack, and a carriage return in front of the line feed is dropped.
use Rattle.std.specs.Prelude.{ℕ, Bool, ◌||◌, ◌==◌, not, List, length, slice_index, filter, map}
use Rattle.std.specs.Borrow.{Bor}
use Rattle.std.specs.List.{slice_split}

-- a space (32) or a tab (9), which separate words
abbrev pub is_blank : ℕ → Bool
is_blank b = (b == 32) || (b == 9)

abbrev pub is_word_byte : ℕ → Bool
is_word_byte b = not (is_blank b)

-- the words of a line: the parts between its blanks that have a byte
abbrev pub words_of : List ℕ → List (List ℕ)
words_of line = filter (λ part. not (length part == 0)) (slice_split is_blank line)

-- an empty line, or a comment, which begins with an apostrophe (39)
abbrev pub is_skipped : List ℕ → Bool
is_skipped line = (length line == 0) || (slice_index line 0 == 39)

-- words, of which each is referred to
abbrev pub texts : List (Bor (List ℕ)) → List (List ℕ)
texts words = map (λ (w : Bor (List ℕ)). w.now) words
