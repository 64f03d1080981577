-- The segments of a text (JESD71, program text): strings, comments, and single bytes. That a line feed or the end of
-- the text ends a string is this profile's rule.
use Rattle.std.specs.Prelude.{◌≡◌, ◌≢◌, ℕ, List, [], ◌∷◌, ◌++◌, Bool, true, ◌||◌, ◌==◌, not}
use Rattle.std.specs.List.{list_all, flat_map}

pub data Segment : Type 0 where
  -- one byte that is neither a quote nor an apostrophe
  Plain : ℕ → Segment
  -- a string with both of its quotes, by the bytes between them
  Closed : List ℕ → Segment
  -- a string that its line or the text ends, by the bytes after its quote
  Open : List ℕ → Segment
  -- a comment, by the bytes after its apostrophe
  Comment : List ℕ → Segment

-- the bytes of a segment: 34 is the quote, 39 the apostrophe
abbrev pub spelled : Segment → List ℕ
spelled (Plain b) = b ∷ []
spelled (Closed bytes) = 34 ∷ bytes ++ 34 ∷ []
spelled (Open bytes) = 34 ∷ bytes
spelled (Comment bytes) = 39 ∷ bytes

-- a string holds no quote and no line feed
abbrev pub ends_string : ℕ → Bool
ends_string b = (b == 34) || (b == 10)

-- a comment holds no line feed
abbrev pub ends_comment : ℕ → Bool
ends_comment b = b == 10

-- no byte of the list ends a string, or a comment
abbrev pub HasNone : (ℕ → Bool) → List ℕ → Type 0
HasNone ends bytes = list_all (λ b. not (ends b)) bytes ≡ true

-- the rest of the text begins with a line feed, or it is empty
abbrev pub EndsLine : List ℕ → Type 0
EndsLine [] = Unit {0}
EndsLine (b ∷ bs) = b ≡ 10

-- The segment may stand before this rest of the text. A string begins at a quote and ends with the next quote; where a
-- line feed or the end of the text comes first, it is open and ends before that. A comment goes from an apostrophe up
-- to a line feed or the end of the text. The line feed is no part of either. Each other byte is a segment by itself.
abbrev pub IsSegment : Segment → List ℕ → Type 0
IsSegment (Plain b) rest = (b ≢ 34) × (b ≢ 39)
IsSegment (Closed bytes) rest = HasNone ends_string bytes
IsSegment (Open bytes) rest = (HasNone ends_string bytes) × EndsLine rest
IsSegment (Comment bytes) rest = (HasNone ends_comment bytes) × EndsLine rest

-- The text is divided into these segments, and the rest.
abbrev pub Divides : List Segment → List ℕ → List ℕ → Type 0
Divides [] text rest = text ≡ rest
Divides (s ∷ ss) text rest =
    (after : List ℕ) × (text ≡ spelled s ++ after) × IsSegment s after × Divides ss after rest

-- the bytes of all segments
abbrev pub spelling : List Segment → List ℕ
spelling segments = flat_map spelled segments
