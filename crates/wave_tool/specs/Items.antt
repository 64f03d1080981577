-- What the text of a trace says besides its prints: clocks and waits. The format is this profile's.
use Rattle.std.specs.Prelude.{ℕ, ◌==◌, ◌&&◌, Bool, nat_le, List, [], ◌∷◌, ◌++◌, map, Option, None, Some, if◌then◌else◌}
use Rattle.std.specs.List.{flat_map}
use Rattle.std.specs.Option.{option_map_or}
use Rattle.std.specs.Str.Parse.{digits_value}
use Rattle.base.specs.Decimals.{is_decimal}
use Rattle.pin_lines.specs.PinLines.{lines_of, line_digits}

-- a clock, by its digit, or a wait of so many microseconds
pub data Item : Type 0 where
  Clocked : (digit : ℕ) → Item
  Waited : (usec : ℕ) → Item

-- the longest wait
abbrev pub most_usec : ℕ
most_usec = 4294967295

-- what follows the letter W and a space, if a line begins with them
abbrev pub after_wait : List ℕ → Option (List ℕ)
after_wait [] = None
after_wait (a ∷ []) = None
after_wait (a ∷ b ∷ rest) = if a == 87 && b == 32 then Some rest else None

-- the bytes are a number of microseconds
abbrev pub is_usec : List ℕ → Bool
is_usec bytes = is_decimal bytes && nat_le (digits_value 10 bytes) most_usec

abbrev pub waits_in : List ℕ → List Item
waits_in bytes = if is_usec bytes then Waited (digits_value 10 bytes) ∷ [] else []

-- the wait of a line, of which one that says none has none
abbrev pub line_waits : List ℕ → List Item
line_waits line = option_map_or waits_in (after_wait line) []

-- the clocks and the wait of a line; no line has both
abbrev pub line_items : List ℕ → List Item
line_items line = map Clocked (line_digits line) ++ line_waits line

-- the clocks and the waits of a text
abbrev pub items_in : List ℕ → List Item
items_in text = flat_map line_items (lines_of text)
