-- Lines of clocks in a text: which bytes they are, and which clocks. The format is this profile's.
use Rattle.std.specs.Prelude.{ℕ, ◌-◌, ◌%◌, ◌==◌, ◌&&◌, Bool, false, not, nat_le, List, [], ◌∷◌, length, map, Option, None, Some, if◌then◌else◌, unwrap_or}
use Rattle.std.specs.List.{flat_map, list_any, list_all}
use Rattle.std.specs.Option.{option_map_or}
use Rattle.dev_card.specs.Board.{Input, Clock}
use Rattle.stapl_meaning.specs.Texts.{pin_limit}

-- a byte in front of the first line
abbrev pub in_front : ℕ → List (List ℕ) → List (List ℕ)
in_front b [] = (b ∷ []) ∷ []
in_front b (line ∷ lines) = (b ∷ line) ∷ lines

-- the lines of a text: each ends with a line feed, which the last one may lack
abbrev pub lines_of : List ℕ → List (List ℕ)
lines_of [] = []
lines_of (b ∷ rest) = if b == 10 then [] ∷ lines_of rest else in_front b (lines_of rest)

-- what follows the letter C and a space, if a line begins with them: then it is a line of clocks
abbrev pub after_mark : List ℕ → Option (List ℕ)
after_mark [] = None
after_mark (a ∷ []) = None
after_mark (a ∷ b ∷ rest) = if a == 67 && b == 32 then Some rest else None

-- a digit from 0 to 7
abbrev pub is_pin_digit : ℕ → Bool
is_pin_digit b = nat_le 48 b && nat_le b 55

-- some digits, and no more than a line of clocks may have
abbrev pub are_pin_digits : List ℕ → Bool
are_pin_digits bytes = nat_le 1 (length bytes) && nat_le (length bytes) pin_limit && list_all is_pin_digit bytes

-- a line of clocks with anything else is bad
abbrev pub is_bad_line : List ℕ → Bool
is_bad_line line = option_map_or (λ bytes. not (are_pin_digits bytes)) (after_mark line) false

abbrev pub has_bad_line : List ℕ → Bool
has_bad_line text = list_any is_bad_line (lines_of text)

-- the digits of a line, of which one that is no line of clocks has none
abbrev pub line_digits : List ℕ → List ℕ
line_digits line = unwrap_or (after_mark line) []

-- the digits of all lines of clocks, joined
abbrev pub pins_in : List ℕ → List ℕ
pins_in text = flat_map line_digits (lines_of text)

-- what goes in at the clock of a digit, and the clock: 4 for TMS, 2 for TDI, 1 for TDO
abbrev pub input_of_pin : ℕ → Input
input_of_pin digit = record { tms = nat_le 4 (digit - 48); tdi = nat_le 2 ((digit - 48) % 4) }

abbrev pub clock_of_pin : ℕ → Clock
clock_of_pin digit =
    record { tms = nat_le 4 (digit - 48); tdi = nat_le 2 ((digit - 48) % 4); tdo = (digit - 48) % 2 == 1 }

abbrev pub inputs_of_pins : List ℕ → List Input
inputs_of_pins digits = map input_of_pin digits

abbrev pub clocks_of_pins : List ℕ → List Clock
clocks_of_pins digits = map clock_of_pin digits
