-- Parts of the lines that the tool writes: a label and a number, a text that is escaped. The format is this tool's own.
use Rattle.std.specs.Prelude.{ℕ, ℤ, ◌/◌, ◌%◌, List, [], ◌∷◌, ◌++◌, Bool, ◌&&◌, ◌==◌, nat_le, not, if◌then◌else◌}
use Rattle.std.specs.List.{flat_map}
use Rattle.std.specs.Fmt.{signed_decimal}
use Rattle.bit_list.specs.Hexadecimal.{hex_digit}

-- a label and a number
abbrev pub labelled : List ℕ → ℤ → List ℕ
labelled label n = label ++ signed_decimal n

-- a label, a number and a line feed
abbrev pub number_line : List ℕ → ℤ → List ℕ
number_line label n = labelled label n ++ 10 ∷ []

-- a word and a line feed
abbrev pub word_line : List ℕ → List ℕ
word_line word = word ++ 10 ∷ []

-- the byte is written as it is: it is one of 32 to 126, and no backslash
abbrev pub is_plain : ℕ → Bool
is_plain b = nat_le 32 b && nat_le b 126 && not (b == 92)

-- any other byte is written as a backslash and two hexadecimal digits
abbrev pub escaped_byte : ℕ → List ℕ
escaped_byte b = if is_plain b then b ∷ [] else 92 ∷ hex_digit (b / 16) ∷ hex_digit (b % 16) ∷ []

abbrev pub escaped : List ℕ → List ℕ
escaped bytes = flat_map escaped_byte bytes

-- a label and a text, which is escaped
abbrev pub labelled_text : List ℕ → List ℕ → List ℕ
labelled_text label text = label ++ escaped text
