-- Lines of text. Each ends with a line feed. The format is this profile's.
use Rattle.std.specs.Prelude.{ℕ, ◌/◌, ◌%◌, List, [], ◌∷◌, ◌++◌, true}
use Rattle.std.specs.Fmt.{decimal, digit_glyph}

-- a line
abbrev pub plain_line : List ℕ → List ℕ
plain_line text = text ++ 10 ∷ []

-- a line with a decimal number between two texts
unfoldable pub numbered_line : List ℕ → ℕ → List ℕ → List ℕ
numbered_line before n after = plain_line (before ++ decimal n ++ after)

-- a number below 65,536 as four upper-case hexadecimal digits, the highest first
unfoldable pub four_digits : ℕ → List ℕ
four_digits n =
    digit_glyph true (n / 4096) ∷ digit_glyph true (n / 256 % 16) ∷ digit_glyph true (n / 16 % 16)
    ∷ digit_glyph true (n % 16) ∷ []
