-- Numbers as they are spelled in words. The rule is this profile's.
use Rattle.std.specs.Prelude.{ℕ, Bool, ◌&&◌, ◌||◌, ◌==◌, not, List, length, slice_index}
use Rattle.std.specs.Char.{is_ascii_digit}
use Rattle.std.specs.List.{list_all}

-- decimal digits without a leading zero; a lone 0 is written so too
abbrev pub is_decimal : List ℕ → Bool
is_decimal spelling =
    not (length spelling == 0) && list_all is_ascii_digit spelling && ((length spelling == 1) || not (slice_index spelling 0 == 48))
