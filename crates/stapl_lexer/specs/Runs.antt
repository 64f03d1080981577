-- Where a run of bytes ends, and where white space and comments do. Source: JESD71, statements.
use Rattle.std.specs.Prelude.{◌≡◌, ◌≢◌, ℕ, List, [], ◌∷◌, Bool, true, false, ◌||◌, ◌==◌}
use Rattle.std.specs.Char.{is_ascii_digit}
use Rattle.std.specs.List.{list_all}
use Rattle.stapl_lexer.specs.Pieces.{is_white}

-- the bytes are empty, or the first one fails the test
abbrev pub StartsWithout : (ℕ → Bool) → List ℕ → Type 0
StartsWithout test [] = Unit {0}
StartsWithout test (b ∷ bs) = test b ≡ false

-- neither white space nor a comment stands in front
abbrev pub IsSolid : List ℕ → Type 0
IsSolid bytes = StartsWithout (λ b. is_white b || b == 39) bytes

abbrev pub IsDigits : List ℕ → Type 0
IsDigits bytes = (bytes ≢ []) × (list_all is_ascii_digit bytes ≡ true)
