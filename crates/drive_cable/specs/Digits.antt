-- Digits that stand first. The rules are this profile's.
use Rattle.std.specs.Prelude.{ℕ, ◌+◌, ◌==◌, ◌||◌, Bool, List, [], ◌∷◌, if◌then◌else◌}

-- the digits 0 and 1
abbrev pub is_digit : ℕ → Bool
is_digit b = (b == 48) || (b == 49)

-- how many digits stand first
abbrev pub digits_first : List ℕ → ℕ
digits_first [] = 0
digits_first (b ∷ bytes) = if is_digit b then digits_first bytes + 1 else 0
