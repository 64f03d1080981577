-- How many bytes of a file are left after its parts. The rules are this profile's.
use Rattle.std.specs.Prelude.{◌≡◌, ℕ, ◌+◌, ◌<◌, Bool, true, false, List, length, sum_by}

-- so many bytes are taken off those that are left, or there are too few
abbrev pub Takes : ℕ → ℕ → ℕ → Bool → Type 0
Takes bytes before after true = before ≡ after + bytes
Takes bytes before after false = before < bytes

-- how many bytes items have together
abbrev pub bytes_of : {A : Type 0} → (A → List ℕ) → List A → ℕ
bytes_of spelled items = sum_by (λ x. length (spelled x)) items
