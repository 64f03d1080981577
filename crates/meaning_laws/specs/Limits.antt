-- Integers that are outside their limits. The limits of each place are this profile's, and written out there.
use Rattle.std.specs.Prelude.{ℕ, ℤ, pos, ◌<ℤ◌, ◌≤ℤ◌, ◌⊎◌}

-- an integer that is not in least to most
abbrev pub IsOutside : (least most z : ℤ) → Type 0
IsOutside least most z = (z <ℤ least) ⊎ (most <ℤ z)

-- an integer that is no index of a list of so many items
abbrev pub IsNoIndex : ℕ → ℤ → Type 0
IsNoIndex size z = (z <ℤ pos 0) ⊎ (pos size ≤ℤ z)
