-- The bits of an integer, by the places of a number (JESD71, expressions and Boolean arrays). No list of bits occurs.
use Rattle.std.specs.Prelude.{◌≡◌, ◌<◌, ◌⊎◌, ◌↔◌, ℕ, ◌/◌, ◌%◌, ◌^◌, ℤ, pos, ◌+ℤ◌}
use Rattle.meaning_laws.specs.Numbers.{FitsInteger}

-- Two's complement: the number below 2 to the power of 32, which is 4294967296, that has the bits of an integer. It is
-- the integer, or the integer and 4294967296 if that is negative.
pub record IsPattern (z : ℤ) (pattern : ℕ) : Type 0 where
  pub is : (z ≡ pos pattern) ⊎ (z +ℤ pos 4294967296 ≡ pos pattern)
  pub small : pattern < 4294967296

-- the bit at a place of an integer is 1, where place i counts 2 to the power of i
pub record HasBit (i : ℕ) (z : ℤ) : Type 0 where
  pub pattern : ℕ
  pub is : IsPattern z pattern
  pub odd : pattern / 2 ^ i % 2 ≡ 1

-- an integer of the language whose bit at each of the 32 places is 1 exactly if something holds of the place
pub record HasBitsWhere (z : ℤ) (Holds : ℕ → Type 0) : Type 0 where
  pub fits : FitsInteger z
  pub each : (i : ℕ) → i < 32 → HasBit i z ↔ Holds i
