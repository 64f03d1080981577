-- Integers of 32 bits in the words of arithmetic. Source: JESD71, expressions. That exact results wrap around, and how
-- a quotient is rounded, are this profile's rules.
use Rattle.std.specs.Prelude.{◌≡◌, ◌<◌, ℕ, suc, nat_abs, ℤ, pos, negsuc, ◌+ℤ◌, ◌*ℤ◌, ◌<ℤ◌, ◌≤ℤ◌}

-- an integer of the language, which has 32 bits and a sign (JESD71): -2147483648 to 2147483647
pub record FitsInteger (z : ℤ) : Type 0 where
  pub low : negsuc 2147483647 ≤ℤ z
  pub high : z ≤ℤ pos 2147483647

-- the least integer of the language, -2147483648
abbrev pub least_integer : ℤ
least_integer = negsuc 2147483647

-- minus one
abbrev pub minus_one : ℤ
minus_one = negsuc 0

-- an integer is another and a multiple of 2 to the power of 32, which is 4294967296
pub record IsCongruent (z exact : ℤ) : Type 0 where
  pub times : ℤ
  pub is : z ≡ exact +ℤ times *ℤ pos 4294967296

-- An exact result, wrapped around (this profile): the integer of the language that is congruent to it.
pub record IsWrapped (exact z : ℤ) : Type 0 where
  pub fits : FitsInteger z
  pub congruent : IsCongruent z exact

-- The quotient of a and b and its remainder: the remainder is less than b, whatever the signs, and is 0 or has the sign
-- of a (this profile).
pub record IsDivided (a b quotient remainder : ℤ) : Type 0 where
  pub whole : a ≡ b *ℤ quotient +ℤ remainder
  pub small : nat_abs remainder < nat_abs b
  pub above : pos 0 <ℤ remainder → pos 0 <ℤ a
  pub below : remainder <ℤ pos 0 → a <ℤ pos 0

-- the quotient of an integer and a divisor above 0, rounded down: what it leaves is not negative
pub record IsRoundedDown (a : ℤ) (divisor : ℕ) (quotient : ℤ) : Type 0 where
  pub rest : ℕ
  pub whole : a ≡ quotient *ℤ pos divisor +ℤ pos rest
  pub small : rest < divisor

-- an integer is below another: one or more are to be added
pub record IsBelow (a b : ℤ) : Type 0 where
  pub more : ℕ
  pub is : a +ℤ pos (suc more) ≡ b
