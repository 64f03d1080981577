-- Integers combined bit by bit, and std's words for it.
use Rattle.std.proofs.Common.{◌≡◌, ◌<◌, ◌+◌, ◌*◌, ◌/◌, ◌%◌, ◌^◌, min, max, ℕ, zero, suc, nat_eq, Bool, ◌&&◌, ◌||◌}
use Rattle.std.proofs.Common.{bit_and, bit_or, ℤ, sym, ap, arith, refl}
use Rattle.std.specs.Int.{w32, cast_signed, cast_unsigned, int_bit_and, int_bit_or, int_bit_xor}
use Rattle.std.specs.Int.RustNames.{FitsSigned, bit_xor}
use Rattle.std.specs.Int.Bits.{and_step, or_step, xor_add_and}
use Rattle.std.proofs.Math.Facts.{Fits-of_z}
use Rattle.std.proofs.Math.Nat.{pow-suc}
use Rattle.base.specs.Bits.{low_bits, bit_value, number_of}
use Rattle.stapl_meaning.specs.Values.{differ, combined_bits, bitwise}

-- f on two digits of the base 2
abbrev digit : (Bool → Bool → Bool) → ℕ → ℕ → ℕ
digit f r s = bit_value (f (nat_eq r 1) (nat_eq s 1))

-- an operation on numbers that does f at each bit
record Does (f : Bool → Bool → Bool) (op : ℕ → ℕ → ℕ) : Type 0 where
  none : op 0 0 ≡ 0
  step : (x y : ℕ) → op x y ≡ op (x / 2) (y / 2) * 2 + digit f (x % 2) (y % 2)

module _ (f : Bool → Bool → Bool) (op : ℕ → ℕ → ℕ) (does : Does f op) where
  number_of-combined : (n x y : ℕ) → x < 2 ^ n → y < 2 ^ n
      → number_of (combined_bits f (low_bits n x) (low_bits n y)) ≡ op x y
  number_of-combined zero x y p q =
      let x_is : x ≡ 0 = omega arith in
      let y_is : y ≡ 0 = omega arith in
      rw (x_is, y_is, does.none) refl
  number_of-combined (suc n) x y p q =
      let power : 2 ^ suc n ≡ 2 ^ n * 2 = pow-suc 2 n in
      let high = number_of-combined n (x / 2) (y / 2) (omega arith) (omega arith) in
      omega (arith, does.step x y)

  bitwise-is : (a b : ℤ) → FitsSigned w32 a → FitsSigned w32 b
      → cast_signed w32 (op (cast_unsigned w32 a) (cast_unsigned w32 b)) ≡ bitwise f a b
  unfolding bitwise
  bitwise-is a b h k =
      let same = number_of-combined 32 (cast_unsigned w32 a) (cast_unsigned w32 b) in
      ap (cast_signed w32) (sym (same (Fits-of_z h).fits (Fits-of_z k).fits))

by_bits : (P : ℕ → ℕ → Type 0) → P 0 0 → P 0 1 → P 1 0 → P 1 1 → (x y : ℕ) → P (x % 2) (y % 2)
by_bits P a b c d x y = cases (x % 2) (y % 2) (omega arith) (omega arith)
  where
    cases : (r s : ℕ) → r < 2 → s < 2 → P r s
    cases zero zero p q = a
    cases zero (suc zero) p q = b
    cases (suc zero) zero p q = c
    cases (suc zero) (suc zero) p q = d
    cases (suc (suc r)) s p q = absurd (omega arith)
    cases zero (suc (suc s)) p q = absurd (omega arith)
    cases (suc zero) (suc (suc s)) p q = absurd (omega arith)

and_does : Does ◌&&◌ bit_and
and_does = record {
  none = refl;
  step = λ x y. omega (arith, and_step x y, by_bits (λ r s. digit ◌&&◌ r s ≡ min r s) refl refl refl refl x y);
}

or_does : Does ◌||◌ bit_or
or_does = record {
  none = refl;
  step = λ x y. omega (arith, or_step x y, by_bits (λ r s. digit ◌||◌ r s ≡ max r s) refl refl refl refl x y);
}

differ_does : Does differ bit_xor
differ_does = record {
  none = refl;
  step = λ x y.
      let low = by_bits (λ r s. digit differ r s + 2 * min r s ≡ r + s) refl refl refl refl x y in
      omega (arith, and_step x y, xor_add_and x y, xor_add_and (x / 2) (y / 2));
}

module _ (a b : ℤ) (h : FitsSigned w32 a) (k : FitsSigned w32 b) where
  pub bitwise-and : int_bit_and w32 a b ≡ bitwise ◌&&◌ a b
  bitwise-and = bitwise-is ◌&&◌ bit_and and_does a b h k

  pub bitwise-or : int_bit_or w32 a b ≡ bitwise ◌||◌ a b
  bitwise-or = bitwise-is ◌||◌ bit_or or_does a b h k

  pub bitwise-differ : int_bit_xor w32 a b ≡ bitwise differ a b
  bitwise-differ = bitwise-is differ bit_xor differ_does a b h k
