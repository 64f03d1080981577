-- What wraps, where std says it by bits.
use Rattle.std.proofs.Common.{◌≡◌, ◌<◌, ◌≤◌, ◌/◌, ◌%◌, ◌^◌, ℕ, zero, suc, ℤ, pos, negsuc, neg_ℤ, ◌*ℤ◌}
use Rattle.std.proofs.Common.{sym, ap, ◌∙◌, arith, refl}
use Rattle.std.specs.Int.{int_wrap, cast_signed, cast_unsigned, int_shl, int_wrapping_div, w32}
use Rattle.std.specs.Int.RustNames.{FitsSigned, int_div, unsigned_abs}
use Rattle.std.proofs.lemmas.Int.{to_z-of_z, wrapping_mul-bits, int_wrap-mul_right}
use Rattle.std.proofs.Math.Nat.{mod-eq_of_lt, div-le_self}
use Rattle.std.proofs.Math.Facts.{Fits-of_z}
use Rattle.std.proofs.lemmas.Nat.{pow_below}

-- the integer with the 32 bits of a number
cast_signed-wraps : (n : ℕ) → n < 2 ^ 32 → cast_signed w32 n ≡ int_wrap w32 (pos n)
unfolding int_wrap
cast_signed-wraps n below = ap (cast_signed w32) (sym (mod-eq_of_lt below))

-- and of an integer
cast-wraps : (z : ℤ) → unsigned_abs z < 2 ^ 32 → cast_signed w32 (cast_unsigned w32 z) ≡ int_wrap w32 z
unfolding int_wrap
cast-wraps (pos n) below = ap (cast_signed w32) (sym (mod-eq_of_lt below))
cast-wraps (negsuc n) below =
    let same : n % 2 ^ 32 ≡ n = mod-eq_of_lt (omega arith) in
    ap (cast_signed w32) (omega arith)

pub int_shl-wraps : (a : ℤ) (n : ℕ) → FitsSigned w32 a → n < 32 → int_shl w32 a n ≡ int_wrap w32 (a *ℤ pos (2 ^ n))
int_shl-wraps a n fits few =
    let power : 2 ^ n < 2 ^ 32 = pow_below n 32 few in
    wrapping_mul-bits w32 (cast_unsigned w32 a) (2 ^ n) (Fits-of_z fits).fits power
    ∙ ap (λ z. int_wrap w32 (z *ℤ cast_signed w32 (2 ^ n))) (to_z-of_z w32 a fits)
    ∙ ap (λ z. int_wrap w32 (a *ℤ z)) (cast_signed-wraps (2 ^ n) power)
    ∙ int_wrap-mul_right w32 a (pos (2 ^ n))

abs_below : (a : ℤ) → FitsSigned w32 a → unsigned_abs a < 2 ^ 32
abs_below (pos n) fits = omega (arith, fits.sfits)
abs_below (negsuc n) fits = omega (arith, fits.sfits)

pub absolute-wraps : (a : ℤ) → FitsSigned w32 a → cast_signed w32 (unsigned_abs a) ≡ int_wrap w32 (pos (unsigned_abs a))
absolute-wraps a fits = cast_signed-wraps (unsigned_abs a) (abs_below a fits)

abs-neg : (n : ℕ) → unsigned_abs (neg_ℤ (pos n)) ≡ n
abs-neg zero = refl
abs-neg (suc n) = refl

abs-div-le : (a b : ℤ) → unsigned_abs (int_div a b) ≤ unsigned_abs a
abs-div-le (pos a) (pos b) = div-le_self a b
abs-div-le (pos a) (negsuc b) = omega (arith, abs-neg (a / suc b), div-le_self a (suc b))
abs-div-le (negsuc a) (pos b) = omega (arith, abs-neg (suc a / b), div-le_self (suc a) b)
abs-div-le (negsuc a) (negsuc b) = div-le_self (suc a) (suc b)

pub int_div-wraps : (a b : ℤ) → FitsSigned w32 a → int_wrapping_div w32 a b ≡ int_wrap w32 (int_div a b)
int_div-wraps a b fits = cast-wraps (int_div a b) (omega (arith, abs-div-le a b, abs_below a fits))
