-- Integers of 32 bits as they wrap around
use Rattle.std.proofs.Common.{◌≡◌, ◌<◌, ℕ, suc, ◌+◌, ◌-◌, ◌*◌, ◌%◌, ◌/◌, ℤ, pos, negsuc, ◌+ℤ◌, ◌-ℤ◌, neg_ℤ, refl, subst, arith, nat_lt, false, ◌⊎◌, inl, inr, ◌≤◌}
use Rattle.std.specs.Int.{w32, int_wrap, cast_signed}
use Rattle.std.specs.Int.RustNames.{FitsSigned}
use Rattle.std.proofs.lemmas.Int.{ints, SFits-int_wrap, to_z_pos}
use Rattle.std.proofs.lemmas.Bool.{cases_lt, le-ltb}
use borrow.Author.Differences.{same_in, same_out, le_out, sum_is_lem, neg_is, product_is}
use Rattle.meaning_laws.specs.Numbers.{FitsInteger, IsCongruent, IsWrapped}

pub fits_from : (z : ℤ) → FitsInteger z → FitsSigned w32 z
fits_from z h = let l = h.low in let u = h.high in omega (arith, ints)

pub fits_to : (z : ℤ) → FitsSigned w32 z → FitsInteger z
fits_to z f = record { low = omega (arith, ints); high = omega (arith, ints) }

-- the number with these 32 bits in two's complement, and how many times 2 ^ 32 it lies below the number of the bits
read : (n : ℕ) → n < 4294967296 → (j : ℕ) × (cast_signed w32 n +ℤ pos (j * 4294967296) ≡ pos n)
read n h = by (cases_lt n 2147483648)
  where
    by : (n < 2147483648) ⊎ (2147483648 ≤ n) → (j : ℕ) × (cast_signed w32 n +ℤ pos (j * 4294967296) ≡ pos n)
    by (inl less) = (0, let e = to_z_pos w32 n less in omega (arith, same_in, same_out, sum_is_lem, e))
    by (inr most) =
        let e : nat_lt n 2147483648 ≡ false = le-ltb n 2147483648 most in
        let f : cast_signed w32 n ≡ negsuc (4294967296 - suc n) = rw e refl in
        (1, omega (arith, same_in, same_out, sum_is_lem, f))

-- an integer and what is left of it differ by a multiple of 2 ^ 32
left : (z : ℤ) → (j : ℕ) × (k : ℕ) × (int_wrap w32 z +ℤ pos (j * 4294967296) ≡ z +ℤ pos (k * 4294967296))
unfolding int_wrap
left (pos a) =
    let r = read (a % 4294967296) (omega arith) in
    (r.0 + a / 4294967296, 0, omega (arith, same_in, same_out, sum_is_lem, r.1))
left (negsuc a) =
    let r = read (4294967296 - 1 - a % 4294967296) (omega arith) in
    (r.0, a / 4294967296 + 1, omega (arith, same_in, same_out, sum_is_lem, r.1))

congruent : (z : ℤ) → IsCongruent (int_wrap w32 z) z
congruent z =
    let l = left z in
    record { times = pos l.1 -ℤ pos l.0; is = omega (arith, same_in, same_out, sum_is_lem, neg_is, product_is, l.2) }

pub wrapped_so : (z : ℤ) → IsWrapped z (int_wrap w32 z)
wrapped_so z = record { fits = fits_to (int_wrap w32 z) (SFits-int_wrap w32 z); congruent = congruent z }

pub wrapped_negative : (a : ℤ) → IsWrapped (pos 0 -ℤ a) (int_wrap w32 (neg_ℤ a))
wrapped_negative a = let e : neg_ℤ a ≡ pos 0 -ℤ a = omega (arith, ints) in subst (λ (z : ℤ). IsWrapped z (int_wrap w32 (neg_ℤ a))) e (wrapped_so (neg_ℤ a))

pub one_left : (exact y z : ℤ) → IsWrapped exact y → IsWrapped exact z → y ≡ z
one_left exact y z g h =
    let e = g.congruent.is in
    let f = h.congruent.is in
    let a = g.fits.low in
    let b = g.fits.high in
    let c = h.fits.low in
    let d = h.fits.high in
    omega (arith, same_in, same_out, le_out, sum_is_lem, product_is)
