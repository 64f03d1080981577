-- Quotients, remainders and shifts
use Rattle.std.proofs.Common.{◌≡◌, ◌≢◌, ◌<◌, ◌≤◌, ◌⊎◌, inl, inr, ℕ, zero, suc, ◌-◌, ◌%◌, ◌/◌, ◌^◌, ℤ, pos, negsuc, ◌+ℤ◌, ◌*ℤ◌, ◌<ℤ◌, neg_ℤ, refl, sym, ap, subst, ◌∙◌, arith, nat_lt, false}
use Rattle.std.specs.Int.{w32, int_wrap, int_div_euclid}
use Rattle.std.specs.Int.RustNames.{FitsSigned, int_div, int_rem, unsigned_abs}
use Rattle.std.proofs.lemmas.Int.{ints, int_wrap_fits, quot-rem, quot_fits, rem_below, fits_signed_from_abs}
use Rattle.std.proofs.lemmas.Nat.{div-add-mod', div_below, mod_below, pow_pos}
use Rattle.std.proofs.lemmas.Bool.{lt-ltb, le-ltb}
use Rattle.std.proofs.Math.Nat.{mod-le}
use lib.IntN.{*ℤ_comm}
use Rattle.stapl_lexer.specs.declared.terminal.BinOp.TheVariants.{Divide, ShiftLeft, ShiftRight}
use Rattle.stapl_meaning.specs.declared.events.RunFault.TheVariants.{ShiftCount}
use Rattle.stapl_meaning.specs.declared.values.Value.TheVariants.{Int}
use Rattle.stapl_meaning.specs.Values.{Known, Faults, divided_by, combined}
use Rattle.meaning_laws.specs.Numbers.{FitsInteger, IsWrapped, IsDivided, IsRoundedDown, least_integer, minus_one}
use Rattle.meaning_laws.specs.Outcomes.{GivesInteger, GivesDivision}
use Rattle.meaning_laws.proofs.NumberLemmas.{fits_from, wrapped_so}

divided : (b outcome : ℤ) → b ≢ pos 0 → divided_by b outcome ≡ Known (Int outcome)
divided (pos zero) outcome some = absurd (some refl)
divided (pos (suc n)) outcome some = refl
divided (negsuc n) outcome some = refl

abs_neg : (n : ℕ) → unsigned_abs (neg_ℤ (pos n)) ≡ n
abs_neg zero = refl
abs_neg (suc n) = refl

abs_quotient : (a b : ℤ) → unsigned_abs (int_div a b) ≡ unsigned_abs a / unsigned_abs b
abs_quotient (pos a) (pos b) = refl
abs_quotient (pos a) (negsuc b) = abs_neg (a / suc b)
abs_quotient (negsuc a) (pos b) = abs_neg (suc a / b)
abs_quotient (negsuc a) (negsuc b) = refl

abs_some : (b : ℤ) → b ≢ pos 0 → 0 < unsigned_abs b
abs_some (pos zero) some = absurd (some refl)
abs_some (pos (suc n)) some = omega arith
abs_some (negsuc n) some = omega arith

abs_most : (a : ℤ) → FitsInteger a → unsigned_abs a ≤ 2147483648
abs_most a h = let f = fits_from a h in by a f
  where
    by : (z : ℤ) → FitsSigned w32 z → unsigned_abs z ≤ 2147483648
    by (pos n) f = omega (arith, f.sfits)
    by (negsuc n) f = omega (arith, f.sfits)

-- a quotient fits, except that of the least integer by -1
quotient_fits : (a b : ℤ) → FitsInteger a → b ≢ pos 0 → (a ≡ least_integer → b ≢ minus_one) → FitsSigned w32 (int_div a b)
quotient_fits a (pos b) h some apart = quot_fits w32 a (pos b) (fits_from a h) (let n : 0 < b = abs_some (pos b) some in omega (arith, ints))
quotient_fits a (negsuc (suc b)) h some apart =
    fits_signed_from_abs w32 _ (subst (λ n. n < 2147483648) (sym (abs_quotient a (negsuc (suc b))))
    (div_below (unsigned_abs a) (suc (suc b)) 2147483648 (omega arith) (omega (arith, abs_most a h))))
quotient_fits (pos a) (negsuc zero) h some apart =
    fits_signed_from_abs w32 _ (subst (λ n. n < 2147483648) (sym (abs_quotient (pos a) (negsuc 0)))
    (div_below a 1 2147483648 (omega arith) (let f = fits_from (pos a) h in omega (arith, f.sfits))))
quotient_fits (negsuc a) (negsuc zero) h some apart =
    let f = fits_from (negsuc a) h in
    let other : a ≢ 2147483647 = λ e. apart (ap negsuc e) refl in
    fits_signed_from_abs w32 _ (div_below (suc a) 1 2147483648 (omega arith) (omega (arith, f.sfits, other)))

above : (a b : ℤ) → pos 0 <ℤ int_rem a b → pos 0 <ℤ a
above (pos a) b h = let most = mod-le a (unsigned_abs b) in omega (arith, ints)
above (negsuc a) b h = absurd (omega (arith, ints))

below : (a b : ℤ) → int_rem a b <ℤ pos 0 → a <ℤ pos 0
below (pos a) b h = absurd (omega (arith, ints))
below (negsuc a) b h = omega (arith, ints)

divides : (a b : ℤ) → b ≢ pos 0 → IsDivided a b (int_div a b) (int_rem a b)
divides a b some = record {
  whole = sym (ap (λ (p : ℤ). p +ℤ int_rem a b) (*ℤ_comm b (int_div a b)) ∙ quot-rem a b);
  small = rem_below a b (abs_some b some);
  above = above a b;
  below = below a b;
}

pub division : (a b : ℤ) → FitsInteger a → b ≢ pos 0 → (a ≡ least_integer → b ≢ minus_one) → GivesDivision a b
division a b h some apart = record {
  quotient = int_div a b;
  remainder = int_rem a b;
  divides = divided b (int_wrap w32 (int_div a b)) some ∙ ap (λ (z : ℤ). Known (Int z)) (int_wrap_fits w32 (int_div a b) (quotient_fits a b h some apart));
  leaves = divided b (int_rem a b) some;
  holds = divides a b some;
}

pub wraps_round : combined Divide (Int least_integer) (Int minus_one) ≡ Known (Int least_integer)
unfolding int_wrap
wraps_round = refl

pub shifted_left : (a : ℤ) (n : ℕ) → n < 32 → GivesInteger (combined ShiftLeft (Int a) (Int (pos n))) (IsWrapped (a *ℤ pos (2 ^ n)))
shifted_left a n h = record {
  number = int_wrap w32 (a *ℤ pos (2 ^ n));
  is = rw (lt-ltb n 32 h) refl;
  holds = wrapped_so (a *ℤ pos (2 ^ n));
}

rounded_down : (a : ℤ) (d : ℕ) → 0 < d → IsRoundedDown a d (int_div_euclid a (pos d))
rounded_down (pos a) d some = record { rest = a % d; whole = ap pos (sym (div-add-mod' a d)); small = mod_below a d some }
rounded_down (negsuc a) d some =
    let less = mod_below a d some in
    record { rest = d - 1 - a % d; whole = omega (arith, ints, div-add-mod' a d); small = omega arith }

pub shifted_right : (a : ℤ) (n : ℕ) → n < 32 → GivesInteger (combined ShiftRight (Int a) (Int (pos n))) (IsRoundedDown a (2 ^ n))
shifted_right a n h = record {
  number = int_div_euclid a (pos (2 ^ n));
  is = rw (lt-ltb n 32 h) refl;
  holds = rounded_down a (2 ^ n) (pow_pos n);
}

outside : (n : ℕ) → (pos n <ℤ pos 0) ⊎ (pos 31 <ℤ pos n) → 32 ≤ n
outside n (inl h) = absurd (omega (arith, ints))
outside n (inr h) = omega (arith, ints)

pub left_outside : (a n : ℤ) → (n <ℤ pos 0) ⊎ (pos 31 <ℤ n) → combined ShiftLeft (Int a) (Int n) ≡ Faults ShiftCount
left_outside a (pos n) h = let e : nat_lt n 32 ≡ false = le-ltb n 32 (outside n h) in rw e refl
left_outside a (negsuc n) h = refl

pub right_outside : (a n : ℤ) → (n <ℤ pos 0) ⊎ (pos 31 <ℤ n) → combined ShiftRight (Int a) (Int n) ≡ Faults ShiftCount
right_outside a (pos n) h = let e : nat_lt n 32 ≡ false = le-ltb n 32 (outside n h) in rw e refl
right_outside a (negsuc n) h = refl
