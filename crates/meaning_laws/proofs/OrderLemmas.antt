-- Comparisons as orders
use Rattle.std.proofs.Common.{◌≡◌, ◌<◌, ◌≤◌, ◌⊎◌, inl, inr, ⊎_elim, ◌+◌, ◌-◌, ℤ, true, not, sym, arith}
use Rattle.std.specs.Int.RustNames.{int_lt, int_le}
use Rattle.std.specs.Ordering.{int_eq}
use Rattle.std.proofs.lemmas.Int.{ints}
use Rattle.std.proofs.lemmas.Bool.{cases_lt}
use borrow.Author.Differences.{up, down}
use Rattle.meaning_laws.specs.Numbers.{IsBelow}

pub below_so : (a b : ℤ) → (int_lt a b ≡ true → IsBelow a b) × (IsBelow a b → int_lt a b ≡ true)
below_so a b = (λ e. record { more = up b + down a - up a - down b - 1; is = omega (arith, ints) }, λ h. let e = h.is in sym (let t : true ≡ int_lt a b = omega (arith, ints) in t))

order : (a b : ℤ) → IsBelow a b ⊎ (a ≡ b) ⊎ IsBelow b a
order a b = by (cases_lt (up a + down b) (up b + down a)) (cases_lt (up b + down a) (up a + down b))
  where
    by : (up a + down b < up b + down a) ⊎ (up b + down a ≤ up a + down b) → (up b + down a < up a + down b) ⊎ (up a + down b ≤ up b + down a)
        → IsBelow a b ⊎ (a ≡ b) ⊎ IsBelow b a
    by (inl less) other = inl (record { more = up b + down a - up a - down b - 1; is = omega (arith, ints) })
    by (inr most) (inl less) = inr (inr (record { more = up a + down b - up b - down a - 1; is = omega (arith, ints) }))
    by (inr most) (inr least) = inr (inl (omega (arith, ints)))

pub at_most_so : (a b : ℤ) → (int_le a b ≡ true → IsBelow a b ⊎ (a ≡ b)) × (IsBelow a b ⊎ (a ≡ b) → int_le a b ≡ true)
at_most_so a b = (to, from)
  where
    to : int_le a b ≡ true → IsBelow a b ⊎ (a ≡ b)
    to e = by (order a b)
      where
        by : IsBelow a b ⊎ (a ≡ b) ⊎ IsBelow b a → IsBelow a b ⊎ (a ≡ b)
        by (inl less) = inl less
        by (inr (inl same)) = inr same
        by (inr (inr more)) = let f = more.is in absurd (omega (arith, ints))

    from : IsBelow a b ⊎ (a ≡ b) → int_le a b ≡ true
    from (inl less) = let f = less.is in sym (let t : true ≡ int_le a b = omega (arith, ints) in t)
    from (inr same) = sym (let t : true ≡ int_le a b = omega (arith, ints) in t)

pub at_least_so : (a b : ℤ) → (int_le b a ≡ true → IsBelow b a ⊎ (a ≡ b)) × (IsBelow b a ⊎ (a ≡ b) → int_le b a ≡ true)
at_least_so a b =
    let both = at_most_so b a in
    (λ e. ⊎_elim inl (λ same. inr (sym same)) (both.0 e), λ h. both.1 (⊎_elim inl (λ same. inr (sym same)) h))

pub equal_so : (a b : ℤ) → (int_eq a b ≡ true → a ≡ b) × (a ≡ b → int_eq a b ≡ true)
equal_so a b = (λ e. grind (arith, ints), λ e. grind (arith, ints))

pub apart_so : (a b : ℤ) → (not (int_eq a b) ≡ true → ¬ (a ≡ b)) × (¬ (a ≡ b) → not (int_eq a b) ≡ true)
apart_so a b = (λ e. grind (arith, ints), λ e. grind (arith, ints))
