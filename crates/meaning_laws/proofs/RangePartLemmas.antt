-- The parts of an array that the tests of a range give, under each profile
use Rattle.std.proofs.Common.{◌≡◌, ℕ, ◌+◌, ◌-◌, ◌<◌, ◌≤◌, ◌⊎◌, inl, inr, Bool, true, false, ℤ, pos, negsuc, refl, arith, nat_lt, nat_le, ◌&&◌}
use Rattle.std.proofs.Math.Facts.{ltb_yes, leb_yes}
use Rattle.std.proofs.lemmas.Bool.{lt-ltb, le-ltb, le-leb, lt-leb}
use Rattle.stapl_meaning.specs.declared.profiles.Profile.{Profile}
use Rattle.stapl_meaning.specs.declared.profiles.Profile.TheVariants.{One, Two}
use Rattle.stapl_meaning.specs.declared.events.RunFault.TheVariants.{IndexOutOfRange, RangeReversed}
use Rattle.stapl_meaning.specs.Values.{Known, Faults, is_index, Span, rising_span, span_between}
use Rattle.meaning_laws.specs.Places.{IsNoIndex}

-- the part of places that go upwards, and that of places that go downwards
abbrev pub part_up : (first second : ℕ) → Span
part_up first second = record { low = second; count = first + 1 - second; falls = false }

abbrev pub part_down : (first second : ℕ) → Span
part_down first second = record { low = first; count = second + 1 - first; falls = true }

module _ (profile : Profile) (n first second : ℕ) (first_in : first < n) (second_in : second < n) where
  pub up_known : second ≤ first → span_between profile n (pos first) (pos second) ≡ Known (part_up first second)
  up_known below =
      let e : nat_lt first n ≡ true = lt-ltb first n first_in in
      let f : nat_lt second n ≡ true = lt-ltb second n second_in in
      let g : nat_le second first ≡ true = le-leb second first below in
      rw e (rw f (rw g refl))

  pub down_known : first < second → span_between profile n (pos first) (pos second) ≡ rising_span profile first second
  down_known above =
      let e : nat_lt first n ≡ true = lt-ltb first n first_in in
      let f : nat_lt second n ≡ true = lt-ltb second n second_in in
      let g : nat_le second first ≡ false = lt-leb second first above in
      rw e (rw f (rw g refl))

pub profiles_agree : (n first second : ℕ) → first < n → second < n → second ≤ first →
    span_between One n (pos first) (pos second) ≡ span_between Two n (pos first) (pos second)
profiles_agree n first second first_in second_in below = rw (up_known One n first second first_in second_in below, up_known Two n first second first_in second_in below)

pub one_reversed : (n first second : ℕ) → first < n → second < n → first < second → span_between One n (pos first) (pos second) ≡ Faults RangeReversed
one_reversed n first second first_in second_in above = down_known One n first second first_in second_in above

not_index : (n : ℕ) (z : ℤ) → IsNoIndex n z → is_index z n ≡ false
not_index n (pos i) (inl h) = let below : i < 0 = ltb_yes h.lt in absurd (omega (arith, below))
not_index n (pos i) (inr h) = le-ltb i n (leb_yes h.le)
not_index n (negsuc i) h = refl

pub no_index : (profile : Profile) (n : ℕ) (first second : ℤ) → IsNoIndex n first ⊎ IsNoIndex n second →
    span_between profile n first second ≡ Faults IndexOutOfRange
no_index profile n first second (inl out) = let e : is_index first n ≡ false = not_index n first out in rw e refl
no_index profile n first second (inr out) = let e : is_index second n ≡ false = not_index n second out in rw (e, and_false (is_index first n))
  where
    and_false : (b : Bool) → b && false ≡ false
    and_false true = refl
    and_false false = refl
