-- The table of paths meets the definition: a test over all pairs of states, and the induction that turns it into the
-- rule.
use Rattle.std.proofs.Common.{◌≡◌, ◌<◌, ◌≤◌, ◌^◌, Bool, true, false, ◌&&◌, ◌||◌, eqb, ltb, List, [], ◌∷◌, length, refl, sym, ap, ◌∙◌, subst, inl, inr, ◌⊎◌, arith}
use Rattle.std.specs.List.{list_all}
use Rattle.std.proofs.lemmas.Bool.{false≢true}
use Rattle.std.proofs.lemmas.Bool.Decides.{nat_tests}
use Rattle.tap_states.specs.declared.Tap.{Tap}
use Rattle.tap_states.specs.declared.Tap.TheVariants.{Reset}
use Rattle.tap_states.specs.Tap.{next_of}
use Rattle.base.specs.Bits.{low_bits}
use Rattle.tap_states.specs.Path.{walk, Leads, IsShortestPath, IsPath, five_ones, path_of}
use Rattle.tap_states.specs.PathTable.{path_in_table, path_row}
use Rattle.tap_states.proofs.States.{taps, each, tap_eq, tap_eq-same}
use Rattle.tap_states.proofs.ListOrder.{not_after, same_from_tests, better, Better, Better-trans, Better-cons, Better-from_test, no_longer, no_later, no_other_before, same_from_order}

abbrev is_reset : Tap → Bool
is_reset t = tap_eq t Reset

-- what the table is tested for at a pair of states
abbrev leads_there : Tap → Tap → Bool
leads_there t s = tap_eq (walk s (path_in_table s t)) t

abbrev no_better_start : Tap → Tap → Bool
no_better_start t s =
    better (path_in_table s t) (false ∷ path_in_table (next_of s false) t) && better (path_in_table s t) (true ∷ path_in_table (next_of s true) t)

abbrev is_table_right : Tap → Bool
is_table_right t = is_reset t || (eqb (length (path_in_table t t)) 0 && (list_all (leads_there t) taps && list_all (no_better_start t) taps))

table_right : list_all is_table_right taps ≡ true
table_right = refl

-- the lengths of the rows, and that they have no bit above
abbrev has_short_len : Tap → Tap → Bool
has_short_len s t = ltb (path_row s t).len 9

abbrev has_no_more_bits : Tap → Tap → Bool
has_no_more_bits s t = ltb (path_row s t).bits (2 ^ (path_row s t).len)

abbrev is_short : Tap → Bool
is_short s = list_all (λ t. has_short_len s t && has_no_more_bits s t) taps

all_short : list_all is_short taps ≡ true
all_short = refl

pub both_first : (a b : Bool) → (a && b) ≡ true → a ≡ true
both_first true b h = refl
both_first false b h = cc

pub both_second : (a b : Bool) → (a && b) ≡ true → b ≡ true
both_second true b h = h
both_second false b h = cc

either_second : (a b : Bool) → (a || b) ≡ true → a ≡ false → b ≡ true
either_second true b h k = cc
either_second false b h k = h

no_bits : (p : List Bool) → length p ≡ 0 → p ≡ []
no_bits [] h = refl
no_bits (b ∷ p) h = absurd (omega arith)

module _ (t : Tap) (not_reset : is_reset t ≡ false) where
  tested : (eqb (length (path_in_table t t)) 0 && (list_all (leads_there t) taps && list_all (no_better_start t) taps)) ≡ true
  tested = either_second (is_reset t) _ (each is_table_right table_right t) not_reset

  stay : path_in_table t t ≡ []
  stay =
      let e : eqb (length (path_in_table t t)) 0 ≡ true = both_first _ _ tested in
      no_bits (path_in_table t t) (grind (arith, nat_tests))

  leads : (s : Tap) → walk s (path_in_table s t) ≡ t
  leads s = tap_eq-same _ _ (each (leads_there t) (both_first _ (list_all (no_better_start t) taps) (both_second _ _ tested)) s)

  step : (s : Tap) (b : Bool) → Better (path_in_table s t) (b ∷ path_in_table (next_of s b) t)
  step s false = Better-from_test _ _ (both_first _ _ (each (no_better_start t) (both_second _ _ (both_second _ _ tested)) s))
  step s true = Better-from_test _ _ (both_second _ _ (each (no_better_start t) (both_second _ _ (both_second _ _ tested)) s))

  best : (q : List Bool) (s : Tap) → walk s q ≡ t → Better (path_in_table s t) q
  best [] s h = let e : path_in_table s t ≡ [] = ap (λ x. path_in_table x t) h ∙ stay in inr (ap length e, ap (λ p. not_after p []) e)
  best (b ∷ q) s h = Better-trans _ _ _ (step s b) (Better-cons b _ _ (best q (next_of s b) h))

  shortest_path : (s : Tap) → IsShortestPath s t (path_in_table s t)
  shortest_path s = record {
    leads = leads s;
    shortest = λ q h. no_longer _ q (best q s h);
    first = λ q h e. no_other_before _ q (no_later _ q (best q s h) e);
  }

-- the rows to reset
abbrev is_reset_row : Tap → Bool
is_reset_row s = eqb (path_row s Reset).len 5 && eqb (path_row s Reset).bits 31

to_reset : (s : Tap) → path_in_table s Reset ≡ five_ones
to_reset s =
    let test : is_reset_row s ≡ true = each is_reset_row refl s in
    let first : eqb (path_row s Reset).len 5 ≡ true = both_first (eqb (path_row s Reset).len 5) (eqb (path_row s Reset).bits 31) test in
    let second : eqb (path_row s Reset).bits 31 ≡ true = both_second (eqb (path_row s Reset).len 5) (eqb (path_row s Reset).bits 31) test in
    let len : (path_row s Reset).len ≡ 5 = grind (arith, nat_tests) in
    let bits : (path_row s Reset).bits ≡ 31 = grind (arith, nat_tests) in
    ap (λ n. low_bits n (path_row s Reset).bits) len ∙ ap (λ x. low_bits 5 x) bits

pub five_ones_lead : (s : Tap) → Leads s five_ones Reset
five_ones_lead s = tap_eq-same _ _ (each (λ x. tap_eq (walk x five_ones) Reset) refl s)

-- a state is reset or is not
reset_or_not : (t : Tap) → (t ≡ Reset) ⊎ (is_reset t ≡ false)
reset_or_not t =
    let P : Bool → Type 0 = λ b. is_reset t ≡ b → (t ≡ Reset) ⊎ (is_reset t ≡ false) in
    let q : (b : Bool) → P b = λ b. elim b as P [ true ↦ λ e. inl (tap_eq-same t Reset e) | false ↦ λ e. inr e ] in
    q (is_reset t) refl

no_reset : (t : Tap) → is_reset t ≡ false → ¬ (t ≡ Reset)
no_reset t h e = false≢true (sym h ∙ ap is_reset e)

not_reset_from : (t : Tap) → ¬ (t ≡ Reset) → (t ≡ Reset) ⊎ (is_reset t ≡ false) → is_reset t ≡ false
not_reset_from t h (inl e) = absurd (h e)
not_reset_from t h (inr e) = e

not_reset_test : (t : Tap) → ¬ (t ≡ Reset) → is_reset t ≡ false
not_reset_test t h = not_reset_from t h (reset_or_not t)

pub table_is_path : (s t : Tap) → IsPath s t (path_in_table s t)
table_is_path s t = record {
  to_reset = λ e. ap (λ x. path_in_table s x) e ∙ to_reset s;
  elsewhere = λ h. shortest_path t (not_reset_test t h) s;
}

-- the path by its definition is the one of the table
abbrev is_in_table : Tap → Tap → Bool
is_in_table s t = not_after (path_in_table s t) (path_of s t) && not_after (path_of s t) (path_in_table s t)

all_in_table : list_all (λ s. list_all (is_in_table s) taps) taps ≡ true
all_in_table = refl

pub path_is_in_table : (s t : Tap) → path_in_table s t ≡ path_of s t
path_is_in_table s t =
    let test : is_in_table s t ≡ true = each (is_in_table s) (each (λ x. list_all (is_in_table x) taps) all_in_table s) t in
    let first : not_after (path_in_table s t) (path_of s t) ≡ true = both_first _ _ test in
    same_from_tests (path_in_table s t) (path_of s t) first (both_second _ _ test)

pub is_path : (s t : Tap) → IsPath s t (path_of s t)
is_path s t = subst (λ p. IsPath s t p) (path_is_in_table s t) (table_is_path s t)

leads_to : (s t : Tap) (bits : List Bool) → IsPath s t bits → (t ≡ Reset) ⊎ (is_reset t ≡ false) → Leads s bits t
leads_to s t bits p (inl e) = ap (λ z. walk s z) (p.to_reset e) ∙ five_ones_lead s ∙ sym e
leads_to s t bits p (inr h) = (p.elsewhere (no_reset t h)).leads

pub path_leads : (s t : Tap) (bits : List Bool) → IsPath s t bits → Leads s bits t
path_leads s t bits p = leads_to s t bits p (reset_or_not t)

one_path : (s t : Tap) (p q : List Bool) → IsPath s t p → IsPath s t q → (t ≡ Reset) ⊎ (is_reset t ≡ false) → p ≡ q
one_path s t p q h k (inl e) = h.to_reset e ∙ sym (k.to_reset e)
one_path s t p q h k (inr n) =
    let a : IsShortestPath s t p = h.elsewhere (no_reset t n) in
    let b : IsShortestPath s t q = k.elsewhere (no_reset t n) in
    let le : length p ≤ length q = a.shortest q b.leads in
    let ge : length q ≤ length p = b.shortest p a.leads in
    same_from_order p q (omega arith) (b.first p a.leads (omega arith)) (a.first q b.leads (omega arith))

pub at_most_one_path : (s t : Tap) (p q : List Bool) → IsPath s t p → IsPath s t q → p ≡ q
at_most_one_path s t p q h k = one_path s t p q h k (reset_or_not t)

pub path_to_itself : (s : Tap) → ¬ (s ≡ Reset) → IsPath s s []
path_to_itself s h = subst (λ z. IsPath s s z) (stay s (not_reset_test s h)) (table_is_path s s)

fits_of : (s t : Tap) → (has_short_len s t && has_no_more_bits s t) ≡ true
fits_of s t = each (λ t. has_short_len s t && has_no_more_bits s t) (each is_short all_short s) t

pub path_is_short : (s t : Tap) → (path_row s t).len ≤ 8
path_is_short s t =
    let e : ltb (path_row s t).len 9 ≡ true = both_first (has_short_len s t) (has_no_more_bits s t) (fits_of s t) in
    grind (arith, nat_tests)

pub path_has_no_more_bits : (s t : Tap) → (path_row s t).bits < 2 ^ (path_row s t).len
path_has_no_more_bits s t =
    let e : ltb (path_row s t).bits (2 ^ (path_row s t).len) ≡ true = both_second (has_short_len s t) (has_no_more_bits s t) (fits_of s t) in
    grind (arith, nat_tests)
