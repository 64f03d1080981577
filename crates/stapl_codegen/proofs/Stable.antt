-- The states in which a typed statement leaves the chain are stable.
use Rattle.std.proofs.Common.{◌≡◌, ℕ, suc, ◌-◌, Bool, true, false, not, ◌||◌, ◌&&◌, List, [], ◌∷◌, ◌++◌, length, map, Option, Some, None, arith, refl, ap, ◌∙◌, eqb-true}
use Rattle.std.specs.Prelude.{nat_eq, slice_get}
use Rattle.std.specs.List.{list_any}
use Rattle.std.specs.Option.{option_to_list}
use Rattle.stapl_syntax.specs.Rules.{is_stable, last_of}
use Rattle.tap_states.specs.declared.Tap.{Tap}
use Rattle.tap_states.specs.Tap.{is_stable_state}
use Rattle.stapl_meaning.specs.Turns.{tap_of, tap_or_idle}
use Rattle.stapl_code.specs.Valid.{is_stable_if, ends_stable}

-- the state of a stable number
stable_tap : (n : ℕ) → is_stable n ≡ true → is_stable_state (tap_of n) ≡ true
stable_tap n h = by (nat_eq n 0) (nat_eq n 1) (nat_eq n 6) (nat_eq n 13) refl refl refl refl h
  where
    at : (m : ℕ) → is_stable_state (tap_of m) ≡ true → nat_eq n m ≡ true → is_stable_state (tap_of n) ≡ true
    at m good e = ap (λ k. is_stable_state (tap_of k)) (eqb-true n m e) ∙ good

    by : (a b c d : Bool) → nat_eq n 0 ≡ a → nat_eq n 1 ≡ b → nat_eq n 6 ≡ c → nat_eq n 13 ≡ d → (a || b || c || d) ≡ true → is_stable_state (tap_of n) ≡ true
    by true b c d e f g i h = at 0 refl e
    by false true c d e f g i h = at 1 refl f
    by false false true d e f g i h = at 6 refl g
    by false false false true e f g i h = at 13 refl i
    by false false false false e f g i h = absurd cc

-- none of these numbers is that of a state that is not stable
abbrev AreStable : List ℕ → Type 0
AreStable numbers = list_any (λ n. not (is_stable n)) numbers ≡ false

first_stable : (n : ℕ) (rest : List ℕ) → AreStable (n ∷ rest) → (is_stable n ≡ true) × AreStable rest
first_stable n rest h = by (is_stable n) h
  where
    by : (b : Bool) → (not b || list_any (λ n. not (is_stable n)) rest) ≡ false → (b ≡ true) × AreStable rest
    by true h = (refl, h)
    by false h = absurd cc

-- the state in which scans end
pub one_stable : (state : ℕ) → AreStable (state ∷ []) → is_stable_state (tap_of state) ≡ true
one_stable state h = stable_tap state (first_stable state [] h).0

-- the last state of a STATE
pub last_stable : (states : List ℕ) → AreStable (last_of states) → ends_stable (map tap_of states) ≡ true
last_stable [] h = refl
last_stable (x ∷ []) h = stable_tap x (first_stable x [] h).0
last_stable (x ∷ y ∷ xs) h =
    let rest : List Tap = map tap_of (y ∷ xs) in
    let next : length (tap_of x ∷ rest) - 1 ≡ suc (length rest - 1) = omega arith in
    ap (λ i. is_stable_if (slice_get (tap_of x ∷ rest) i)) next ∙ last_stable (y ∷ xs) h

-- both states of a WAIT; one that is not written is IDLE
pub both_stable : (state end : Option ℕ) → AreStable (option_to_list state ++ option_to_list end) → (is_stable_state (tap_or_idle state) && is_stable_state (tap_or_idle end)) ≡ true
both_stable None None h = refl
both_stable None (Some n) h = stable_tap n (first_stable n [] h).0
both_stable (Some n) None h = ap (λ b. b && true) (stable_tap n (first_stable n [] h).0)
both_stable (Some n) (Some m) h =
    let own = first_stable n (m ∷ []) h in
    ap (λ b. b && is_stable_state (tap_of m)) (stable_tap n own.0) ∙ stable_tap m (first_stable m [] own.1).0
