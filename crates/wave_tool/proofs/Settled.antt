-- States that are one, as the code keeps them.
use Rattle.std.proofs.Common.{◌≡◌, Bool, true, false, List, [], ◌∷◌, length, map, None, Some, refl, ap, sym, subst, ◌∙◌, arith}
use Rattle.std.specs.Prelude.{◌==◌, if◌then◌else◌}
use Rattle.std.proofs.lemmas.Bool.{and_parts}
use Rattle.tap_states.specs.declared.Tap.{Tap}
use Rattle.tap_states.specs.Tap.{tap_number}
use Rattle.tap_states.proofs.States.{tap_eq-same}
use Rattle.wave_tool.specs.States.{all_states, are_all, settled_state}

-- they are the one so many times
repeated : (state : Tap) (states : List Tap) → are_all states state ≡ true → map (λ _. state) states ≡ states
repeated state [] e = refl
repeated state (other ∷ states) e =
    let parts = and_parts (tap_number other == tap_number state) (are_all states state) e in
    ap (λ s. s ∷ map (λ _. state) states) (sym (tap_eq-same other state parts.0))
    ∙ ap (λ t. other ∷ t) (repeated state states parts.1)

as_often : (state : Tap) (a b : List Tap) → length a ≡ length b → map (λ _. state) a ≡ map (λ _. state) b
as_often state [] [] e = refl
as_often state [] (y ∷ b) e = absurd cc
as_often state (x ∷ a) [] e = absurd cc
as_often state (x ∷ a) (y ∷ b) e = ap (λ t. state ∷ t) (as_often state a b (omega (arith, e)))

all_settled : (states : List Tap) (state : Tap) → settled_state states ≡ Some state → are_all states state ≡ true
all_settled [] state e = absurd cc
all_settled (first ∷ others) state e = by (are_all (first ∷ others) first) refl e
  where
    by : (t : Bool) → are_all (first ∷ others) first ≡ t → (if t then Some first else None) ≡ Some state →
        are_all (first ∷ others) state ≡ true
    by true all is = let same : first ≡ state = cc in subst (λ s. are_all (first ∷ others) s ≡ true) same all
    by false all is = absurd cc

pub one_state_is : (states : List Tap) (state : Tap) → length states ≡ 16 → settled_state states ≡ Some state →
    map (λ _. state) all_states ≡ states
one_state_is states state long e =
    as_often state all_states states (sym long) ∙ repeated state states (all_settled states state e)
