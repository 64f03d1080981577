-- The state that a wave shows is the one to which its clocks lead from each state.
use Rattle.std.proofs.Common.{◌≡◌, ◌<◌, ◌∙◌, ℕ, Bool, true, false, List, [], ◌∷◌, ◌++◌, map, Option, None, Some, refl, sym, ap, arith}
use Rattle.std.specs.Prelude.{◌==◌, ◌↔◌, if◌then◌else◌}
use Rattle.std.specs.List.{list_all}
use Rattle.std.proofs.lemmas.Bool.Decides.{nat_tests}
use Rattle.tap_states.specs.declared.Tap.{Tap}
use Rattle.tap_states.specs.declared.Tap.TheVariants.{Reset, Idle, DrSelect, DrCapture, DrShift, DrExit1, DrPause, DrExit2, DrUpdate, IrSelect, IrCapture, IrShift, IrExit1, IrPause, IrExit2, IrUpdate}
use Rattle.tap_states.specs.Tap.{next_of, tap_number}
use Rattle.tap_states.specs.Path.{walk, five_ones}
use Rattle.tap_states.proofs.States.{each, tap_eq, tap_eq-same, tap_number-injective}
use Rattle.tap_states.proofs.Shortest.{five_ones_lead}
use Rattle.pin_lines.specs.PinLines.{input_of_pin}
use Rattle.wave_tool.specs.Items.{Item, Clocked, Waited}
use Rattle.wave_tool.specs.States.{all_states, are_all, states_after, settled_state}
use Rattle.wave_tool.specs.Waves.{Wave, shown_number, first_wave, after_item, after_items}
use Rattle.wave_laws.specs.States.{tms_values, shown_after, LeadFromEach, LeadsFromReset}

-- where clocks with these values lead from some states
abbrev pub states_led : List Tap → List Bool → List Tap
states_led states [] = states
states_led states (tms ∷ values) = states_led (states_after states tms) values

states_are : (items : List Item) (w : Wave) → (after_items w items).states ≡ states_led w.states (tms_values items)
states_are [] w = refl
states_are (Clocked digit ∷ items) w = states_are items (after_item w (Clocked digit))
states_are (Waited usec ∷ items) w = states_are items (after_item w (Waited usec))

number_is : (items : List Item) (w : Wave) → w.levels.state ≡ shown_number (settled_state w.states) →
    (after_items w items).levels.state ≡ shown_number (settled_state (after_items w items).states)
number_is [] w e = e
number_is (Clocked digit ∷ items) w e = number_is items (after_item w (Clocked digit)) refl
number_is (Waited usec ∷ items) w e = number_is items (after_item w (Waited usec)) e

-- the state in which the controllers are after clocks with these values, if it is one
abbrev pub known_after : List Bool → Option Tap
known_after values = settled_state (states_led all_states values)

pub shown_is : (items : List Item) → shown_after items ≡ shown_number (known_after (tms_values items))
shown_is items =
    number_is items first_wave refl
    ∙ ap (λ states. shown_number (settled_state states)) (states_are items first_wave)

pub led_once : (states : List Tap) (values : List Bool) (tms : Bool) →
    states_led states (values ++ tms ∷ []) ≡ states_after (states_led states values) tms
led_once states [] tms = refl
led_once states (first ∷ values) tms = led_once (states_after states first) values tms

led_on : (tms : Bool) (values : List Bool) (states : List Tap) →
    map (λ from. walk from values) (states_after states tms) ≡ map (λ from. walk from (tms ∷ values)) states
led_on tms values [] = refl
led_on tms values (state ∷ states) = ap (λ t. walk state (tms ∷ values) ∷ t) (led_on tms values states)

led_nowhere : (states : List Tap) → states ≡ map (λ from. walk from []) states
led_nowhere [] = refl
led_nowhere (state ∷ states) = ap (λ t. state ∷ t) (led_nowhere states)

led_is : (values : List Bool) (states : List Tap) → states_led states values ≡ map (λ from. walk from values) states
led_is [] states = led_nowhere states
led_is (tms ∷ values) states = led_is values (states_after states tms) ∙ led_on tms values states

-- ---- a function of all states that has one value

-- the value, if it is the same for each state
abbrev one_value : (Tap → Tap) → Option Tap
one_value f = settled_state (map f all_states)

always : (f : Tap → Tap) (tap : Tap) → one_value f ≡ Some tap → (from : Tap) → f from ≡ tap
always f tap e from = by (are_all (map f all_states) (f Reset)) refl e
  where
    by : (t : Bool) → are_all (map f all_states) (f Reset) ≡ t → (if t then Some (f Reset) else None) ≡ Some tap →
        f from ≡ tap
    by true all is =
        let first : f Reset ≡ tap = cc in
        tap_eq-same (f from) (f Reset) (each (λ state. tap_eq (f state) (f Reset)) all from) ∙ first
    by false all is = absurd cc

equal_numbers : (n : ℕ) → (n == n) ≡ true
equal_numbers n = grind (arith, nat_tests)

constant : (tap : Tap) → one_value (λ _. tap) ≡ Some tap
constant tap =
    ap (λ t. if list_all (λ (_ : Tap). t) all_states then Some tap else None) (equal_numbers (tap_number tap))

always_one : (f : Tap → Tap) (tap : Tap) → ((from : Tap) → f from ≡ tap) → one_value f ≡ Some tap
always_one f tap h = ap one_value (λ j from. h from j) ∙ constant tap

pub below_16 : (tap : Tap) → tap_number tap < 16
below_16 Reset = omega arith
below_16 Idle = omega arith
below_16 DrSelect = omega arith
below_16 DrCapture = omega arith
below_16 DrShift = omega arith
below_16 DrExit1 = omega arith
below_16 DrPause = omega arith
below_16 DrExit2 = omega arith
below_16 DrUpdate = omega arith
below_16 IrSelect = omega arith
below_16 IrCapture = omega arith
below_16 IrShift = omega arith
below_16 IrExit1 = omega arith
below_16 IrPause = omega arith
below_16 IrExit2 = omega arith
below_16 IrUpdate = omega arith

no_number : (tap : Tap) → 16 ≡ tap_number tap → ⊥
no_number tap e = let less = below_16 tap in omega (arith, less, e)

is_some : (known : Option Tap) (tap : Tap) → shown_number known ≡ tap_number tap → known ≡ Some tap
is_some (Some state) tap e = ap Some (tap_number-injective state tap e)
is_some None tap e = absurd (no_number tap e)

-- where clocks with these values lead from a state
abbrev led : List Bool → Tap → Tap
led values from = walk from values

known_is : (values : List Bool) → known_after values ≡ one_value (led values)
known_is values = ap settled_state (led_is values all_states)

pub number_exactly : (values : List Bool) (tap : Tap) →
    (shown_number (known_after values) ≡ tap_number tap) ↔ LeadFromEach values tap
number_exactly values tap = (
  (λ e. always (led values) tap (sym (known_is values) ∙ is_some (known_after values) tap e)),
  (λ h. ap shown_number (known_is values ∙ always_one (led values) tap h)),
)

unknown_else : (values : List Bool) (known : Option Tap) → shown_number (known_after values) ≡ shown_number known →
    ((tap : Tap) → LeadFromEach values tap → ⊥) → shown_number (known_after values) ≡ 16
unknown_else values (Some tap) e none = absurd (none tap ((number_exactly values tap).0 e))
unknown_else values None e none = e

pub number_unknown : (values : List Bool) →
    (shown_number (known_after values) ≡ 16) ↔ ((tap : Tap) → LeadFromEach values tap → ⊥)
number_unknown values = (
  (λ e tap h. no_number tap (sym e ∙ (number_exactly values tap).1 h)),
  unknown_else values (known_after values) refl,
)

pub shown_exactly : (items : List Item) (tap : Tap) →
    (shown_after items ≡ tap_number tap) ↔ LeadFromEach (tms_values items) tap
shown_exactly items tap =
    let exactly = number_exactly (tms_values items) tap in (
      (λ e. exactly.0 (sym (shown_is items) ∙ e)),
      (λ h. shown_is items ∙ exactly.1 h),
    )

pub unknown_exactly : (items : List Item) →
    (shown_after items ≡ 16) ↔ ((tap : Tap) → LeadFromEach (tms_values items) tap → ⊥)
unknown_exactly items =
    let exactly = number_unknown (tms_values items) in (
      (λ e. exactly.0 (sym (shown_is items) ∙ e)),
      (λ none. shown_is items ∙ exactly.1 none),
    )

-- ---- from a state that is shown on

walk-append : (from : Tap) (front rest : List Bool) → walk from (front ++ rest) ≡ walk (walk from front) rest
walk-append from [] rest = refl
walk-append from (tms ∷ front) rest = walk-append (next_of from tms) front rest

values-append : (items more : List Item) → tms_values (items ++ more) ≡ tms_values items ++ tms_values more
values-append [] more = refl
values-append (Clocked digit ∷ items) more = ap (λ values. (input_of_pin digit).tms ∷ values) (values-append items more)
values-append (Waited usec ∷ items) more = values-append items more

pub stays_shown : (items more : List Item) (tap : Tap) → shown_after items ≡ tap_number tap →
    shown_after (items ++ more) ≡ tap_number (walk tap (tms_values more))
stays_shown items more tap e = (shown_exactly (items ++ more) (walk tap (tms_values more))).1 leads
  where
    leads : LeadFromEach (tms_values (items ++ more)) (walk tap (tms_values more))
    leads from =
        ap (walk from) (values-append items more) ∙ walk-append from (tms_values items) (tms_values more)
        ∙ ap (λ (state : Tap). walk state (tms_values more)) ((shown_exactly items tap).0 e from)

from_each : (values : List Bool) (tap : Tap) → LeadsFromReset values tap → LeadFromEach values tap
from_each values tap h from =
    ap (walk from) h.parts ∙ walk-append from h.front (five_ones ++ h.rest)
    ∙ walk-append (walk from h.front) five_ones h.rest
    ∙ ap (λ (state : Tap). walk state h.rest) (five_ones_lead (walk from h.front)) ∙ h.leads

pub settled_by_five_ones : (items : List Item) (tap : Tap) → LeadsFromReset (tms_values items) tap →
    shown_after items ≡ tap_number tap
settled_by_five_ones items tap h = (shown_exactly items tap).1 (from_each (tms_values items) tap h)
