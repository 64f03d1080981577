-- States by their numbers.
use Rattle.std.proofs.Common.{◌≡◌, ℕ, ◌+◌, ◌<◌, ◌≤◌, List, [], ◌∷◌, ◌++◌, length, map, drop, slice_index_or, refl, sym, ap, append_assoc, ◌∙◌}
use Rattle.std.proofs.lemmas.Grind.{get_or_default_zero}
use Rattle.std.proofs.lemmas.List.{get_or_past}
use Rattle.tap_states.specs.declared.Tap.{Tap}
use Rattle.tap_states.specs.declared.Tap.TheVariants.{Reset, Idle, DrSelect, DrCapture, DrShift, DrExit1, DrPause, DrExit2, DrUpdate, IrSelect, IrCapture, IrShift, IrExit1, IrPause, IrExit2, IrUpdate}
use Rattle.tap_states.specs.Tap.{tap_number}
use Rattle.stapl_meaning.specs.Turns.{taps_in_order, tap_of}
use Rattle.stapl_codegen.proofs.Heads.{mapped_more}

of_number : (t : Tap) → tap_of (tap_number t) ≡ t
of_number Reset = refl
of_number Idle = refl
of_number DrSelect = refl
of_number DrCapture = refl
of_number DrShift = refl
of_number DrExit1 = refl
of_number DrPause = refl
of_number DrExit2 = refl
of_number DrUpdate = refl
of_number IrSelect = refl
of_number IrCapture = refl
of_number IrShift = refl
of_number IrExit1 = refl
of_number IrPause = refl
of_number IrExit2 = refl
of_number IrUpdate = refl

-- the state that has a number, and one that none has
pub tap_of_number : (t : Tap) (n : ℕ) → tap_number t ≡ n → t ≡ tap_of n
tap_of_number t n is = sym (of_number t) ∙ ap tap_of is

pub no_tap : (n : ℕ) → 16 ≤ n → tap_of n ≡ Reset
no_tap n past = get_or_past taps_in_order n Reset past

-- the states of the first numbers, and one state more
pub taps_more : (numbers : List ℕ) (i : ℕ) (old new : List Tap) (t : Tap) → i < length numbers → old ++ drop i (map tap_of numbers) ≡ map tap_of numbers →
    new ≡ old ++ t ∷ [] → t ≡ tap_of (slice_index_or numbers i 0) → new ++ drop (i + 1) (map tap_of numbers) ≡ map tap_of numbers
taps_more numbers i old new t below so_far more is =
    let all : List Tap = map tap_of numbers in
    let number : ℕ = slice_index_or numbers i 0 in
    let first : drop i all ≡ tap_of number ∷ drop (i + 1) all = mapped_more tap_of i numbers number below (sym (get_or_default_zero numbers i number below)) in
    ap (λ l. l ++ drop (i + 1) all) more
    ∙ append_assoc old (t ∷ []) (drop (i + 1) all)
    ∙ ap (λ y. old ++ y ∷ drop (i + 1) all) is
    ∙ sym (ap (λ l. old ++ l) first)
    ∙ so_far
