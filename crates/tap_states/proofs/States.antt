-- The sixteen states: by their numbers, and what a test shows of all of them.
use Rattle.std.proofs.Common.{◌≡◌, ◌<◌, ℕ, Bool, true, false, eqb, List, [], ◌∷◌, get_or, refl, sym, ap, ◌∙◌, arith}
use Rattle.std.specs.List.{list_all}
use Rattle.std.proofs.lemmas.List.Folds.{list_all_at}
use Rattle.std.proofs.lemmas.Bool.Decides.{nat_tests}
use Rattle.tap_states.specs.declared.Tap.{Tap}
use Rattle.tap_states.specs.declared.Tap.TheVariants.{Reset, Idle, DrSelect, DrCapture, DrShift, DrExit1, DrPause, DrExit2, DrUpdate, IrSelect, IrCapture, IrShift, IrExit1, IrPause, IrExit2, IrUpdate}
use Rattle.tap_states.specs.Tap.{tap_number}

-- all states, by their numbers
abbrev pub taps : List Tap
taps = Reset ∷ Idle ∷ DrSelect ∷ DrCapture ∷ DrShift ∷ DrExit1 ∷ DrPause ∷ DrExit2 ∷ DrUpdate ∷ IrSelect ∷ IrCapture ∷ IrShift ∷ IrExit1 ∷ IrPause ∷ IrExit2 ∷ IrUpdate ∷ []

-- what a test shows at each place of the list
every : (p : Tap → Bool) → list_all p taps ≡ true → (i : ℕ) → i < 16 → p (get_or taps i Reset) ≡ true
every p all i h =
    let P : Bool → Type 0 = λ b. p (get_or taps i Reset) ≡ b → p (get_or taps i Reset) ≡ true in
    let q : (b : Bool) → P b = λ b. elim b as P [ true ↦ λ e. e | false ↦ λ e. (let f = list_all_at p taps i Reset h e in cc) ] in
    q (p (get_or taps i Reset)) refl

-- what a test shows of each state
pub each : (p : Tap → Bool) → list_all p taps ≡ true → (s : Tap) → p s ≡ true
each p all Reset = every p all 0 (omega arith)
each p all Idle = every p all 1 (omega arith)
each p all DrSelect = every p all 2 (omega arith)
each p all DrCapture = every p all 3 (omega arith)
each p all DrShift = every p all 4 (omega arith)
each p all DrExit1 = every p all 5 (omega arith)
each p all DrPause = every p all 6 (omega arith)
each p all DrExit2 = every p all 7 (omega arith)
each p all DrUpdate = every p all 8 (omega arith)
each p all IrSelect = every p all 9 (omega arith)
each p all IrCapture = every p all 10 (omega arith)
each p all IrShift = every p all 11 (omega arith)
each p all IrExit1 = every p all 12 (omega arith)
each p all IrPause = every p all 13 (omega arith)
each p all IrExit2 = every p all 14 (omega arith)
each p all IrUpdate = every p all 15 (omega arith)

tap_of_number : (t : Tap) → get_or taps (tap_number t) Reset ≡ t
tap_of_number Reset = refl
tap_of_number Idle = refl
tap_of_number DrSelect = refl
tap_of_number DrCapture = refl
tap_of_number DrShift = refl
tap_of_number DrExit1 = refl
tap_of_number DrPause = refl
tap_of_number DrExit2 = refl
tap_of_number DrUpdate = refl
tap_of_number IrSelect = refl
tap_of_number IrCapture = refl
tap_of_number IrShift = refl
tap_of_number IrExit1 = refl
tap_of_number IrPause = refl
tap_of_number IrExit2 = refl
tap_of_number IrUpdate = refl

pub tap_number-injective : (s t : Tap) → tap_number s ≡ tap_number t → s ≡ t
tap_number-injective s t n = sym (tap_of_number s) ∙ ap (λ k. get_or taps k Reset) n ∙ tap_of_number t

-- whether two states are one
abbrev pub tap_eq : Tap → Tap → Bool
tap_eq s t = eqb (tap_number s) (tap_number t)

pub tap_eq-same : (s t : Tap) → tap_eq s t ≡ true → s ≡ t
tap_eq-same s t h = let n : tap_number s ≡ tap_number t = grind (arith, nat_tests) in tap_number-injective s t n
