-- The initial values of a program, without the pieces that have none; and that these alone set up a play.
use Rattle.std.proofs.Common.{◌≡◌, List, [], ◌∷◌, ◌++◌, All, Option, Some, None, IfSome, refl, ap}
use Rattle.std.specs.List.{cons_option}
use Rattle.std.proofs.lemmas.List.Elements.{All-head, All-tail, All-nil, All-cons}
use Rattle.stapl_meaning.specs.States.{State, Turned, Leads}
use Rattle.stapl_meaning.specs.Scopes.{Played, Preset, preset_scope}
use Rattle.stapl_meaning.specs.Turns.{carried}
use Rattle.stapl_meaning.specs.Plays.{set_up}

abbrev pub given : List (Option Preset) → List Preset
given [] = []
given (o ∷ os) = cons_option o (given os)

pub given_join : (xs ys : List (Option Preset)) → given (xs ++ ys) ≡ given xs ++ given ys
given_join [] ys = refl
given_join (None ∷ xs) ys = given_join xs ys
given_join (Some p ∷ xs) ys = ap (λ (t : List Preset). p ∷ t) (given_join xs ys)

pub all_given : (P : Preset → Type 0) (os : List (Option Preset)) → All (λ o. IfSome o P) os → All P (given os)
all_given P [] h = All-nil P
all_given P (None ∷ os) h = all_given P os (All-tail (λ o. IfSome o P) None os h)
all_given P (Some p ∷ os) h =
    All-cons P p (given os) (All-head (λ o. IfSome o P) (Some p) os h) (all_given P os (All-tail (λ o. IfSome o P) (Some p) os h))

abbrev pub given_set_up : Played → List Preset → State → Turned
given_set_up program [] s = Leads [] 0 s
given_set_up program (p ∷ presets) s = carried (preset_scope program p) p.body s (given_set_up program presets)

pub set_up_given : (program : Played) (os : List (Option Preset)) (s : State) → set_up program os s ≡ given_set_up program (given os) s
set_up_given program [] s = refl
set_up_given program (None ∷ os) s = set_up_given program os s
set_up_given program (Some p ∷ os) s = λ j. carried (preset_scope program p) p.body s (λ t. set_up_given program os t j)
