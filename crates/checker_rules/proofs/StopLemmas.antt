-- The last of some states.
use Rattle.std.proofs.Common.{◌≡◌, ℕ, ◌-◌, List, [], ◌∷◌, length, slice_get, suc, refl, ap, ◌∙◌, arith}
use Rattle.std.specs.Option.{option_to_list}
use Rattle.stapl_syntax.specs.Rules.{last_of}

pub last_as_given : (states : List ℕ) → last_of states ≡ option_to_list (slice_get states (length states - 1))
last_as_given [] = refl
last_as_given (x ∷ []) = refl
last_as_given (x ∷ y ∷ rest) =
    let e : suc (length (y ∷ rest) - 1) ≡ length (x ∷ y ∷ rest) - 1 = omega arith in
    last_as_given (y ∷ rest) ∙ ap (λ (n : ℕ). option_to_list (slice_get (x ∷ y ∷ rest) n)) e
