-- A list of which each item stands in a relation to each later one.
use Rattle.std.proofs.Common.{◌≡◌, ℕ, ◌+◌, ◌<◌, List, [], ◌∷◌, ◌++◌, zero, suc, length, length-take, get_or, take, arith, refl, sym, ap, subst, ◌∙◌}
use Rattle.std.specs.Prelude.{All, AllPairs}
use Rattle.std.proofs.lemmas.List.{take_more, get_or-take}
use Rattle.std.proofs.lemmas.List.Quantifiers.{all_pairs_push}

pub pairs_more : {X : Type 0} (R : X → X → Type 0) (xs : List X) (i : ℕ) (y : X) → i < length xs → y ≡ get_or xs i y → AllPairs R (take i xs) →
    All (λ x. R x y) (take i xs) → AllPairs R (take (i + 1) xs)
pairs_more R xs i y h is pairs all =
    subst (AllPairs R) (sym (take_more xs i y h ∙ ap (λ z. take i xs ++ z ∷ []) (sym is))) (all_pairs_push R (take i xs) y pairs all)

same_at : {X : Type 0} (xs : List X) (i : ℕ) (d e : X) → i < length xs → get_or xs i d ≡ get_or xs i e
same_at [] i d e h = absurd (omega arith)
same_at (x ∷ xs) zero d e h = refl
same_at (x ∷ xs) (suc i) d e h = same_at xs i d e (omega arith)

pub pairs_before : {X : Type 0} (R : X → X → Type 0) (xs : List X) (i : ℕ) (y : X) → i < length xs → y ≡ get_or xs i y → AllPairs R xs → All (λ x. R x y) (take i xs)
pairs_before R xs i y h is pairs = λ k d less.
    let below : k < i = omega (arith, length-take i xs) in
    let front = get_or-take i xs k d below in
    let there = pairs k i d below h in
    subst (λ x. R x y) (sym front) (subst (R (get_or xs k d)) (same_at xs i d y h ∙ sym is) there)
