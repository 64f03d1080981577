-- The first element after a front.
use Rattle.std.proofs.Common.{◌≡◌, ℕ, zero, suc, ◌+◌, ◌<◌, ◌≤◌, List, [], ◌∷◌, ◌++◌, map, drop, length, get_or, arith, refl, sym, ap, ◌∙◌}
use Rattle.stapl_code.proofs.Heads.{drop_tail}

-- what stands after so many of the first elements
pub drop_front : {A : Type 0} (k i : ℕ) (xs a b : List A) → drop i xs ≡ a ++ b → k ≤ length a → drop (i + k) xs ≡ drop k a ++ b
drop_front zero i xs a b e few = ap (λ n. drop n xs) (omega arith) ∙ e
drop_front (suc k) i xs [] b e few = absurd (omega (arith, few))
drop_front (suc k) i xs (x ∷ a) b e few =
    let next : i + suc k ≡ suc i + k = omega arith in
    ap (λ n. drop n xs) next ∙ drop_front k (suc i) xs a b (drop_tail i xs ∙ ap (drop 1) e) (omega (arith, few))

drop_at_place : {A B : Type 0} (f : A → B) (i : ℕ) (xs : List A) (d : A) → i < length xs → drop i (map f xs) ≡ f (get_or xs i d) ∷ drop (suc i) (map f xs)
drop_at_place f zero [] d below = absurd (omega (arith, below))
drop_at_place f zero (x ∷ xs) d below = refl
drop_at_place f (suc i) [] d below = absurd (omega (arith, below))
drop_at_place f (suc i) (x ∷ xs) d below = drop_at_place f i xs d (omega (arith, below))

-- what the elements from a place on are mapped to, which is not the end
pub mapped_more : {A B : Type 0} (f : A → B) (i : ℕ) (xs : List A) (x : A) → i < length xs → x ≡ get_or xs i x → drop i (map f xs) ≡ f x ∷ drop (i + 1) (map f xs)
mapped_more f i xs x below is =
    let next : suc i ≡ i + 1 = omega arith in
    drop_at_place f i xs x below
    ∙ ap (λ y. f y ∷ drop (suc i) (map f xs)) (sym is)
    ∙ ap (λ k. f x ∷ drop k (map f xs)) next
