-- The first element of what is left of a list.
use Rattle.std.proofs.Common.{◌≡◌, ℕ, zero, suc, List, [], ◌∷◌, drop, Option, Some, None, slice_get, refl}

-- the first element, if there is one
abbrev pub head_of : {A : Type 0} → List A → Option A
head_of [] = None
head_of (x ∷ xs) = Some x

pub get_head : {A : Type 0} (i : ℕ) (xs : List A) → slice_get xs i ≡ head_of (drop i xs)
get_head zero [] = refl
get_head zero (x ∷ xs) = refl
get_head (suc i) [] = refl
get_head (suc i) (x ∷ xs) = get_head i xs

pub drop_tail : {A : Type 0} (i : ℕ) (xs : List A) → drop (suc i) xs ≡ drop 1 (drop i xs)
drop_tail zero xs = refl
drop_tail (suc i) [] = refl
drop_tail (suc i) (x ∷ xs) = drop_tail i xs
