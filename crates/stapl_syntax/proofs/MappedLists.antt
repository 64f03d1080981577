-- Tests of the items of lists that were mapped or joined.
use Rattle.std.proofs.Common.{◌≡◌, ℕ, ◌+◌, Bool, List, [], ◌∷◌, Option, Some, map, cond, ◌||◌, refl, ap}
use Rattle.std.specs.List.{list_any, position_from}
pub use Rattle.std.proofs.lemmas.List.Folds.{list_all-map, list_any-append}

pub any_mapped : {A B : Type 0} (test : B → Bool) (f : A → B) (xs : List A) →
    list_any test (map f xs) ≡ list_any (λ x. test (f x)) xs
any_mapped test f [] = refl
any_mapped test f (x ∷ xs) = ap (λ (z : Bool). test (f x) || z) (any_mapped test f xs)

-- the first of the items that passes
pub position_mapped : {A B : Type 0} (test : B → Bool) (f : A → B) (n : ℕ) (xs : List A) →
    position_from (λ x. test (f x)) n xs ≡ position_from test n (map f xs)
position_mapped test f n [] = refl
position_mapped test f n (x ∷ xs) =
    ap (λ (z : Option ℕ). cond (test (f x)) (Some n) z) (position_mapped test f (n + 1) xs)

pub ruleset mapped_lists = (list_all-map, any_mapped)

pub ruleset joined_lists = (list_any-append)
