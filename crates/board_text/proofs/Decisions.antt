-- Facts that hold or do not hold.
use Rattle.std.proofs.Common.{◌≡◌, ◌≢◌, ◌<◌, ◌≤◌, ℕ, zero, suc, List, [], ◌∷◌, length, get_or, refl, sym, subst, Option, Some, None, IsSomeAnd, All, arith, ◌⊎◌, inl, inr}
use Rattle.std.specs.Prelude.{AllPairs, Contains}
use Rattle.std.specs.List.{Any}
use Rattle.std.specs.Option.{ForSome}
use Rattle.std.proofs.lemmas.Bool.{cases_lt, cases_eq}
use Rattle.std.proofs.lemmas.List.Elements.{All-nil, All-cons}
use Rattle.std.proofs.lemmas.List.Kept.{AllPairs-cons}

abbrev pub IsDecided : Type 0 → Type 0
IsDecided P = P ⊎ ¬ P

-- what is not refuted holds
pub holds_or_absurd : {P : Type 0} → IsDecided P → ¬ ¬ P → P
holds_or_absurd (inl p) n = p
holds_or_absurd (inr q) n = absurd (n q)

pub not_or_yes : {P : Type 0} → IsDecided P → IsDecided (¬ P)
not_or_yes (inl p) = inr (λ n. n p)
not_or_yes (inr n) = inl n

pub both_or_not : {P Q : Type 0} → IsDecided P → IsDecided Q → IsDecided (P × Q)
both_or_not (inl p) (inl q) = inl (p, q)
both_or_not (inl p) (inr n) = inr (λ h. n h.1)
both_or_not (inr n) q = inr (λ h. n h.0)

pub either_or_not : {P Q : Type 0} → IsDecided P → IsDecided Q → IsDecided (P ⊎ Q)
either_or_not (inl p) q = inl (inl p)
either_or_not (inr n) (inl q) = inl (inr q)
either_or_not {P} {Q} (inr n) (inr m) = inr neither
  where
    neither : P ⊎ Q → ⊥
    neither (inl p) = n p
    neither (inr q) = m q

pub below_or_not : (a b : ℕ) → IsDecided (a < b)
below_or_not a b = elim (cases_lt a b) [ inl lt ↦ inl lt | inr ge ↦ inr (λ h. omega arith) ]

pub at_most_or_not : (a b : ℕ) → IsDecided (a ≤ b)
at_most_or_not a b = elim (cases_lt b a) [ inl lt ↦ inr (λ h. omega arith) | inr ge ↦ inl ge ]

pub for_some_or_not : {A : Type 0} (o : Option A) (P : A → Type 0) → ((x : A) → IsDecided (P x)) → IsDecided (ForSome o P)
for_some_or_not None P decide = inl (λ x e. absurd cc)
for_some_or_not {A} (Some a) P decide = elim (decide a) [
  | inl p ↦ inl (λ x e. let same : a ≡ x = cc in subst P same p)
  | inr n ↦ inr (λ h. n (h a refl))
]

pub some_and_or_not : {A : Type 0} (o : Option A) (P : A → Type 0) → ((x : A) → IsDecided (P x)) → IsDecided (IsSomeAnd o P)
some_and_or_not None P decide = inr (λ h. h)
some_and_or_not (Some x) P decide = decide x

pub none_or_not : {A : Type 0} (o : Option A) → IsDecided (o ≡ None)
none_or_not None = inl refl
none_or_not (Some x) = inr (λ e. cc)

pub nil_or_not : {A : Type 0} (xs : List A) → IsDecided (xs ≡ [])
nil_or_not [] = inl refl
nil_or_not (x ∷ xs) = inr (λ e. cc)

-- of each element
all_after : {X : Type 0} (P : X → Type 0) (x : X) (xs : List X) → All P (x ∷ xs) → All P xs
all_after P x xs all k d lt = all (suc k) d (omega arith)

pub all_or_not : {X : Type 0} (P : X → Type 0) → ((x : X) → IsDecided (P x)) → (xs : List X) → IsDecided (All P xs)
all_or_not P decide [] = inl (All-nil P)
all_or_not P decide (x ∷ xs) = elim (decide x) [
  | inr n ↦ inr (λ h. n (h 0 x (omega arith)))
  | inl p ↦ elim (all_or_not P decide xs) [ inl all ↦ inl (All-cons P x xs p all) | inr n ↦ inr (λ h. n (all_after P x xs h)) ]
]

any_first : {X : Type 0} (P : X → Type 0) (x : X) (xs : List X) → (P x → ⊥) → (Any P xs → ⊥) → (k : ℕ) (y : X) → k < length (x ∷ xs) → get_or (x ∷ xs) k y ≡ y → P y → ⊥
any_first P x xs n m zero y lt at p = n (subst P (sym at) p)
any_first P x xs n m (suc k) y lt at p = m (k, y, omega arith, at, p)

pub any_or_not : {X : Type 0} (P : X → Type 0) → ((x : X) → IsDecided (P x)) → (xs : List X) → IsDecided (Any P xs)
any_or_not P decide [] = inr (λ h. let lt = h.2 in omega arith)
any_or_not P decide (x ∷ xs) = elim (decide x) [
  | inl p ↦ inl (0, x, omega arith, refl, p)
  | inr n ↦ elim (any_or_not P decide xs) [
    | inl a ↦ let lt = a.2 in inl (suc a.0, a.1, omega arith, a.3, a.4)
    | inr m ↦ inr (λ h. any_first P x xs n m h.0 h.1 h.2 h.3 h.4)
  ]
]

pub contains_or_not : (xs : List ℕ) (x : ℕ) → IsDecided (Contains xs x)
contains_or_not xs x = elim (any_or_not (λ (y : ℕ). y ≡ x) (λ y. cases_eq y x) xs) [
  | inl a ↦ inl (a.0, a.2, subst (λ (y : ℕ). get_or xs a.0 y ≡ y) a.4 a.3)
  | inr n ↦ inr (λ h. n (h.0, x, h.1, h.2, refl))
]

-- of each two
pairs_after : {X : Type 0} (R : X → X → Type 0) (x : X) (xs : List X) → AllPairs R (x ∷ xs) → AllPairs R xs
pairs_after R x xs all i j d lt inside = all (suc i) (suc j) d (omega arith) (omega arith)

pairs_first : {X : Type 0} (R : X → X → Type 0) (x : X) (xs : List X) → AllPairs R (x ∷ xs) → All (R x) xs
pairs_first R x xs all k d lt = all 0 (suc k) d (omega arith) (omega arith)

pub pairs_or_not : {X : Type 0} (R : X → X → Type 0) → ((x y : X) → IsDecided (R x y)) → (xs : List X) → IsDecided (AllPairs R xs)
pairs_or_not R decide [] = inl (λ i j d lt inside. absurd (omega arith))
pairs_or_not R decide (x ∷ xs) = elim (all_or_not (R x) (decide x) xs) [
  | inr n ↦ inr (λ h. n (pairs_first R x xs h))
  | inl first ↦ elim (pairs_or_not R decide xs) [ inl rest ↦ inl (AllPairs-cons R x xs first rest) | inr n ↦ inr (λ h. n (pairs_after R x xs h)) ]
]

pub differs_or_not : (x y : ℕ) → IsDecided (x ≢ y)
differs_or_not x y = not_or_yes (cases_eq x y)
