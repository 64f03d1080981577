-- The order of the lists of TMS values: by length, and lists of equal length by their first difference.
use Rattle.std.proofs.Common.{◌≡◌, ◌<◌, ◌≤◌, suc, Bool, true, false, ◌&&◌, ◌||◌, eqb, ltb, List, [], ◌∷◌, ◌++◌, length, refl, sym, ap, ◌∙◌, inl, inr, ◌⊎◌, arith}
use Rattle.std.proofs.lemmas.Bool.{false≢true}
use Rattle.std.proofs.lemmas.Bool.Decides.{nat_tests}
use Rattle.tap_states.specs.Path.{ComesBefore}

-- a test of lists of equal length: the first is the second or comes before it
abbrev pub not_after : List Bool → List Bool → Bool
not_after [] ys = true
not_after (x ∷ xs) [] = false
not_after (false ∷ xs) (false ∷ ys) = not_after xs ys
not_after (false ∷ xs) (true ∷ ys) = true
not_after (true ∷ xs) (false ∷ ys) = false
not_after (true ∷ xs) (true ∷ ys) = not_after xs ys

-- no longer, and among equals no later
abbrev pub better : List Bool → List Bool → Bool
better p q = ltb (length p) (length q) || (eqb (length p) (length q) && not_after p q)

-- the same as a fact
abbrev pub Better : List Bool → List Bool → Type 0
Better p q = (length p < length q) ⊎ ((length p ≡ length q) × (not_after p q ≡ true))

not_after-trans : (p q r : List Bool) → not_after p q ≡ true → not_after q r ≡ true → not_after p r ≡ true
not_after-trans [] q r h k = refl
not_after-trans (x ∷ p) [] r h k = cc
not_after-trans (x ∷ p) (y ∷ q) [] h k = cc
not_after-trans (false ∷ p) (false ∷ q) (false ∷ r) h k = not_after-trans p q r h k
not_after-trans (false ∷ p) (y ∷ q) (true ∷ r) h k = refl
not_after-trans (false ∷ p) (true ∷ q) (false ∷ r) h k = cc
not_after-trans (true ∷ p) (false ∷ q) r h k = cc
not_after-trans (true ∷ p) (true ∷ q) (false ∷ r) h k = cc
not_after-trans (true ∷ p) (true ∷ q) (true ∷ r) h k = not_after-trans p q r h k

pub not_after-refl : (p : List Bool) → not_after p p ≡ true
not_after-refl [] = refl
not_after-refl (false ∷ p) = not_after-refl p
not_after-refl (true ∷ p) = not_after-refl p

-- two lists of which none comes before the other are one list
pub same_from_tests : (p q : List Bool) → not_after p q ≡ true → not_after q p ≡ true → p ≡ q
same_from_tests [] [] h k = refl
same_from_tests [] (y ∷ q) h k = cc
same_from_tests (x ∷ p) [] h k = cc
same_from_tests (false ∷ p) (false ∷ q) h k = ap (λ z. false ∷ z) (same_from_tests p q h k)
same_from_tests (false ∷ p) (true ∷ q) h k = cc
same_from_tests (true ∷ p) (false ∷ q) h k = cc
same_from_tests (true ∷ p) (true ∷ q) h k = ap (λ z. true ∷ z) (same_from_tests p q h k)

not_after-cons : (b : Bool) (p q : List Bool) → not_after p q ≡ true → not_after (b ∷ p) (b ∷ q) ≡ true
not_after-cons false p q h = h
not_after-cons true p q h = h

pub Better-trans : (p q r : List Bool) → Better p q → Better q r → Better p r
Better-trans p q r (inl a) (inl b) = inl (omega arith)
Better-trans p q r (inl a) (inr b) = inl (omega arith)
Better-trans p q r (inr a) (inl b) = inl (omega arith)
Better-trans p q r (inr a) (inr b) = inr (omega arith, not_after-trans p q r a.1 b.1)

pub Better-cons : (b : Bool) (p q : List Bool) → Better p q → Better (b ∷ p) (b ∷ q)
Better-cons b p q (inl a) = inl (omega arith)
Better-cons b p q (inr a) = inr (ap suc a.0, not_after-cons b p q a.1)

pub Better-from_test : (p q : List Bool) → better p q ≡ true → Better p q
Better-from_test p q h = grind (arith, nat_tests)

pub no_longer : (p q : List Bool) → Better p q → length p ≤ length q
no_longer p q (inl a) = omega arith
no_longer p q (inr a) = omega arith

pub no_later : (p q : List Bool) → Better p q → length q ≡ length p → not_after p q ≡ true
no_later p q (inl a) e = absurd (omega arith)
no_later p q (inr a) e = a.1

ahead : (common xs ys : List Bool) → not_after (common ++ true ∷ xs) (common ++ false ∷ ys) ≡ false
ahead [] xs ys = refl
ahead (false ∷ common) xs ys = ahead common xs ys
ahead (true ∷ common) xs ys = ahead common xs ys

pub no_other_before : (p q : List Bool) → not_after p q ≡ true → ¬ ComesBefore q p
no_other_before p q h b =
    let e : not_after (b.common ++ true ∷ b.later_rest) (b.common ++ false ∷ b.earlier_rest) ≡ true =
    ap (λ z. not_after z (b.common ++ false ∷ b.earlier_rest)) (sym b.later_is) ∙ ap (λ z. not_after p z) (sym b.earlier_is) ∙ h in
    false≢true (sym (ahead b.common b.later_rest b.earlier_rest) ∙ e)

ComesBefore-cons : (b : Bool) (p q : List Bool) → ComesBefore p q → ComesBefore (b ∷ p) (b ∷ q)
ComesBefore-cons b p q h = record {
  common = b ∷ h.common;
  earlier_rest = h.earlier_rest;
  later_rest = h.later_rest;
  earlier_is = ap (λ z. b ∷ z) h.earlier_is;
  later_is = ap (λ z. b ∷ z) h.later_is;
}

first_difference : (p q : List Bool) → ComesBefore (false ∷ p) (true ∷ q)
first_difference p q = record { common = []; earlier_rest = p; later_rest = q; earlier_is = refl; later_is = refl }

-- of two lists of equal length one comes before the other, or they are one list
pub same_from_order : (p q : List Bool) → length p ≡ length q → ¬ ComesBefore p q → ¬ ComesBefore q p → p ≡ q
same_from_order [] [] n h k = refl
same_from_order [] (y ∷ q) n h k = absurd (omega arith)
same_from_order (x ∷ p) [] n h k = absurd (omega arith)
same_from_order (false ∷ p) (true ∷ q) n h k = absurd (h (first_difference p q))
same_from_order (true ∷ p) (false ∷ q) n h k = absurd (k (first_difference q p))
same_from_order (false ∷ p) (false ∷ q) n h k =
    ap (λ z. false ∷ z) (same_from_order p q (omega arith) (λ b. h (ComesBefore-cons false p q b)) (λ b. k (ComesBefore-cons false q p b)))
same_from_order (true ∷ p) (true ∷ q) n h k =
    ap (λ z. true ∷ z) (same_from_order p q (omega arith) (λ b. h (ComesBefore-cons true p q b)) (λ b. k (ComesBefore-cons true q p b)))
