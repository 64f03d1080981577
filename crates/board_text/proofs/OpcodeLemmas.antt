-- Opcodes of which no two are alike.
use Rattle.std.proofs.Common.{◌≡◌, ◌≢◌, ◌<◌, ◌≤◌, ◌+◌, ◌++◌, ℕ, List, [], ◌∷◌, length, take, get_or, sym, ap, subst, ◌∙◌, Bool, true, false, arith, add-one, eqb, eq-eqb, length-take-le}
use Rattle.std.specs.Prelude.{AllPairs}
use Rattle.std.specs.List.{list_any}
use Rattle.std.proofs.Math.Seq.{take-suc, take-length, get_or-take}
use Rattle.std.proofs.lemmas.Bool.{false≢true, eqb-true}
use Rattle.std.proofs.lemmas.List.{get_or_default}
use Rattle.std.proofs.lemmas.List.Folds.{Any-from_list_any, list_any_at}
use Rattle.std.proofs.lemmas.List.Quantifiers.{all_pairs_push}

pub apart_more : (ops : List ℕ) (i : ℕ) (found : Bool) → i < length ops → AllPairs ◌≢◌ (take i ops) → found ≡ list_any (λ (y : ℕ). eqb y (get_or ops i 0)) (take i ops) → found ≡ false →
    AllPairs ◌≢◌ (take (i + 1) ops)
apart_more ops i found lt apart found_is none =
    let more : take (i + 1) ops ≡ take i ops ++ get_or ops i 0 ∷ [] = ap (λ (k : ℕ). take k ops) (add-one i) ∙ take-suc ops i 0 lt in
    subst (AllPairs ◌≢◌) (sym more) (all_pairs_push ◌≢◌ (take i ops) (get_or ops i 0) apart
    (λ k d inside same. false≢true (sym none ∙ found_is ∙ list_any_at (λ (y : ℕ). eqb y (get_or ops i 0)) (take i ops) k d inside (eq-eqb _ _ same))))

pub not_apart : (ops : List ℕ) (i : ℕ) (found : Bool) → i < length ops → found ≡ list_any (λ (y : ℕ). eqb y (get_or ops i 0)) (take i ops) → found ≡ true → AllPairs ◌≢◌ ops → ⊥
not_apart ops i found lt found_is there_is apart =
    let a = Any-from_list_any (λ (y : ℕ). eqb y (get_or ops i 0)) (take i ops) (sym found_is ∙ there_is) in
    let k : ℕ = a.0 in
    let y : ℕ = a.1 in
    let before : k < i = let in_front : k < length (take i ops) = a.2 in omega (arith, length-take-le i ops (omega arith)) in
    let here : get_or ops k y ≡ y = sym (get_or-take i ops k y before) ∙ a.3 in
    let there : y ≡ get_or ops i y = eqb-true _ _ a.4 ∙ get_or_default ops i 0 y lt in
    apart k i y before lt (here ∙ there)

pub all_apart : (ops : List ℕ) (i : ℕ) → length ops ≤ i → i ≤ length ops → AllPairs ◌≢◌ (take i ops) → AllPairs ◌≢◌ ops
all_apart ops i ge le apart =
    let end : i ≡ length ops = omega arith in
    subst (AllPairs ◌≢◌) (ap (λ (k : ℕ). take k ops) end ∙ take-length ops) apart
