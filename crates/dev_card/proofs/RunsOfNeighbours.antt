-- A run of neighbours in a board, and what stands around it.
use Rattle.std.proofs.Common.{◌≡◌, ◌≤◌, ◌+◌, ◌-◌, ℕ, suc, List, [], ◌∷◌, ◌++◌, length, take, drop, Some, slice_get, sym, ap, ◌∙◌, arith}
use Rattle.std.proofs.lemmas.List.{take-append-drop, drop-drop, take-map, drop-map, length-take, length-drop}
use Rattle.std.proofs.lemmas.Option.{get_or_from_slice_get, slice_get_within}
use Rattle.std.proofs.Math.Seq.{drop-cons}
use Rattle.dev_card.specs.Card.{Card}
use Rattle.dev_card.specs.Padding.{Neighbours, only, in_run, before_run, after_run, base_lengths, base_around}
use Rattle.dev_card.specs.PaddedScan.{descriptions_of, base_of_cards}

-- a list is what stands before a run, the run, and what stands after it
pub around_run : {A : Type 0} (run : Neighbours) (xs : List A) → 1 ≤ run.first → run.first ≤ run.last →
    xs ≡ before_run run xs ++ (in_run run xs ++ after_run run xs)
around_run run xs one order =
    let n : ℕ = suc run.last - run.first in
    let all : n + (run.first - 1) ≡ run.last = omega (arith, one, order) in
    sym (take-append-drop (run.first - 1) xs)
    ∙ ap (λ z. before_run run xs ++ z) (sym (take-append-drop n (drop (run.first - 1) xs)))
    ∙ ap (λ z. before_run run xs ++ (in_run run xs ++ z)) (drop-drop n (run.first - 1) xs)
    ∙ ap (λ k. before_run run xs ++ (in_run run xs ++ drop k xs)) (omega (arith, all))

-- how much stands before a run, in it, and after it
pub before_counted : {A : Type 0} (run : Neighbours) (xs : List A) → 1 ≤ run.first → run.first ≤ run.last → run.last ≤ length xs →
    length (before_run run xs) ≡ run.first - 1
before_counted run xs one order within = omega (arith, length-take (run.first - 1) xs)

pub run_counted : {A : Type 0} (run : Neighbours) (xs : List A) → 1 ≤ run.first → run.first ≤ run.last → run.last ≤ length xs →
    length (in_run run xs) ≡ suc run.last - run.first
run_counted run xs one order within =
    omega (arith, length-take (suc run.last - run.first) (drop (run.first - 1) xs), length-drop (run.first - 1) xs)

-- the run of a single place has what stands there
pub run_of_place : {A : Type 0} (xs : List A) (place : ℕ) (x : A) → 1 ≤ place → slice_get xs (place - 1) ≡ Some x →
    in_run (only place) xs ≡ x ∷ []
run_of_place xs place x one e =
    let single : suc place - place ≡ 1 = omega arith in
    ap (λ n. take n (drop (place - 1) xs)) single
    ∙ ap (take 1) (drop-cons xs (place - 1) x (slice_get_within xs (place - 1) x e))
    ∙ ap (λ y. y ∷ []) (get_or_from_slice_get xs (place - 1) x x e)

-- base padding for a run is that around its cards
pub base_of_run : (cs : List Card) (run : Neighbours) →
    base_lengths (descriptions_of cs) (Some run) ≡ base_of_cards (before_run run cs) (after_run run cs)
base_of_run cs run =
    ap (λ z. base_around z (after_run run (descriptions_of cs))) (take-map (λ (c : Card). c.desc) (run.first - 1) cs)
    ∙ ap (λ z. base_around (descriptions_of (before_run run cs)) z) (drop-map (λ (c : Card). c.desc) run.last cs)
