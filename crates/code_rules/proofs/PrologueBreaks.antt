-- The search for the first break of the prologue finds what the rules say.
use Rattle.std.proofs.Common.{◌≡◌, ◌≢◌, ℕ, ◌+◌, ◌<◌, ◌≤◌, ◌⊎◌, inl, inr, Bool, true, false, List, [], ◌∷◌, reverse, Option, Some, None, length, slice_range, arith, refl, ap, ◌∙◌}
use Rattle.tap_states.specs.declared.Tap.{Tap}
use Rattle.stapl_meaning.specs.declared.values.ValueKind.{ValueKind}
use Rattle.stapl_code.specs.declared.raw.CodeLists.{CodeLists}
use Rattle.stapl_code.specs.declared.instr.Instr.{Instr}
use Rattle.stapl_code.specs.declared.instr.Instr.TheVariants.{Push, PushBit, Store, SetBits, SetInts}
use Rattle.stapl_code.specs.Kinds.{kinds_after}
use Rattle.stapl_code.specs.Valid.{is_last, sets_up, kinds_kept, prologue_break}
use Rattle.code_rules.specs.Places.{BeginsAt, IsOfPrologue, IsOfProcedure, EndsPart}
use Rattle.code_rules.specs.Instructions.{IsEndProc, SetsUp, HasTarget, WantsStable}
use Rattle.code_rules.specs.KindMoves.{KindsBefore}
use Rattle.code_rules.specs.Rules.{RuleBreak, foreign_in_prologue, left_by_prologue, begins_without_turn, ends_without_end, end_elsewhere, operands_missing, variable_of_other_kind, left_before_turn, left_after, target_elsewhere, no_turn_follows, unstable_state}
use Rattle.code_rules.proofs.InstructionTests.{Agrees, denied, set_up_agrees}
use Rattle.code_rules.proofs.KindLemmas.{FindsAll, finds_all}
use Rattle.code_rules.proofs.RangeLemmas.{range_cons, range_none, range_goes_on}
use Rattle.code_rules.proofs.PartLemmas.{IsOnePart, kinds_next, last_agrees}
use Rattle.code_rules.proofs.KindBreaks.{some_reversed, no_kinds_break, moves_on, moves_so, none_missing, none_before_turn, none_after}
use Rattle.code_rules.proofs.SearchSteps.{FindsFirst, judged_first}

-- what sets up ends no procedure, has no target, and leaves the chain alone
no_end : (x : Instr) → SetsUp x → IsEndProc x → ⊥
no_end (Push z) s e = e
no_end (PushBit b) s e = e
no_end (Store n) s e = e
no_end (SetBits n literal) s e = e
no_end (SetInts n values) s e = e
no_end _ s e = absurd s

no_target : (x : Instr) (to : ℕ) → SetsUp x → HasTarget x to → ⊥
no_target (Push z) to s e = e
no_target (PushBit b) to s e = e
no_target (Store n) to s e = e
no_target (SetBits n literal) to s e = e
no_target (SetInts n values) to s e = e
no_target _ to s e = absurd s

no_state : (x : Instr) (t : Tap) → SetsUp x → WantsStable x t → ⊥
no_state (Push z) t s e = e
no_state (PushBit b) t s e = e
no_state (Store n) t s e = e
no_state (SetBits n literal) t s e = e
no_state (SetInts n values) t s e = e
no_state _ t s e = absurd s

-- the kinds after an instruction of the prologue
kept_is : (last : Bool) (o : Option (List ValueKind)) (after : List ValueKind) → kinds_kept last o ≡ Some after →
    (o ≡ Some after) × (last ≡ true → after ≡ [])
kept_is true None after e = absurd cc
kept_is true (Some []) after e = (e, λ l. cc)
kept_is true (Some (k ∷ ks)) after e = absurd cc
kept_is false o after e = (e, λ l. absurd cc)

-- why none are kept: none are found, or some are left after the last instruction
kept_not : (last : Bool) (o : Option (List ValueKind)) → kinds_kept last o ≡ None →
    (o ≡ None) ⊎ ((after : List ValueKind) × (o ≡ Some after) × (last ≡ true) × (after ≢ []))
kept_not true None e = inl refl
kept_not true (Some []) e = absurd cc
kept_not true (Some (k ∷ ks)) e = inr (k ∷ ks, refl, refl, λ f. cc)
kept_not false o e = inl e

module _ (code : CodeLists) (to : ℕ) (part : IsOnePart code 0 to) (all_before : (entry : ℕ) → BeginsAt code entry → to ≤ entry) where
  module _ (i : ℕ) (x : Instr) (rest : List Instr) (less : i < to) (within : i < length code.instrs)
      (after_it : slice_range code.instrs (i + 1) to ≡ rest) (ks : List ValueKind) (before : KindsBefore code i (reverse ks)) where
    last : Agrees (EndsPart code i) (is_last rest)
    last = last_agrees code 0 to part i rest (omega arith) less within after_it

    mine : IsOfPrologue code i
    mine = λ entry b. let above = all_before entry b in omega (arith, less)

    of_none : (entry : ℕ) → IsOfProcedure code entry i → ⊥
    of_none entry p = let above = mine entry p.begins in omega (arith, p.from)

    none_kept : kinds_kept (is_last rest) (kinds_after code.variables x ks) ≡ None → RuleBreak code i x
    none_kept e = elim (kept_not (is_last rest) (kinds_after code.variables x ks) e) [
      | inl none ↦ no_kinds_break code i x ks before none
      | inr left ↦
          let all = finds_all code.variables x ks left.0 left.1 in
          left_by_prologue (reverse ks) (reverse left.0) mine (last.yes left.2) before (moves_on code i x ks before left.0 all) (some_reversed left.0 left.3)
    ]

    foreign : sets_up x ≡ false → RuleBreak code i x
    foreign e = foreign_in_prologue mine (denied (set_up_agrees x) e)

    module _ (after : List ValueKind) (finds : FindsAll code.variables x ks after) (emptied : is_last rest ≡ true → after ≡ [])
        (s : SetsUp x) where
      breaks_none : RuleBreak code i x → ⊥
      breaks_none (foreign_in_prologue p n) = n s
      breaks_none (left_by_prologue kinds other p e k w some) =
          some (moves_so code i x ks before after finds kinds other k w ∙ ap reverse (emptied (last.is e)))
      breaks_none (begins_without_turn b n) = let above = mine i b in omega arith
      breaks_none (ends_without_end entry p e n) = of_none entry p
      breaks_none (end_elsewhere e n) = no_end x s e
      breaks_none (operands_missing kinds k n) = none_missing code i x ks before after finds kinds k n
      breaks_none (variable_of_other_kind want c n) = n (finds.met want c)
      breaks_none (left_before_turn kinds t k some) = none_before_turn code i x ks before after finds kinds t k some
      breaks_none (left_after kinds other e k w some) = none_after code i x ks before after finds kinds other e k w some
      breaks_none (target_elsewhere target names n) = no_target x target s names
      breaks_none (no_turn_follows entry place departing next stands departs p q n) = of_none entry q
      breaks_none (unstable_state t w u) = no_state x t s w

  -- the search in the instructions of the prologue from i on
  pub search_prologue : (l : List Instr) (i : ℕ) (ks : List ValueKind) → slice_range code.instrs i to ≡ l →
      (0 < length l → KindsBefore code i (reverse ks)) → FindsFirst code i to (prologue_break code.variables i ks l)
  search_prologue [] i ks r k = λ j above less within. absurd (range_none code.instrs i to r (omega arith) (omega arith))
  search_prologue (x ∷ rest) i ks r k =
      let c = range_cons code.instrs i to x rest r in
      let before = k (omega arith) in
      judged_first code i to x (kinds_kept (is_last rest) (kinds_after code.variables x ks)) (sets_up x)
      (λ after. prologue_break code.variables (i + 1) after rest) c.2 c.1
      (none_kept i x rest c.0 c.1 c.3 ks before) (foreign i x rest c.0 c.1 c.3 ks before)
      (λ after kept well.
      let finds = kept_is (is_last rest) (kinds_after code.variables x ks) after kept in
      let all = finds_all code.variables x ks after finds.0 in (
        breaks_none i x rest c.0 c.1 c.3 ks before after all finds.1 ((set_up_agrees x).yes well),
        search_prologue rest (i + 1) after c.3 (λ some.
            let next = range_goes_on code.instrs (i + 1) to rest c.3 some in
            kinds_next code 0 to part i x (reverse ks) (reverse after) (omega arith) next c.2 before (moves_on code i x ks before after all)),
      ))
