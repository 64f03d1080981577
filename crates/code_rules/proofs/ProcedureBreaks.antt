-- The search for the first break of a procedure finds what the rules say.
use Rattle.std.proofs.Common.{◌≡◌, ◌≢◌, ℕ, ◌+◌, ◌-◌, ◌<◌, ◌≤◌, ◌⊎◌, inl, inr, Bool, true, false, List, [], ◌∷◌, reverse, Option, Some, None, length, slice_get, slice_range, arith, refl, sym, ap, subst, ◌∙◌}
use Rattle.std.specs.Prelude.{not, ◌&&◌, ◌||◌, nat_le}
use Rattle.std.proofs.lemmas.Bool.{and_parts}
use Rattle.std.proofs.lemmas.Bool.Decides.{nat_tests}
use Rattle.std.proofs.lemmas.Option.{slice_get_within}
use Rattle.stapl_meaning.specs.declared.values.ValueKind.{ValueKind}
use Rattle.stapl_code.specs.declared.raw.CodeLists.{CodeLists}
use Rattle.stapl_code.specs.declared.instr.Instr.{Instr}
use Rattle.stapl_code.specs.declared.instr.Instr.TheVariants.{Turn}
use Rattle.stapl_code.specs.Machine.{goes_to}
use Rattle.stapl_code.specs.Kinds.{kinds_after}
use Rattle.stapl_code.specs.Valid.{is_turn, is_end, departs, is_last, agree, is_target, leads_to, leads_well, rests_well, stands_well, rest_break}
use Rattle.code_rules.specs.Places.{StandsAt, BeginsAt, IsOfProcedure, EndsPart}
use Rattle.code_rules.specs.Instructions.{IsTurnInstr, Departs}
use Rattle.code_rules.specs.KindMoves.{KindsBefore}
use Rattle.code_rules.specs.Rules.{IsTurnBeside, RuleBreak, foreign_in_prologue, left_by_prologue, begins_without_turn, ends_without_end, end_elsewhere, operands_missing, variable_of_other_kind, left_before_turn, left_after, target_elsewhere, no_turn_follows, unstable_state}
use Rattle.code_rules.proofs.InstructionTests.{Agrees, denied, one_false, turn_agrees, end_agrees, departs_agrees, names_goes, goes_names, unstable_found, none_unstable}
use Rattle.code_rules.proofs.KindLemmas.{FindsAll, finds_all}
use Rattle.code_rules.proofs.RangeLemmas.{range_cons, range_none, range_goes_on, range_some, range_get}
use Rattle.code_rules.proofs.PartLemmas.{same_instr, one_procedure, IsOnePart, of_procedure, within_part, begins_only, kinds_next, last_agrees}
use Rattle.code_rules.proofs.KindBreaks.{no_kinds_break, moves_on, none_missing, none_before_turn, none_after}
use Rattle.code_rules.proofs.SearchSteps.{FindsFirst, judged_first}

-- an instruction that a Turn follows is the one before, in the same procedure
pub record IsFollowed (code : CodeLists) (from i : ℕ) : Type 0 where
  pub before : ℕ
  pub departing : Instr
  pub next : before + 1 ≡ i
  pub stands : StandsAt code before departing
  pub departs : Departs departing
  pub inside : from ≤ before

-- whether a Turn has to be here
abbrev pub Musts : CodeLists → ℕ → ℕ → Bool → Type 0
Musts code from i true = (i ≡ from) ⊎ IsFollowed code from i
Musts code from i false = (i ≢ from) × (IsFollowed code from i → ⊥)

is_a_turn : (o : Option Instr) → is_turn o ≡ true → (piece : ℕ) × (o ≡ Some (Turn piece))
is_a_turn (Some (Turn piece)) e = (piece, refl)
is_a_turn _ e = absurd cc

module _ (code : CodeLists) (from to : ℕ) (part : IsOnePart code from to) (begins : BeginsAt code from) where
  abbrev pub procedure : List Instr
  procedure = slice_range code.instrs from to

  -- targets
  target_is : (i target : ℕ) → from ≤ i → i < to → is_target from procedure target ≡ true → IsTurnBeside code i target
  target_is i target h less e =
      let both = and_parts (nat_le from target) (is_turn (slice_get procedure (target - from))) e in
      let above : from ≤ target = let le = both.0 in grind (arith, nat_tests) in
      let turn = is_a_turn (slice_get procedure (target - from)) both.1 in
      let there = range_some code.instrs from to target (Turn turn.0) above turn.1 in
      record {
        entry = from;
        piece = turn.0;
        here = of_procedure code from to part begins i h less;
        there = of_procedure code from to part begins target above there.0;
        turn = there.1;
      }

  is_the_target : (i target : ℕ) → from ≤ i → i < to → IsTurnBeside code i target → is_target from procedure target ≡ true
  is_the_target i target h less t =
      let same = one_procedure code t.entry from i t.here (of_procedure code from to part begins i h less) in
      let there = subst (λ (e : ℕ). IsOfProcedure code e target) same t.there in
      let within : target < length code.instrs = slice_get_within code.instrs target (Turn t.piece) t.turn in
      let below = within_part code from to part target i h less there within in
      let above : from ≤ target = there.from in
      let le : nat_le from target ≡ true = grind (arith, nat_tests) in
      let get = range_get code.instrs from to target above below ∙ t.turn in
      ap (λ (b : Bool). b && is_turn (slice_get procedure (target - from))) le ∙ ap is_turn get

  target_lost : (o : Option ℕ) → leads_to from procedure o ≡ false → (target : ℕ) × (o ≡ Some target) × (is_target from procedure target ≡ false)
  target_lost None e = absurd cc
  target_lost (Some target) e = (target, refl, e)

  module _ (i : ℕ) (x : Instr) (rest : List Instr) (h : from ≤ i) (less : i < to) (within : i < length code.instrs)
      (after_it : slice_range code.instrs (i + 1) to ≡ rest) where
    last : Agrees (EndsPart code i) (is_last rest)
    last = last_agrees code from to part i rest h less within after_it

    mine : IsOfProcedure code from i
    mine = of_procedure code from to part begins i h less

    -- what does not stand well breaks a rule
    no_turn : (must : Bool) → Musts code from i must → not must || is_turn (Some x) ≡ false → RuleBreak code i x
    no_turn false m e = absurd cc
    no_turn true (inl same) e = begins_without_turn (subst (BeginsAt code) (sym same) begins) (denied (turn_agrees x) e)
    no_turn true (inr f) e =
        let before = of_procedure code from to part begins f.before f.inside (omega (arith, f.next)) in
        no_turn_follows from f.before f.departing f.next f.stands f.departs before mine (denied (turn_agrees x) e)

    wrong_end : (end ends : Bool) → is_end x ≡ end → is_last rest ≡ ends → agree end ends ≡ false → RuleBreak code i x
    wrong_end true true e l a = absurd cc
    wrong_end true false e l a = end_elsewhere ((end_agrees x).yes e) (λ entry p ends. denied last l ends)
    wrong_end false true e l a = ends_without_end from mine (last.yes l) (denied (end_agrees x) e)
    wrong_end false false e l a = absurd cc

    wrong_target : leads_well from procedure x ≡ false → RuleBreak code i x
    wrong_target e =
        let lost = target_lost (goes_to x) e in
        target_elsewhere lost.0 (goes_names x lost.0 lost.1) (λ t. let is = is_the_target i lost.0 h less t in let isnt = lost.2 in cc)

    unstable : rests_well x ≡ false → RuleBreak code i x
    unstable e = let u = unstable_found x e in unstable_state u.0 u.1 u.2

    stands_badly : (must : Bool) → Musts code from i must → stands_well from procedure must x (is_last rest) ≡ false → RuleBreak code i x
    stands_badly must m e = elim (one_false ((not must || is_turn (Some x)) && agree (is_end x) (is_last rest) && leads_well from procedure x) (rests_well x) e) [
      | inr r ↦ unstable r
      | inl abc ↦ elim (one_false ((not must || is_turn (Some x)) && agree (is_end x) (is_last rest)) (leads_well from procedure x) abc) [
        | inr t ↦ wrong_target t
        | inl ab ↦ elim (one_false (not must || is_turn (Some x)) (agree (is_end x) (is_last rest)) ab) [
          | inl a ↦ no_turn must m a
          | inr b ↦ wrong_end (is_end x) (is_last rest) refl refl b
        ]
      ]
    ]

    -- what stands well and finds its operands breaks no rule
    turn_is_here : (must : Bool) → not must || is_turn (Some x) ≡ true → must ≡ true → IsTurnInstr x
    turn_is_here true e m = (turn_agrees x).yes e
    turn_is_here false e m = absurd cc

    must_at_first : (must : Bool) → Musts code from i must → i ≡ from → must ≡ true
    must_at_first true m e = refl
    must_at_first false m e = absurd (m.0 e)

    must_after : (must : Bool) → Musts code from i must → IsFollowed code from i → must ≡ true
    must_after true m f = refl
    must_after false m f = absurd (m.1 f)

    end_of_last : (end ends : Bool) → agree end ends ≡ true → end ≡ ends
    end_of_last true ends e = sym e
    end_of_last false true e = absurd cc
    end_of_last false false e = refl

    module _ (ks after : List ValueKind) (before : KindsBefore code i (reverse ks)) (finds : FindsAll code.variables x ks after)
        (must : Bool) (m : Musts code from i must) (well : stands_well from procedure must x (is_last rest) ≡ true) where
      outer : ((not must || is_turn (Some x)) && agree (is_end x) (is_last rest) && leads_well from procedure x ≡ true) × (rests_well x ≡ true)
      outer = and_parts ((not must || is_turn (Some x)) && agree (is_end x) (is_last rest) && leads_well from procedure x) (rests_well x) well

      middle : ((not must || is_turn (Some x)) && agree (is_end x) (is_last rest) ≡ true) × (leads_well from procedure x ≡ true)
      middle = and_parts ((not must || is_turn (Some x)) && agree (is_end x) (is_last rest)) (leads_well from procedure x) outer.0

      inner : (not must || is_turn (Some x) ≡ true) × (agree (is_end x) (is_last rest) ≡ true)
      inner = and_parts (not must || is_turn (Some x)) (agree (is_end x) (is_last rest)) middle.0

      ends_same : is_end x ≡ is_last rest
      ends_same = end_of_last (is_end x) (is_last rest) inner.1

      breaks_none : RuleBreak code i x → ⊥
      breaks_none (foreign_in_prologue p n) = let above = p from begins in omega arith
      breaks_none (left_by_prologue kinds other p e k w some) = let above = p from begins in omega arith
      breaks_none (begins_without_turn b n) =
          n (turn_is_here must inner.0 (must_at_first must m (begins_only code from to part i h less b)))
      breaks_none (ends_without_end entry p e n) = n ((end_agrees x).yes (ends_same ∙ last.is e))
      breaks_none (end_elsewhere e n) = n from mine (last.yes (sym ends_same ∙ (end_agrees x).is e))
      breaks_none (operands_missing kinds k n) = none_missing code i x ks before after finds kinds k n
      breaks_none (variable_of_other_kind want c n) = n (finds.met want c)
      breaks_none (left_before_turn kinds t k some) = none_before_turn code i x ks before after finds kinds t k some
      breaks_none (left_after kinds other e k w some) = none_after code i x ks before after finds kinds other e k w some
      breaks_none (target_elsewhere target names n) =
          n (target_is i target h less (ap (leads_to from procedure) (sym (names_goes x target names)) ∙ middle.1))
      breaks_none (no_turn_follows entry place departing next stands departs p q n) =
          let same = one_procedure code entry from i q mine in
          let inside : from ≤ place = omega (arith, same, p.from) in
          let followed : IsFollowed code from i =
          record { before = place; departing = departing; next = next; stands = stands; departs = departs; inside = inside } in
          n (turn_is_here must inner.0 (must_after must m followed))
      breaks_none (unstable_state t w u) = none_unstable x outer.1 (t, w, u)

    -- whether a Turn has to be next
    musts_next : StandsAt code i x → (leaves : Bool) → departs x ≡ leaves → Musts code from (i + 1) leaves
    musts_next at true e = inr (record { before = i; departing = x; next = refl; stands = at; departs = (departs_agrees x).yes e; inside = h })
    musts_next at false e = (
      λ same. omega arith,
      λ f.
          let place : f.before ≡ i = omega (arith, f.next) in
          let own = subst (λ (n : ℕ). StandsAt code n f.departing) place f.stands in
          let same = same_instr code i f.departing x own at in
          denied (departs_agrees x) e (subst Departs same f.departs),
    )

  -- the search in the instructions of the procedure from i on
  pub search_procedure : (l : List Instr) (i : ℕ) (must : Bool) (ks : List ValueKind) → slice_range code.instrs i to ≡ l → from ≤ i → Musts code from i must →
      (0 < length l → KindsBefore code i (reverse ks)) → FindsFirst code i to (rest_break code.variables from procedure i must ks l)
  search_procedure [] i must ks r h m k = λ j above less within. absurd (range_none code.instrs i to r (omega arith) (omega arith))
  search_procedure (x ∷ rest) i must ks r h m k =
      let c = range_cons code.instrs i to x rest r in
      let before = k (omega arith) in
      judged_first code i to x (kinds_after code.variables x ks) (stands_well from procedure must x (is_last rest))
      (λ after. rest_break code.variables from procedure (i + 1) (departs x) after rest) c.2 c.1
      (no_kinds_break code i x ks before) (stands_badly i x rest h c.0 c.1 c.3 must m)
      (λ after finds well.
      let all = finds_all code.variables x ks after finds in (
        breaks_none i x rest h c.0 c.1 c.3 ks after before all must m well,
        search_procedure rest (i + 1) (departs x) after c.3 (omega arith) (musts_next i x rest h c.0 c.1 c.3 c.2 (departs x) refl) (λ some.
            let next = range_goes_on code.instrs (i + 1) to rest c.3 some in
            kinds_next code from to part i x (reverse ks) (reverse after) h next c.2 before (moves_on code i x ks before after all)),
      ))
