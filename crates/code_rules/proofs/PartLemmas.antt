-- Parts of a code: the prologue, and each procedure.
use Rattle.std.proofs.Common.{◌≡◌, ℕ, suc, ◌+◌, ◌<◌, ◌≤◌, ◌⊎◌, inl, inr, List, [], ◌∷◌, length, slice_range, arith, refl, sym, subst, le_antisymm}
use Rattle.std.proofs.lemmas.Bool.{cases_lt}
use Rattle.stapl_meaning.specs.declared.values.ValueKind.{ValueKind}
use Rattle.stapl_code.specs.declared.raw.CodeLists.{CodeLists}
use Rattle.stapl_code.specs.declared.instr.Instr.{Instr}
use Rattle.stapl_code.specs.Valid.{is_last}
use Rattle.code_rules.specs.Places.{StandsAt, BeginsAt, IsOfProcedure, BeginsPart, EndsPart}
use Rattle.code_rules.specs.KindMoves.{MovesKinds, KindsBefore, at_first, moved}
use Rattle.code_rules.proofs.InstructionTests.{Agrees, agreed, refused}
use Rattle.code_rules.proofs.KindLemmas.{moves_once}
use Rattle.code_rules.proofs.RangeLemmas.{range_cons, range_none}

pub same_instr : (code : CodeLists) (i : ℕ) (x y : Instr) → StandsAt code i x → StandsAt code i y → x ≡ y
same_instr code i x y a b = cc

moved_same : (code : CodeLists) (x y : Instr) (a b : List ValueKind) (after other : List ValueKind) → x ≡ y → a ≡ b →
    MovesKinds code.variables x a after → MovesKinds code.variables y b other → after ≡ other
moved_same code x y a b after other e f m n =
    moves_once code.variables x a after other m
    (subst (λ l. MovesKinds code.variables x l other) (sym f) (subst (λ z. MovesKinds code.variables z b other) (sym e) n))

-- before an instruction the operands are of these kinds alone
pub kinds_once : (code : CodeLists) {i : ℕ} {a b : List ValueKind} → KindsBefore code i a → KindsBefore code i b → a ≡ b
kinds_once code (at_first f) (at_first g) = refl
kinds_once code (at_first f) (moved y k s n m) = absurd (n f)
kinds_once code (moved x k s n m) (at_first g) = absurd (n g)
kinds_once code (moved {i = i} {kinds = a} {after = p} x k s n m) (moved {kinds = b} {after = q} y l t o w) =
    moved_same code x y a b p q (same_instr code i x y s t) (kinds_once code k l) m w

module _ (code : CodeLists) where
  abbrev pub total : ℕ
  total = length code.instrs

  -- an instruction is of one procedure
  not_earlier : (a b i : ℕ) → IsOfProcedure code a i → IsOfProcedure code b i → a < b → ⊥
  not_earlier a b i p q h = omega (arith, p.before b q.begins h, q.from)

  pub one_procedure : (a b i : ℕ) → IsOfProcedure code a i → IsOfProcedure code b i → a ≡ b
  one_procedure a b i p q = elim (cases_lt a b) [
    | inl h ↦ absurd (not_earlier a b i p q h)
    | inr h ↦ elim (cases_lt b a) [ inl g ↦ absurd (not_earlier b a i q p g) | inr g ↦ le_antisymm g h ]
  ]

  -- the instructions from one number on, and before another one, are a part of the code
  pub record IsOnePart (from to : ℕ) : Type 0 where
    pub first : BeginsPart code from
    pub inside : (entry : ℕ) → BeginsAt code entry → from < entry → to ≤ entry
    pub ends : BeginsAt code to ⊎ (total ≤ to)

  module _ (from to : ℕ) (part : IsOnePart from to) where
    pub of_procedure : BeginsAt code from → (i : ℕ) → from ≤ i → i < to → IsOfProcedure code from i
    of_procedure begins i h less =
        record { begins = begins; from = h; before = λ later b above. omega (arith, less, part.inside later b above) }

    pub within_part : (i j : ℕ) → from ≤ j → j < to → IsOfProcedure code from i → i < total → i < to
    within_part i j h less p within = elim part.ends [ inl b ↦ p.before to b (omega arith) | inr e ↦ omega arith ]

    -- no part begins inside
    pub begins_only : (i : ℕ) → from ≤ i → i < to → BeginsAt code i → i ≡ from
    begins_only i h less b = elim (cases_lt from i) [ inl g ↦ absurd (omega (arith, part.inside i b g)) | inr g ↦ le_antisymm g h ]

    no_beginning : (i : ℕ) → from ≤ i → i + 1 < to → BeginsPart code (suc i) → ⊥
    no_beginning i h less (inl e) = absurd (omega arith)
    no_beginning i h less (inr b) = omega (arith, part.inside (suc i) b (omega arith))

    -- the kinds before the next instruction
    pub kinds_next : (i : ℕ) (x : Instr) (kinds after : List ValueKind) → from ≤ i → i + 1 < to → StandsAt code i x → KindsBefore code i kinds →
        MovesKinds code.variables x kinds after → KindsBefore code (i + 1) after
    kinds_next i x kinds after h less at before m =
        let next : suc i ≡ i + 1 = omega arith in
        subst (λ (n : ℕ). KindsBefore code n after) next (moved x before at (no_beginning i h less) m)

    ends_here : (i : ℕ) → i < to → i < total → (to ≤ i + 1) ⊎ (total ≤ i + 1) → EndsPart code i
    ends_here i less within (inr e) = inl (omega arith)
    ends_here i less within (inl e) = elim part.ends [
      | inl b ↦ inr (subst (BeginsAt code) (omega arith) b)
      | inr past ↦ inl (omega arith)
    ]

    ends_not : (i : ℕ) → from ≤ i → i + 1 < to → i + 1 < total → EndsPart code i → ⊥
    ends_not i h less within (inl e) = omega arith
    ends_not i h less within (inr b) = omega (arith, part.inside (i + 1) b (omega arith))

    none_follow : (i : ℕ) → slice_range code.instrs (i + 1) to ≡ [] → (to ≤ i + 1) ⊎ (total ≤ i + 1)
    none_follow i e = elim (cases_lt (i + 1) to) [
      | inl less ↦ elim (cases_lt (i + 1) total) [ inl within ↦ absurd (range_none code.instrs (i + 1) to e less within) | inr past ↦ inr past ]
      | inr past ↦ inl past
    ]

    -- the last instruction of a part is the one after which the part has no other
    pub last_agrees : (i : ℕ) (rest : List Instr) → from ≤ i → i < to → i < total → slice_range code.instrs (i + 1) to ≡ rest →
        Agrees (EndsPart code i) (is_last rest)
    last_agrees i [] h less within e = agreed (ends_here i less within (none_follow i e))
    last_agrees i (y ∷ rest) h less within e =
        let c = range_cons code.instrs (i + 1) to y rest e in refused (ends_not i h c.0 c.1)
