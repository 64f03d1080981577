-- What the rules give in a valid code: what follows an instruction, and where targets are.
use Rattle.std.proofs.Common.{◌≡◌, ℕ, zero, suc, ◌+◌, ◌-◌, ◌<◌, ◌≤◌, ◌⊎◌, inl, inr, Bool, true, false, List, [], ◌∷◌, Some, length, slice_get, arith, refl, ap, subst, ◌∙◌}
use Rattle.std.specs.Prelude.{nat_lt, nat_le, ◌||◌}
use Rattle.std.specs.List.{list_all}
use Rattle.std.proofs.lemmas.Bool.{cases_lt}
use Rattle.std.proofs.lemmas.Bool.Decides.{nat_tests}
use Rattle.std.proofs.lemmas.Option.{slice_get_within, slice_get-get_or, get_or_from_slice_get}
use Rattle.std.proofs.lemmas.List.{length-map}
use Rattle.stapl_code.specs.declared.raw.ProcDef.{ProcDef}
use Rattle.stapl_code.specs.declared.raw.CodeLists.{CodeLists}
use Rattle.stapl_code.specs.declared.instr.Instr.{Instr}
use Rattle.stapl_code.specs.declared.instr.Instr.TheVariants.{Turn}
use Rattle.stapl_code.specs.Machine.{nowhere, entry_of}
use Rattle.stapl_code.specs.Ranges.{IsInRange, IsInstr}
use Rattle.stapl_code.specs.Valid.{is_turn, IsValid}
use Rattle.stapl_code.specs.Safe.{entries_of}
use Rattle.code_rules.specs.Places.{StandsAt, BeginsAt, IsOfProcedure, EndsPart}
use Rattle.code_rules.specs.Instructions.{IsTurnInstr, IsEndProc, Departs, HasTarget}
use Rattle.code_rules.specs.Rules.{IsTurnBeside, RuleBreak, begins_without_turn, ends_without_end, target_elsewhere, no_turn_follows, instruction, past_the_end}
use Rattle.code_rules.proofs.InstructionTests.{denied, decided, turn_agrees}
use Rattle.code_rules.proofs.KindLemmas.{find_false, holds_in}
use Rattle.code_rules.proofs.PartLemmas.{same_instr, one_procedure}
use Rattle.code_rules.proofs.FirstBreaks.{breaks_none}

-- a Turn of this procedure
pub record IsTurnIn (code : CodeLists) (entry place : ℕ) : Type 0 where
  pub within : IsOfProcedure code entry place
  pub piece : ℕ
  pub turn : StandsAt code place (Turn piece)

turn_is : (x : Instr) → IsTurnInstr x → (piece : ℕ) × (x ≡ Turn piece)
turn_is (Turn piece) h = (piece, refl)
turn_is _ h = absurd h

module _ (code : CodeLists) (range : IsInRange code) (valid : IsValid code) where
  abbrev total : ℕ
  total = length code.instrs

  pub none_breaks : (i : ℕ) (x : Instr) → StandsAt code i x → RuleBreak code i x → ⊥
  none_breaks i x at b = (breaks_none code range).0 valid i (instruction x at b)

  there_is : (i : ℕ) → i < total → (x : Instr) × StandsAt code i x
  there_is i h = by code.instrs i h
    where
      by : (xs : List Instr) (k : ℕ) → k < length xs → (x : Instr) × (slice_get xs k ≡ Some x)
      by [] k h = absurd (omega arith)
      by (x ∷ xs) zero h = (x, refl)
      by (x ∷ xs) (suc k) h = by xs k (omega arith)

  turn_here : (entry i : ℕ) (x : Instr) → StandsAt code i x → IsOfProcedure code entry i → IsTurnInstr x → IsTurnIn code entry i
  turn_here entry i x at p t = let is = turn_is x t in record { within = p; piece = is.0; turn = at ∙ ap Some is.1 }

  -- an instruction that is no EndProc is followed by one of the same procedure
  pub goes_on_in : (entry i : ℕ) (x : Instr) → StandsAt code i x → IsOfProcedure code entry i → (IsEndProc x → ⊥) →
      IsOfProcedure code entry (i + 1) × (i + 1 < total)
  goes_on_in entry i x at p n =
      let inside : EndsPart code i → ⊥ = λ e. none_breaks i x at (ends_without_end entry p e n) in
      let here : i < total = slice_get_within code.instrs i x at in (
        record {
          begins = p.begins;
          from = omega (arith, p.from);
          before = λ later b above. elim (cases_lt (i + 1) later) [
            | inl less ↦ less
            | inr most ↦ absurd (let same : later ≡ i + 1 = omega (arith, p.before later b above) in inside (inr (subst (BeginsAt code) same b)))
          ];
        },
        elim (cases_lt (i + 1) total) [ inl less ↦ less | inr most ↦ absurd (inside (inl (omega arith))) ],
      )

  -- a Turn follows an instruction that departs
  pub turn_follows : (entry i : ℕ) (x : Instr) → StandsAt code i x → IsOfProcedure code entry i → (IsEndProc x → ⊥) → Departs x →
      IsTurnIn code entry (i + 1)
  turn_follows entry i x at p n d =
      let next = goes_on_in entry i x at p n in
      let y = there_is (i + 1) next.1 in
      elim (decided (is_turn (Some y.0))) [
        | inl turns ↦ turn_here entry (i + 1) y.0 y.1 next.0 ((turn_agrees y.0).yes turns)
        | inr none ↦ absurd (none_breaks (i + 1) y.0 y.1 (no_turn_follows entry i x refl at d p next.0 (denied (turn_agrees y.0) none)))
      ]

  -- a procedure begins with a Turn
  entry_within : (entry : ℕ) → BeginsAt code entry → entry < total
  entry_within entry b = elim (cases_lt entry total) [
    | inl less ↦ less
    | inr past ↦ absurd ((breaks_none code range).0 valid (total - 1) (past_the_end (record { entry = entry; begins = b; past = past; last = refl })))
  ]

  pub turn_at_entry : (entry : ℕ) → BeginsAt code entry → IsTurnIn code entry entry
  turn_at_entry entry b =
      let x = there_is entry (entry_within entry b) in
      let own : IsOfProcedure code entry entry = record { begins = b; from = omega arith; before = λ later c above. above } in
      elim (decided (is_turn (Some x.0))) [
        | inl turns ↦ turn_here entry entry x.0 x.1 own ((turn_agrees x.0).yes turns)
        | inr none ↦ absurd (none_breaks entry x.0 x.1 (begins_without_turn b (denied (turn_agrees x.0) none)))
      ]

  -- whether a number is one of a procedure
  abbrev is_apart : ℕ → ℕ → ℕ → Bool
  is_apart entry i later = nat_le later entry || nat_lt i later

  apart_by : (entry i later : ℕ) → is_apart entry i later ≡ true → entry < later → i < later
  apart_by entry i later e above = by (nat_le later entry) refl e
    where
      by : (b : Bool) → nat_le later entry ≡ b → b || nat_lt i later ≡ true → i < later
      by true f g = absurd (let most : later ≤ entry = grind (arith, nat_tests) in omega arith)
      by false f g = grind (arith, nat_tests)

  not_apart : (entry i later : ℕ) → is_apart entry i later ≡ false → (entry < later) × (later ≤ i)
  not_apart entry i later e = by (nat_le later entry) refl e
    where
      by : (b : Bool) → nat_le later entry ≡ b → b || nat_lt i later ≡ false → (entry < later) × (later ≤ i)
      by true f g = absurd cc
      by false f g = (grind (arith, nat_tests), grind (arith, nat_tests))

  procedure_decided : (entry i : ℕ) → BeginsAt code entry → entry ≤ i → IsOfProcedure code entry i ⊎ (IsOfProcedure code entry i → ⊥)
  procedure_decided entry i b h = by (list_all (is_apart entry i) (entries_of code.procedures)) refl
    where
      by : (o : Bool) → list_all (is_apart entry i) (entries_of code.procedures) ≡ o → IsOfProcedure code entry i ⊎ (IsOfProcedure code entry i → ⊥)
      by true e = inl (record {
        begins = b;
        from = h;
        before = λ later c above.
            let passed = holds_in (is_apart entry i) (entries_of code.procedures) c.procedure later e
            (slice_get_within (entries_of code.procedures) c.procedure later c.entry_is)
            (get_or_from_slice_get (entries_of code.procedures) c.procedure later later c.entry_is) in
            apart_by entry i later passed above;
      })
      by false e = inr (λ p.
          let f = find_false (is_apart entry i) (entries_of code.procedures) e in
          let at = slice_get-get_or (entries_of code.procedures) f.1.0 f.0 f.1.1 ∙ ap Some f.1.2 in
          let both = not_apart entry i f.0 f.2 in
          let below = p.before f.0 (record { procedure = f.1.0; entry_is = at }) both.0 in
          omega (arith, both.1))

  -- a target is a Turn of the same procedure
  pub target_in : (entry i to : ℕ) (x : Instr) → StandsAt code i x → IsOfProcedure code entry i → HasTarget x to → IsTurnIn code entry to
  target_in entry i to x at p names = elim (cases_lt to total) [
    | inr past ↦ absurd (lost (λ t. let within : to < total = slice_get_within code.instrs to (Turn t.piece) t.turn in omega arith))
    | inl within ↦ found (there_is to within)
  ]
    where
      lost : (IsTurnBeside code i to → ⊥) → ⊥
      lost n = none_breaks i x at (target_elsewhere to names n)

      same : (t : IsTurnBeside code i to) → t.entry ≡ entry
      same t = one_procedure code t.entry entry i t.here p

      found : ((y : Instr) × StandsAt code to y) → IsTurnIn code entry to
      found y = elim (decided (is_turn (Some y.0))) [
        | inr none ↦ absurd (lost (λ t. denied (turn_agrees y.0) none (subst IsTurnInstr (same_instr code to (Turn t.piece) y.0 t.turn y.1) tt)))
        | inl turns ↦ elim (cases_lt to entry) [
          | inl below ↦ absurd (lost (λ t. omega (arith, same t, t.there.from)))
          | inr above ↦ elim (procedure_decided entry to p.begins above) [
            | inl own ↦ turn_here entry to y.0 y.1 own ((turn_agrees y.0).yes turns)
            | inr other ↦ absurd (lost (λ t. other (subst (λ (e : ℕ). IsOfProcedure code e to) (same t) t.there)))
          ]
        ]
      ]

  -- where a procedure of a number begins
  pub entry_at : (p : ℕ) → p < length code.procedures → slice_get (entries_of code.procedures) p ≡ Some (entry_of (entries_of code.procedures) p)
  entry_at p h =
      slice_get-get_or (entries_of code.procedures) p nowhere (omega (arith, h, length-map code.procedures (λ (q : ProcDef). q.entry)))

  pub in_range : (i : ℕ) (x : Instr) → StandsAt code i x →
      IsInstr code.variables (length code.literals) (length code.texts) (length code.procedures) x
  in_range i x at =
      subst (IsInstr code.variables (length code.literals) (length code.texts) (length code.procedures))
      (get_or_from_slice_get code.instrs i x x at) (range.instrs i x (slice_get_within code.instrs i x at))
