-- The search for the first break of a code finds what the rules say.
use Rattle.std.proofs.Common.{◌≡◌, ◌↔◌, ℕ, ◌+◌, ◌-◌, ◌<◌, ◌≤◌, ◌⊎◌, inl, inr, Bool, true, false, List, [], ◌∷◌, Option, Some, None, length, drop, slice_get, slice_range, option_map, arith, refl, sym, ap, subst, ◌∙◌, add-one, length-drop}
use Rattle.std.specs.Prelude.{nat_lt, if◌then◌else◌}
use Rattle.std.specs.List.{list_all}
use Rattle.std.proofs.lemmas.Bool.{cases_lt}
use Rattle.std.proofs.lemmas.Bool.Decides.{nat_tests}
use Rattle.std.proofs.lemmas.Option.{slice_get_within, slice_get-map, slice_get-get_or, get_or_from_slice_get}
use Rattle.stapl_code.specs.declared.raw.ProcDef.{ProcDef}
use Rattle.stapl_code.specs.declared.raw.CodeLists.{CodeLists}
use Rattle.stapl_code.specs.Ranges.{IsInRange}
use Rattle.stapl_code.specs.Valid.{first_of, procedure_break, prologue_break, next_entry, procedures_break, entry_break, first_break}
use Rattle.stapl_code.proofs.Heads.{head_of, get_head, drop_tail}
use Rattle.code_rules.specs.Places.{BeginsAt}
use Rattle.code_rules.specs.KindMoves.{at_first}
use Rattle.code_rules.specs.Rules.{BeginsPastTheEnd, BreaksRule, instruction, past_the_end, IsFirstBreak}
use Rattle.code_rules.proofs.KindLemmas.{find_false, holds_in}
use Rattle.code_rules.proofs.PartLemmas.{IsOnePart}
use Rattle.code_rules.proofs.SearchSteps.{FindsFirst, joined}
use Rattle.code_rules.proofs.ProcedureBreaks.{search_procedure}
use Rattle.code_rules.proofs.PrologueBreaks.{search_prologue}

first_of_three : (r s t : Option ℕ) → first_of r (first_of s t) ≡ first_of (first_of r s) t
first_of_three None s t = refl
first_of_three (Some i) s t = refl

-- what a search over the whole code finds
abbrev Result : CodeLists → Option ℕ → Type 0
Result code None = (i : ℕ) → BreaksRule code i → ⊥
Result code (Some k) = IsFirstBreak code k

entry_by : (o : Option ProcDef) (entry : ℕ) → option_map (λ (p : ProcDef). p.entry) o ≡ Some entry → (p : ProcDef) × (o ≡ Some p) × (p.entry ≡ entry)
entry_by None entry e = absurd cc
entry_by (Some p) entry e = (p, refl, cc)

module _ (code : CodeLists) (range : IsInRange code) where
  abbrev pub total : ℕ
  total = length code.instrs

  abbrev IsProcedure : ℕ → ProcDef → Type 0
  IsProcedure n p = slice_get code.procedures n ≡ Some p

  begins_at : (n : ℕ) (p : ProcDef) → IsProcedure n p → BeginsAt code p.entry
  begins_at n p e = record {
    procedure = n;
    entry_is = slice_get-map (λ (q : ProcDef). q.entry) code.procedures n ∙ ap (option_map (λ (q : ProcDef). q.entry)) e;
  }

  procedure_of : (entry : ℕ) (b : BeginsAt code entry) → (p : ProcDef) × IsProcedure b.procedure p × (p.entry ≡ entry)
  procedure_of entry b =
      entry_by (slice_get code.procedures b.procedure) entry (sym (slice_get-map (λ (q : ProcDef). q.entry) code.procedures b.procedure) ∙ b.entry_is)

  rises : (m n : ℕ) (p q : ProcDef) → IsProcedure m p → IsProcedure n q → m < n → p.entry < q.entry
  rises m n p q ep eq less =
      let order = (range.procedures.in_order m n p less (slice_get_within code.procedures n q eq)).1 in
      let one = ap (λ (a : ProcDef). a.entry) (get_or_from_slice_get code.procedures m p p ep) in
      let two = ap (λ (a : ProcDef). a.entry) (get_or_from_slice_get code.procedures n q p eq) in
      omega (arith, order, one, two)

  head_is : (ps : List ProcDef) (n : ℕ) (p : ProcDef) → drop n code.procedures ≡ p ∷ ps → IsProcedure n p
  head_is ps n p d = get_head n code.procedures ∙ ap head_of d

  -- no procedure with a number from n on begins before the first of these
  none_before : (ps : List ProcDef) (n : ℕ) → drop n code.procedures ≡ ps → (m : ℕ) (q : ProcDef) → IsProcedure m q → n ≤ m → next_entry total ps ≤ q.entry ⊎ (ps ≡ [])
  none_before [] n d m q e h = inr refl
  none_before (p ∷ ps) n d m q e h = inl (elim (cases_lt n m) [
    | inl less ↦ omega (arith, rises n m p q (head_is ps n p d) e less)
    | inr same ↦ (let at : n ≡ m = omega arith in
        let own = subst (λ (k : ℕ). IsProcedure k p) at (head_is ps n p d) in
        let is : p ≡ q = cc in
        omega (arith, ap (λ (a : ProcDef). a.entry) is))
  ])

  no_more : (n m : ℕ) (q : ProcDef) → drop n code.procedures ≡ [] → IsProcedure m q → n ≤ m → ⊥
  no_more n m q d e h = omega (arith, slice_get_within code.procedures m q e, ap length d, length-drop n code.procedures)

  later_begins : (ps : List ProcDef) (n : ℕ) → drop n code.procedures ≡ ps → (m : ℕ) (q : ProcDef) → IsProcedure m q → n ≤ m → next_entry total ps ≤ q.entry
  later_begins ps n d m q e h = elim (none_before ps n d m q e h) [
    | inl less ↦ less
    | inr none ↦ absurd (no_more n m q (d ∙ none) e h)
  ]

  pub part_ends : (ps : List ProcDef) (n : ℕ) → drop n code.procedures ≡ ps → BeginsAt code (next_entry total ps) ⊎ (total ≤ next_entry total ps)
  part_ends [] n d = inr (omega arith)
  part_ends (p ∷ ps) n d = inl (begins_at n p (head_is ps n p d))

  procedure_part : (p : ProcDef) (ps : List ProcDef) (n : ℕ) → IsProcedure n p → drop (n + 1) code.procedures ≡ ps → IsOnePart code p.entry (next_entry total ps)
  procedure_part p ps n e d = record {
    first = inr (begins_at n p e);
    inside = λ entry b above.
        let q = procedure_of entry b in
        let later : n + 1 ≤ b.procedure = elim (cases_lt n b.procedure) [
          | inl less ↦ omega arith
          | inr not_later ↦ absurd (elim (cases_lt b.procedure n) [
            | inl less ↦ omega (arith, q.2, rises b.procedure n q.0 p q.1 e less)
            | inr same ↦ (let at : b.procedure ≡ n = omega arith in
                let own = subst (λ (k : ℕ). IsProcedure k q.0) at q.1 in
                let is : p ≡ q.0 = cc in
                omega (arith, q.2, ap (λ (a : ProcDef). a.entry) is))
          ])
        ] in
        omega (arith, q.2, later_begins ps (n + 1) d b.procedure q.0 q.1 later);
    ends = part_ends ps (n + 1) d;
  }

  search_procedures : (ps : List ProcDef) (n : ℕ) → drop n code.procedures ≡ ps →
      FindsFirst code (next_entry total ps) total (procedures_break code.variables code.instrs ps)
  search_procedures [] n d = λ i above less within. absurd (omega arith)
  search_procedures (p ∷ ps) n d =
      let e = head_is ps n p d in
      let after : drop (n + 1) code.procedures ≡ ps = rw add-one (drop_tail n code.procedures ∙ ap (drop 1) d) in
      let part = procedure_part p ps n e after in
      joined code p.entry (next_entry total ps) total
      (procedure_break code.variables p.entry (slice_range code.instrs p.entry (next_entry total ps))) (procedures_break code.variables code.instrs ps)
      (search_procedure code p.entry (next_entry total ps) part (begins_at n p e) (slice_range code.instrs p.entry (next_entry total ps)) p.entry true [] refl
      (omega arith) (inl refl) (λ some. at_first part.first))
      (search_procedures ps (n + 1) after)

  abbrev pub prologue_end : ℕ
  prologue_end = next_entry total code.procedures

  pub all_after : (entry : ℕ) → BeginsAt code entry → prologue_end ≤ entry
  all_after entry b =
      let q = procedure_of entry b in
      omega (arith, q.2, later_begins code.procedures 0 refl b.procedure q.0 q.1 (omega arith))

  prologue_part : IsOnePart code 0 prologue_end
  prologue_part = record { first = inl refl; inside = λ entry b above. all_after entry b; ends = part_ends code.procedures 0 refl }

  abbrev of_prologue : Option ℕ
  of_prologue = prologue_break code.variables 0 [] (slice_range code.instrs 0 prologue_end)

  abbrev of_procedures : Option ℕ
  of_procedures = procedures_break code.variables code.instrs code.procedures

  search_parts : FindsFirst code 0 total (first_of of_prologue of_procedures)
  search_parts =
      joined code 0 prologue_end total of_prologue of_procedures
      (search_prologue code prologue_end prologue_part all_after (slice_range code.instrs 0 prologue_end) 0 [] refl (λ some. at_first (inl refl)))
      (search_procedures code.procedures 0 refl)

  -- procedures that begin past the end
  begins_within : (p : ProcDef) → nat_lt p.entry total ≡ true → p.entry < total
  begins_within p e = grind (arith, nat_tests)

  begins_past : (p : ProcDef) → nat_lt p.entry total ≡ false → total ≤ p.entry
  begins_past p e = grind (arith, nat_tests)

  none_past : list_all (λ p. nat_lt p.entry total) code.procedures ≡ true → (i : ℕ) → BeginsPastTheEnd code i → ⊥
  none_past all i b =
      let q = procedure_of b.entry b.begins in
      let n = b.begins.procedure in
      let passed = holds_in (λ (p : ProcDef). nat_lt p.entry total) code.procedures n q.0 all (slice_get_within code.procedures n q.0 q.1)
      (get_or_from_slice_get code.procedures n q.0 q.0 q.1) in
      omega (arith, q.2, b.past, begins_within q.0 passed)

  one_past : list_all (λ p. nat_lt p.entry total) code.procedures ≡ false → BeginsPastTheEnd code (total - 1)
  one_past e =
      let f = find_false (λ (p : ProcDef). nat_lt p.entry total) code.procedures e in
      let at : IsProcedure f.1.0 f.0 = slice_get-get_or code.procedures f.1.0 f.0 f.1.1 ∙ ap Some f.1.2 in
      record { entry = f.0.entry; begins = begins_at f.1.0 f.0 at; past = begins_past f.0 f.2; last = refl }

  told_last : (i k : ℕ) → i < k → k < total → BeginsPastTheEnd code i → ⊥
  told_last i k less within b = omega (arith, b.last)

  breaks_within : (i : ℕ) → BreaksRule code i → (i < total) ⊎ BeginsPastTheEnd code i
  breaks_within i (instruction x at b) = inl (slice_get_within code.instrs i x at)
  breaks_within i (past_the_end b) = inr b

  with_entries : (r : Option ℕ) (all : Bool) → list_all (λ p. nat_lt p.entry total) code.procedures ≡ all → FindsFirst code 0 total r →
      Result code (first_of r (if all then None else Some (total - 1)))
  with_entries (Some k) all e f = record { breaks = f.0; first = λ i less b. told_last i k less f.1 (f.2 i (omega arith) less (omega (arith, f.1)) b) }
  with_entries None true e f = λ i b. elim (breaks_within i b) [
    | inl within ↦ none_past e i (f i (omega arith) within within b)
    | inr past ↦ none_past e i past
  ]
  with_entries None false e f = record {
    breaks = past_the_end (one_past e);
    first = λ i less b.
        let within : i < total = omega arith in
        let told = (f i (omega arith) within within b).last in
        omega (arith, told);
  }

  result : Result code (first_break code)
  result =
      subst (Result code) (sym (first_of_three of_prologue of_procedures (entry_break total code.procedures)))
      (with_entries (first_of of_prologue of_procedures) (list_all (λ p. nat_lt p.entry total) code.procedures) refl search_parts)

  one_first : (i k : ℕ) → IsFirstBreak code i → IsFirstBreak code k → i ≡ k
  one_first i k f g = elim (cases_lt i k) [
    | inl less ↦ absurd (g.first i less f.breaks)
    | inr most ↦ elim (cases_lt k i) [ inl less ↦ absurd (f.first k less g.breaks) | inr least ↦ omega arith ]
  ]

  named_by : (o : Option ℕ) → Result code o → (i : ℕ) → (o ≡ Some i) ↔ IsFirstBreak code i
  named_by None r i = (λ e. absurd cc, λ f. absurd (r i f.breaks))
  named_by (Some k) r i = (λ e. let same : k ≡ i = cc in subst (IsFirstBreak code) same r, λ f. ap Some (one_first k i r f))

  valid_by : (o : Option ℕ) → Result code o → (o ≡ None) ↔ ((i : ℕ) → BreaksRule code i → ⊥)
  valid_by None r = (λ e. r, λ n. refl)
  valid_by (Some k) r = (λ e. absurd cc, λ n. absurd (n k r.breaks))

  pub names_first : (i : ℕ) → (first_break code ≡ Some i) ↔ IsFirstBreak code i
  names_first i = named_by (first_break code) result i

  pub breaks_none : (first_break code ≡ None) ↔ ((i : ℕ) → BreaksRule code i → ⊥)
  breaks_none = valid_by (first_break code) result
