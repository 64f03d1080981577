-- The search for the first break, step by step: what it finds between two numbers.
use Rattle.std.proofs.Common.{◌≡◌, ℕ, ◌+◌, ◌<◌, ◌≤◌, inl, inr, Bool, true, false, List, Option, Some, None, length, arith, refl, subst}
use Rattle.std.proofs.lemmas.Bool.{cases_lt}
use Rattle.stapl_meaning.specs.declared.values.ValueKind.{ValueKind}
use Rattle.stapl_code.specs.declared.raw.CodeLists.{CodeLists}
use Rattle.stapl_code.specs.declared.instr.Instr.{Instr}
use Rattle.stapl_code.specs.Valid.{judged, first_of}
use Rattle.code_rules.specs.Places.{StandsAt}
use Rattle.code_rules.specs.Rules.{RuleBreak, BeginsPastTheEnd, BreaksRule, instruction, past_the_end}
use Rattle.code_rules.proofs.PartLemmas.{same_instr}

module _ (code : CodeLists) where
  -- no instruction in this range breaks a rule, but for one of which a procedure past the end is told
  abbrev pub BreakNone : ℕ → ℕ → Type 0
  BreakNone from to = (i : ℕ) → from ≤ i → i < to → i < length code.instrs → BreaksRule code i → BeginsPastTheEnd code i

  -- this is the first break in the range
  abbrev pub FindsFirst : ℕ → ℕ → Option ℕ → Type 0
  FindsFirst from to None = BreakNone from to
  FindsFirst from to (Some k) = BreaksRule code k × (k < length code.instrs) × BreakNone from k

  both_none : (a b c : ℕ) → BreakNone a b → BreakNone b c → BreakNone a c
  both_none a b c f g i h less within breaks =
      elim (cases_lt i b) [ inl before ↦ f i h before within breaks | inr later ↦ g i later less within breaks ]

  pub joined : (a b c : ℕ) (r s : Option ℕ) → FindsFirst a b r → FindsFirst b c s → FindsFirst a c (first_of r s)
  joined a b c None None f g = both_none a b c f g
  joined a b c None (Some k) f g = (g.0, g.1, both_none a b k f g.2)
  joined a b c (Some k) s f g = f

  one_of : (i : ℕ) (x : Instr) → StandsAt code i x → (RuleBreak code i x → ⊥) → BreaksRule code i → BeginsPastTheEnd code i
  one_of i x at n (instruction y s b) = absurd (n (subst (RuleBreak code i) (same_instr code i y x s at) b))
  one_of i x at n (past_the_end p) = p

  alone : (i : ℕ) (x : Instr) → StandsAt code i x → (RuleBreak code i x → ⊥) → BreakNone i (i + 1)
  alone i x at n j h less within breaks =
      let same : i ≡ j = omega arith in
      subst (λ m. BreaksRule code m → BeginsPastTheEnd code m) same (one_of i x at n) breaks

  -- the search at one instruction
  pub judged_first : (i to : ℕ) (x : Instr) (o : Option (List ValueKind)) (well : Bool) (go : List ValueKind → Option ℕ) →
      StandsAt code i x → i < length code.instrs → (o ≡ None → RuleBreak code i x) → (well ≡ false → RuleBreak code i x) →
      ((after : List ValueKind) → o ≡ Some after → well ≡ true → (RuleBreak code i x → ⊥) × FindsFirst (i + 1) to (go after)) →
      FindsFirst i to (judged o well i go)
  judged_first i to x None well go at within n w g = (instruction x at (n refl), within, λ j h less. absurd (omega arith))
  judged_first i to x (Some after) false go at within n w g = (instruction x at (w refl), within, λ j h less. absurd (omega arith))
  judged_first i to x (Some after) true go at within n w g =
      let both = g after refl refl in
      joined i (i + 1) to None (go after) (alone i x at both.0) both.1
