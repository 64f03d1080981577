-- A valid code that runs straight on holds no more operands than its depth.
use Rattle.std.proofs.Common.{◌≡◌, ℕ, suc, ◌+◌, ◌-◌, ◌<◌, ◌≤◌, Bool, true, false, List, [], ◌∷◌, ◌++◌, Option, Some, None, length, drop, arith, refl, sym, ap, ◌∙◌, subst, drop_of_length-le}
use Rattle.std.specs.Prelude.{slice_range, nat_lt, AllPairs}
use Rattle.std.specs.List.{list_all}
use Rattle.std.proofs.lemmas.List.{take-append-drop, drop-drop}
use Rattle.stapl_meaning.specs.declared.values.ValueKind.{ValueKind}
use Rattle.stapl_code.specs.declared.raw.VarDef.{VarDef}
use Rattle.stapl_code.specs.declared.raw.ProcDef.{ProcDef}
use Rattle.stapl_code.specs.declared.raw.CodeLists.{CodeLists}
use Rattle.stapl_code.specs.declared.instr.Instr.{Instr}
use Rattle.stapl_code.specs.declared.instr.Instr.TheVariants.{EndProc}
use Rattle.stapl_code.specs.Ranges.{IsInRange}
use Rattle.stapl_code.specs.Kinds.{then_kinds, kinds_after}
use Rattle.stapl_code.specs.Valid.{is_end, sets_up, departs, is_last, agree, kinds_kept, stands_well, prologue_break, rest_break, procedure_break, next_entry, procedures_break, IsValid}
use Rattle.stapl_code.specs.Depth.{deepest, procedures_depth, depth_of}
use Rattle.stapl_code.specs.Rooms.{HoldWithin, AllHoldWithin}
use Rattle.stapl_code.proofs.KindCounts.{then_some, count_is}
use Rattle.stapl_code.proofs.ValidRuns.{first_none, judged_none, and_right, end_stands, deeper, before_next, prologue_ok, rest_ok, within, none_kept}
use Rattle.stapl_code.proofs.RoomLemmas.{fewer_hold, hold_from}

is_the_end : (end : Bool) → agree end true ≡ true → end ≡ true
is_the_end true e = refl
is_the_end false e = absurd cc

-- no operand is left after an EndProc
end_clears : (variables : List VarDef) (x : Instr) (ks after : List ValueKind) → is_end x ≡ true →
    kinds_after variables x ks ≡ Some after → ◌≡◌ {A = List ValueKind} after []
end_clears variables EndProc [] after end e = cc
end_clears variables EndProc (k ∷ ks) after end e = absurd cc
end_clears variables _ ks after end e = absurd cc

none_after : (variables : List VarDef) (x : Instr) (rest : List Instr) (ks after : List ValueKind) →
    agree (is_end x) (is_last rest) ≡ true → kinds_after variables x ks ≡ Some after → rest ≡ [] → ◌≡◌ {A = List ValueKind} after []
none_after variables x [] ks after well e f = end_clears variables x ks after (is_the_end (is_end x) well) e
none_after variables x (y ∷ rest) ks after well e f = absurd cc

module _ (code : CodeLists) where
  abbrev total : ℕ
  total = length code.instrs

  -- the kinds after these instructions
  abbrev kinds_through : List ValueKind → List Instr → Option (List ValueKind)
  kinds_through ks [] = Some ks
  kinds_through ks (x ∷ rest) = then_kinds (kinds_after code.variables x ks) (λ after. kinds_through after rest)

  -- instructions that leave no operand have the room that they need, if those after them have it
  through_hold : (room : ℕ) (l beyond : List Instr) (ks : List ValueKind) → kinds_through ks l ≡ Some [] →
      deepest code.variables ks l ≤ room → HoldWithin room 0 beyond → HoldWithin room (length ks) (l ++ beyond)
  through_hold room [] beyond ks e deep hold =
      let none : ks ≡ [] = cc in fewer_hold room (length ks) 0 beyond (omega (arith, ap length none)) hold
  through_hold room (x ∷ rest) beyond ks e deep hold =
      let t = then_some (kinds_after code.variables x ks) (λ after. kinds_through after rest) [] e in
      let under = deeper code x ks t.0 rest t.1 in
      let later = through_hold room rest beyond t.0 t.2 (omega (arith, under.1, deep)) hold in
      (omega (arith, under.0, deep), subst (λ (n : ℕ). HoldWithin room n (rest ++ beyond)) (count_is code.variables x ks t.0 t.1) later)

  -- a procedure that breaks no rule leaves no operand
  rest_through : (entry : ℕ) (procedure : List Instr) (i : ℕ) (must : Bool) (ks : List ValueKind) (l : List Instr) →
      (l ≡ [] → ks ≡ []) → rest_break code.variables entry procedure i must ks l ≡ None → kinds_through ks l ≡ Some []
  rest_through entry procedure i must ks [] none e = let is = none refl in cc
  rest_through entry procedure i must ks (x ∷ rest) none e =
      let go : List ValueKind → Option ℕ = λ after. rest_break code.variables entry procedure (i + 1) (departs x) after rest in
      let k = judged_none (kinds_after code.variables x ks) (stands_well entry procedure must x (is_last rest)) i go e in
      let end = end_stands entry procedure must x (is_last rest) k.2 in
      ap (λ o. then_kinds o (λ after. kinds_through after rest)) k.1
      ∙ rest_through entry procedure (i + 1) (departs x) k.0 rest (none_after code.variables x rest ks k.0 end k.1) k.3

  module _ (range : IsInRange code) (valid : IsValid code) where
    -- nor does the prologue
    prologue_through : (i : ℕ) (ks : List ValueKind) (l : List Instr) → (l ≡ [] → ks ≡ []) →
        prologue_break code.variables i ks l ≡ None → kinds_through ks l ≡ Some []
    prologue_through i ks [] none e = let is = none refl in cc
    prologue_through i ks (x ∷ rest) none e =
        let k = judged_none (kinds_kept (is_last rest) (kinds_after code.variables x ks)) (sets_up x) i (λ after. prologue_break code.variables (i + 1) after rest) e in
        let kept = none_kept code range valid rest (kinds_after code.variables x ks) k.0 k.1 in
        ap (λ o. then_kinds o (λ after. kinds_through after rest)) kept.0 ∙ prologue_through (i + 1) k.0 rest kept.1 k.3

    -- a part of the code that leaves no operand has its room, if what stands after it has it
    part_holds : (room first end : ℕ) → first ≤ end → kinds_through [] (slice_range code.instrs first end) ≡ Some [] →
        deepest code.variables [] (slice_range code.instrs first end) ≤ room → HoldWithin room 0 (drop end code.instrs) →
        HoldWithin room 0 (drop first code.instrs)
    part_holds room first end less through deep later =
        let part = slice_range code.instrs first end in
        let at : first + (end - first) ≡ end = omega (arith, less) in
        let beyond : drop (end - first) (drop first code.instrs) ≡ drop end code.instrs = drop-drop (end - first) first code.instrs ∙ ap (λ (n : ℕ). drop n code.instrs) at in
        let whole : part ++ drop end code.instrs ≡ drop first code.instrs = ap (λ l. part ++ l) (sym beyond) ∙ take-append-drop (end - first) (drop first code.instrs) in
        subst (HoldWithin room 0) whole (through_hold room part (drop end code.instrs) [] through deep later)

    procedures_hold : (room : ℕ) (ps : List ProcDef) → AllPairs (λ (a b : ProcDef). a.entry < b.entry) ps →
        list_all (λ (a : ProcDef). nat_lt a.entry total) ps ≡ true → procedures_break code.variables code.instrs ps ≡ None →
        procedures_depth code.variables code.instrs ps ≤ room → HoldWithin room 0 (drop (next_entry total ps) code.instrs)
    procedures_hold room [] order within e deep =
        let none : drop total code.instrs ≡ [] = drop_of_length-le code.instrs (omega arith) in
        let some : 0 ≤ room = omega arith in
        subst (HoldWithin room 0) (sym none) some
    procedures_hold room (p ∷ ps) order within e deep =
        let procedure = slice_range code.instrs p.entry (next_entry total ps) in
        let bounds = before_next code p ps order within in
        let both = first_none (procedure_break code.variables p.entry procedure) (procedures_break code.variables code.instrs ps) e in
        let later = procedures_hold room ps (λ i j d less inside. order (suc i) (suc j) d (omega arith) (omega arith)) (all_after p ps within) both.1 (omega (arith, deep)) in
        part_holds room p.entry (next_entry total ps) (omega (arith, bounds.0)) (rest_through p.entry procedure p.entry true [] procedure (λ _. refl) both.0) (omega (arith, deep)) later
      where
        all_after : (p : ProcDef) (ps : List ProcDef) → list_all (λ (a : ProcDef). nat_lt a.entry total) (p ∷ ps) ≡ true → list_all (λ (a : ProcDef). nat_lt a.entry total) ps ≡ true
        all_after p ps within = and_right (nat_lt p.entry total) _ within

    pub all_hold : AllHoldWithin (depth_of code) code.instrs
    all_hold place =
        let first = next_entry total code.procedures in
        let prologue = slice_range code.instrs 0 first in
        let order : AllPairs (λ (a b : ProcDef). a.entry < b.entry) code.procedures = λ i j d less inside. (range.procedures.in_order i j d less inside).1 in
        let later = procedures_hold (depth_of code) code.procedures order (within code range valid) (rest_ok code range valid).0 (omega arith) in
        let whole = part_holds (depth_of code) 0 first (omega arith) (prologue_through 0 [] prologue (λ _. refl) (prologue_ok code range valid)) (omega arith) later in
        hold_from (depth_of code) 0 place code.instrs whole
