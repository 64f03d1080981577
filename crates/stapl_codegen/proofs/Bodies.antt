-- The code of a statement does what the statement does.
use Rattle.std.proofs.Common.{◌≡◌, ℕ, suc, ◌-◌, Bool, true, false, List, [], ◌∷◌, ◌++◌, length, Option, Some, None, refl, sym, ap, subst, ◌∙◌, arith, length-append}
use Rattle.std.specs.Prelude.{ℤ, nat_abs, is_some, map, slice_get, slice_set}
use Rattle.std.proofs.lemmas.Bool.{true≢false}
use Rattle.stapl_syntax.specs.Trees.{ExprTree, BodyTree, scalar, element, end_procedure, boolean, boolean_array, integer, integer_array, assign, assign_element, assign_array, assign_range, call, goto, if_then, for_loop, next, push, pop, print, exported_value, exported_array, export, exit, scan, stop, pad, state_list, wait_cycles, wait_usec, frequency}
use Rattle.stapl_syntax.specs.Kinds.{expr_kind}
use Rattle.stapl_meaning.specs.Deeds.{Deed, Chain, deeds_events, deeds_chain}
use Rattle.stapl_meaning.specs.declared.events.RunFault.{RunFault}
use Rattle.stapl_meaning.specs.declared.events.RunFault.TheVariants.{IndexOutOfRange}
use Rattle.stapl_meaning.specs.declared.records.Record.{Record}
use Rattle.stapl_meaning.specs.declared.records.Record.TheVariants.{Pushed, Called, Looped}
use Rattle.stapl_meaning.specs.declared.values.Held.{Held}
use Rattle.stapl_meaning.specs.declared.values.Held.TheVariants as held
use Rattle.stapl_meaning.specs.declared.values.Value.{Value}
use Rattle.stapl_meaning.specs.declared.values.Value.TheVariants.{Int, Bit}
use Rattle.stapl_meaning.specs.declared.values.ValueKind.{ValueKind}
use Rattle.stapl_meaning.specs.declared.values.ValueKind.TheVariants as kinds
use Rattle.stapl_meaning.specs.Values.{Got, Known, Faults, Stuck, then_get, is_index, passed, index_held, of_programs, Lookup, value_of}
use Rattle.stapl_meaning.specs.Operands.{an_index, values_of, given_kind, printed_kind}
use Rattle.stapl_meaning.specs.States.{State, Did, Falls, Jumps, Resumes, Returns, Ends, Turned, Captures, Leads, with_got, preceded, next_chosen, led, Happened, Led, happens, with_events, scanned_on}
use Rattle.stapl_meaning.specs.Effects.{with_scalar, replaced, scalar_written, written, assigned, with_element, element_written, element_assigned, IntoWhole, IntoRange, copied, with_records, value_as, topmost, popped, called, returned_from, printed, exported, bits_exported}
use Rattle.stapl_meaning.specs.Scans.{scanned, surrounded}
use Rattle.stapl_meaning.specs.Scopes.{Scope}
use Rattle.stapl_meaning.specs.Turns.{kind_of_wait, integer_given, operands, effect, target, rows, carried, rows_done, done}
use Rattle.stapl_code.specs.declared.instr.Instr.{Instr}
use Rattle.stapl_code.specs.declared.instr.Instr.TheVariants.{Store, StoreAt, PopRecord, EndProc}
use Rattle.stapl_code.specs.Machine.{Constants, Step, Does, does, two, unrecorded, export_slots, known_literal, known_source, known_text, part_exported, wait_slots, frequency_slots, takes, lands, made, on_taken, taken, on_made, continues, stretch, entry_of}
use Rattle.stapl_code.proofs.Preceded.{with_nothing, happens_after, scan_alike}
use Rattle.stapl_codegen.specs.Emit.{program_constants, Firsts, last, between, source_code, export_part, row_texts, row_literals, after_row, rows_items, body_texts, body_literals, row_code}
use Rattle.stapl_codegen.specs.Emit.{rows_code, body_code}
use Rattle.stapl_codegen.specs.Correct.{falls, placed_record, placed_state}
use Rattle.stapl_codegen.proofs.Constants.{HasConstants, row_has, others_have, item_known, source_known, source_count}
use Rattle.stapl_codegen.proofs.Exprs.{got_on, with_known, operands_follow, one_each}
use Rattle.stapl_codegen.proofs.Placed.{placed_did, placed_got, placed_scope, effect_placed, assigned_placed, element_placed, placed, target_placed, preceded_placed, jump_placed}
use Rattle.stapl_codegen.proofs.ScanConstants.{given_known, given_count, scan_known, scan_count}
use Rattle.stapl_codegen.proofs.Prints.{parts_are_joined, parts_count}
use Rattle.stapl_codegen.proofs.Rows.{is_call, CallsLast, calls_last}
use Rattle.stapl_code.proofs.PutOn.{onto, taken_back}

pub with_placed : {A : Type 0} (place : ℕ → ℕ) (g : Got A) (s : State) (chain : Chain) (k : A → Turned) →
    got_on g (placed_state place s) chain (λ x. happens chain (placed place (k x))) ≡ happens chain (placed place (with_got g s k))
with_placed place (Known x) s chain k = refl
with_placed place (Faults f) s chain k = refl
with_placed place Stuck s chain k = refl

-- deeds in front of a turn, on a chain
deeds_placed : (place : ℕ → ℕ) (chain : Chain) (ds : List Deed) (t : Turned) →
    with_events (deeds_events chain ds) (happens (deeds_chain chain ds) (placed place t)) ≡ happens chain (placed place (preceded ds t))
deeds_placed place chain ds t = sym (happens_after chain ds (placed place t)) ∙ ap (happens chain) (preceded_placed place ds t)

-- no operator makes nothing
nothing_made : (vs : List Value) → two vs (λ x y. Stuck) ≡ Stuck
nothing_made [] = refl
nothing_made (x ∷ []) = refl
nothing_made (x ∷ y ∷ []) = refl
nothing_made (x ∷ y ∷ z ∷ vs) = refl

-- operands, and one more on top
onto_one : (vs ops : List Value) (v : Value) → onto (vs ++ v ∷ []) ops ≡ v ∷ onto vs ops
onto_one [] ops v = refl
onto_one (w ∷ vs) ops v = onto_one vs (w ∷ ops) v

-- ---- what a POP assigns never faults, after the test of its index

-- no fault
abbrev IsNoFault : {A : Type 0} → Got A → Type 0
IsNoFault (Faults k) = ⊥
IsNoFault _ = Unit {0}

abbrev pub NeverFaults : Got Did → Type 0
NeverFaults (Faults k) = ⊥
NeverFaults _ = Unit {0}

wrote_never : (s : State) (g : Got (List Held)) → IsNoFault g → NeverFaults (written s g)
wrote_never s (Known list) fine = tt
wrote_never s (Faults k) fine = fine
wrote_never s Stuck fine = tt

put_never : (variables : List Held) (n : ℕ) (g : Got Held) → IsNoFault g → IsNoFault (replaced variables n g)
put_never variables n (Known h) fine = tt
put_never variables n (Faults k) fine = fine
put_never variables n Stuck fine = tt

scalar_held : (h : Held) (v : Value) → IsNoFault (with_scalar h v)
scalar_held (held.Int old) (Int z) = tt
scalar_held (held.Bit old) (Bit b) = tt
scalar_held (held.Int old) (Bit b) = tt
scalar_held (held.Bit old) (Int z) = tt
scalar_held (held.Ints old) v = tt
scalar_held (held.Bits old) v = tt

scalar_put : (variables : List Held) (n : ℕ) (o : Option Held) (v : Value) → IsNoFault (scalar_written variables n o v)
scalar_put variables n None v = tt
scalar_put variables n (Some h) v = put_never variables n (with_scalar h v) (scalar_held h v)

scalar_never : (n : ℕ) (vs : List Value) (s : State) (v : Value) (records : List Record) → NeverFaults (assigned n (vs ++ v ∷ []) (with_records s records))
scalar_never n [] s v records =
    wrote_never (with_records s records) (scalar_written s.store.variables n (slice_get s.store.variables n) v) (scalar_put s.store.variables n (slice_get s.store.variables n) v)
scalar_never n (w ∷ []) s v records = tt
scalar_never n (w ∷ x ∷ vs) s v records = tt

passed_both : {A B : Type 0} (b : Bool) (k : RunFault) (x y : A) (z : B) → passed b k x ≡ Known y → IsNoFault (passed b k z)
passed_both true k x y z e = tt
passed_both false k x y z e = absurd cc

-- an index that passed the test of an array is one of it
element_held : (h : Held) (i : ℤ) (w v : Value) → index_held (Some h) (Int i) ≡ Known w → IsNoFault (with_element h i v)
element_held (held.Ints zs) i w (Int z) e = passed_both (is_index i (length zs)) IndexOutOfRange (Int i) w (held.Ints (slice_set zs (nat_abs i) z)) e
element_held (held.Bits bs) i w (Bit b) e = passed_both (is_index i (length bs)) IndexOutOfRange (Int i) w (held.Bits (slice_set bs (nat_abs i) b)) e
element_held (held.Ints zs) i w (Bit b) e = tt
element_held (held.Bits bs) i w (Int z) e = tt
element_held (held.Int old) i w v e = tt
element_held (held.Bit old) i w v e = tt

-- the index that a test gives is the one that it was given
index_same : (o : Option Held) (x w : Value) → index_held o x ≡ Known w → (i : ℤ) × (x ≡ Int i) × (w ≡ Int i)
index_same (Some (held.Ints zs)) (Int i) w e = (i, refl, by (is_index i (length zs)) e)
  where
    by : (b : Bool) → passed b IndexOutOfRange (Int i) ≡ Known w → w ≡ Int i
    by true e = cc
    by false e = absurd cc
index_same (Some (held.Bits bs)) (Int i) w e = (i, refl, by (is_index i (length bs)) e)
  where
    by : (b : Bool) → passed b IndexOutOfRange (Int i) ≡ Known w → w ≡ Int i
    by true e = cc
    by false e = absurd cc
index_same (Some (held.Ints zs)) (Bit b) w e = absurd cc
index_same (Some (held.Bits bs)) (Bit b) w e = absurd cc
index_same (Some (held.Int z)) x w e = absurd cc
index_same (Some (held.Bit b)) x w e = absurd cc
index_same None x w e = absurd cc

element_put : (variables : List Held) (n : ℕ) (o : Option Held) (i : ℤ) (w v : Value) → index_held o (Int i) ≡ Known w → IsNoFault (element_written variables n o i v)
element_put variables n None i w v e = tt
element_put variables n (Some h) i w v e = put_never variables n (with_element h i v) (element_held h i w v e)

element_never : (look : Lookup) (n : ℕ) (index : ExprTree) (vs : List Value) (s : State) → values_of look s.store.variables (an_index n index ∷ []) ≡ Known vs →
    (v : Value) (records : List Record) → NeverFaults (element_assigned n (vs ++ v ∷ []) (with_records s records))
element_never look n index vs s e v records = by (value_of look s.store.variables kinds.Int index) e
  where
    array : Option Held
    array = slice_get s.store.variables n

    tested_by : (x : Value) (g : Got Value) → index_held (slice_get s.store.variables n) x ≡ g → then_get g (λ w. Known (w ∷ [])) ≡ Known vs →
        NeverFaults (element_assigned n (vs ++ v ∷ []) (with_records s records))
    tested_by x (Known w) at e =
        let same = index_same (slice_get s.store.variables n) x w at in
        let all : Int same.0 ∷ [] ≡ vs = ap (λ y. y ∷ []) (sym same.2) ∙ cc in
        let own : index_held (slice_get s.store.variables n) (Int same.0) ≡ Known w = ap (index_held (slice_get s.store.variables n)) (sym same.1) ∙ at in
        subst (λ l. NeverFaults (element_assigned n (l ++ v ∷ []) (with_records s records))) all
        (wrote_never (with_records s records) (element_written s.store.variables n (slice_get s.store.variables n) same.0 v)
        (element_put s.store.variables n (slice_get s.store.variables n) same.0 w v own))
    tested_by x (Faults k) at e = absurd cc
    tested_by x Stuck at e = absurd cc

    by : (g : Got Value) → then_get (then_get g (index_held (slice_get s.store.variables n))) (λ w. Known (w ∷ [])) ≡ Known vs →
        NeverFaults (element_assigned n (vs ++ v ∷ []) (with_records s records))
    by (Known x) e = tested_by x (index_held (slice_get s.store.variables n) x) refl e
    by (Faults k) e = absurd cc
    by Stuck e = absurd cc

module _ (place : ℕ → ℕ) (entries : List ℕ) (texts : List (List ℕ)) (literals : List (List Bool)) (total : ℕ) (scope : Scope) where
  abbrev constants : Constants
  constants = program_constants texts literals

  -- the place of the code that stands before this is that of the piece after the statement
  abbrev IsAfter : List Instr → Type 0
  IsAfter rest = suc (total - suc (length rest)) ≡ place scope.follow

  -- the next turn follows after a statement
  pub record IsAtRest (rest : List Instr) : Type 0 where
    pub falls_on : (t : State) (k : Chain) → stretch entries constants total rest [] t k ≡ Led [] (place scope.follow) t k
    pub is_after : IsAfter rest

  -- procedures begin where the code says
  abbrev EntriesAre : Type 0
  EntriesAre = (p : ℕ) → entry_of entries p ≡ place (scope.entry p)

  pub end_law : (s : State) (chosen : List ℕ) → EntriesAre → next_chosen (entry_of entries) (placed_state place s) chosen ≡ placed place (next_chosen scope.entry s chosen)
  end_law s [] entry_is = refl
  end_law s (p ∷ ps) entry_is = ap (λ i. Leads [] i (record (placed_state place s) { chosen = ps })) (entry_is p)

  -- the code from here on does what the program does
  abbrev GoesAlike : List Instr → (State → Turned) → Type 0
  GoesAlike rest go = (t : State) (k : Chain) → stretch entries constants total rest [] (placed_state place t) k ≡ happens k (placed place (go t))

  did_follows : (to : Option ℕ) (g : Got Did) (s : State) (k : Chain) (rest : List Instr) (go : State → Turned) → EntriesAre → GoesAlike rest go →
      continues k (on_made entries (target_placed place to) [] (placed_state place s) (does (placed_got place g))) (stretch entries constants total rest)
      ≡ happens k (placed place (with_got g s (λ did. led scope.entry to did go)))
  did_follows to (Known (Falls [] t)) s k rest go entry_is more =
      more t k ∙ with_nothing (happens k (placed place (go t))) ∙ deeds_placed place k [] (go t)
  did_follows to (Known (Falls (d ∷ ds) t)) s k rest go entry_is more =
      ap (with_events (deeds_events k (d ∷ ds))) (more t (deeds_chain k (d ∷ ds))) ∙ deeds_placed place k (d ∷ ds) (go t)
  did_follows to (Known (Captures job lands)) s k rest go entry_is more =
      let goes : List Bool → Chain → Happened = λ bits l. happens l (placed place (go (lands bits))) in
      scan_alike k job (λ bits l. stretch entries constants total rest [] (placed_state place (lands bits)) l) goes (λ bits l. more (lands bits) l)
      ∙ with_nothing (scanned_on k job goes)
  did_follows to (Known (Jumps t)) s k rest go entry_is more = ap (happens k) (jump_placed place to t)
  did_follows to (Known (Resumes i t)) s k rest go entry_is more = refl
  did_follows to (Known (Returns t)) s k rest go entry_is more = ap (happens k) (end_law t t.chosen entry_is)
  did_follows to (Known (Ends ending t)) s k rest go entry_is more = refl
  did_follows to (Faults f) s k rest go entry_is more = refl
  did_follows to Stuck s k rest go entry_is more = refl

  -- an instruction takes all these operands, does this with them, and leads to this target
  pub record DoesSo (i : Instr) (here : ℕ) (vs : List Value) (s : State) (g : Got Did) (to : Option ℕ) : Type 0 where
    pub count : length (takes i) ≡ length vs
    pub same : made entries constants here i vs (placed_state place s) ≡ does (placed_got place g)
    pub leads : lands entries here i ≡ target_placed place to

  instr_follows : (i : Instr) (rest : List Instr) (vs : List Value) (s : State) (k : Chain) (g : Got Did) (to : Option ℕ) (go : State → Turned) →
      DoesSo i (total - suc (length rest)) vs s g to → EntriesAre → GoesAlike rest go →
      stretch entries constants total (i ∷ rest) (onto vs []) (placed_state place s) k ≡ happens k (placed place (with_got g s (λ did. led scope.entry to did go)))
  instr_follows i rest vs s k g to go so entry_is more =
      let here : ℕ = total - suc (length rest) in
      let made_of : List Value → List Value → Step = λ ws below. on_made entries (lands entries here i) below (placed_state place s) (made entries constants here i ws (placed_state place s)) in
      ap (λ n. continues k (on_taken (taken n (onto vs [])) made_of) (stretch entries constants total rest)) so.count
      ∙ ap (λ o. continues k (on_taken o made_of) (stretch entries constants total rest)) (taken_back vs [])
      ∙ ap (λ g. continues k (on_made entries (lands entries here i) [] (placed_state place s) g) (stretch entries constants total rest)) so.same
      ∙ ap (λ to. continues k (on_made entries to [] (placed_state place s) (does (placed_got place g))) (stretch entries constants total rest)) so.leads
      ∙ did_follows to g s k rest go entry_is more

  -- What stands after the operands of a row does with their values what the row does.
  pub record Tied (first : Firsts) (b : BodyTree) : Type 0 where
    pub follows : (rest : List Instr) (vs : List Value) (s : State) (k : Chain) (go : State → Turned) → values_of scope.look s.store.variables (operands scope b) ≡ Known vs →
        (is_call b ≡ true → IsAfter rest) → GoesAlike rest go →
        stretch entries constants total (between scope b (last scope place first b ∷ rest)) (onto vs []) (placed_state place s) k
        ≡ happens k (placed place (with_got (effect scope b vs s) s (λ did. led scope.entry (target scope b) did go)))

  module _ (first : Firsts) (b : BodyTree) (entry_is : EntriesAre) where
    -- what is so of the last instruction of a row, which stands right after the operands
    abbrev IsAlone : Type 0
    IsAlone = (l : List Instr) → between scope b l ≡ l

    abbrev TakesAll : Type 0
    TakesAll = length (takes (last scope place first b)) ≡ length (operands scope b)

    abbrev LeadsThere : Type 0
    LeadsThere = (here : ℕ) → lands entries here (last scope place first b) ≡ target_placed place (target scope b)

    simply : IsAlone → TakesAll → LeadsThere →
        ((here : ℕ) (vs : List Value) (s : State) → (is_call b ≡ true → suc here ≡ place scope.follow) →
        made entries constants here (last scope place first b) vs (placed_state place s) ≡ does (placed_got place (effect scope b vs s))) → Tied first b
    simply alone count leads same = record {
      follows = λ rest vs s k go e after more.
          let here : ℕ = total - suc (length rest) in
          ap (λ l. stretch entries constants total l (onto vs []) (placed_state place s) k) (alone (last scope place first b ∷ rest))
          ∙ instr_follows (last scope place first b) rest vs s k (effect scope b vs s) (target scope b) go
          (record { count = count ∙ one_each scope.look s (operands scope b) vs e; same = same here vs s after; leads = leads here }) entry_is more;
    }

    -- the same of a statement whose instruction does what it does, with the place of the code after it
    plainly : IsAlone → TakesAll → LeadsThere →
        ((here : ℕ) (vs : List Value) (s : State) → made entries constants here (last scope place first b) vs s ≡ does (effect (placed_scope place scope) b vs s)) → Tied first b
    plainly alone count leads same =
        simply alone count leads (λ here vs s after. same here vs (placed_state place s) ∙ ap does (effect_placed place scope b vs s))

  -- ---- POP: the topmost record goes on the operands, and from there into the variable

  same_state : (g : Got Did) (s t : State) (k : Did → Turned) → NeverFaults g → with_got g t k ≡ with_got g s k
  same_state (Known did) s t k never = refl
  same_state (Faults f) s t k never = absurd never
  same_state Stuck s t k never = refl

  -- an instruction that puts the topmost of its operands where a statement puts the last of its values
  pub record Assigns (i : Instr) (does_so : List Value → State → Got Did) : Type 0 where
    pub same : (here : ℕ) (vs : List Value) (s : State) → made entries constants here i vs s ≡ does (does_so vs s)
    pub leads : (here : ℕ) → lands entries here i ≡ None
    pub is_placed : (vs : List Value) (s : State) → does_so vs (placed_state place s) ≡ placed_got place (does_so vs s)

  pop_follows : (kind : ValueKind) (i : Instr) (assigns : List Value → State → Got Did) → Assigns i assigns → EntriesAre →
      (rest : List Instr) (vs : List Value) (s : State) (k : Chain) (go : State → Turned) → length (takes i) ≡ suc (length vs) →
      ((v : Value) (records : List Record) → NeverFaults (assigns (vs ++ v ∷ []) (with_records s records))) →
      GoesAlike rest go →
      stretch entries constants total (PopRecord kind ∷ i ∷ rest) (onto vs []) (placed_state place s) k
      ≡ happens k (placed place (with_got (popped kind assigns vs s) s (λ did. led scope.entry None did go)))
  pop_follows kind i assigns is entry_is rest vs s k go count never more = by s.records
    where
      leads_on : Did → Turned
      leads_on did = led scope.entry None did go

      by : (records : List Record) →
          continues k (on_made entries None (onto vs []) (placed_state place s) (unrecorded (topmost kind (map (placed_record place) records)) (placed_state place s)))
          (stretch entries constants total (i ∷ rest))
          ≡ happens k (placed place (with_got (then_get (topmost kind records) (λ top. assigns (vs ++ top.0 ∷ []) (with_records s top.1))) s (λ did. led scope.entry None did go)))
      by [] = refl
      by (Called i ∷ records) = refl
      by (Looped l ∷ records) = refl
      by (Pushed z ∷ records) =
          let v : Value = value_as kind z in
          let t : State = with_records s records in
          ap (λ ops. stretch entries constants total (i ∷ rest) ops (placed_state place t) k) (sym (onto_one vs [] v))
          ∙ instr_follows i rest (vs ++ v ∷ []) t k (assigns (vs ++ v ∷ []) t) None go
          (record {
            count = omega (arith, count, length-append vs (v ∷ []));
            same = is.same (total - suc (length rest)) (vs ++ v ∷ []) (placed_state place t) ∙ ap does (is.is_placed (vs ++ v ∷ []) t);
            leads = is.leads (total - suc (length rest));
          }) entry_is more
          ∙ ap (λ u. happens k (placed place u)) (same_state (assigns (vs ++ v ∷ []) t) s t (λ did. led scope.entry None did go) (never v records))

  -- ---- a line for each statement

  value_exported : (kind : ValueKind) (key : List ℕ) (vs : List Value) (s : State) → part_exported constants (export_part kind) key vs s ≡ exported key vs s
  value_exported kinds.Int key vs s = refl
  value_exported kinds.Bit key vs s = refl

  value_count : (kind : ValueKind) → length (export_slots (export_part kind)) ≡ 1
  value_count kinds.Int = refl
  value_count kinds.Bit = refl

  -- a WAIT takes its counts, and a FREQUENCY what is stated
  wait_count : (usec : Option ExprTree) → length (wait_slots (kind_of_wait usec)) ≡ suc (length (integer_given usec))
  wait_count None = refl
  wait_count (Some e) = refl

  frequency_count : (hertz : Option ExprTree) → length (frequency_slots (is_some hertz)) ≡ length (integer_given hertz)
  frequency_count None = refl
  frequency_count (Some e) = refl

  pub row_tied : (first : Firsts) (b : BodyTree) → EntriesAre → HasConstants constants first (row_texts b) (row_literals b) → Tied first b
  row_tied first end_procedure entry_is has = plainly first end_procedure entry_is (λ l. refl) refl (λ here. refl) (λ here vs s. refl)
  row_tied first (boolean name (Some b)) entry_is has = plainly first (boolean name (Some b)) entry_is (λ l. refl) refl (λ here. refl) (λ here vs s. refl)
  row_tied first (boolean_array name size (Some bits)) entry_is has =
      plainly first (boolean_array name size (Some bits)) entry_is (λ l. refl) refl (λ here. refl)
      (λ here vs s.
      ap (λ o. does (then_get (known_literal o) (λ from. copied (IntoWhole (scope.look.variable name)) from vs s)))
      (item_known constants.literals first.literal bits has.literals))
  row_tied first (integer name (Some z)) entry_is has = plainly first (integer name (Some z)) entry_is (λ l. refl) refl (λ here. refl) (λ here vs s. refl)
  row_tied first (integer_array name size (Some zs)) entry_is has =
      plainly first (integer_array name size (Some zs)) entry_is (λ l. refl) refl (λ here. refl) (λ here vs s. refl)
  row_tied first (assign name e) entry_is has = plainly first (assign name e) entry_is (λ l. refl) refl (λ here. refl) (λ here vs s. refl)
  row_tied first (assign_element name index e) entry_is has =
      plainly first (assign_element name index e) entry_is (λ l. refl) refl (λ here. refl) (λ here vs s. refl)
  row_tied first (assign_array name a) entry_is has =
      plainly first (assign_array name a) entry_is (λ l. refl) (source_count scope.look first.literal a) (λ here. refl)
      (λ here vs s.
      ap (λ g. does (then_get g (λ from. copied (IntoWhole (scope.look.variable name)) from vs s)))
      (source_known texts literals scope.look first.literal a has.literals))
  row_tied first (assign_range name high low a) entry_is has =
      plainly first (assign_range name high low a) entry_is (λ l. refl) (ap (λ n. suc (suc n)) (source_count scope.look first.literal a)) (λ here. refl)
      (λ here vs s.
      ap (λ g. does (then_get g (λ from. copied (IntoRange of_programs (scope.look.variable name)) from vs s)))
      (source_known texts literals scope.look first.literal a has.literals))
  row_tied first (call name) entry_is has =
      simply first (call name) entry_is (λ l. refl) refl (λ here. ap Some (entry_is (scope.procedure name)))
      (λ here vs s after.
      ap (λ n. does (called n vs (placed_state place s))) (after refl) ∙ ap does (effect_placed place scope (call name) vs s))
  row_tied first (goto name) entry_is has = plainly first (goto name) entry_is (λ l. refl) refl (λ here. refl) (λ here vs s. refl)
  row_tied first (if_then e body) entry_is has = plainly first (if_then e body) entry_is (λ l. refl) refl (λ here. refl) (λ here vs s. refl)
  row_tied first (for_loop name from to step) entry_is has =
      plainly first (for_loop name from to step) entry_is (λ l. refl) refl (λ here. refl) (λ here vs s. refl)
  row_tied first (next name) entry_is has = plainly first (next name) entry_is (λ l. refl) refl (λ here. refl) (λ here vs s. refl)
  row_tied first (push e) entry_is has = plainly first (push e) entry_is (λ l. refl) refl (λ here. refl) (λ here vs s. refl)
  row_tied first (pop (scalar name)) entry_is has = record {
    follows = λ rest vs s k go e after more.
        pop_follows (given_kind (scope.look.kind name)) (Store (scope.look.variable name)) (assigned (scope.look.variable name))
        (record { same = λ here ws t. refl; leads = λ here. refl; is_placed = assigned_placed place (scope.look.variable name) }) entry_is rest vs s k go
        (ap suc (one_each scope.look s [] vs e)) (scalar_never (scope.look.variable name) vs s) more;
  }
  row_tied first (pop (element name index)) entry_is has = record {
    follows = λ rest vs s k go e after more.
        pop_follows (given_kind (scope.look.kind name)) (StoreAt (scope.look.variable name)) (element_assigned (scope.look.variable name))
        (record { same = λ here ws t. refl; leads = λ here. refl; is_placed = element_placed place (scope.look.variable name) }) entry_is rest vs s k go
        (ap suc (one_each scope.look s (operands scope (pop (element name index))) vs e))
        (element_never scope.look (scope.look.variable name) index vs s e) more;
  }
  row_tied first (print list) entry_is has =
      plainly first (print list) entry_is (λ l. refl) (parts_count scope.look list first.text) (λ here. refl)
      (λ here vs s. ap (λ g. does (printed g s)) (parts_are_joined entries constants scope.look list first.text vs has.texts))
  row_tied first (export key (exported_value e)) entry_is has =
      let kind : ValueKind = printed_kind (expr_kind scope.look.kind e) in
      plainly first (export key (exported_value e)) entry_is (λ l. refl) (value_count kind) (λ here. refl)
      (λ here vs s.
      ap (λ o. does (then_get (known_text o) (λ bytes. part_exported constants (export_part kind) bytes vs s))) (item_known constants.texts first.text key has.texts)
      ∙ ap does (value_exported kind key vs s))
  row_tied first (export key (exported_array a)) entry_is has =
      plainly first (export key (exported_array a)) entry_is (λ l. refl) (source_count scope.look first.literal a) (λ here. refl)
      (λ here vs s.
      ap (λ o. does (then_get (known_text o) (λ bytes. then_get (known_source constants (source_code scope.look first.literal a)) (λ from. bits_exported bytes from vs s))))
      (item_known constants.texts first.text key has.texts)
      ∙ ap (λ g. does (then_get g (λ from. bits_exported key from vs s))) (source_known texts literals scope.look first.literal a has.literals))
  row_tied first (exit e) entry_is has = plainly first (exit e) entry_is (λ l. refl) refl (λ here. refl) (λ here vs s. refl)
  row_tied first (scan register count source target compare) entry_is has =
      plainly first (scan register count source target compare) entry_is (λ l. refl) (ap suc (scan_count scope.look first.literal register source target compare)) (λ here. refl)
      (λ here vs s. ap (λ g. does (then_get g (λ parts. scanned parts vs s))) (scan_known texts literals scope.look first.literal register source target compare has.literals))
  row_tied first (stop register state) entry_is has = plainly first (stop register state) entry_is (λ l. refl) refl (λ here. refl) (λ here vs s. refl)
  row_tied first (pad which count bits) entry_is has =
      plainly first (pad which count bits) entry_is (λ l. refl) (ap suc (given_count scope.look first.literal bits)) (λ here. refl)
      (λ here vs s. ap (λ g. does (then_get g (λ from. surrounded which from vs s))) (given_known texts literals scope.look first.literal bits has.literals))
  row_tied first (state_list states) entry_is has = plainly first (state_list states) entry_is (λ l. refl) refl (λ here. refl) (λ here vs s. refl)
  row_tied first (wait_cycles state cycles usec end) entry_is has =
      plainly first (wait_cycles state cycles usec end) entry_is (λ l. refl) (wait_count usec) (λ here. refl) (λ here vs s. refl)
  row_tied first (wait_usec state usec end) entry_is has = plainly first (wait_usec state usec end) entry_is (λ l. refl) refl (λ here. refl) (λ here vs s. refl)
  row_tied first (frequency hertz) entry_is has = plainly first (frequency hertz) entry_is (λ l. refl) (frequency_count hertz) (λ here. refl) (λ here vs s. refl)
  row_tied first _ entry_is has = plainly first _ entry_is (λ l. refl) refl (λ here. refl) (λ here vs s. nothing_made vs)

  -- ---- rows, and statements

  -- the law of all rows
  pub row_follows : (s : State) (k : Chain) (first : Firsts) (b : BodyTree) (rest : List Instr) (go : State → Turned) → Tied first b →
      (is_call b ≡ true → IsAfter rest) → GoesAlike rest go →
      stretch entries constants total (row_code scope place first b rest) [] (placed_state place s) k ≡ happens k (placed place (carried scope b s go))
  row_follows s k first b rest go tied after more =
      let values : Got (List Value) = values_of scope.look s.store.variables (operands scope b) in
      let did : List Value → Turned = λ vs. with_got (effect scope b vs s) s (λ did. led scope.entry (target scope b) did go) in
      operands_follow entries texts literals total (placed_state place s) k scope.look (operands scope b) (between scope b (last scope place first b ∷ rest)) []
      ∙ with_known values (placed_state place s) k _ (λ vs. happens k (placed place (did vs))) (λ vs e. tied.follows rest vs s k go e after more)
      ∙ with_placed place values s k did

  -- the place after a CALL is that after its statement
  call_after : (first : Firsts) (b : BodyTree) (bs : List BodyTree) (rest : List Instr) → CallsLast (b ∷ bs) → IsAfter rest → is_call b ≡ true →
      IsAfter (rows_code scope place first bs rest)
  call_after first b [] rest last after is = after
  call_after first b (c ∷ bs) rest last after is = absurd (true≢false (sym is ∙ last.0))

  rows_after : (b : BodyTree) (bs : List BodyTree) → CallsLast (b ∷ bs) → CallsLast bs
  rows_after b [] last = tt
  rows_after b (c ∷ bs) last = last.1

  rows_follow : (s : State) (k : Chain) (first : Firsts) (bs : List BodyTree) (rest : List Instr) → EntriesAre → HasConstants constants first (rows_items row_texts bs) (rows_items row_literals bs) →
      CallsLast bs → IsAtRest rest → stretch entries constants total (rows_code scope place first bs rest) [] (placed_state place s) k ≡ happens k (placed place (rows_done scope bs s))
  rows_follow s k first [] rest entry_is has last after = after.falls_on (placed_state place s) k
  rows_follow s k first (b ∷ bs) rest entry_is has last after =
      let own = row_has constants first (row_texts b) (rows_items row_texts bs) (row_literals b) (rows_items row_literals bs) has in
      let others = others_have constants first (row_texts b) (rows_items row_texts bs) (row_literals b) (rows_items row_literals bs) has in
      row_follows s k first b (rows_code scope place (after_row first b) bs rest) (rows_done scope bs) (row_tied first b entry_is own)
      (call_after (after_row first b) b bs rest last after.is_after)
      (λ t l. rows_follow t l (after_row first b) bs rest entry_is others (rows_after b bs last) after)

  -- ENDPROC alone may be the last statement of the code: it never goes on to what stands after it
  ends : (b : BodyTree) → falls b ≡ false → b ≡ end_procedure
  ends end_procedure e = refl
  ends _ e = absurd cc

  end_follows : (s : State) (k : Chain) (rest : List Instr) → EntriesAre →
      stretch entries constants total (EndProc ∷ rest) [] (placed_state place s) k ≡ happens k (placed place (done scope s end_procedure))
  end_follows s k rest entry_is =
      ap (λ g. continues k (on_made entries None [] (placed_state place s) (does g)) (stretch entries constants total rest)) (effect_placed place scope end_procedure [] s)
      ∙ by s.records
    where
      by : (records : List Record) →
          continues k (on_made entries None [] (placed_state place s) (Known (Does (placed_did place (returned_from records s))))) (stretch entries constants total rest)
          ≡ happens k (placed place (led scope.entry None (returned_from records s) (rows_done scope [])))
      by [] = ap (happens k) (end_law (with_records s []) s.chosen entry_is)
      by (Pushed z ∷ records) = by records
      by (Called i ∷ records) = refl
      by (Looped l ∷ records) = by records

  -- the code of a statement does in a state and on a chain what the statement does
  abbrev Follows : State → Chain → Firsts → BodyTree → List Instr → Type 0
  Follows s k first b rest = stretch entries constants total (body_code scope place first b rest) [] (placed_state place s) k ≡ happens k (placed place (done scope s b))

  pub body_follows : (s : State) (k : Chain) (first : Firsts) (b : BodyTree) (rest : List Instr) → EntriesAre → (falls b ≡ true → IsAtRest rest) →
      HasConstants constants first (body_texts b) (body_literals b) →
      Follows s k first b rest
  body_follows s k first b rest entry_is after has = by (falls b) refl
    where
      by : (t : Bool) → falls b ≡ t → Follows s k first b rest
      by true e = rows_follow s k first (rows b) rest entry_is has (calls_last b) (after e)
      by false e = subst (λ c. Follows s k first c rest) (sym (ends b e)) (end_follows s k rest entry_is)
