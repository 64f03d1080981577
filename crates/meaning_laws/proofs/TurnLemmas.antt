-- Whole statements and turns break exactly by the table
use Rattle.std.proofs.Common.{◌≡◌, ℕ, ◌+◌, Bool, true, false, List, [], ◌∷◌, Option, Some, None, refl, sym, ap, ◌∙◌, subst, slice_get}
use Rattle.stapl_syntax.specs.Trees.{ExprTree, BodyTree, boolean, boolean_array, integer, integer_array, if_then, StmtTree}
use Rattle.dev_card.specs.Scans.{BoardScan}
use Rattle.stapl_meaning.specs.Deeds.{Deed}
use Rattle.stapl_meaning.specs.declared.events.RunFault.{RunFault}
use Rattle.stapl_meaning.specs.declared.events.Ending.TheVariants.{Exit, Fault, Spent}
use Rattle.stapl_meaning.specs.declared.values.ValueKind.TheVariants as kinds
use Rattle.stapl_meaning.specs.declared.values.Value.{Value}
use Rattle.stapl_meaning.specs.declared.values.Value.TheVariants.{Int, Bit}
use Rattle.stapl_meaning.specs.Values.{Got, Known, Faults, Stuck, then_get, value_of}
use Rattle.stapl_meaning.specs.Operands.{Plain, tested}
use Rattle.stapl_meaning.specs.States.{State, Did, Falls, Captures, Jumps, Resumes, Returns, Ends, Turned, Leads, Over, Broken, Scanning, NoTurn, with_got, preceded, turn_of_piece, next_chosen, jumps_to, led}
use Rattle.stapl_meaning.specs.Scopes.{Scope, Played, scope_at}
use Rattle.stapl_meaning.specs.Turns.{effect, target, rows, carried, rows_done, done, turn_of, turn}
use Rattle.meaning_laws.specs.ExprFaults.{ExprBreaks}
use Rattle.meaning_laws.specs.PartFaults.{of_value, first_part}
use Rattle.meaning_laws.specs.RowFaults.{RowBreaks, of_parts}
use Rattle.meaning_laws.specs.TurnFaults.{IsCarriedOut, itself, inner, TurnBreaks, EndsByTable, NeverFaults}
use Rattle.meaning_laws.proofs.Gets.{Breaks}
use Rattle.meaning_laws.proofs.ExprLemmas.{expr_breaks}
use Rattle.meaning_laws.proofs.EffectLemmas.{Does}
use Rattle.meaning_laws.proofs.RowLemmas.{row_got, row_does}
use Rattle.meaning_laws.proofs.RowFaultLemmas.{row_faults}

-- what breaks a statement: itself, or an inner one that is reached
abbrev StatementBreaks : Scope → State → BodyTree → RunFault → Type 0
StatementBreaks scope s b k = (row : BodyTree) × IsCarriedOut scope s b row × RowBreaks scope s row k

-- two tests in a row are one
both_got : {A B : Type 0} (g : Got A) (f : A → Got B) (s : State) (go : B → Turned) →
    with_got g s (λ x. with_got (f x) s go) ≡ with_got (then_get g f) s go
both_got (Known x) f s go = refl
both_got (Faults k) f s go = refl
both_got Stuck f s go = refl

-- what is done in a state breaks only by a relation, with nothing done before it; and after a scan nothing breaks
abbrev BreaksOnly : (RunFault → Type 0) → State → Turned → Type 0
BreaksOnly P s (Leads deeds place t) = Unit {0}
BreaksOnly P s (Over deeds (Exit z) t) = Unit {0}
BreaksOnly P s (Over deeds Spent t) = Unit {0}
BreaksOnly P s (Over deeds (Fault k piece) t) = ⊥
BreaksOnly P s (Broken deeds k t) = (deeds ≡ []) × (t ≡ s) × P k
BreaksOnly P s (Scanning deeds scan rest) = (bits : List Bool) → NeverFaults (rest bits)
BreaksOnly P s (NoTurn deeds) = Unit {0}

-- the same of what follows no deeds, by a wider relation
after_nothing : (P R : RunFault → Type 0) (s : State) (t : Turned) → ((k : RunFault) → P k → R k) → BreaksOnly P s t → BreaksOnly R s (preceded [] t)
after_nothing P R s (Leads deeds place t) f h = tt
after_nothing P R s (Over deeds (Exit z) t) f h = tt
after_nothing P R s (Over deeds Spent t) f h = tt
after_nothing P R s (Over deeds (Fault k piece) t) f h = absurd h
after_nothing P R s (Broken deeds k t) f h = (h.0, h.1, f k h.2)
after_nothing P R s (Scanning deeds scan rest) f h = h
after_nothing P R s (NoTurn deeds) f h = tt

jumps_only : (P : RunFault → Type 0) (s : State) (to : Option ℕ) (t : State) → BreaksOnly P s (jumps_to to t)
jumps_only P s None t = tt
jumps_only P s (Some place) t = tt

chosen_only : (P : RunFault → Type 0) (s : State) (entry : ℕ → ℕ) (t : State) (chosen : List ℕ) → BreaksOnly P s (next_chosen entry t chosen)
chosen_only P s entry t [] = tt
chosen_only P s entry t (p ∷ ps) = tt

module _ (scope : Scope) (s : State) where
  -- ---- a statement breaks by the table alone

  last_only : (P R : RunFault → Type 0) (to : Option ℕ) (g : Got Did) → ((k : RunFault) → P k → R k) → Does P g →
      BreaksOnly R s (with_got g s (λ did. led scope.entry to did (rows_done scope [])))
  last_only P R to (Known (Falls deeds t)) f h = tt
  last_only P R to (Known (Captures scan lands)) f h = λ bits. tt
  last_only P R to (Known (Jumps t)) f h = jumps_only R s to t
  last_only P R to (Known (Resumes place t)) f h = tt
  last_only P R to (Known (Returns t)) f h = chosen_only R s scope.entry t t.chosen
  last_only P R to (Known (Ends (Exit z) t)) f h = tt
  last_only P R to (Known (Ends Spent t)) f h = tt
  last_only P R to (Known (Ends (Fault k piece) t)) f h = absurd h
  last_only P R to (Faults k) f h = (refl, refl, f k h)
  last_only P R to Stuck f h = tt

  row_only : (b : BodyTree) → BreaksOnly (StatementBreaks scope s b) s (carried scope b s (rows_done scope []))
  row_only b =
      subst (BreaksOnly (StatementBreaks scope s b) s)
      (sym (both_got _ (λ values. effect scope b values s) s (λ did. led scope.entry (target scope b) did (rows_done scope []))))
      (last_only (RowBreaks scope s b) (StatementBreaks scope s b) (target scope b) (row_got scope s b) (λ k h. (b, itself, h)) (row_does scope s b))

  -- an IF, by the value of its condition
  abbrev if_done : ExprTree → BodyTree → Got Value → Turned
  if_done e body g =
      with_got (then_get (then_get g (tested scope.look s.store.variables Plain None)) (λ v. Known (v ∷ []))) s
      (λ values. with_got (effect scope (if_then e body) values s) s (λ did. led scope.entry (Some scope.follow) did (rows_done scope (rows body))))

  if_only : (e : ExprTree) (body : BodyTree) (g : Got Value) → value_of scope.look s.store.variables kinds.Bit e ≡ g →
      Breaks (ExprBreaks scope.look s.store.variables kinds.Bit e) g → BreaksOnly (StatementBreaks scope s body) s (done scope s body) →
      BreaksOnly (StatementBreaks scope s (if_then e body)) s (if_done e body g)
  if_only e body (Known (Bit true)) is h of_body =
      after_nothing (StatementBreaks scope s body) (StatementBreaks scope s (if_then e body)) s (done scope s body) (λ k h. (h.0, inner is h.1, h.2)) of_body
  if_only e body (Known (Bit false)) is h of_body = tt
  if_only e body (Known (Int z)) is h of_body = tt
  if_only e body (Faults k) is h of_body = (refl, refl, (if_then e body, itself, of_parts (first_part (of_value h))))
  if_only e body Stuck is h of_body = tt

  statement_only : (b : BodyTree) → BreaksOnly (StatementBreaks scope s b) s (done scope s b)
  statement_only (if_then e body) =
      if_only e body (value_of scope.look s.store.variables kinds.Bit e) refl (expr_breaks scope.look s.store.variables kinds.Bit e) (statement_only body)
  statement_only (boolean name None) = tt
  statement_only (boolean_array name size None) = tt
  statement_only (integer name None) = tt
  statement_only (integer_array name size None) = tt
  statement_only (boolean name (Some b)) = row_only (boolean name (Some b))
  statement_only (boolean_array name size (Some bits)) = row_only (boolean_array name size (Some bits))
  statement_only (integer name (Some z)) = row_only (integer name (Some z))
  statement_only (integer_array name size (Some zs)) = row_only (integer_array name size (Some zs))
  statement_only b = row_only b

  -- ---- the other way round

  carried_breaks : (b : BodyTree) (k : RunFault) (go : State → Turned) → row_got scope s b ≡ Faults k → carried scope b s go ≡ Broken [] k s
  carried_breaks b k go e =
      both_got _ (λ values. effect scope b values s) s (λ did. led scope.entry (target scope b) did go)
      ∙ ap (λ g. with_got g s (λ did. led scope.entry (target scope b) did go)) e

  row_breaks : (b : BodyTree) (k : RunFault) → row_got scope s b ≡ Faults k → done scope s b ≡ Broken [] k s
  row_breaks (if_then e body) k h = carried_breaks (if_then e body) k (rows_done scope (rows body)) h
  row_breaks (boolean name None) k h = absurd cc
  row_breaks (boolean_array name size None) k h = absurd cc
  row_breaks (integer name None) k h = absurd cc
  row_breaks (integer_array name size None) k h = absurd cc
  row_breaks (boolean name (Some b)) k h = carried_breaks (boolean name (Some b)) k (rows_done scope []) h
  row_breaks (boolean_array name size (Some bits)) k h = carried_breaks (boolean_array name size (Some bits)) k (rows_done scope []) h
  row_breaks (integer name (Some z)) k h = carried_breaks (integer name (Some z)) k (rows_done scope []) h
  row_breaks (integer_array name size (Some zs)) k h = carried_breaks (integer_array name size (Some zs)) k (rows_done scope []) h
  row_breaks b k h = carried_breaks b k (rows_done scope []) h

  reached_breaks : {b row : BodyTree} {k : RunFault} → IsCarriedOut scope s b row → RowBreaks scope s row k → done scope s b ≡ Broken [] k s
  reached_breaks {row = row} {k = k} itself h = row_breaks row k (row_faults scope s h)
  reached_breaks (inner {e = e} {b = b} is reached) h = ap (if_done e b) is ∙ ap (preceded []) (reached_breaks reached h)

-- ---- turns

pub turn_breaks : (program : Played) (i : ℕ) (s : State) (k : RunFault) → TurnBreaks program i s k → turn program i s ≡ Over [] (Fault k (i + 1)) s
turn_breaks program i s k at =
    ap (turn_of (scope_at program i) (i + 1) s) at.stands ∙ ap (turn_of_piece (i + 1)) (reached_breaks (scope_at program i) s at.reached at.holds)

-- what a turn of a piece ends with, if it ends with a fault
record EndsSo (P : RunFault → Type 0) (s : State) (own : ℕ) (deeds : List Deed) (k : RunFault) (piece : ℕ) (t : State) : Type 0 where
  pub breaks : P k
  pub nothing_done : deeds ≡ []
  pub its_piece : piece ≡ own
  pub as_it_was : t ≡ s

piece_only : (P : RunFault → Type 0) (s : State) (own : ℕ) (x : Turned) (deeds : List Deed) (k : RunFault) (piece : ℕ) (t : State) → BreaksOnly P s x →
    turn_of_piece own x ≡ Over deeds (Fault k piece) t → EndsSo P s own deeds k piece t
piece_only P s own (Leads ds place u) deeds k piece t h e = absurd cc
piece_only P s own (Over ds (Exit z) u) deeds k piece t h e = absurd cc
piece_only P s own (Over ds Spent u) deeds k piece t h e = absurd cc
piece_only P s own (Over ds (Fault j p) u) deeds k piece t h e = absurd h
piece_only P s own (Scanning ds scan rest) deeds k piece t h e = absurd cc
piece_only P s own (NoTurn ds) deeds k piece t h e = absurd cc
piece_only P s own (Broken ds j u) deeds k piece t h e =
    let same_fault : j ≡ k = cc in
    let same_piece : piece ≡ own = cc in
    let same_deeds : deeds ≡ ds = cc in
    let same_state : t ≡ u = cc in
    record { breaks = subst P same_fault h.2; nothing_done = same_deeds ∙ h.0; its_piece = same_piece; as_it_was = same_state ∙ h.1 }

pub turn_only : (program : Played) (i : ℕ) (s t : State) (deeds : List Deed) (k : RunFault) (piece : ℕ) →
    turn program i s ≡ Over deeds (Fault k piece) t → EndsByTable program i s deeds k piece t
turn_only program i s t deeds k piece = by (slice_get program.pieces i) refl
  where
    by : (o : Option StmtTree) → slice_get program.pieces i ≡ o → turn_of (scope_at program i) (i + 1) s o ≡ Over deeds (Fault k piece) t →
        EndsByTable program i s deeds k piece t
    by None stands e = absurd cc
    by (Some st) stands e =
        let scope : Scope = scope_at program i in
        let so : EndsSo (StatementBreaks scope s st.body) s (i + 1) deeds k piece t =
        piece_only (StatementBreaks scope s st.body) s (i + 1) (done scope s st.body) deeds k piece t (statement_only scope s st.body) e in
        record {
          breaks = record { statement = st; stands = stands; row = so.breaks.0; reached = so.breaks.1; holds = so.breaks.2 };
          nothing_done = so.nothing_done;
          its_piece = so.its_piece;
          as_it_was = so.as_it_was;
        }

pub one_fault : (program : Played) (i : ℕ) (s : State) (k other : RunFault) → TurnBreaks program i s k → TurnBreaks program i s other → k ≡ other
one_fault program i s k other a b =
    let e : turn program i s ≡ Over [] (Fault k (i + 1)) s = turn_breaks program i s k a in
    let f : turn program i s ≡ Over [] (Fault other (i + 1)) s = turn_breaks program i s other b in cc

-- ---- scans

abbrev LaterFaultless : Turned → Type 0
LaterFaultless (Scanning deeds scan rest) = (bits : List Bool) → NeverFaults (rest bits)
LaterFaultless _ = Unit {0}

piece_faultless : (own : ℕ) (x : Turned) → NeverFaults x → NeverFaults (turn_of_piece own x)
piece_faultless own (Leads ds place u) h = tt
piece_faultless own (Over ds (Exit z) u) h = tt
piece_faultless own (Over ds Spent u) h = tt
piece_faultless own (Over ds (Fault j p) u) h = absurd h
piece_faultless own (Broken ds j u) h = absurd h
piece_faultless own (Scanning ds scan rest) h = λ bits. piece_faultless own (rest bits) (h bits)
piece_faultless own (NoTurn ds) h = tt

later_faultless : (P : RunFault → Type 0) (s : State) (own : ℕ) (x : Turned) → BreaksOnly P s x → LaterFaultless (turn_of_piece own x)
later_faultless P s own (Leads ds place u) h = tt
later_faultless P s own (Over ds ending u) h = tt
later_faultless P s own (Broken ds j u) h = tt
later_faultless P s own (Scanning ds scan rest) h = λ bits. piece_faultless own (rest bits) (h bits)
later_faultless P s own (NoTurn ds) h = tt

turn_faultless : (scope : Scope) (own : ℕ) (s : State) (o : Option StmtTree) → LaterFaultless (turn_of scope own s o)
turn_faultless scope own s None = tt
turn_faultless scope own s (Some st) = later_faultless (StatementBreaks scope s st.body) s own (done scope s st.body) (statement_only scope s st.body)

pub scans_faultless : (program : Played) (i : ℕ) (s : State) (deeds : List Deed) (scan : BoardScan) (rest : List Bool → Turned) →
    turn program i s ≡ Scanning deeds scan rest → (bits : List Bool) → NeverFaults (rest bits)
scans_faultless program i s deeds scan rest e =
    subst LaterFaultless e (turn_faultless (scope_at program i) (i + 1) s (slice_get program.pieces i))
