-- What each statement leaves as it was.
use Rattle.std.proofs.Common.{◌≡◌, ◌≢◌, ◌<◌, ◌≤◌, ◌⊎◌, inl, inr, ℕ, Bool, List, length, Option, Some, None, refl, sym, ap, ◌∙◌, arith, slice_get}
use Rattle.std.specs.Prelude.{slice_set}
use Rattle.std.proofs.lemmas.Bool.{cases_lt}
use Rattle.std.proofs.lemmas.List.{get_or-set_other, length-set}
use Rattle.std.proofs.lemmas.Option.{slice_get-get_or, slice_get_past}
use Rattle.stapl_lexer.specs.declared.terminal.Padding.{Padding}
use Rattle.stapl_lexer.specs.declared.terminal.Padding.TheVariants as paddings
use Rattle.stapl_lexer.specs.declared.terminal.Register.{Register}
use Rattle.stapl_lexer.specs.declared.terminal.Register.TheVariants as registers
use Rattle.stapl_syntax.specs.Trees.{ExprTree, scalar, element, ArrayTree, whole, range, literal, of_int, CompareTree, BodyTree, boolean, boolean_array, integer, integer_array, assign, assign_element, assign_array, assign_range, call, goto, if_then, for_loop, next, push, pop, print, export, exported_value, exported_array, exit, scan, stop, pad, state_list, wait_cycles, wait_usec, frequency, end_procedure, StmtTree}
use Rattle.tap_states.specs.declared.Tap.{Tap}
use Rattle.stapl_meaning.specs.States.{ScanSettings, State}
use Rattle.stapl_meaning.specs.Scopes.{Scope, Played, scope_at}
use Rattle.stapl_meaning.specs.declared.waits.WaitKind.TheVariants as waits
use Rattle.stapl_meaning.specs.Values.{These, source_of, of_programs}
use Rattle.stapl_meaning.specs.Effects.{IntoWhole, IntoRange}
use Rattle.stapl_meaning.specs.Turns.{rows, turn, kind_of_wait, tap_or_idle}
use Rattle.stapl_meaning.specs.Scans.{with_padding, with_stop}
use Rattle.stapl_meaning.specs.ScanTrees.{given_target, compare_parts}
use Rattle.effect_laws.specs.Named.{Assigns, first_boolean, first_booleans, first_integer, first_integers, to_scalar, to_element, to_array, to_range, begins_loop, goes_round, takes_off, takes_off_to, captures, captures_in, compares, compares_to, inner, UsesRecords, pushes, pops, calls, begins, goes_on, returns, inner_uses, SetsScans, pads, stops, inner_sets, EndsProcedure, ends, inner_ends}
use Rattle.effect_laws.specs.Kept.{HoldsAfter}
use Rattle.effect_laws.proofs.Rows.{RowKeeps, RowsKeep, in_turn}
use Rattle.effect_laws.proofs.Effects as effects
use Rattle.effect_laws.proofs.Effects.{Writes, Stacks, Chooses, Sets, GivenWrites, CompareWrites}

-- what of a statement something survives
record Survives (Q : State → Type 0) (scope : Scope) (b : BodyTree) : Type 0 where
  writes : (name : List ℕ) → Assigns b name → Writes Q (scope.look.variable name)
  stacks : UsesRecords b → Stacks Q
  sets : SetsScans b → Sets Q
  chooses : EndsProcedure b → Chooses Q

module _ (Q : State → Type 0) (scope : Scope) where
  target_writes : (register : Register) (count : ExprTree) (source : ArrayTree) (target : Option ArrayTree) (compare : Option CompareTree) →
      Survives Q scope (scan register count source target compare) → GivenWrites Q (given_target scope.look target)
  target_writes register count source None compare k = tt
  target_writes register count source (Some (whole name)) compare k = k.writes name captures
  target_writes register count source (Some (range name first second)) compare k = k.writes name captures_in
  target_writes register count source (Some (literal bits)) compare k = tt
  target_writes register count source (Some (of_int e)) compare k = tt

  compare_writes : (register : Register) (count : ExprTree) (source : ArrayTree) (target : Option ArrayTree) (compare : Option CompareTree) →
      Survives Q scope (scan register count source target compare) → CompareWrites Q (compare_parts scope.look compare)
  compare_writes register count source target None k = tt
  compare_writes register count source target (Some (expected, (mask, scalar name))) k = k.writes name compares
  compare_writes register count source target (Some (expected, (mask, element name index))) k = k.writes name compares_to
  compare_writes register count source target (Some (expected, (mask, _))) k = tt

  row_keeps : (b : BodyTree) → Survives Q scope b → RowKeeps Q scope b
  row_keeps end_procedure k = λ vs t q. effects.in_returned Q vs t (k.stacks returns) (k.chooses ends) q
  row_keeps (boolean name (Some b)) k = λ vs t q. effects.in_assigned Q (scope.look.variable name) vs t (k.writes name first_boolean) q
  row_keeps (boolean_array name size (Some bits)) k = λ vs t q. effects.in_copied Q (IntoWhole (scope.look.variable name)) (These bits) vs t (k.writes name first_booleans) q
  row_keeps (integer name (Some z)) k = λ vs t q. effects.in_assigned Q (scope.look.variable name) vs t (k.writes name first_integer) q
  row_keeps (integer_array name size (Some zs)) k = λ vs t q. effects.in_integers Q (scope.look.variable name) zs vs t (k.writes name first_integers) q
  row_keeps (assign name e) k = λ vs t q. effects.in_assigned Q (scope.look.variable name) vs t (k.writes name to_scalar) q
  row_keeps (assign_element name index e) k = λ vs t q. effects.in_element_assigned Q (scope.look.variable name) vs t (k.writes name to_element) q
  row_keeps (assign_array name a) k = λ vs t q. effects.in_copied Q (IntoWhole (scope.look.variable name)) (source_of scope.look a) vs t (k.writes name to_array) q
  row_keeps (assign_range name first second a) k = λ vs t q. effects.in_copied Q (IntoRange of_programs (scope.look.variable name)) (source_of scope.look a) vs t (k.writes name to_range) q
  row_keeps (call name) k = λ vs t q. effects.in_called Q scope.follow vs t (k.stacks calls) q
  row_keeps (goto name) k = λ vs t q. effects.in_jumped Q vs t q
  row_keeps (if_then e body) k = λ vs t q. effects.in_parted Q vs t q
  row_keeps (for_loop name from to step) k = λ vs t q. effects.in_looped Q (scope.look.variable name) scope.follow vs t (k.stacks begins) (k.writes name begins_loop) q
  row_keeps (next name) k = λ vs t q. effects.in_repeated Q (scope.look.variable name) vs t (k.stacks goes_on) (k.writes name goes_round) q
  row_keeps (push e) k = λ vs t q. effects.in_pushed Q vs t (k.stacks pushes) q
  row_keeps (pop (scalar name)) k =
      λ vs t q. effects.in_popped Q _ _ vs t (k.stacks pops) (λ us u r. effects.in_assigned Q (scope.look.variable name) us u (k.writes name takes_off) r) q
  row_keeps (pop (element name index)) k =
      λ vs t q. effects.in_popped Q _ _ vs t (k.stacks pops) (λ us u r. effects.in_element_assigned Q (scope.look.variable name) us u (k.writes name takes_off_to) r) q
  row_keeps (print parts) k = λ vs t q. effects.in_printed Q _ t q
  row_keeps (export key (exported_value e)) k = λ vs t q. effects.in_exported Q key vs t q
  row_keeps (export key (exported_array a)) k = λ vs t q. effects.in_bits_exported Q key _ vs t q
  row_keeps (exit e) k = λ vs t q. effects.in_exited Q vs t q
  row_keeps (scan register count source target compare) k =
      λ vs t q. effects.in_scanned Q _ vs t (target_writes register count source target compare k) (compare_writes register count source target compare k) q
  row_keeps (stop register state) k = λ vs t q. effects.in_stopped Q register _ vs t (k.sets stops) q
  row_keeps (pad which count bits) k = λ vs t q. effects.in_surrounded Q which _ vs t (k.sets pads) q
  row_keeps (state_list states) k = λ vs t q. effects.in_moved Q _ vs t q
  row_keeps (wait_cycles state cycles usec last) k = λ vs t q. effects.in_waited Q (kind_of_wait usec) (tap_or_idle state) (tap_or_idle last) vs t q
  row_keeps (wait_usec state usec last) k = λ vs t q. effects.in_waited Q waits.Usec (tap_or_idle state) (tap_or_idle last) vs t q
  row_keeps (frequency hertz) k = λ vs t q. effects.in_tuned Q vs t q
  row_keeps _ k = λ vs t q. tt

  rows_keep : (b : BodyTree) → Survives Q scope b → RowsKeep Q scope (rows b)
  rows_keep (if_then e body) k = (
    row_keeps (if_then e body) k,
    rows_keep body (record {
      writes = λ name a. k.writes name (inner a);
      stacks = λ u. k.stacks (inner_uses u);
      sets = λ u. k.sets (inner_sets u);
      chooses = λ u. k.chooses (inner_ends u);
    }),
  )
  rows_keep (boolean name None) k = tt
  rows_keep (boolean_array name size None) k = tt
  rows_keep (integer name None) k = tt
  rows_keep (integer_array name size None) k = tt
  rows_keep (boolean name (Some b)) k = (row_keeps (boolean name (Some b)) k, tt)
  rows_keep (boolean_array name size (Some bits)) k = (row_keeps (boolean_array name size (Some bits)) k, tt)
  rows_keep (integer name (Some z)) k = (row_keeps (integer name (Some z)) k, tt)
  rows_keep (integer_array name size (Some zs)) k = (row_keeps (integer_array name size (Some zs)) k, tt)
  rows_keep b k = (row_keeps b k, tt)

-- another item is not changed
pub other_item : {X : Type 0} (xs : List X) (n m : ℕ) (x : X) → m ≢ n → slice_get (slice_set xs n x) m ≡ slice_get xs m
other_item xs n m x other = by (cases_lt m (length xs))
  where
    size : length (slice_set xs n x) ≡ length xs
    size = length-set xs n x

    by : (m < length xs) ⊎ (length xs ≤ m) → slice_get (slice_set xs n x) m ≡ slice_get xs m
    by (inl less) =
        slice_get-get_or (slice_set xs n x) m x (omega (arith, size, less))
        ∙ ap Some (get_or-set_other xs n m x x other)
        ∙ sym (slice_get-get_or xs m x less)
    by (inr most) = slice_get_past (slice_set xs n x) m (omega (arith, size, most)) ∙ sym (slice_get_past xs m most)

-- what speaks of no settings of scans survives these
sets_alone : (Q : State → Type 0) → ((settings other : ScanSettings) (t : State) → Q t → Q (record t { ir = settings; dr = other })) → Sets Q
sets_alone Q f = (pads_alone, stops_alone)
  where
    pads_alone : (which : Padding) (bits : List Bool) (t : State) → Q t → Q (with_padding which bits t)
    pads_alone paddings.PreData bits t q = f t.ir (record t.dr { pre = bits }) t q
    pads_alone paddings.PostData bits t q = f t.ir (record t.dr { post = bits }) t q
    pads_alone paddings.PreInstruction bits t q = f (record t.ir { pre = bits }) t.dr t q
    pads_alone paddings.PostInstruction bits t q = f (record t.ir { post = bits }) t.dr t q

    stops_alone : (register : Register) (tap : Tap) (t : State) → Q t → Q (with_stop register tap t)
    stops_alone registers.Data tap t q = f t.ir (record t.dr { stop = tap }) t q
    stops_alone registers.Instruction tap t q = f (record t.ir { stop = tap }) t.dr t q

module _ (program : Played) (i : ℕ) (s : State) (st : StmtTree) (stands : slice_get program.pieces i ≡ Some st) where
  after : (Q : State → Type 0) → Q s → Survives Q (scope_at program i) st.body → HoldsAfter Q (turn program i s)
  after Q q k = in_turn Q program i s st stands q (rows_keep Q (scope_at program i) st.body k)

  pub keeps_variable : (n : ℕ) → ((name : List ℕ) → Assigns st.body name → (scope_at program i).look.variable name ≢ n) →
      HoldsAfter (λ t. slice_get t.store.variables n ≡ slice_get s.store.variables n) (turn program i s)
  keeps_variable n others =
      after (λ t. slice_get t.store.variables n ≡ slice_get s.store.variables n) refl
      (record {
        writes = λ name a h t q. other_item t.store.variables ((scope_at program i).look.variable name) n h (λ e. others name a (sym e)) ∙ q;
        stacks = λ u records t q. q;
        sets = λ u. sets_alone (λ t. slice_get t.store.variables n ≡ slice_get s.store.variables n) (λ settings other t q. q);
        chooses = λ u chosen t q. q;
      })

  pub keeps_records : ¬ UsesRecords st.body → HoldsAfter (λ t. t.records ≡ s.records) (turn program i s)
  keeps_records none =
      after (λ t. t.records ≡ s.records) refl
      (record {
        writes = λ name a h t q. q;
        stacks = λ u. absurd (none u);
        sets = λ u. sets_alone (λ t. t.records ≡ s.records) (λ settings other t q. q);
        chooses = λ u chosen t q. q;
      })

  pub keeps_scans : ¬ SetsScans st.body → HoldsAfter (λ t. (t.ir ≡ s.ir) × (t.dr ≡ s.dr)) (turn program i s)
  keeps_scans none =
      after (λ t. (t.ir ≡ s.ir) × (t.dr ≡ s.dr)) (refl, refl)
      (record { writes = λ name a h t q. q; stacks = λ u records t q. q; sets = λ u. absurd (none u); chooses = λ u chosen t q. q })

  pub keeps_chosen : ¬ EndsProcedure st.body → HoldsAfter (λ t. t.chosen ≡ s.chosen) (turn program i s)
  keeps_chosen none =
      after (λ t. t.chosen ≡ s.chosen) refl
      (record {
        writes = λ name a h t q. q;
        stacks = λ u records t q. q;
        sets = λ u. sets_alone (λ t. t.chosen ≡ s.chosen) (λ settings other t q. q);
        chooses = λ u. absurd (none u);
      })
