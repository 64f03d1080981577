-- What holds of the rows of a statement holds of its turn: of its deeds before each of its scans and after them, of its
-- scans, and of the settings of scans that it leaves.
use Rattle.std.proofs.Common.{◌≡◌, ℕ, ◌+◌, Bool, true, false, List, [], ◌∷◌, Option, Some, None, All, slice_get, refl}
use Rattle.std.proofs.lemmas.Bool.{false≢true}
use Rattle.std.proofs.lemmas.List.Elements.{All-head, All-tail}
use Rattle.std.specs.Prelude.{IfSome}
use Rattle.std.specs.Option.{option_map_or}
use Rattle.stapl_syntax.specs.Rules.{stops_unstable}
use Rattle.stapl_syntax.specs.Statements.{is_outer}
use Rattle.stapl_syntax.specs.Trees.{BodyTree, StmtTree, boolean, boolean_array, integer, integer_array, note, action, procedure, data_block, end_data, crc}
use Rattle.stapl_meaning.specs.declared.values.Value.{Value}
use Rattle.stapl_meaning.specs.Deeds.{Deed}
use Rattle.stapl_meaning.specs.Values.{Got, Known, Faults, Stuck, These}
use Rattle.stapl_meaning.specs.Effects.{IntoWhole}
use Rattle.stapl_meaning.specs.Operands.{values_of}
use Rattle.stapl_meaning.specs.States.{State, Did, Falls, Captures, Jumps, Resumes, Returns, Ends, Turned, Leads, Over, Broken, Scanning, NoTurn, with_got, preceded, turn_of_piece, next_chosen, begun, jumps_to, led}
use Rattle.stapl_meaning.specs.Scopes.{Scope, Played, Preset, scope_at, preset_scope, entry_from, has_initial_value}
use Rattle.stapl_meaning.specs.Turns.{target, effect, operands, rows, rows_done, done, turn_of, turn, carried}
use Rattle.stapl_meaning.specs.Plays.{set_up, beginning}
use Rattle.stapl_meaning.specs.Typed.{IsTyped, IsTypedPreset}
use Rattle.scan_accounts.specs.MadeTurns.{does_scan, scans_at}
use Rattle.scan_accounts.proofs.RowWalks.{does_move, RowRule, StatementRule, Has, Keeps, DidOk, of_assigned, of_copied, of_integers, RowOk, RowsOk, rows_ok}

module _ (w : RowRule) where
  abbrev pub TurnOk : Turned → Type 0
  TurnOk (Leads ds place s) = w.DeedsOk ds × Keeps w s
  TurnOk (Over ds ending s) = w.DeedsOk ds
  TurnOk (Broken ds f s) = w.DeedsOk ds
  TurnOk (Scanning ds job rest) = w.DeedsOk ds × w.JobOk job × ((bits : List Bool) → TurnOk (rest bits))
  TurnOk (NoTurn ds) = w.DeedsOk ds

  of_preceded : (ds : List Deed) (t : Turned) → w.DeedsOk ds → TurnOk t → TurnOk (preceded ds t)
  of_preceded before (Leads ds place s) p h = (w.both_ok before ds p h.0, h.1)
  of_preceded before (Over ds ending s) p h = w.both_ok before ds p h
  of_preceded before (Broken ds f s) p h = w.both_ok before ds p h
  of_preceded before (Scanning ds job rest) p h = (w.both_ok before ds p h.0, h.1, h.2)
  of_preceded before (NoTurn ds) p h = w.both_ok before ds p h

  pub of_piece : (piece : ℕ) (t : Turned) → TurnOk t → TurnOk (turn_of_piece piece t)
  of_piece piece (Leads ds place s) h = h
  of_piece piece (Over ds ending s) h = h
  of_piece piece (Broken ds f s) h = h
  of_piece piece (Scanning ds job rest) h = (h.0, h.1, λ bits. of_piece piece (rest bits) (h.2 bits))
  of_piece piece (NoTurn ds) h = h

  of_chosen : (entry : ℕ → ℕ) (s : State) (chosen : List ℕ) → Keeps w s → TurnOk (next_chosen entry s chosen)
  of_chosen entry s [] h = w.none_ok
  of_chosen entry s (p ∷ ps) h = (w.none_ok, h)

  of_begun : (entry : ℕ → ℕ) (t : Turned) → TurnOk t → TurnOk (begun entry t)
  of_begun entry (Leads ds place s) h =
      of_preceded ds (next_chosen entry s s.chosen) h.0 (of_chosen entry s s.chosen h.1)
  of_begun entry (Over ds ending s) h = h
  of_begun entry (Broken ds f s) h = h
  of_begun entry (Scanning ds job rest) h = (h.0, h.1, λ bits. of_begun entry (rest bits) (h.2 bits))
  of_begun entry (NoTurn ds) h = h

  of_jump : (to : Option ℕ) (s : State) → Keeps w s → TurnOk (jumps_to to s)
  of_jump None s h = w.none_ok
  of_jump (Some place) s h = (w.none_ok, h)

  of_led : (entry : ℕ → ℕ) (to : Option ℕ) (s : State) (g : Got Did) (go : State → Turned) → Has (DidOk w) g →
      ((t : State) → Keeps w t → TurnOk (go t)) → TurnOk (with_got g s (λ did. led entry to did go))
  of_led entry to s (Known (Falls ds t)) go h more = of_preceded ds (go t) h.0 (more t h.1)
  of_led entry to s (Known (Captures job lands)) go h more = (w.none_ok, h.0, λ bits. more (lands bits) (h.1 bits))
  of_led entry to s (Known (Jumps t)) go h more = of_jump to t h
  of_led entry to s (Known (Resumes place t)) go h more = (w.none_ok, h)
  of_led entry to s (Known (Returns t)) go h more = of_chosen entry t t.chosen h
  of_led entry to s (Known (Ends ending t)) go h more = w.none_ok
  of_led entry to s (Faults k) go h more = w.none_ok
  of_led entry to s Stuck go h more = w.none_ok

  of_values : (scope : Scope) (b : BodyTree) (s : State) (g : Got (List Value)) (go : State → Turned) →
      RowOk w scope b → Keeps w s → ((t : State) → Keeps w t → TurnOk (go t)) →
      TurnOk (with_got g s (λ vs. with_got (effect scope b vs s) s (λ did. led scope.entry (target scope b) did go)))
  of_values scope b s (Known vs) go row h more =
      of_led scope.entry (target scope b) s (effect scope b vs s) go (row vs s h) more
  of_values scope b s (Faults k) go row h more = w.none_ok
  of_values scope b s Stuck go row h more = w.none_ok

  of_carried : (scope : Scope) (b : BodyTree) (s : State) (go : State → Turned) → RowOk w scope b → Keeps w s →
      ((t : State) → Keeps w t → TurnOk (go t)) → TurnOk (carried scope b s go)
  of_carried scope b s go row h more =
      of_values scope b s (values_of scope.look s.store.variables (operands scope b)) go row h more

  of_rows : (scope : Scope) (bs : List BodyTree) (s : State) → RowsOk w scope bs → Keeps w s →
      TurnOk (rows_done scope bs s)
  of_rows scope [] s rows_are h = (w.none_ok, h)
  of_rows scope (b ∷ bs) s rows_are h =
      of_carried scope b s (rows_done scope bs) rows_are.0 h (λ t k. of_rows scope bs t rows_are.1 k)

-- a statement outside procedures has no state in which anything stays
outer_is_stable : (b : BodyTree) → is_outer b ≡ true → stops_unstable b ≡ false
outer_is_stable (note key text) e = refl
outer_is_stable (action v text items) e = refl
outer_is_stable (procedure v uses) e = refl
outer_is_stable (data_block v) e = refl
outer_is_stable end_data e = refl
outer_is_stable (crc n) e = refl
outer_is_stable _ e = absurd (false≢true e)

-- the statement at this place is a STATE, or an IF over one
abbrev pub moves_at : Played → ℕ → Bool
moves_at program i = option_map_or (λ st. does_move st.body) (slice_get program.pieces i) false

module _ (program : Played) (typed : IsTyped program) where
  statement_is_stable : (i : ℕ) (st : StmtTree) → slice_get program.pieces i ≡ Some st → (b : Bool) →
      is_outer st.body ≡ b → stops_unstable st.body ≡ false
  statement_is_stable i st at true e = outer_is_stable st.body e
  statement_is_stable i st at false e = (typed.statements i st at e).stable

  turn_ok_by : (w : RowRule) (i : ℕ) (s : State) (o : Option StmtTree) → slice_get program.pieces i ≡ o →
      StatementRule w (option_map_or (λ st. does_move st.body) o false)
      (option_map_or (λ st. does_scan st.body) o false) →
      Keeps w s → TurnOk w (turn_of (scope_at program i) (i + 1) s o)
  turn_ok_by w i s None at r h = w.none_ok
  turn_ok_by w i s (Some st) at r h =
      let scope : Scope = scope_at program i in
      of_piece w (i + 1) (done scope s st.body) (of_rows w scope (rows st.body) s
      (rows_ok w scope st.body (statement_is_stable i st at (is_outer st.body) refl) r) h)

  -- the turn at a place
  pub turn_ok : (w : RowRule) (i : ℕ) (s : State) → StatementRule w (moves_at program i) (scans_at program i) →
      Keeps w s → TurnOk w (turn program i s)
  turn_ok w i s r h = turn_ok_by w i s (slice_get program.pieces i) refl r h

  -- ---- the beginning of a play, by the initial values of DATA blocks

  preset_ok : (w : RowRule) (scope : Scope) (b : BodyTree) → has_initial_value b ≡ true → RowOk w scope b
  preset_ok w scope (boolean name (Some b)) e = of_assigned w (scope.look.variable name)
  preset_ok w scope (boolean_array name size (Some bits)) e =
      of_copied w (IntoWhole (scope.look.variable name)) (These bits)
  preset_ok w scope (integer name (Some z)) e = of_assigned w (scope.look.variable name)
  preset_ok w scope (integer_array name size (Some zs)) e = of_integers w (scope.look.variable name) zs
  preset_ok w scope _ e = absurd (false≢true e)

  abbrev AreTyped : List (Option Preset) → Type 0
  AreTyped presets = All (λ o. IfSome o (IsTypedPreset program)) presets

  set_up_ok : (w : RowRule) (presets : List (Option Preset)) (s : State) → AreTyped presets → Keeps w s →
      TurnOk w (set_up program presets s)
  set_up_ok w [] s are h = (w.none_ok, h)
  set_up_ok w (None ∷ presets) s are h =
      set_up_ok w presets s (All-tail (λ o. IfSome o (IsTypedPreset program)) None presets are) h
  set_up_ok w (Some p ∷ presets) s are h =
      let own : IsTypedPreset program p = All-head (λ o. IfSome o (IsTypedPreset program)) (Some p) presets are in
      let scope : Scope = preset_scope program p in
      of_carried w scope p.body s (set_up program presets) (preset_ok w scope p.body own.starts) h
      (λ t k. set_up_ok w presets t (All-tail (λ o. IfSome o (IsTypedPreset program)) (Some p) presets are) k)

  pub beginning_ok : (w : RowRule) (s : State) → Keeps w s → TurnOk w (beginning program s)
  beginning_ok w s h =
      of_begun w (entry_from program.pieces) (set_up program program.presets s)
      (set_up_ok w program.presets s typed.presets h)
