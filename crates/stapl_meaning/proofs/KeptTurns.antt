-- What a walk shows of the turns of a program, and of the beginning of a play: what a rule keeps. That does not hang on
-- how the rule changes states.
use Rattle.std.proofs.Common.{◌≡◌, ℕ, Bool, ◌+◌, List, [], ◌∷◌, Option, Some, None, slice_get, refl}
use Rattle.stapl_lexer.specs.declared.terminal.Padding.{Padding}
use Rattle.stapl_syntax.specs.Trees.{BodyTree, StmtTree}
use Rattle.stapl_meaning.specs.States.{State, Turned, Leads, Over, Broken, Scanning, NoTurn, next_chosen, begun}
use Rattle.stapl_meaning.specs.Scans.{with_padding}
use Rattle.stapl_meaning.specs.Scopes.{Scope, Played, Preset, scope_at, preset_scope, entry_from}
use Rattle.stapl_meaning.specs.Turns.{target, rows, rows_done, turn_of, turn}
use Rattle.stapl_meaning.specs.Plays.{set_up, beginning}
use Rattle.stapl_meaning.proofs.Walks.{WalkRule, Fits, PaddingRule, changed_target, KeptTurned, SameTurned, SameEntries, SameRows, rows_same, carried_same, chosen_same, preceded_same, piece_same}

-- the rule, but that it leaves states and scans as they are
abbrev still : WalkRule → WalkRule
still w = record w {
  place = λ i. i;
  records = λ rs. rs;
  ir = λ x. x;
  dr = λ x. x;
  job = λ job. job;
  no_record = refl;
  on_value = λ z rs. refl;
  on_call = λ i rs. refl;
  on_loop = λ l rs. refl;
  ir_stop = λ x t. refl;
  dr_stop = λ x t. refl;
  ir_job = λ x bits h. refl;
  dr_job = λ x bits h. refl;
}

module _ (w : WalkRule) (pads : (which : Padding) (bits : List Bool) (s : State) → Fits w s → Fits w (with_padding which bits s))
    (chosen : (p : ℕ) (ps : List ℕ) → w.ChosenOk (p ∷ ps) → w.ChosenOk ps) where
  padding : PaddingRule (still w)
  padding = record { same = λ which bits s. refl; kept = pads }

  goes : (e : ℕ → ℕ) → SameEntries (still w) e e
  goes e = λ p ps h. (refl, chosen p ps h)

  same_target : (to : Option ℕ) → to ≡ changed_target (still w) to
  same_target None = refl
  same_target (Some to) = refl

  module _ (scope : Scope) where
    all_rows : (bs : List BodyTree) → SameRows (still w) scope scope (goes scope.entry) bs
    all_rows [] = tt
    all_rows (b ∷ bs) = (λ e. padding, same_target (target scope b), all_rows bs)

    of_statement : (piece : ℕ) (s : State) (o : Option StmtTree) → Fits w s → KeptTurned w (turn_of scope piece s o)
    of_statement piece s None h = w.none_ok
    of_statement piece s (Some st) h =
        let bs : List BodyTree = rows st.body in
        (piece_same (still w) piece (rows_done scope bs s) (rows_done scope bs s) (rows_same (still w) scope scope (goes scope.entry) bs (all_rows bs) s h)).kept

  pub turn_kept : (program : Played) (i : ℕ) (s : State) → Fits w s → KeptTurned w (turn program i s)
  turn_kept program i s h = of_statement (scope_at program i) (i + 1) s (slice_get program.pieces i) h

  set_up_same : (program : Played) (presets : List (Option Preset)) (s : State) → Fits w s → SameTurned (still w) (set_up program presets s) (set_up program presets s)
  set_up_same program [] s h = record { same = refl; kept = (w.none_ok, h) }
  set_up_same program (None ∷ presets) s h = set_up_same program presets s h
  set_up_same program (Some p ∷ presets) s h =
      let scope : Scope = preset_scope program p in
      carried_same (still w) scope scope (goes scope.entry) p.body s (set_up program presets) (set_up program presets)
      (λ e. padding) (same_target (target scope p.body)) h (λ t k. set_up_same program presets t k)

  begun_kept : (e : ℕ → ℕ) (t : Turned) → KeptTurned w t → KeptTurned w (begun e t)
  begun_kept e (Leads ds place s) h =
      let next : Turned = next_chosen e s s.chosen in
      (preceded_same (still w) ds next next h.0 (chosen_same (still w) e e (goes e) s h.1 s.chosen h.1.2)).kept
  begun_kept e (Over ds ending s) h = h.0
  begun_kept e (Broken ds f s) h = h.0
  begun_kept e (Scanning ds job rest) h = (h.0, h.1, λ bits. begun_kept e (rest bits) (h.2 bits))
  begun_kept e (NoTurn ds) h = h

  pub beginning_kept : (program : Played) (s : State) → Fits w s → KeptTurned w (beginning program s)
  beginning_kept program s h = begun_kept (entry_from program.pieces) (set_up program program.presets s) (set_up_same program program.presets s h).kept
