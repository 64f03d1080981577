-- The turn of a STATE goes through its states once, and that of a scan scans once and does nothing else.
use Rattle.std.proofs.Common.{◌≡◌, ◌≤◌, ℕ, ◌+◌, Bool, true, false, ◌||◌, List, [], ◌∷◌, length, map, Option, Some, None, slice_get, refl, sym, subst, arith, append-nil}
use Rattle.std.specs.Option.{option_map_or}
use Rattle.std.proofs.lemmas.Bool.{false≢true}
use Rattle.std.proofs.lemmas.List.{length-map}
use Rattle.tap_states.specs.declared.Tap.{Tap}
use Rattle.stapl_syntax.specs.Trees.{BodyTree, if_then, scan, state_list, StmtTree}
use Rattle.stapl_meaning.specs.declared.values.Value.{Value}
use Rattle.stapl_meaning.specs.declared.values.Value.TheVariants.{Int, Bit}
use Rattle.stapl_meaning.specs.Deeds.{Deed, Goes}
use Rattle.stapl_meaning.specs.Values.{Got, Known, Faults, Stuck, asked}
use Rattle.stapl_meaning.specs.Effects.{parted, moved_through}
use Rattle.stapl_meaning.specs.Operands.{values_of}
use Rattle.stapl_meaning.specs.Scans.{scan_found, length_between, scan_limit, target_asked, compare_asked, ScanParts, scanned}
use Rattle.stapl_meaning.specs.ScanTrees.{scan_parts}
use Rattle.stapl_meaning.specs.States.{State, Did, Falls, Captures, Turned, Leads, Over, Broken, Scanning, NoTurn, with_got, preceded, turn_of_piece, led}
use Rattle.stapl_meaning.specs.Scopes.{Scope, Played, scope_at}
use Rattle.stapl_meaning.specs.Turns.{tap_of, effect, operands, rows, rows_done, turn_of, turn}
use Rattle.scan_accounts.specs.MadeTurns.{does_scan, scans_at}
use Rattle.scan_accounts.specs.Rooms.{states_in}
use Rattle.scan_accounts.proofs.RowWalks.{does_move, Has, any_has}
use Rattle.scan_accounts.proofs.TurnWalks.{of_piece, moves_at}
use Rattle.scan_accounts.proofs.StableTurns.{making_none, TurnMakesNone}

-- these deeds are moves, so many at most
pub record Moves (most : ℕ) (ds : List Deed) : Type 0 where
  pub states : List Tap
  pub are : ds ≡ map Goes states
  pub few : length states ≤ most

no_moves : (most : ℕ) → Moves most []
no_moves most = record { states = []; are = refl; few = omega arith }

-- a turn moves, or it scans and then does nothing
abbrev pub ActsOnce : ℕ → Turned → Type 0
ActsOnce most (Leads ds place s) = Moves most ds
ActsOnce most (Over ds ending s) = Moves most ds
ActsOnce most (Broken ds f s) = Moves most ds
ActsOnce most (Scanning ds job rest) = (ds ≡ []) × ((bits : List Bool) → TurnMakesNone (rest bits))
ActsOnce most (NoTurn ds) = Moves most ds

-- and so does what is done
abbrev DoesOnce : ℕ → Did → Type 0
DoesOnce most (Falls ds t) = Moves most ds
DoesOnce most (Captures job lands) = Unit {0}
DoesOnce most _ = ⊥

of_moved : (states : List ℕ) (vs : List Value) (s : State) →
    Has (DoesOnce (length states)) (moved_through (map tap_of states) vs s)
of_moved states [] s =
    record { states = map tap_of states; are = refl; few = (let l = length-map states tap_of in omega (arith, l)) }
of_moved states (v ∷ vs) s = tt

of_scanned : (most : ℕ) (parts : ScanParts) (vs : List Value) (s : State) → Has (DoesOnce most) (scanned parts vs s)
of_scanned most parts (Int z ∷ vs) s =
    any_has (DoesOnce most) (scan_found s.store.variables parts vs) _ (λ found.
    any_has (DoesOnce most) (length_between 1 scan_limit z) _ (λ n.
    any_has (DoesOnce most) (asked parts.source n found.data_bits) _ (λ bits.
    any_has (DoesOnce most) (target_asked n found.target) _ (λ target.
    any_has (DoesOnce most) (compare_asked n parts.compare found.compare) _ (λ compare. tt)))))
of_scanned most parts [] s = tt
of_scanned most parts (Bit b ∷ vs) s = tt

-- whatever is got before, a fault included
of_got : {A : Type 0} (most : ℕ) (g : Got A) (s : State) (go : A → Turned) → ((x : A) → ActsOnce most (go x)) →
    ActsOnce most (with_got g s go)
of_got most (Known x) s go q = q x
of_got most (Faults k) s go q = no_moves most
of_got most Stuck s go q = no_moves most

none_before : (most : ℕ) (t : Turned) → ActsOnce most t → ActsOnce most (preceded [] t)
none_before most (Leads ds place s) h = h
none_before most (Over ds ending s) h = h
none_before most (Broken ds f s) h = h
none_before most (Scanning ds job rest) h = h
none_before most (NoTurn ds) h = h

in_piece : (most piece : ℕ) (t : Turned) → ActsOnce most t → ActsOnce most (turn_of_piece piece t)
in_piece most piece (Leads ds place s) h = h
in_piece most piece (Over ds ending s) h = h
in_piece most piece (Broken ds f s) h = h
in_piece most piece (Scanning ds job rest) h = (h.0, λ bits. of_piece making_none piece (rest bits) (h.1 bits))
in_piece most piece (NoTurn ds) h = h

module _ (scope : Scope) where
  -- the last row
  last_row : (most : ℕ) (g : Got Did) (s : State) → Has (DoesOnce most) g →
      ActsOnce most (with_got g s (λ did. led scope.entry None did (rows_done scope [])))
  last_row most (Known (Falls ds t)) s h = subst (Moves most) (sym (append-nil ds)) h
  last_row most (Known (Captures job lands)) s h = (refl, λ bits. (refl, (tt, tt)))
  last_row most (Known _) s h = absurd h
  last_row most (Faults k) s h = no_moves most
  last_row most Stuck s h = no_moves most

  -- the row of an IF
  if_row : (most : ℕ) (vs : List Value) (s : State) (go : State → Turned) → ((t : State) → ActsOnce most (go t)) →
      ActsOnce most (with_got (parted vs s) s (λ did. led scope.entry (Some scope.follow) did go))
  if_row most (Bit true ∷ []) s go more = none_before most (go s) (more s)
  if_row most (Bit false ∷ []) s go more = no_moves most
  if_row most _ s go more = no_moves most

  rows_act_once : (b : BodyTree) → (does_move b || does_scan b) ≡ true → (s : State) →
      ActsOnce (states_in b) (rows_done scope (rows b) s)
  rows_act_once (if_then e body) acts s =
      of_got (states_in body) (values_of scope.look s.store.variables (operands scope (if_then e body))) s _
      (λ vs. if_row (states_in body) vs s (rows_done scope (rows body)) (rows_act_once body acts))
  rows_act_once (state_list states) acts s =
      of_got (length states) (values_of scope.look s.store.variables (operands scope (state_list states))) s _
      (λ vs. last_row (length states) (moved_through (map tap_of states) vs s) s (of_moved states vs s))
  rows_act_once (scan register count source to compare) acts s =
      let own : BodyTree = scan register count source to compare in
      of_got 0 (values_of scope.look s.store.variables (operands scope own)) s _
      (λ vs. last_row 0 (effect scope own vs s) s
      (of_scanned 0 (scan_parts scope.look register source to compare) vs s))
  rows_act_once _ acts s = absurd (false≢true acts)

  piece_acts_once : (piece : ℕ) (s : State) (o : Option StmtTree) →
      (option_map_or (λ st. does_move st.body) o false || option_map_or (λ st. does_scan st.body) o false) ≡ true →
      ActsOnce (option_map_or (λ st. states_in st.body) o 0) (turn_of scope piece s o)
  piece_acts_once piece s None acts = no_moves 0
  piece_acts_once piece s (Some st) acts =
      in_piece (states_in st.body) piece (rows_done scope (rows st.body) s) (rows_act_once st.body acts s)

-- how many states the statement at this place lists
abbrev pub states_at : Played → ℕ → ℕ
states_at program i = option_map_or (λ st. states_in st.body) (slice_get program.pieces i) 0

-- the turn at a place
pub acts_once : (program : Played) (i : ℕ) (s : State) → (moves_at program i || scans_at program i) ≡ true →
    ActsOnce (states_at program i) (turn program i s)
acts_once program i s acts = piece_acts_once (scope_at program i) (i + 1) s (slice_get program.pieces i) acts
