-- The runs of a turn fit into its room: a scan has one run, a STATE has no more bits than states, and the turn of any
-- other statement has no run.
use Rattle.std.proofs.Common.{◌≡◌, ◌≤◌, ◌<◌, ◌⊎◌, inl, inr, ℕ, zero, suc, ◌+◌, Bool, true, false, cond, ◌||◌, List, [], ◌∷◌, ◌++◌, length, map, Option, None, slice_get, All, refl, sym, ap, subst, ◌∙◌, arith, append-nil}
use Rattle.std.specs.Prelude.{max}
use Rattle.std.specs.Option.{option_map_or}
use Rattle.std.proofs.Math.Nat.{le-max_left, le-max_right}
use Rattle.std.proofs.lemmas.Bool.{or_parts}
use Rattle.std.proofs.lemmas.List.Elements.{All-nil, All-cons, All-head, All-tail}
use Rattle.tap_states.specs.declared.Tap.{Tap}
use Rattle.tap_states.specs.Tap.{is_stable_state}
use Rattle.tap_states.specs.Path.{path_of}
use Rattle.tap_states.proofs.Shortest.{is_path, path_leads}
use Rattle.dev_card.specs.Clocks.{with_zero}
use Rattle.dev_card.specs.FarEnds.{FarEnd, far_clocks}
use Rattle.dev_card.specs.Padding.{BaseLengths, base_pre_of, base_post_of}
use Rattle.dev_card.specs.Scans.{BoardScan}
use Rattle.stapl_syntax.specs.Trees.{StmtTree}
use Rattle.stapl_meaning.specs.declared.events.Event.{Event}
use Rattle.stapl_meaning.specs.Deeds.{Deed, Goes, Scans, Chain, pulses, deed_events, deed_chain, deeds_events, captured_on}
use Rattle.stapl_meaning.specs.States.{State, Turned, Leads, Over, Broken, Scanning, NoTurn, Happened, Lacks, with_events, happens}
use Rattle.stapl_meaning.specs.Scopes.{plays, data_after, idle, pieces_from, Played, as_played}
use Rattle.stapl_meaning.specs.Turns.{turn}
use Rattle.stapl_meaning.specs.Typed.{IsTyped}
use Rattle.stapl_meaning.proofs.Walks.{KeptTurned}
use Rattle.stapl_meaning.proofs.KeptTurns.{turn_kept}
use Rattle.padded_plays.proofs.StableStays.{TurnStays, turn_stays}
use Rattle.scan_accounts.specs.ShiftRuns.{ShiftRun, shift_runs}
use Rattle.scan_accounts.specs.MadeTurns.{MadeTurn, scans_at, happened_events, made_turn, made_play, clocks_among}
use Rattle.scan_accounts.specs.Rooms.{bits_of, FitIn, states_in, most_states, turn_bits, turn_runs}
use Rattle.scan_accounts.proofs.WalkedTurns.{tms_among, tms_both, tms_of_pulses, tms_with_zero}
use Rattle.scan_accounts.proofs.ScanPassages.{one_run}
use Rattle.scan_accounts.proofs.RunsOrLines.{events_after, turn_has_no_run, resting_so}
use Rattle.scan_accounts.proofs.TurnWalks.{moves_at, turn_ok}
use Rattle.scan_accounts.proofs.StableTurns.{stopping, pads_stop, TurnMakesNone, no_events, Stands, turn_stands}
use Rattle.scan_accounts.proofs.StableStarts.{play_begins}
use Rattle.scan_accounts.proofs.AllTurns.{all_of_play}
use Rattle.scan_accounts.proofs.FittingRuns.{WholeFits, whole_runs_fit}
use Rattle.scan_accounts.proofs.ShiftCounts.{shift_count, bits_counted, runs_counted, count_both, path_shifts_once}
use Rattle.scan_accounts.proofs.OnceTurns.{Moves, ActsOnce, states_at, acts_once}

-- there is one run at most, or they have so many bits at most, and there are no more of them
abbrev AreFew : ℕ → List ShiftRun → Type 0
AreFew most runs = (length runs ≤ 1) ⊎ (bits_of runs ≤ most) × (length runs ≤ most)

abbrev FewRuns : ℕ → Tap → List Event → Type 0
FewRuns most at es = AreFew most (shift_runs at (clocks_among es))

-- ---- moves

moves_count : (states : List Tap) (k : Chain) →
    shift_count k.tap (tms_among (deeds_events k (map Goes states))) ≤ length states
moves_count [] k = omega arith
moves_count (to ∷ states) k =
    let l : Chain = deed_chain k (Goes to) in
    let path : List Bool = path_of k.tap to in
    let first : List Event = pulses (far_clocks k.far (with_zero path)) in
    let rest : List Event = deeds_events l (map Goes states) in
    let tms : tms_among first ≡ path = tms_of_pulses k.far (with_zero path) ∙ tms_with_zero path in
    let whole : tms_among (first ++ rest) ≡ path ++ tms_among rest =
    tms_both first rest ∙ ap (λ t. t ++ tms_among rest) tms in
    let parts = count_both path (tms_among rest) k.tap in
    let leads = ap (λ t. shift_count t (tms_among rest)) (path_leads k.tap to path (is_path k.tap to)) in
    let once = path_shifts_once k.tap to in
    let later = moves_count states l in
    let all : shift_count k.tap (path ++ tms_among rest) ≤ suc (length states) =
    omega (arith, parts, leads, once, later) in
    subst (λ ms. shift_count k.tap ms ≤ suc (length states)) (sym whole) all

of_moves : (most : ℕ) (ds : List Deed) (k : Chain) → Moves most ds → FewRuns most k.tap (deeds_events k ds)
of_moves most ds k h =
    subst (λ xs. FewRuns most k.tap (deeds_events k xs)) (sym h.are)
    (of_events (deeds_events k (map Goes h.states)) (moves_count h.states k))
  where
    of_events : (es : List Event) → shift_count k.tap (tms_among es) ≤ length h.states → FewRuns most k.tap es
    of_events es count =
        let bits = bits_counted (clocks_among es) k.tap in
        let runs = runs_counted (clocks_among es) k.tap in
        let few = h.few in
        inr (omega (arith, bits, count, few), omega (arith, runs, count, few))

-- ---- a scan that nothing follows

few_if : (most : ℕ) (b : Bool) (at : Tap) (h : Happened) → FewRuns most at (happened_events h) →
    FewRuns most at (happened_events (cond b h (Lacks [])))
few_if most true at h p = p
few_if most false at h p = inl (omega arith)

of_scan : (most : ℕ) (job : BoardScan) (rest : List Bool → Turned) (k : Chain) → is_stable_state k.tap ≡ true →
    is_stable_state job.stop ≡ true → 0 < length job.bits → ((bits : List Bool) → TurnMakesNone (rest bits)) →
    FewRuns most k.tap (happened_events (happens k (Scanning [] job rest)))
of_scan most job rest k stable stops some none =
    let own : List Event = deed_events k (Scans job) in
    let bits : List Bool = captured_on k job in
    let then : Happened = happens (deed_chain k (Scans job)) (rest bits) in
    let made : happened_events (with_events own then) ≡ own =
    events_after own then ∙ ap (λ es. own ++ es) (no_events (rest bits) (deed_chain k (Scans job)) (none bits))
    ∙ append-nil own in
    let one : length (shift_runs k.tap (clocks_among own)) ≡ 1 = ap length (one_run k job stable stops some) in
    let few : FewRuns most k.tap own = inl (omega (arith, one)) in
    subst (FewRuns most k.tap)
    (sym (events_after [] (cond (is_stable_state k.tap) (with_events own then) (Lacks []))))
    (few_if most (is_stable_state k.tap) k.tap (with_events own then) (subst (FewRuns most k.tap) (sym made) few))

-- ---- turns

of_turn : (most : ℕ) (t : Turned) (k : Chain) → is_stable_state k.tap ≡ true → ActsOnce most t → TurnStays t →
    KeptTurned stopping t → FewRuns most k.tap (happened_events (happens k t))
of_turn most (Leads ds place s) k e acts stays kept = of_moves most ds k acts
of_turn most (Over ds ending s) k e acts stays kept = of_moves most ds k acts
of_turn most (Broken ds f s) k e acts stays kept = of_moves most ds k acts
of_turn most (Scanning ds job rest) k e acts stays kept =
    subst (λ xs. FewRuns most k.tap (happened_events (happens k (Scanning xs job rest)))) (sym acts.0)
    (of_scan most job rest k e kept.1 stays.1 acts.1)
of_turn most (NoTurn ds) k e acts stays kept = of_moves most ds k acts

-- no piece lists more states than some statement of the program
states_of_piece : (now : Option (List ℕ)) (program : List StmtTree) (i : ℕ) →
    option_map_or (λ st. states_in st.body) (slice_get (pieces_from now program) i) 0 ≤ most_states program
states_of_piece now [] i = omega arith
states_of_piece now (st ∷ rest) zero = by (plays now st.body)
  where
    by : (b : Bool) → states_in (cond b st idle).body ≤ max (states_in st.body) (most_states rest)
    by true = le-max_left (states_in st.body) (most_states rest)
    by false = omega arith
states_of_piece now (st ∷ rest) (suc i) =
    let later = states_of_piece (data_after now st.body) rest i in
    let larger = le-max_right (states_in st.body) (most_states rest) in
    omega (arith, later, larger)

more_allowed : (few most : ℕ) (runs : List ShiftRun) → few ≤ most → AreFew few runs → AreFew most runs
more_allowed few most runs le (inl one) = inl one
more_allowed few most runs le (inr h) =
    let bits = h.0 in let count = h.1 in inr (omega (arith, le, bits), omega (arith, le, count))

abbrev TurnFew : ℕ → MadeTurn → Type 0
TurnFew most t = FewRuns most t.from t.events

module _ (program : List StmtTree) (typed : IsTyped (as_played program)) where
  abbrev p : Played
  p = as_played program

  made_turn_few : (i : ℕ) (s : State) (k : Chain) → Stands s k → TurnFew (most_states program) (made_turn p i s k)
  made_turn_few i s k h = by (moves_at p i || scans_at p i) refl
    where
      by : (b : Bool) → (moves_at p i || scans_at p i) ≡ b → TurnFew (most_states program) (made_turn p i s k)
      by true acts =
          more_allowed (states_at p i) (most_states program) _ (states_of_piece None program i)
          (of_turn (states_at p i) (turn p i s) k h.0 (acts_once p i s acts) (turn_stays p i s)
          (turn_kept stopping pads_stop (λ q qs l. tt) p i s h.1))
      by false idle =
          let neither = or_parts (moves_at p i) (scans_at p i) idle in
          let none =
          turn_has_no_run (turn p i s) k h.0 (turn_ok p typed _ i s
          (resting_so (moves_at p i) (scans_at p i) neither.0 neither.1) (tt, tt)) in
          let count = ap length none in
          inl (omega (arith, count))

  turns_few : (chosen : List ℕ) (n : ℕ) (base : BaseLengths) (far : FarEnd) →
      All (TurnFew (most_states program)) (made_play p chosen n base far).turns
  turns_few chosen n base far =
      all_of_play p Stands (TurnFew (most_states program)) made_turn_few
      (λ i s k h. turn_stands p typed i s k h.1 h.0) chosen n base far (play_begins p typed chosen base far)

-- ---- rooms

one_pads : (base : BaseLengths) (run : ShiftRun) →
    base_pre_of run.ir base + base_post_of run.ir base ≤ base.ir_pre + base.ir_post + (base.dr_pre + base.dr_post)
one_pads base run = by run.ir
  where
    by : (ir : Bool) →
        base_pre_of ir base + base_post_of ir base ≤ base.ir_pre + base.ir_post + (base.dr_pre + base.dr_post)
    by true = omega arith
    by false = omega arith

room_of : (base : BaseLengths) (states : ℕ) (runs : List ShiftRun) → AreFew states runs → All (WholeFits base) runs →
    FitIn (turn_bits base states) (turn_runs states) runs
room_of base states runs (inr h) whole =
    let bits = h.0 in
    let count = h.1 in
    record { together = omega (arith, bits); few = omega (arith, count) }
room_of base states [] (inl one) whole = record { together = omega arith; few = omega arith }
room_of base states (run ∷ []) (inl one) whole =
    let fits = All-head (WholeFits base) run [] whole in
    let pads = one_pads base run in
    record { together = omega (arith, fits, pads); few = omega arith }
room_of base states (run ∷ other ∷ runs) (inl one) whole = absurd (omega (arith, one))

abbrev TurnRoom : BaseLengths → ℕ → MadeTurn → Type 0
TurnRoom base states t = FitIn (turn_bits base states) (turn_runs states) (shift_runs t.from (clocks_among t.events))

abbrev TurnWhole : BaseLengths → MadeTurn → Type 0
TurnWhole base t = All (WholeFits base) (shift_runs t.from (clocks_among t.events))

rooms_of : (base : BaseLengths) (states : ℕ) (ts : List MadeTurn) → All (TurnFew states) ts → All (TurnWhole base) ts →
    All (TurnRoom base states) ts
rooms_of base states [] few whole = All-nil (TurnRoom base states)
rooms_of base states (t ∷ ts) few whole =
    All-cons (TurnRoom base states) t ts
    (room_of base states (shift_runs t.from (clocks_among t.events)) (All-head (TurnFew states) t ts few)
    (All-head (TurnWhole base) t ts whole))
    (rooms_of base states ts (All-tail (TurnFew states) t ts few) (All-tail (TurnWhole base) t ts whole))

pub turns_have_room : (program : List StmtTree) → IsTyped (as_played program) → (chosen : List ℕ) (n : ℕ)
    (base : BaseLengths) (far : FarEnd) →
    All (TurnRoom base (most_states program)) (made_play (as_played program) chosen n base far).turns
turns_have_room program typed chosen n base far =
    rooms_of base (most_states program) (made_play (as_played program) chosen n base far).turns
    (turns_few program typed chosen n base far) (whole_runs_fit (as_played program) typed chosen n base far)
