-- A turn never has both runs and lines of its own: a statement that scans, and a STATE, say nothing, and any other
-- statement moves from stable states to stable states, where no register shifts.
use Rattle.std.proofs.Common.{◌≡◌, ◌⊎◌, inl, inr, ℕ, zero, suc, Bool, true, false, cond, map, replicate, List, [], ◌∷◌, ◌++◌, All, refl, sym, ap, subst, ◌∙◌, append-nil}
use Rattle.std.specs.Prelude.{flat_map}
use Rattle.std.proofs.lemmas.Bool.{false≢true}
use Rattle.std.proofs.lemmas.List.Elements.{All-weaker}
use Rattle.tap_states.specs.declared.Tap.{Tap}
use Rattle.tap_states.specs.declared.Tap.TheVariants.{Reset, Idle, DrPause, IrPause}
use Rattle.tap_states.specs.Tap.{is_stable_state}
use Rattle.tap_states.specs.Path.{walk, path_of}
use Rattle.tap_states.proofs.Shortest.{is_path, path_leads}
use Rattle.dev_card.specs.Board.{Clock}
use Rattle.dev_card.specs.Clocks.{with_zero, rest_tms, move_inputs, stay_inputs}
use Rattle.dev_card.specs.Padding.{BaseLengths}
use Rattle.dev_card.specs.Scans.{BoardScan, inputs_of_scan}
use Rattle.dev_card.specs.FarEnds.{FarEnd, far_clocks}
use Rattle.dev_card.proofs.Reaching.{rests}
use Rattle.stapl_meaning.specs.declared.events.Event.{Event}
use Rattle.stapl_meaning.specs.Deeds.{Deed, Says, Goes, Stays, Scans, Chain, based, pulses, deed_events, deed_chain, deeds_events, deeds_chain, captured_on}
use Rattle.stapl_meaning.specs.SaidEvents.{is_no_clock}
use Rattle.stapl_meaning.specs.States.{State, Turned, Leads, Over, Broken, Scanning, NoTurn, Happened, Led, Finished, Broke, Lacks, with_events, scanned_on, happens}
use Rattle.stapl_meaning.specs.Scopes.{Played}
use Rattle.stapl_meaning.specs.Texts.{events_text}
use Rattle.stapl_meaning.specs.Turns.{tap_of, turn}
use Rattle.stapl_meaning.specs.Typed.{IsTyped}
use Rattle.scan_accounts.specs.ShiftRuns.{shift_runs}
use Rattle.scan_accounts.specs.MadeTurns.{MadeTurn, scans_at, happened_events, made_turn, made_play, clocks_among}
use Rattle.scan_accounts.specs.Accounts.{said_run, passages_of}
use Rattle.scan_accounts.specs.AccountTexts.{CutText, passage_line, turn_lines}
use Rattle.scan_accounts.proofs.JoinedRuns.{shifts, runs_joined}
use Rattle.scan_accounts.proofs.WalkedTurns.{clocks_both, tms_among, tms_of_pulses, tms_with_zero, walk_with_zero, stays, clock_not_said}
use Rattle.scan_accounts.proofs.ScanRuns.{RunsNone, no_runs, stop_has_none}
use Rattle.scan_accounts.proofs.OtherLines.{text_both}
use Rattle.scan_accounts.proofs.PinRuns.{stable_rests}
use Rattle.scan_accounts.proofs.RowWalks.{RowRule, plain_rows, StatementRule}
use Rattle.scan_accounts.proofs.TurnWalks.{TurnOk, moves_at, turn_ok}
use Rattle.scan_accounts.proofs.StableTurns.{NoScan, Stands, turn_stands}
use Rattle.scan_accounts.proofs.StableStarts.{play_begins}
use Rattle.scan_accounts.proofs.AllTurns.{all_of_play}

-- ---- moves, stays and scans write nothing

abbrev pub HasNoLine : List Event → Type 0
HasNoLine es = events_text false [] es ≡ []

pulses_have_none : (ks : List Clock) → HasNoLine (pulses ks)
pulses_have_none [] = refl
pulses_have_none (k ∷ ks) = pulses_have_none ks

lines_both : (xs ys : List Event) → HasNoLine xs → HasNoLine ys → HasNoLine (xs ++ ys)
lines_both xs ys p q = text_both xs ys ∙ ap (λ t. t ++ events_text false [] ys) p ∙ q

-- none of these deeds says anything
abbrev pub SayNothing : List Deed → Type 0
SayNothing [] = Unit {0}
SayNothing (Says event ∷ ds) = ⊥
SayNothing (Goes to ∷ ds) = SayNothing ds
SayNothing (Stays n ∷ ds) = SayNothing ds
SayNothing (Scans scan ∷ ds) = SayNothing ds

pub both_say_nothing : (xs ys : List Deed) → SayNothing xs → SayNothing ys → SayNothing (xs ++ ys)
both_say_nothing [] ys p q = q
both_say_nothing (Says event ∷ xs) ys p q = absurd p
both_say_nothing (Goes to ∷ xs) ys p q = both_say_nothing xs ys p q
both_say_nothing (Stays n ∷ xs) ys p q = both_say_nothing xs ys p q
both_say_nothing (Scans scan ∷ xs) ys p q = both_say_nothing xs ys p q

moves_say_nothing : (states : List Tap) → SayNothing (map Goes states)
moves_say_nothing [] = tt
moves_say_nothing (t ∷ ts) = moves_say_nothing ts

deeds_have_no_line : (ds : List Deed) (k : Chain) → SayNothing ds → HasNoLine (deeds_events k ds)
deeds_have_no_line [] k h = refl
deeds_have_no_line (Says event ∷ ds) k h = absurd h
deeds_have_no_line (Goes to ∷ ds) k h =
    let l : Chain = deed_chain k (Goes to) in
    lines_both (deed_events k (Goes to)) (deeds_events l ds)
    (pulses_have_none (far_clocks k.far (move_inputs k.tap to))) (deeds_have_no_line ds l h)
deeds_have_no_line (Stays n ∷ ds) k h =
    let l : Chain = deed_chain k (Stays n) in
    lines_both (deed_events k (Stays n)) (deeds_events l ds)
    (pulses_have_none (far_clocks k.far (stay_inputs k.tap n))) (deeds_have_no_line ds l h)
deeds_have_no_line (Scans scan ∷ ds) k h =
    let l : Chain = deed_chain k (Scans scan) in
    lines_both (deed_events k (Scans scan)) (deeds_events l ds) (scan_has_no_line k scan) (deeds_have_no_line ds l h)
  where
    scan_has_no_line : (k : Chain) (scan : BoardScan) → HasNoLine (deed_events k (Scans scan))
    scan_has_no_line k scan = pulses_have_none (far_clocks k.far (inputs_of_scan k.tap (based k.base scan)))

-- the events of what happened after others
pub events_after : (xs : List Event) (h : Happened) → happened_events (with_events xs h) ≡ xs ++ happened_events h
events_after xs (Led es place s l) = refl
events_after xs (Finished es ending s l) = refl
events_after xs (Broke es f s l) = refl
events_after xs (Lacks es) = refl

no_line_before : (xs : List Event) (h : Happened) → HasNoLine xs → HasNoLine (happened_events h) →
    HasNoLine (happened_events (with_events xs h))
no_line_before xs h p q = ap (events_text false []) (events_after xs h) ∙ lines_both xs (happened_events h) p q

no_line_if : (b : Bool) (h : Happened) → HasNoLine (happened_events h) →
    HasNoLine (happened_events (cond b h (Lacks [])))
no_line_if true h p = p
no_line_if false h p = refl

abbrev pub saying_nothing : RowRule
saying_nothing = record plain_rows { DeedsOk = SayNothing; none_ok = tt; both_ok = both_say_nothing }

turn_has_no_line : (t : Turned) (k : Chain) → TurnOk saying_nothing t → HasNoLine (happened_events (happens k t))
turn_has_no_line (Leads ds place s) k h = deeds_have_no_line ds k h.0
turn_has_no_line (Over ds ending s) k h = deeds_have_no_line ds k h
turn_has_no_line (Broken ds f s) k h = deeds_have_no_line ds k h
turn_has_no_line (Scanning ds job rest) k h =
    let l : Chain = deeds_chain k ds in
    let l1 : Chain = deed_chain l (Scans job) in
    let then : Happened = happens l1 (rest (captured_on l job)) in
    no_line_before (deeds_events k ds) (scanned_on l job (λ bits c. happens c (rest bits)))
    (deeds_have_no_line ds k h.0)
    (no_line_if (is_stable_state l.tap) (with_events (deed_events l (Scans job)) then)
    (no_line_before (deed_events l (Scans job)) then
    (pulses_have_none (far_clocks l.far (inputs_of_scan l.tap (based l.base job))))
    (turn_has_no_line (rest (captured_on l job)) l1 (h.2 (captured_on l job)))))
turn_has_no_line (NoTurn ds) k h = deeds_have_no_line ds k h

-- of a STATE, and of a statement that scans
saying_nothing_so : (moves scans : Bool) → (moves ≡ false → scans ≡ false → ⊥) →
    StatementRule saying_nothing moves scans
saying_nothing_so moves scans either = record {
  says_ok = λ m n event ds e h. absurd (either m n);
  goes_ok = λ m n to ds e h. h;
  stays_ok = λ m n c ds h. h;
  moves_ok = λ m states last. moves_say_nothing (map tap_of states);
  scans_ok = λ e register x bits h few. tt;
}

-- ---- moves between stable states, and stays there, have no runs

stable_path : (at to : Tap) → is_stable_state at ≡ true → is_stable_state to ≡ true → RunsNone at (path_of at to)
stable_path IrPause to e f = (stop_has_none true to f).1
stable_path DrPause to e f = (stop_has_none false to f).1
stable_path Reset Reset e f = (refl, (refl, (refl, (refl, (refl, tt)))))
stable_path Reset Idle e f = (refl, tt)
stable_path Reset DrPause e f = (refl, (refl, (refl, (refl, (refl, tt)))))
stable_path Reset IrPause e f = (refl, (refl, (refl, (refl, (refl, (refl, tt))))))
stable_path Idle Reset e f = (refl, (refl, (refl, (refl, (refl, tt)))))
stable_path Idle Idle e f = tt
stable_path Idle DrPause e f = (refl, (refl, (refl, (refl, tt))))
stable_path Idle IrPause e f = (refl, (refl, (refl, (refl, (refl, tt)))))
stable_path Reset _ e f = absurd (false≢true f)
stable_path Idle _ e f = absurd (false≢true f)
stable_path _ to e f = absurd (false≢true e)

pub stable_stay : (at : Tap) (n : ℕ) → is_stable_state at ≡ true → RunsNone at (replicate n (rest_tms at))
stable_stay at zero e = tt
stable_stay at (suc n) e =
    (stable_rests at e, subst (λ t. RunsNone t (replicate n (rest_tms at))) (sym (rests at e)) (stable_stay at n e))

-- the runs of events that lead to a stable state, and then those of others
pub runs_then : (at to : Tap) (xs ys : List Event) → walk at (tms_among xs) ≡ to → is_stable_state to ≡ true →
    shift_runs at (clocks_among (xs ++ ys)) ≡ shift_runs at (clocks_among xs) ++ shift_runs to (clocks_among ys)
runs_then at to xs ys leads e =
    ap (shift_runs at) (clocks_both xs ys)
    ∙ runs_joined (clocks_among xs) (clocks_among ys) at (ap shifts leads ∙ stable_rests to e)
    ∙ ap (λ t. shift_runs at (clocks_among xs) ++ shift_runs t (clocks_among ys)) leads

walk_has_no_run : (at : Tap) (far : FarEnd) (ms : List Bool) → RunsNone at ms →
    shift_runs at (clocks_among (pulses (far_clocks far (with_zero ms)))) ≡ []
walk_has_no_run at far ms h =
    no_runs (clocks_among (pulses (far_clocks far (with_zero ms)))) at
    (subst (RunsNone at) (sym (tms_of_pulses far (with_zero ms) ∙ tms_with_zero ms)) h)

-- a walk without runs to a stable state, and then events without runs
walk_then : (at to : Tap) (far : FarEnd) (ms : List Bool) (es : List Event) → RunsNone at ms → walk at ms ≡ to →
    is_stable_state to ≡ true → shift_runs to (clocks_among es) ≡ [] →
    shift_runs at (clocks_among (pulses (far_clocks far (with_zero ms)) ++ es)) ≡ []
walk_then at to far ms es none leads e h =
    runs_then at to (pulses (far_clocks far (with_zero ms))) es (walk_with_zero at far ms ∙ leads) e
    ∙ ap (λ t. t ++ shift_runs to (clocks_among es)) (walk_has_no_run at far ms none) ∙ h

-- these deeds move to stable states, stay, and say events that are no clocks
abbrev pub RestStable : List Deed → Type 0
RestStable [] = Unit {0}
RestStable (Says event ∷ ds) = (is_no_clock event ≡ true) × RestStable ds
RestStable (Goes to ∷ ds) = (is_stable_state to ≡ true) × RestStable ds
RestStable (Stays n ∷ ds) = RestStable ds
RestStable (Scans scan ∷ ds) = ⊥

pub both_rest : (xs ys : List Deed) → RestStable xs → RestStable ys → RestStable (xs ++ ys)
both_rest [] ys p q = q
both_rest (Says event ∷ xs) ys p q = (p.0, both_rest xs ys p.1 q)
both_rest (Goes to ∷ xs) ys p q = (p.0, both_rest xs ys p.1 q)
both_rest (Stays n ∷ xs) ys p q = both_rest xs ys p q
both_rest (Scans scan ∷ xs) ys p q = absurd p

deeds_have_no_run : (ds : List Deed) (k : Chain) → is_stable_state k.tap ≡ true → RestStable ds →
    shift_runs k.tap (clocks_among (deeds_events k ds)) ≡ []
deeds_have_no_run [] k e h = refl
deeds_have_no_run (Says event ∷ ds) k e h =
    ap (shift_runs k.tap) (clocks_both (event ∷ []) (deeds_events k ds)
    ∙ ap (λ ks. ks ++ clocks_among (deeds_events k ds)) (clock_not_said event h.0)) ∙ deeds_have_no_run ds k e h.1
deeds_have_no_run (Goes to ∷ ds) k e h =
    let l : Chain = deed_chain k (Goes to) in
    let path : List Bool = path_of k.tap to in
    walk_then k.tap to k.far path (deeds_events l ds) (stable_path k.tap to e h.0)
    (path_leads k.tap to path (is_path k.tap to)) h.0 (deeds_have_no_run ds l h.0 h.1)
deeds_have_no_run (Stays n ∷ ds) k e h =
    let l : Chain = deed_chain k (Stays n) in
    walk_then k.tap k.tap k.far (replicate n (rest_tms k.tap)) (deeds_events l ds) (stable_stay k.tap n e)
    (stays k.tap n e) e (deeds_have_no_run ds l e h)
deeds_have_no_run (Scans scan ∷ ds) k e h = absurd h

abbrev pub resting : RowRule
resting = record plain_rows { DeedsOk = RestStable; JobOk = NoScan; none_ok = tt; both_ok = both_rest }

pub turn_has_no_run : (t : Turned) (k : Chain) → is_stable_state k.tap ≡ true → TurnOk resting t →
    shift_runs k.tap (clocks_among (happened_events (happens k t))) ≡ []
turn_has_no_run (Leads ds place s) k e h = deeds_have_no_run ds k e h.0
turn_has_no_run (Over ds ending s) k e h = deeds_have_no_run ds k e h
turn_has_no_run (Broken ds f s) k e h = deeds_have_no_run ds k e h
turn_has_no_run (Scanning ds job rest) k e h = absurd h.1
turn_has_no_run (NoTurn ds) k e h = deeds_have_no_run ds k e h

-- of a statement that is no STATE and does not scan
pub resting_so : (moves scans : Bool) → moves ≡ false → scans ≡ false → StatementRule resting moves scans
resting_so moves scans p q = record {
  says_ok = λ m n event ds e h. (e, h);
  goes_ok = λ m n to ds e h. (e, h);
  stays_ok = λ m n c ds h. h;
  moves_ok = λ m states last. absurd (false≢true (sym p ∙ m));
  scans_ok = λ n register x bits h few. absurd (false≢true (sym q ∙ n));
}

-- ---- turns

abbrev HasNoLineOrRun : MadeTurn → Type 0
HasNoLineOrRun t = (events_text false [] t.events ≡ []) ⊎ (shift_runs t.from (clocks_among t.events) ≡ [])

module _ (program : Played) (typed : IsTyped program) where
  turn_has : (i : ℕ) (s : State) (k : Chain) → Stands s k → HasNoLineOrRun (made_turn program i s k)
  turn_has i s k h = by (moves_at program i) (scans_at program i) refl refl
    where
      silent : (moves_at program i ≡ false → scans_at program i ≡ false → ⊥) → HasNoLineOrRun (made_turn program i s k)
      silent either =
          inl (turn_has_no_line (turn program i s) k (turn_ok program typed saying_nothing i s
          (saying_nothing_so (moves_at program i) (scans_at program i) either) (tt, tt)))

      by : (a b : Bool) → moves_at program i ≡ a → scans_at program i ≡ b → HasNoLineOrRun (made_turn program i s k)
      by true b p q = silent (λ m n. false≢true (sym m ∙ p))
      by false true p q = silent (λ m n. false≢true (sym n ∙ q))
      by false false p q =
          inr (turn_has_no_run (turn program i s) k h.0 (turn_ok program typed resting i s
          (resting_so (moves_at program i) (scans_at program i) p q) (tt, tt)))

  pub runs_or_lines : (chosen : List ℕ) (n : ℕ) (base : BaseLengths) (far : FarEnd) →
      All HasNoLineOrRun (made_play program chosen n base far).turns
  runs_or_lines chosen n base far =
      all_of_play program Stands HasNoLineOrRun turn_has (λ i s k h. turn_stands program typed i s k h.1 h.0) chosen n
      base far (play_begins program typed chosen base far)

-- so the lines of the runs may stand on either side of the others
module _ (cut : CutText) (base : BaseLengths) where
  in_either_order : (t : MadeTurn) → HasNoLineOrRun t →
      turn_lines cut base t ≡ events_text false [] t.events ++ flat_map (passage_line cut) (passages_of base t)
  in_either_order t (inl e) =
      let said : List ℕ = flat_map (passage_line cut) (passages_of base t) in
      ap (λ x. said ++ x) e ∙ append-nil said ∙ ap (λ x. x ++ said) (sym e)
  in_either_order t (inr e) =
      let none : passages_of base t ≡ [] =
      ap (map (λ run. record { place = t.place; scan = t.scans; run = said_run base t.scans run })) e in
      let lines : List ℕ = events_text false [] t.events in
      ap (λ x. flat_map (passage_line cut) x ++ lines) none ∙ sym (append-nil lines)
      ∙ ap (λ x. lines ++ flat_map (passage_line cut) x) (sym none)

pub lines_in_order : (program : Played) → IsTyped program → (chosen : List ℕ) (n : ℕ) (base : BaseLengths)
    (far : FarEnd) (cut : CutText) → All (λ (t : MadeTurn). turn_lines cut base t
    ≡ events_text false [] t.events ++ flat_map (passage_line cut) (passages_of base t))
    (made_play program chosen n base far).turns
lines_in_order program typed chosen n base far cut =
    All-weaker HasNoLineOrRun _ (in_either_order cut base) (made_play program chosen n base far).turns
    (runs_or_lines program typed chosen n base far)
