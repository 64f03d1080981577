-- A watch over whole plays: they have the deeds and the outcome of the play on the devices alone, and the watch has seen
-- the first deed that is not quiet.
use Rattle.std.proofs.Common.{◌≡◌, ◌<◌, ◌⊎◌, ℕ, zero, suc, Bool, true, false, List, [], ◌∷◌, ◌++◌, length, refl, sym, ap, subst, ◌∙◌, inl, inr, arith}
use Rattle.std.specs.Prelude.{Option, Some, None, if◌then◌else◌}
use Rattle.std.proofs.lemmas.Bool.{false≢true}
use Rattle.std.proofs.lemmas.List.{append-nil}
use Rattle.tap_states.specs.declared.Tap.{Tap}
use Rattle.tap_states.specs.declared.Tap.TheVariants.{Reset}
use Rattle.tap_states.specs.Tap.{is_stable_state}
use Rattle.dev_card.specs.declared.desc.Desc.{Desc}
use Rattle.dev_card.specs.Card.{Card}
use Rattle.dev_card.specs.Board.{Input, board_after}
use Rattle.dev_card.specs.Clocks.{move_inputs, stay_inputs}
use Rattle.dev_card.specs.FarEnds.{heard_clocks, heard_after}
use Rattle.dev_card.specs.Scans.{BoardScan, inputs_of_scan}
use Rattle.dev_card.specs.PaddedScan.{descriptions_of}
use Rattle.dev_card.proofs.OneScan.{descriptions_after}
use Rattle.stapl_meaning.specs.declared.events.Event.{Event}
use Rattle.stapl_meaning.specs.Deeds.{Deed, Says, Goes, Stays, Scans, Chain, based, deed_events, deed_chain, deeds_events, deeds_chain, captured_on}
use Rattle.stapl_meaning.specs.States.{State, Turned, Leads, Over, Broken, Scanning, NoTurn, Happened, Lacks, with_events, scanned_on, happens}
use Rattle.stapl_meaning.specs.Scopes.{Played, zeros_of}
use Rattle.stapl_meaning.specs.Turns.{turn}
use Rattle.stapl_meaning.specs.Plays.{Outcome, Ended, Going, Stopped, Run, goes_on, run, procedures_run, start, beginning, reset_inputs}
use Rattle.padded_plays.specs.PaddedRuns.{fresh_board}
use Rattle.padded_plays.specs.QuietPlays.{IsQuietDeed, loaded_by_deed, AreQuietDeeds, deeds_of_turn, deeds_of_run, deeds_of_play, first_chain, IsQuietPlay}
use Rattle.padded_plays.proofs.QuietTurns.{with_events_first}
use Rattle.padded_plays.proofs.SameDeeds.{chain_alone}
use Rattle.padded_plays.proofs.StableStays.{StayInStable, TurnStays, turn_stays, beginning_stays}
use Rattle.padded_plays.specs.declared.unquiet.Unquiet.{Unquiet}
use Rattle.padded_plays.specs.declared.unquiet.Unquiet.TheVariants.{ScanState}
use Rattle.padded_plays.specs.Reasons.{IsReason}
use Rattle.padded_plays.specs.FirstDeeds.{HasUnquiet, HasUnquietDeed}
use Rattle.padded_plays.proofs.Firsts.{head_or_tail, deeds_decided, SomeUnquiet, no_unquiet}
use Rattle.quiet_watch.specs.Watches.{marks, Watched, or_else, watch_after, ends_in, seen_by}
use Rattle.quiet_watch.specs.HeardPlays.{watching, first_watch, marked_chain, tap_by, HearsDeeds, HearsPlay, HasSeenPlay}
use Rattle.quiet_watch.proofs.Scanned.{bits_in, captures_same}
use Rattle.quiet_watch.proofs.WatchedDeeds.{IsClean, cards_by, alone_then, IsWatched, watched_says, watched_goes, watched_stays, watched_scan}

-- ---- one deed after another

-- the same of deeds one after another
pub record AreWatched (ds : List Desc) (cs : List Card) (at : Tap) (l : Bool) (s : Option Unquiet) (deeds : List Deed) (w : Watched) : Type 0 where
  pub cards : List Card
  pub tap : Tap
  pub loaded : Bool
  pub seen : Option Unquiet
  pub is : w ≡ watching ds cards tap loaded seen
  pub chain : deeds_chain (chain_alone at cs) deeds ≡ chain_alone tap cards
  pub kept : (why : Unquiet) → or_else s (ends_in at) ≡ Some why → or_else seen (ends_in tap) ≡ Some why
  pub quiet : IsClean s at → AreQuietDeeds l (chain_alone at cs) deeds → IsClean seen tap
  pub unquiet : IsClean s at → (why : Unquiet) → HasUnquiet l (chain_alone at cs) deeds why → or_else seen (ends_in tap) ≡ Some why

none_watched : (ds : List Desc) (cs : List Card) (at : Tap) (l : Bool) (s : Option Unquiet) (w : Watched) → w ≡ watching ds cs at l s → AreWatched ds cs at l s [] w
none_watched ds cs at l s w e = record {
  cards = cs;
  tap = at;
  loaded = l;
  seen = s;
  is = e;
  chain = refl;
  kept = λ why h. h;
  quiet = λ c q. c;
  unquiet = λ c why h. absurd (no_unquiet l (chain_alone at cs) why h);
}

one_watched : (ds : List Desc) (cs : List Card) (at : Tap) (l : Bool) (s : Option Unquiet) (d : Deed) (deeds : List Deed) (v w : Watched)
    (one : IsWatched ds cs at l s d v) → AreWatched ds (cards_by at cs d) (tap_by at d) one.loaded one.seen deeds w → AreWatched ds cs at l s (d ∷ deeds) w
one_watched ds cs at l s d deeds v w one all =
    let k : Chain = chain_alone at cs in
    let later : Chain = chain_alone (tap_by at d) (cards_by at cs d) in
    let e : deed_chain k d ≡ later = alone_then at cs d in
    record {
      cards = all.cards;
      tap = all.tap;
      loaded = all.loaded;
      seen = all.seen;
      is = all.is;
      chain = ap (λ c. deeds_chain c deeds) e ∙ all.chain;
      kept = λ why h. all.kept why (one.kept why h);
      quiet = λ c q.
          (let r = one.quiet c q.0 in
          all.quiet r.0 (subst (λ (c : Chain). AreQuietDeeds one.loaded c deeds) e
          (subst (λ (m : Bool). AreQuietDeeds m (deed_chain k d) deeds) (sym r.1) q.1)));
      unquiet = λ c why h. by c why (head_or_tail l k d deeds why h);
    }
  where
    by : IsClean s at → (why : Unquiet) →
        IsReason l (chain_alone at cs) d why ⊎ (IsQuietDeed l (chain_alone at cs) d × HasUnquiet (loaded_by_deed l (chain_alone at cs) d) (deed_chain (chain_alone at cs) d) deeds why) →
        or_else all.seen (ends_in all.tap) ≡ Some why
    by c why (inl r) = all.kept why (one.unquiet c why r)
    by c why (inr q) =
        let r = one.quiet c q.0 in
        all.unquiet r.0 why (subst (λ (c : Chain). HasUnquiet one.loaded c deeds why) (alone_then at cs d)
        (subst (λ (m : Bool). HasUnquiet m (deed_chain (chain_alone at cs) d) deeds why) (sym r.1) q.1))

-- ---- turns

-- the deeds of a run and how it stands later
pub record Went : Type 0 where
  pub deeds : List Deed
  pub outcome : Outcome

abbrev one_more : Deed → Went → Went
one_more d w = record { deeds = d ∷ w.deeds; outcome = w.outcome }

abbrev with_front : List Deed → Went → Went
with_front ds w = record { deeds = ds ++ w.deeds; outcome = w.outcome }

abbrev ending_so : Outcome → Went
ending_so outcome = record { deeds = []; outcome = outcome }

abbrev turn_went : Chain → Turned → (ℕ → State → Chain → Went) → Went
turn_went k (Leads deeds place s) next = with_front deeds (next place s (deeds_chain k deeds))
turn_went k (Over deeds ending s) next = with_front deeds (ending_so (Ended ending))
turn_went k (Broken deeds fault s) next = with_front deeds (ending_so Stopped)
turn_went k (Scanning deeds scan rest) next =
    let l = deeds_chain k deeds in
    with_front deeds (if is_stable_state l.tap
    then one_more (Scans scan) (turn_went (deed_chain l (Scans scan)) (rest (captured_on l scan)) next) else ending_so Stopped)
turn_went k (NoTurn deeds) next = with_front deeds (ending_so Stopped)

abbrev run_went : Played → ℕ → ℕ → State → Chain → Went
run_went program zero i s k = ending_so (Going i)
run_went program (suc n) i s k = turn_went k (turn program i s) (run_went program n)

-- what a play went through, on a chain whose scans are told and on the run alone
pub record Agree (ds : List Desc) (cs : List Card) (at : Tap) (l : Bool) (s : Option Unquiet) (heard alone : Went) (w : Watched) : Type 0 where
  pub same : heard ≡ alone
  pub watched : AreWatched ds cs at l s alone.deeds w

-- the first bit of a scan
record FirstBit (bits : List Bool) : Type 0 where
  first : Bool
  rest : List Bool
  is : bits ≡ first ∷ rest

first_bit : (pre bits post : List Bool) → 0 < length bits → FirstBit (pre ++ (bits ++ post))
first_bit [] [] post h = absurd (omega arith)
first_bit [] (b ∷ bits) post h = record { first = b; rest = bits ++ post; is = refl }
first_bit (p ∷ pre) bits post h = record { first = p; rest = pre ++ (bits ++ post); is = refl }

module _ (ds : List Desc) (v : Watched) where
  one_agrees : (cs : List Card) (at : Tap) (l : Bool) (s : Option Unquiet) (d : Deed) (w : Watched) (heard alone : Went) (one : IsWatched ds cs at l s d w) →
      Agree ds (cards_by at cs d) (tap_by at d) one.loaded one.seen heard alone v → Agree ds cs at l s (one_more d heard) (one_more d alone) v
  one_agrees cs at l s d w heard alone one a =
      record { same = ap (one_more d) a.same; watched = one_watched ds cs at l s d alone.deeds w v one a.watched }

  -- what follows agrees, wherever it begins
  abbrev AgreesFrom : (Chain → Went) → Type 0
  AgreesFrom go =
      (cs : List Card) (at : Tap) (l : Bool) (s : Option Unquiet) (bs : List Bool) → descriptions_of cs ≡ ds →
      HearsDeeds (watching ds cs at l s) at bs (go (marked_chain at bs)).deeds v →
      Agree ds cs at l s (go (marked_chain at bs)) (go (chain_alone at cs)) v

  through : (b : Bool) (deeds : List Deed) → StayInStable b deeds → (go : Chain → Went) → AgreesFrom go →
      (cs : List Card) (at : Tap) (l : Bool) (s : Option Unquiet) (bs : List Bool) → (b ≡ true → is_stable_state at ≡ true) → descriptions_of cs ≡ ds →
      HearsDeeds (watching ds cs at l s) at bs (deeds ++ (go (deeds_chain (marked_chain at bs) deeds)).deeds) v →
      Agree ds cs at l s (with_front deeds (go (deeds_chain (marked_chain at bs) deeds))) (with_front deeds (go (deeds_chain (chain_alone at cs) deeds))) v
  through b [] stays go follows cs at l s bs stable told h = follows cs at l s bs told h
  through b (Says event ∷ deeds) stays go follows cs at l s bs stable told h =
      let one : IsWatched ds cs at l s (Says event) (watching ds cs at l s) = watched_says ds cs at l s event told in
      let next : Went = go (deeds_chain (marked_chain at bs) deeds) in
      one_agrees cs at l s (Says event) (watching ds cs at l s) _ _ one
      (through b deeds stays go follows cs at one.loaded one.seen bs stable told
      (subst (λ (w : Watched). HearsDeeds w at bs (deeds ++ next.deeds) v) one.is h.1))
  through b (Goes to ∷ deeds) stays go follows cs at l s bs stable told h =
      let one : IsWatched ds cs at l s (Goes to) (watch_after (watching ds cs at l s) (move_inputs at to)) = watched_goes ds cs at l s to told in
      let rest : List Bool = heard_after bs (move_inputs at to) in
      let next : Went = go (deeds_chain (marked_chain to rest) deeds) in
      one_agrees cs at l s (Goes to) (watch_after (watching ds cs at l s) (move_inputs at to)) _ _ one
      (through (is_stable_state to) deeds stays go follows (board_after cs (move_inputs at to)) to one.loaded one.seen rest (λ e. e) one.described
      (subst (λ (w : Watched). HearsDeeds w to rest (deeds ++ next.deeds) v) one.is h.1))
  through b (Stays n ∷ deeds) stays go follows cs at l s bs stable told h =
      let one : IsWatched ds cs at l s (Stays n) (watch_after (watching ds cs at l s) (stay_inputs at n)) = watched_stays ds cs at l s n told (stable stays.0) in
      let rest : List Bool = heard_after bs (stay_inputs at n) in
      let next : Went = go (deeds_chain (marked_chain at rest) deeds) in
      one_agrees cs at l s (Stays n) (watch_after (watching ds cs at l s) (stay_inputs at n)) _ _ one
      (through b deeds stays.1 go follows (board_after cs (stay_inputs at n)) at one.loaded one.seen rest stable one.described
      (subst (λ (w : Watched). HearsDeeds w at rest (deeds ++ next.deeds) v) one.is h.1))
  through b (Scans scan ∷ deeds) stays go follows cs at l s bs stable told h = absurd stays

  stops : (outcome : Outcome) → AgreesFrom (λ k. ending_so outcome)
  stops outcome cs at l s bs told h = record { same = refl; watched = none_watched ds cs at l s v h }

  module _ (next : ℕ → State → Chain → Went) (follows : (place : ℕ) (t : State) → AgreesFrom (next place t)) where
    -- a scan, and what follows from the bits that it captures
    abbrev after_scan : BoardScan → (List Bool → Turned) → Chain → Went
    after_scan scan rest k = one_more (Scans scan) (turn_went (deed_chain k (Scans scan)) (rest (captured_on k scan)) next)

    abbrev scan_went : BoardScan → (List Bool → Turned) → Chain → Went
    scan_went scan rest k = if is_stable_state k.tap then after_scan scan rest k else ending_so Stopped

    module _ (scan : BoardScan) (rest : List Bool → Turned) (some : 0 < length scan.bits) (then_agrees : (bits : List Bool) → AgreesFrom (λ k. turn_went k (rest bits) next)) where
      scans_on : (cs : List Card) (at : Tap) (l : Bool) (s : Option Unquiet) (bs : List Bool) → descriptions_of cs ≡ ds → is_stable_state at ≡ true →
          HearsDeeds (watching ds cs at l s) at bs (after_scan scan rest (marked_chain at bs)).deeds v →
          Agree ds cs at l s (after_scan scan rest (marked_chain at bs)) (after_scan scan rest (chain_alone at cs)) v
      scans_on cs at l s bs told e h =
          let f : FirstBit (bits_in scan) = first_bit scan.paddings.pre scan.bits scan.paddings.post some in
          let w : Watched = watching ds cs at l s in
          let inputs : List Input = inputs_of_scan at (based marks scan) in
          let one : IsWatched ds cs at l s (Scans scan) (watch_after w inputs) = watched_scan ds cs at l s scan told e f.first f.rest f.is in
          let bits : List Bool = captured_on (marked_chain at bs) scan in
          let same : bits ≡ captured_on (chain_alone at cs) scan = captures_same ds cs at l s scan e f.first f.rest f.is (heard_clocks bs inputs) h.0 in
          let more : List Bool = heard_after bs inputs in
          let later : Went = turn_went (marked_chain scan.stop more) (rest bits) next in
          let alone : Chain = deed_chain (chain_alone at cs) (Scans scan) in
          one_agrees cs at l s (Scans scan) (watch_after w inputs) later (turn_went alone (rest (captured_on (chain_alone at cs) scan)) next) one
          (subst (λ (b : List Bool). Agree ds (cards_by at cs (Scans scan)) scan.stop one.loaded one.seen later (turn_went alone (rest b) next) v) same
          (then_agrees bits (cards_by at cs (Scans scan)) scan.stop one.loaded one.seen more one.described
          (subst (λ (u : Watched). HearsDeeds u scan.stop more later.deeds v) one.is h.1)))

      scan_agrees : AgreesFrom (scan_went scan rest)
      scan_agrees cs at l s bs told h = by (is_stable_state at) refl h
        where
          by : (b : Bool) → is_stable_state at ≡ b →
              HearsDeeds (watching ds cs at l s) at bs (if b then after_scan scan rest (marked_chain at bs) else ending_so Stopped).deeds v →
              Agree ds cs at l s (if b then after_scan scan rest (marked_chain at bs) else ending_so Stopped)
              (if b then after_scan scan rest (chain_alone at cs) else ending_so Stopped) v
          by true e h = scans_on cs at l s bs told e h
          by false e h = stops Stopped cs at l s bs told h

    turn_agrees : (t : Turned) → TurnStays t → AgreesFrom (λ k. turn_went k t next)
    turn_agrees (Leads deeds place t) stays cs at l s bs told h =
        through false deeds stays (next place t) (follows place t) cs at l s bs (λ e. absurd (false≢true e)) told h
    turn_agrees (Over deeds ending t) stays cs at l s bs told h =
        through false deeds stays (λ k. ending_so (Ended ending)) (stops (Ended ending)) cs at l s bs (λ e. absurd (false≢true e)) told h
    turn_agrees (Broken deeds f t) stays cs at l s bs told h =
        through false deeds stays (λ k. ending_so Stopped) (stops Stopped) cs at l s bs (λ e. absurd (false≢true e)) told h
    turn_agrees (Scanning deeds scan rest) stays cs at l s bs told h =
        through false deeds stays.0 (scan_went scan rest) (scan_agrees scan rest stays.1 (λ bits. turn_agrees (rest bits) (stays.2 bits))) cs at l s bs
        (λ e. absurd (false≢true e)) told h
    turn_agrees (NoTurn deeds) stays cs at l s bs told h =
        through false deeds stays (λ k. ending_so Stopped) (stops Stopped) cs at l s bs (λ e. absurd (false≢true e)) told h

  run_agrees : (program : Played) (n i : ℕ) (t : State) → AgreesFrom (run_went program n i t)
  run_agrees program zero i t cs at l s bs told h = stops (Going i) cs at l s bs told h
  run_agrees program (suc n) i t cs at l s bs told h =
      turn_agrees (run_went program n) (run_agrees program n) (turn program i t) (turn_stays program i t) cs at l s bs told h

fresh_descriptions : (run : List Desc) → descriptions_of (fresh_board run) ≡ run
fresh_descriptions [] = refl
fresh_descriptions (d ∷ run) = ap (λ t. d ∷ t) (fresh_descriptions run)

-- ---- the same as deeds and outcomes

abbrev went_of : List Deed → Outcome → Went
went_of deeds outcome = record { deeds = deeds; outcome = outcome }

module _ (go : ℕ → State → Chain → Run) (deeds_then : ℕ → State → Chain → List Deed) (next : ℕ → State → Chain → Went)
    (same : (i : ℕ) (s : State) (k : Chain) → next i s k ≡ went_of (deeds_then i s k) (go i s k).outcome) (s0 : State) (k0 : Chain) where
  went_if : (b : Bool) (es : List Event) (scan : Deed) (h : Happened) (x : Went) (ys : List Deed) → x ≡ went_of ys (goes_on h s0 k0 go).outcome →
      (if b then one_more scan x else ending_so Stopped)
      ≡ went_of (if b then scan ∷ ys else []) (goes_on (if b then with_events es h else Lacks []) s0 k0 go).outcome
  went_if true es scan h x ys e =
      ap (one_more scan) e ∙ ap (λ (r : Run). went_of (scan ∷ ys) r.outcome) (sym (with_events_first es h s0 k0 go))
  went_if false es scan h x ys e = refl

  went_turn : (t : Turned) (k : Chain) → turn_went k t next ≡ went_of (deeds_of_turn k t deeds_then) (goes_on (happens k t) s0 k0 go).outcome
  went_turn (Leads ds place s) k = ap (with_front ds) (same place s (deeds_chain k ds))
  went_turn (Over ds ending s) k = ap (λ xs. went_of xs (Ended ending)) (append-nil ds)
  went_turn (Broken ds f s) k = ap (λ xs. went_of xs Stopped) (append-nil ds)
  went_turn (Scanning ds scan rest) k =
      let l : Chain = deeds_chain k ds in
      let later : List Bool → Chain → Happened = λ bits m. happens m (rest bits) in
      let k1 : Chain = deed_chain l (Scans scan) in
      let bits : List Bool = captured_on l scan in
      let some : List Deed = deeds_of_turn k1 (rest bits) deeds_then in
      ap (with_front ds) (went_if (is_stable_state l.tap) (deed_events l (Scans scan)) (Scans scan) (later bits k1) (turn_went k1 (rest bits) next) some
      (went_turn (rest bits) k1))
      ∙ ap (λ (r : Run). went_of (ds ++ (if is_stable_state l.tap then Scans scan ∷ some else [])) r.outcome)
      (sym (with_events_first (deeds_events k ds) (scanned_on l scan later) s0 k0 go))
  went_turn (NoTurn ds) k = ap (λ xs. went_of xs Stopped) (append-nil ds)

went_run : (program : Played) (n i : ℕ) (s : State) (k : Chain) → run_went program n i s k ≡ went_of (deeds_of_run program n i s k) (run program n i s k).outcome
went_run program zero i s k = refl
went_run program (suc n) i s k =
    went_turn (run program n) (deeds_of_run program n) (run_went program n) (went_run program n) s k (turn program i s) k

module _ (program : Played) (chosen : List ℕ) (n : ℕ) where
  abbrev first : State
  first = start chosen (zeros_of program)

  abbrev play_went : Chain → Went
  play_went k = turn_went k (beginning program first) (run_went program n)

  went_play : (k : Chain) → play_went k ≡ went_of (deeds_of_play program chosen n k) (procedures_run program chosen n k).outcome
  went_play k = went_turn (run program n) (deeds_of_run program n) (run_went program n) (went_run program n) first k (beginning program first) k

  module _ (run_devices : List Desc) (bs : List Bool) (v : Watched) (heard : HearsPlay program chosen n run_devices bs v) where
    abbrev cards : List Card
    cards = board_after (fresh_board run_devices) reset_inputs

    abbrev alone : Chain
    alone = first_chain run_devices

    abbrev hears : Chain
    hears = marked_chain Reset bs

    agree : Agree run_devices cards Reset false None (play_went hears) (play_went alone) v
    agree =
        turn_agrees run_devices v (run_went program n) (run_agrees run_devices v program n) (beginning program first) (beginning_stays program first)
        cards Reset false None bs (descriptions_after reset_inputs (fresh_board run_devices) ∙ fresh_descriptions run_devices)
        (subst (λ (w : Went). HearsDeeds (first_watch run_devices) Reset bs w.deeds v) (sym (went_play hears)) heard)

    all : AreWatched run_devices cards Reset false None (deeds_of_play program chosen n alone) v
    all = subst (λ (w : Went). AreWatched run_devices cards Reset false None w.deeds v) (went_play alone) agree.watched

    clean : IsClean None Reset
    clean = record { none = refl; out = refl }

    seen_is : seen_by v ≡ or_else all.seen (ends_in all.tap)
    seen_is = ap seen_by all.is

    quiet_none : IsQuietPlay program chosen n run_devices → seen_by v ≡ None
    quiet_none q =
        let c : IsClean all.seen all.tap = all.quiet clean q in
        seen_is ∙ ap (λ o. or_else o (ends_in all.tap)) c.none ∙ ap (λ b. if b then Some ScanState else None) c.out

    unquiet_some : (why : Unquiet) → HasUnquietDeed program chosen n run_devices why → seen_by v ≡ Some why
    unquiet_some why h = seen_is ∙ all.unquiet clean why h

    pub has_seen : HasSeenPlay program chosen n run_devices bs v
    has_seen = record {
      outcome = ap (λ (w : Went). w.outcome) (sym (went_play hears) ∙ agree.same ∙ went_play alone);
      none = λ e. none_by e (deeds_decided false alone (deeds_of_play program chosen n alone));
      some = λ why e. some_by why e (deeds_decided false alone (deeds_of_play program chosen n alone));
    }
      where
        none_by : seen_by v ≡ None → AreQuietDeeds false alone (deeds_of_play program chosen n alone) ⊎ SomeUnquiet false alone (deeds_of_play program chosen n alone) →
            IsQuietPlay program chosen n run_devices
        none_by e (inl q) = q
        none_by e (inr u) = let never : None ≡ Some u.why = sym e ∙ unquiet_some u.why u.is in absurd cc

        some_by : (why : Unquiet) → seen_by v ≡ Some why →
            AreQuietDeeds false alone (deeds_of_play program chosen n alone) ⊎ SomeUnquiet false alone (deeds_of_play program chosen n alone) →
            HasUnquietDeed program chosen n run_devices why
        some_by why e (inl q) = let never : None ≡ Some why = sym (quiet_none q) ∙ e in absurd cc
        some_by why e (inr u) =
            let same : Some u.why ≡ Some why = sym (unquiet_some u.why u.is) ∙ e in
            let is : u.why ≡ why = cc in
            subst (λ (x : Unquiet). HasUnquietDeed program chosen n run_devices x) is u.is
