-- What signals that a watch answered say of a play: it has heard the answers of the watch.
use Rattle.std.proofs.Common.{◌≡◌, ℕ, zero, suc, Bool, true, false, cond, List, [], ◌∷◌, ◌++◌, refl, ap, subst, ◌∙◌}
use Rattle.std.proofs.lemmas.Bool.{false≢true}
use Rattle.tap_states.specs.declared.Tap.{Tap}
use Rattle.tap_states.specs.declared.Tap.TheVariants.{Reset}
use Rattle.tap_states.specs.Tap.{is_stable_state}
use Rattle.dev_card.specs.declared.desc.Desc.{Desc}
use Rattle.dev_card.specs.Board.{Input, tdos}
use Rattle.dev_card.specs.Clocks.{move_inputs, stay_inputs}
use Rattle.dev_card.specs.FarEnds.{Heard, heard_clocks, heard_after, then_heard}
use Rattle.dev_card.specs.Scans.{inputs_of_scan}
use Rattle.scan_paths.specs.Cables.{Signal, Pulses, Waits, Tunes}
use Rattle.stapl_meaning.specs.declared.events.Event.{Event}
use Rattle.stapl_meaning.specs.declared.events.Event.TheVariants.{Print, Export, Clock, Usec, Hertz}
use Rattle.stapl_meaning.specs.SaidEvents.{is_no_clock, SayNoClock, TurnSaysNoClock}
use Rattle.stapl_meaning.proofs.SaidEvents.{turn_says, beginning_says}
use Rattle.stapl_meaning.specs.Deeds.{Deed, Says, Goes, Stays, Scans, Chain, based, pulses, deed_chain, deeds_events, deeds_chain, captured_on}
use Rattle.stapl_meaning.specs.States.{State, Turned, Leads, Over, Broken, Scanning, NoTurn}
use Rattle.stapl_meaning.specs.Scopes.{Played, zeros_of}
use Rattle.stapl_meaning.specs.Turns.{turn}
use Rattle.stapl_meaning.specs.Plays.{start, beginning, reset_inputs, reset_events}
use Rattle.padded_plays.specs.QuietPlays.{deeds_of_turn, deeds_of_run, deeds_of_play}
use Rattle.written_cable.specs.Signals.{signals_of}
use Rattle.written_cable.proofs.SignalLemmas.{signals_both}
use Rattle.quiet_watch.specs.Watches.{marks, Watched, watch_tdo, watch_step, watch_after, watch_answers, WatchFollows}
use Rattle.quiet_watch.specs.HeardPlays.{new_watch, first_watch, marked_chain, HearsDeeds, HearsPlay}

-- signals in two parts
pub record FollowsBoth (w : Watched) (xs ys : List Signal) (v : Watched) : Type 0 where
  pub between : Watched
  pub front : WatchFollows w xs between
  pub back : WatchFollows between ys v

pub follows_split : (xs ys : List Signal) (w v : Watched) → WatchFollows w (xs ++ ys) v → FollowsBoth w xs ys v
follows_split [] ys w v f = record { between = w; front = refl; back = f }
follows_split (Pulses k ∷ xs) ys w v f =
    let r = follows_split xs ys (watch_step w k.tms k.tdi) v f.1 in
    record { between = r.between; front = (f.0, r.front); back = r.back }
follows_split (Waits n ∷ xs) ys w v f = let r = follows_split xs ys w v f in record { between = r.between; front = r.front; back = r.back }
follows_split (Tunes n ∷ xs) ys w v f = let r = follows_split xs ys w v f in record { between = r.between; front = r.front; back = r.back }

-- clocks that are heard
pub record HasHeard (w : Watched) (bs : List Bool) (is : List Input) (v : Watched) : Type 0 where
  pub after : v ≡ watch_after w is
  pub answers : tdos (heard_clocks bs is) ≡ watch_answers w is

pub heard : (is : List Input) (bs : List Bool) (w v : Watched) → WatchFollows w (signals_of (pulses (heard_clocks bs is))) v → HasHeard w bs is v
heard [] bs w v f = record { after = f; answers = refl }
heard (i ∷ is) bs w v f =
    let r = heard is (then_heard bs) (watch_step w i.tms i.tdi) v f.1 in
    record {
      after = r.after;
      answers = ap (λ b. b ∷ tdos (heard_clocks (then_heard bs) is)) f.0 ∙ ap (λ t. watch_tdo w i.tdi ∷ t) r.answers;
    }

-- what is said is no clock, and a watch stays as it is
said : (event : Event) (w v : Watched) → is_no_clock event ≡ true → WatchFollows w (signals_of (event ∷ [])) v → v ≡ w
said (Print text) w v e f = f
said (Export key value) w v e f = f
said (Clock tms tdi tdo) w v e f = absurd (false≢true e)
said (Usec n) w v e f = f
said (Hertz n) w v e f = f

split_events : (xs ys : List Event) (w v : Watched) → WatchFollows w (signals_of (xs ++ ys)) v → FollowsBoth w (signals_of xs) (signals_of ys) v
split_events xs ys w v f = follows_split (signals_of xs) (signals_of ys) w v (subst (λ (s : List Signal). WatchFollows w s v) (signals_both xs ys) f)

pub hears_deeds : (deeds : List Deed) (at : Tap) (bs : List Bool) (w v : Watched) → SayNoClock deeds → WatchFollows w (signals_of (deeds_events (marked_chain at bs) deeds)) v →
    HearsDeeds w at bs deeds v
hears_deeds [] at bs w v says f = f
hears_deeds (Says event ∷ deeds) at bs w v says f =
    let both = split_events (event ∷ []) (deeds_events (marked_chain at bs) deeds) w v f in (
      refl,
      hears_deeds deeds at bs w v says.1
          (subst (λ (u : Watched). WatchFollows u (signals_of (deeds_events (marked_chain at bs) deeds)) v) (said event w both.between says.0 both.front) both.back),
    )
hears_deeds (Goes to ∷ deeds) at bs w v says f =
    let is : List Input = move_inputs at to in
    let rest : List Bool = heard_after bs is in
    let both = split_events (pulses (heard_clocks bs is)) (deeds_events (marked_chain to rest) deeds) w v f in
    let h = heard is bs w both.between both.front in (
      h.answers,
      hears_deeds deeds to rest (watch_after w is) v says
          (subst (λ (u : Watched). WatchFollows u (signals_of (deeds_events (marked_chain to rest) deeds)) v) h.after both.back),
    )
hears_deeds (Stays n ∷ deeds) at bs w v says f =
    let is : List Input = stay_inputs at n in
    let rest : List Bool = heard_after bs is in
    let both = split_events (pulses (heard_clocks bs is)) (deeds_events (marked_chain at rest) deeds) w v f in
    let h = heard is bs w both.between both.front in (
      h.answers,
      hears_deeds deeds at rest (watch_after w is) v says
          (subst (λ (u : Watched). WatchFollows u (signals_of (deeds_events (marked_chain at rest) deeds)) v) h.after both.back),
    )
hears_deeds (Scans scan ∷ deeds) at bs w v says f =
    let is : List Input = inputs_of_scan at (based marks scan) in
    let rest : List Bool = heard_after bs is in
    let both = split_events (pulses (heard_clocks bs is)) (deeds_events (marked_chain scan.stop rest) deeds) w v f in
    let h = heard is bs w both.between both.front in (
      h.answers,
      hears_deeds deeds scan.stop rest (watch_after w is) v says
          (subst (λ (u : Watched). WatchFollows u (signals_of (deeds_events (marked_chain scan.stop rest) deeds)) v) h.after both.back),
    )

-- ---- the deeds of a play say no clock

say_both : (xs ys : List Deed) → SayNoClock xs → SayNoClock ys → SayNoClock (xs ++ ys)
say_both [] ys h k = k
say_both (Says event ∷ xs) ys h k = (h.0, say_both xs ys h.1 k)
say_both (Goes to ∷ xs) ys h k = say_both xs ys h k
say_both (Stays n ∷ xs) ys h k = say_both xs ys h k
say_both (Scans scan ∷ xs) ys h k = say_both xs ys h k

say_if : (b : Bool) (ds : List Deed) → SayNoClock ds → SayNoClock (cond b ds [])
say_if true ds h = h
say_if false ds h = tt

module _ (go : ℕ → State → Chain → List Deed) (h : (i : ℕ) (s : State) (k : Chain) → SayNoClock (go i s k)) where
  say_turn : (t : Turned) (k : Chain) → TurnSaysNoClock t → SayNoClock (deeds_of_turn k t go)
  say_turn (Leads ds place s) k w = say_both ds (go place s (deeds_chain k ds)) w (h place s (deeds_chain k ds))
  say_turn (Over ds ending s) k w = w
  say_turn (Broken ds f s) k w = w
  say_turn (Scanning ds scan rest) k w =
      let l : Chain = deeds_chain k ds in
      let k1 : Chain = deed_chain l (Scans scan) in
      let more : List Deed = deeds_of_turn k1 (rest (captured_on l scan)) go in
      say_both ds (cond (is_stable_state l.tap) (Scans scan ∷ more) []) w.0
      (say_if (is_stable_state l.tap) (Scans scan ∷ more) (say_turn (rest (captured_on l scan)) k1 (w.1 (captured_on l scan))))
  say_turn (NoTurn ds) k w = w

say_run : (program : Played) (n i : ℕ) (s : State) (k : Chain) → SayNoClock (deeds_of_run program n i s k)
say_run program zero i s k = tt
say_run program (suc n) i s k = say_turn (deeds_of_run program n) (say_run program n) (turn program i s) k (turn_says program i s)

say_play : (program : Played) (chosen : List ℕ) (n : ℕ) (k : Chain) → SayNoClock (deeds_of_play program chosen n k)
say_play program chosen n k =
    let s : State = start chosen (zeros_of program) in
    say_turn (deeds_of_run program n) (say_run program n) (beginning program s) k (beginning_says program s)

-- a play from the first clocks on, over a watch over new devices
pub hears_play : (program : Played) (chosen : List ℕ) (n : ℕ) (run : List Desc) (bs : List Bool) (v : Watched) →
    WatchFollows (new_watch run) (signals_of (reset_events (Heard bs)
    ++ deeds_events (marked_chain Reset (heard_after bs reset_inputs)) (deeds_of_play program chosen n (marked_chain Reset (heard_after bs reset_inputs))))) v →
    HearsPlay program chosen n run (heard_after bs reset_inputs) v
hears_play program chosen n run bs v f =
    let rest : List Bool = heard_after bs reset_inputs in
    let deeds : List Deed = deeds_of_play program chosen n (marked_chain Reset rest) in
    let both = split_events (reset_events (Heard bs)) (deeds_events (marked_chain Reset rest) deeds) (new_watch run) v f in
    let h = heard reset_inputs bs (new_watch run) both.between both.front in
    hears_deeds deeds Reset rest (first_watch run) v (say_play program chosen n (marked_chain Reset rest))
    (subst (λ (u : Watched). WatchFollows u (signals_of (deeds_events (marked_chain Reset rest) deeds)) v) h.after both.back)
