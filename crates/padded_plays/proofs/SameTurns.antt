-- Quiet turns, runs and plays are the same on a run of devices alone and at its place in a padded board.
use Rattle.std.proofs.Common.{◌≡◌, ◌<◌, ◌≤◌, ℕ, zero, suc, Bool, true, false, cond, All, List, [], ◌++◌, length, refl, sym, ap, subst, arith}
use Rattle.std.proofs.lemmas.Bool.{false≢true}
use Rattle.tap_states.specs.declared.Tap.{Tap}
use Rattle.tap_states.specs.declared.Tap.TheVariants.{Reset}
use Rattle.tap_states.specs.Tap.{is_stable_state}
use Rattle.tap_states.specs.Path.{five_ones}
use Rattle.dev_card.specs.declared.desc.Desc.{Desc}
use Rattle.dev_card.specs.Descriptions.{IsGood}
use Rattle.dev_card.specs.Card.{Card}
use Rattle.dev_card.specs.Board.{board_after, clocks_of}
use Rattle.dev_card.specs.Clocks.{with_zero}
use Rattle.dev_card.specs.Padding.{base_around}
use Rattle.dev_card.specs.FarEnds.{Told}
use Rattle.dev_card.specs.Scans.{inputs_of_scan}
use Rattle.padded_plays.specs.QuietClocks.{IsQuietScan, loaded_by_scan}
use Rattle.padded_plays.specs.PaddedRuns.{IsPaddedRun, fresh_board}
use Rattle.padded_plays.proofs.FirstRuns.{reset_is_padded}
use Rattle.stapl_meaning.specs.declared.events.Event.{Event}
use Rattle.stapl_meaning.specs.Deeds.{Scans, Chain, based, deed_events, deed_chain, deeds_events, deeds_chain, captured_on}
use Rattle.stapl_meaning.specs.States.{State, Turned, Leads, Over, Broken, Scanning, NoTurn, Happened, Lacks, with_events, scanned_on, happens}
use Rattle.stapl_meaning.specs.Scopes.{Played, zeros_of}
use Rattle.stapl_meaning.specs.Turns.{turn}
use Rattle.stapl_meaning.specs.Plays.{Run, after, goes_on, run, start, beginning, procedures_run, reset_events, reset_inputs}
use Rattle.padded_plays.specs.QuietPlays.{no_base, told_cards, loaded_by_deeds, deeds_of_run, IsQuietPlay, play_alone, padded_play}
use Rattle.padded_plays.specs.SamePlays.{without_clocks, IsChainOfRun, IsSamePlay}
use Rattle.padded_plays.proofs.QuietTurns.{with_events_first, IsQuietTurn, IsQuietRun, quiet_turn_of, quiet_run_of}
use Rattle.padded_plays.proofs.StableStays.{TurnStays, turn_stays, beginning_stays}
use Rattle.padded_plays.proofs.SameDeeds.{same_both, same_pulses, chain_alone, padded_chain, scans_are_same, AreSameDeeds, deeds_are_same}

module _ (before run_devices after_run : List Desc) where
  chain_of_run : (loaded : Bool) (at : Tap) (board alone : List Card) → IsPaddedRun before run_devices after_run loaded at board alone
      → IsChainOfRun before run_devices after_run (padded_chain before run_devices after_run at board) (chain_alone at alone)
  chain_of_run loaded at board alone h = record {
    same_tap = refl;
    front = h.front;
    cards = alone;
    back = h.back;
    board_is = ap Told h.whole;
    alone_is = refl;
    front_is = h.front_is;
    cards_are = h.alone_is;
    back_is = h.back_is;
  }

  same_after : (xs ys : List Event) (r q : Run) → without_clocks xs ≡ without_clocks ys → IsSamePlay before run_devices after_run r q
      → IsSamePlay before run_devices after_run (after xs r) (after ys q)
  same_after xs ys r q e h =
      record { same_events = same_both xs ys r.events q.events e h.same_events; same_outcome = h.same_outcome; same_state = h.same_state; chain = h.chain }

  -- a turn from a state on two chains, and what follows it
  module _ (some : 0 < length run_devices) (go : ℕ → State → Chain → Run) (next : Bool → ℕ → State → Chain → Type 0) (s0 : State) (K0 L0 : Chain)
      (c0 : IsChainOfRun before run_devices after_run K0 L0)
      (follows : (loaded : Bool) (place : ℕ) (s : State) (at : Tap) (board alone : List Card) → IsPaddedRun before run_devices after_run loaded at board alone
      → next loaded place s (chain_alone at alone)
      → IsSamePlay before run_devices after_run (go place s (padded_chain before run_devices after_run at board)) (go place s (chain_alone at alone))) where
    Same : Happened → Happened → Type 0
    Same x y = IsSamePlay before run_devices after_run (goes_on x s0 K0 go) (goes_on y s0 L0 go)

    same_lacks : Same (Lacks []) (Lacks [])
    unfolding Same
    same_lacks = record { same_events = refl; same_outcome = refl; same_state = refl; chain = c0 }

    same_if : (b : Bool) (x y : Happened) → (b ≡ true → Same x y) → Same (cond b x (Lacks [])) (cond b y (Lacks []))
    same_if true x y h = h refl
    same_if false x y h = same_lacks

    same_with : (xs ys : List Event) (x y : Happened) → without_clocks xs ≡ without_clocks ys → Same x y → Same (with_events xs x) (with_events ys y)
    unfolding Same
    same_with xs ys x y e h =
        subst (λ r. IsSamePlay before run_devices after_run r (goes_on (with_events ys y) s0 L0 go)) (sym (with_events_first xs x s0 K0 go))
        (subst (λ r. IsSamePlay before run_devices after_run (after xs (goes_on x s0 K0 go)) r) (sym (with_events_first ys y s0 L0 go))
        (same_after xs ys (goes_on x s0 K0 go) (goes_on y s0 L0 go) e h))

    turns_are_same : (t : Turned) (loaded : Bool) (at : Tap) (board alone : List Card) → TurnStays t → IsPaddedRun before run_devices after_run loaded at board alone
        → IsQuietTurn next loaded (chain_alone at alone) t → Same (happens (padded_chain before run_devices after_run at board) t) (happens (chain_alone at alone) t)
    unfolding Same
    turns_are_same (Leads ds place s) loaded at board alone w h q =
        let K : Chain = padded_chain before run_devices after_run at board in
        let L : Chain = chain_alone at alone in
        let d : AreSameDeeds before run_devices after_run loaded at board alone ds = deeds_are_same before run_devices after_run ds false loaded at board alone (λ e. absurd (false≢true e)) w q.0 h in
        let n : next (loaded_by_deeds loaded L ds) place s (chain_alone d.tap_then d.alone_then) = subst (λ l. next (loaded_by_deeds loaded L ds) place s l) d.alone_is q.1 in
        let f = follows (loaded_by_deeds loaded L ds) place s d.tap_then d.board_then d.alone_then d.kept n in
        same_after (deeds_events K ds) (deeds_events L ds) (go place s (deeds_chain K ds)) (go place s (deeds_chain L ds)) d.same_events
        (subst (λ k. IsSamePlay before run_devices after_run (go place s k) (go place s (deeds_chain L ds))) (sym d.board_is)
        (subst (λ l. IsSamePlay before run_devices after_run (go place s (padded_chain before run_devices after_run d.tap_then d.board_then)) (go place s l)) (sym d.alone_is) f))
    turns_are_same (Over ds ending s) loaded at board alone w h q =
        let d : AreSameDeeds before run_devices after_run loaded at board alone ds = deeds_are_same before run_devices after_run ds false loaded at board alone (λ e. absurd (false≢true e)) w q h in
        let c = chain_of_run (loaded_by_deeds loaded (chain_alone at alone) ds) d.tap_then d.board_then d.alone_then d.kept in
        record {
          same_events = d.same_events;
          same_outcome = refl;
          same_state = refl;
          chain = subst (λ k. IsChainOfRun before run_devices after_run k (deeds_chain (chain_alone at alone) ds)) (sym d.board_is)
              (subst (λ l. IsChainOfRun before run_devices after_run (padded_chain before run_devices after_run d.tap_then d.board_then) l) (sym d.alone_is) c);
        }
    turns_are_same (Broken ds f s) loaded at board alone w h q =
        let d = deeds_are_same before run_devices after_run ds false loaded at board alone (λ e. absurd (false≢true e)) w q h in
        record { same_events = d.same_events; same_outcome = refl; same_state = refl; chain = c0 }
    turns_are_same (Scanning ds scan rest) loaded at board alone w h q =
        let K : Chain = padded_chain before run_devices after_run at board in
        let L : Chain = chain_alone at alone in
        let d : AreSameDeeds before run_devices after_run loaded at board alone ds = deeds_are_same before run_devices after_run ds false loaded at board alone
        (λ e. absurd (false≢true e)) w.0 q.0 h in
        let m : Bool = loaded_by_deeds loaded L ds in
        let t1 : Tap = d.tap_then in
        let K1 : Chain = padded_chain before run_devices after_run t1 d.board_then in
        let L1 : Chain = chain_alone t1 d.alone_then in
        let q1 : is_stable_state t1 ≡ true → IsQuietScan m t1 d.alone_then scan
        × IsQuietTurn next (loaded_by_scan m scan) (deed_chain L1 (Scans scan)) (rest (captured_on L1 scan)) =
        subst (λ l. is_stable_state l.tap ≡ true → IsQuietScan m l.tap (told_cards l.far) scan × IsQuietTurn next (loaded_by_scan m scan) (deed_chain l (Scans scan)) (rest (captured_on l scan)))
        d.alone_is q.1 in
        let then : List Bool → Chain → Happened = λ bits l. happens l (rest bits) in
        let x : Happened = with_events (deed_events K1 (Scans scan)) (then (captured_on K1 scan) (deed_chain K1 (Scans scan))) in
        let y : Happened = with_events (deed_events L1 (Scans scan)) (then (captured_on L1 scan) (deed_chain L1 (Scans scan))) in
        let inner : is_stable_state t1 ≡ true → Same x y = λ st.
        let s = scans_are_same before run_devices after_run m t1 d.board_then d.alone_then scan some st (q1 st).0 d.kept in
        let K2 : Chain = padded_chain before run_devices after_run scan.stop s.board_then in
        let L2 : Chain = chain_alone scan.stop s.alone_then in
        let bits : List Bool = captured_on L1 scan in
        let q2 : IsQuietTurn next (loaded_by_scan m scan) L2 (rest bits) = subst (λ l. IsQuietTurn next (loaded_by_scan m scan) l (rest bits)) s.alone_is (q1 st).1 in
        let r : Same (then bits K2) (then bits L2) = turns_are_same (rest bits) (loaded_by_scan m scan) scan.stop s.board_then s.alone_then (w.2 bits) s.kept q2 in
        let r1 : Same (then (captured_on K1 scan) (deed_chain K1 (Scans scan))) (then bits (deed_chain L1 (Scans scan))) =
        subst (λ l. Same (then (captured_on K1 scan) (deed_chain K1 (Scans scan))) (then bits l)) (sym s.alone_is)
        (subst (λ k. Same (then (captured_on K1 scan) k) (then bits L2)) (sym s.board_is) (subst (λ c. Same (then c K2) (then bits L2)) (sym s.same_captured) r)) in
        same_with (deed_events K1 (Scans scan)) (deed_events L1 (Scans scan)) (then (captured_on K1 scan) (deed_chain K1 (Scans scan))) (then bits (deed_chain L1 (Scans scan)))
        (same_pulses (clocks_of d.board_then (inputs_of_scan t1 (based (base_around before after_run) scan))) (clocks_of d.alone_then (inputs_of_scan t1 (based no_base scan)))) r1 in
        let all : Same (scanned_on K1 scan then) (scanned_on L1 scan then) = same_if (is_stable_state t1) x y inner in
        same_with (deeds_events K ds) (deeds_events L ds) (scanned_on (deeds_chain K ds) scan then) (scanned_on (deeds_chain L ds) scan then) d.same_events
        (subst (λ k. Same (scanned_on k scan then) (scanned_on (deeds_chain L ds) scan then)) (sym d.board_is)
        (subst (λ l. Same (scanned_on K1 scan then) (scanned_on l scan then)) (sym d.alone_is) all))
    turns_are_same (NoTurn ds) loaded at board alone w h q =
        let d = deeds_are_same before run_devices after_run ds false loaded at board alone (λ e. absurd (false≢true e)) w q h in
        record { same_events = d.same_events; same_outcome = refl; same_state = refl; chain = c0 }

    turn_is_same : (t : Turned) (loaded : Bool) (at : Tap) (board alone : List Card) → TurnStays t → IsPaddedRun before run_devices after_run loaded at board alone
        → IsQuietTurn next loaded (chain_alone at alone) t
        → IsSamePlay before run_devices after_run (goes_on (happens (padded_chain before run_devices after_run at board) t) s0 K0 go) (goes_on (happens (chain_alone at alone) t) s0 L0 go)
    unfolding Same
    turn_is_same t loaded at board alone w h q = turns_are_same t loaded at board alone w h q

  runs_are_same : (program : Played) (n : ℕ) → 0 < length run_devices → (loaded : Bool) (i : ℕ) (s : State) (at : Tap) (board alone : List Card)
      → IsPaddedRun before run_devices after_run loaded at board alone → IsQuietRun program n loaded i s (chain_alone at alone)
      → IsSamePlay before run_devices after_run (run program n i s (padded_chain before run_devices after_run at board)) (run program n i s (chain_alone at alone))
  runs_are_same program zero some loaded i s at board alone h q =
      record { same_events = refl; same_outcome = refl; same_state = refl; chain = chain_of_run loaded at board alone h }
  runs_are_same program (suc n) some loaded i s at board alone h q =
      turn_is_same some (run program n) (IsQuietRun program n) s (padded_chain before run_devices after_run at board) (chain_alone at alone) (chain_of_run loaded at board alone h)
      (λ l place t to b a p w. runs_are_same program n some l place t to b a p w) (turn program i s) loaded at board alone (turn_stays program i s) h q

-- what is quiet for more turns is quiet for fewer

quiet_turn_by : (next next1 : Bool → ℕ → State → Chain → Type 0) → ((loaded : Bool) (i : ℕ) (s : State) (k : Chain) → next loaded i s k → next1 loaded i s k)
    → (t : Turned) (loaded : Bool) (k : Chain) → IsQuietTurn next loaded k t → IsQuietTurn next1 loaded k t
quiet_turn_by next next1 f (Leads ds place s) loaded k q = (q.0, f (loaded_by_deeds loaded k ds) place s (deeds_chain k ds) q.1)
quiet_turn_by next next1 f (Over ds ending s) loaded k q = q
quiet_turn_by next next1 f (Broken ds b s) loaded k q = q
quiet_turn_by next next1 f (Scanning ds scan rest) loaded k q =
    let l : Chain = deeds_chain k ds in
    let m : Bool = loaded_by_deeds loaded k ds in
    (q.0, λ st. ((q.1 st).0, quiet_turn_by next next1 f (rest (captured_on l scan)) (loaded_by_scan m scan) (deed_chain l (Scans scan)) (q.1 st).1))
quiet_turn_by next next1 f (NoTurn ds) loaded k q = q

quiet_run_of_fewer : (program : Played) (n k : ℕ) → k ≤ n → (loaded : Bool) (i : ℕ) (s : State) (c : Chain) → IsQuietRun program n loaded i s c → IsQuietRun program k loaded i s c
quiet_run_of_fewer program n zero le loaded i s c q = tt
quiet_run_of_fewer program zero (suc k) le loaded i s c q = absurd (omega arith)
quiet_run_of_fewer program (suc n) (suc k) le loaded i s c q =
    let less : k ≤ n = omega arith in
    quiet_turn_by (IsQuietRun program n) (IsQuietRun program k) (λ l j t d w. quiet_run_of_fewer program n k less l j t d w) (turn program i s) loaded c q

pub plays_are_same : (program : Played) (chosen : List ℕ) (before run_devices after_run : List Desc) (n k : ℕ) → All IsGood (before ++ (run_devices ++ after_run)) → 0 < length run_devices
    → IsQuietPlay program chosen n run_devices → k ≤ n
    → IsSamePlay before run_devices after_run (padded_play program chosen k before run_devices after_run) (play_alone program chosen k run_devices)
plays_are_same program chosen before run_devices after_run n k good some q le =
    let all : List Card = fresh_board (before ++ (run_devices ++ after_run)) in
    let own : List Card = fresh_board run_devices in
    let board : List Card = board_after all (with_zero five_ones) in
    let alone : List Card = board_after own (with_zero five_ones) in
    let s : State = start chosen (zeros_of program) in
    let h : IsPaddedRun before run_devices after_run false Reset board alone = reset_is_padded before run_devices after_run good in
    let K : Chain = padded_chain before run_devices after_run Reset board in
    let L : Chain = chain_alone Reset alone in
    let q1 : IsQuietTurn (IsQuietRun program k) false L (beginning program s) =
    quiet_turn_by (IsQuietRun program n) (IsQuietRun program k) (λ l j t d w. quiet_run_of_fewer program n k le l j t d w) (beginning program s) false L
    (quiet_turn_of (IsQuietRun program n) (deeds_of_run program n) (quiet_run_of program n) (beginning program s) false L q) in
    same_after before run_devices after_run (reset_events (Told all)) (reset_events (Told own)) (procedures_run program chosen k K) (procedures_run program chosen k L)
    (same_pulses (clocks_of all reset_inputs) (clocks_of own reset_inputs))
    (turn_is_same before run_devices after_run some (run program k) (IsQuietRun program k) s K L (chain_of_run before run_devices after_run false Reset board alone h)
    (λ l place t to b a p w. runs_are_same before run_devices after_run program k some l place t to b a p w) (beginning program s) false Reset board alone (beginning_stays program s) h q1)
