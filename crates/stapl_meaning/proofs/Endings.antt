-- No turn ends a run as spent: it ends it with an exit or a fault. So a run is spent only if it still goes on.
use Rattle.std.proofs.Common.{◌≡◌, ℕ, zero, suc, Bool, true, false, cond, List, [], Some}
use Rattle.stapl_meaning.specs.declared.events.Event.{Event}
use Rattle.stapl_meaning.specs.declared.events.Ending.{Ending}
use Rattle.stapl_meaning.specs.declared.events.Ending.TheVariants.{Exit, Fault, Spent}
use Rattle.tap_states.specs.Tap.{is_stable_state}
use Rattle.dev_card.specs.Scans.{BoardScan}
use Rattle.stapl_meaning.specs.Deeds.{Scans, Chain, deed_events, deed_chain, deeds_events, deeds_chain, captured_on}
use Rattle.stapl_meaning.specs.States.{State, Turned, Leads, Over, Broken, Scanning, NoTurn, Happened, Led, Finished, Broke, Lacks, with_events, scanned_on, happens}
use Rattle.stapl_meaning.specs.Scopes.{Played, zeros_of}
use Rattle.stapl_meaning.specs.Turns.{turn}
use Rattle.stapl_meaning.specs.Plays.{Outcome, Ended, Going, Stopped, Run, goes_on, run, start, beginning, procedures_run, ending_of, IsGoing}
use Rattle.stapl_meaning.proofs.Walks.{WalkRule, plain_rule, KeptTurned}
use Rattle.stapl_meaning.proofs.KeptTurns.{turn_kept, beginning_kept}

abbrev pub IsNotSpent : Ending → Type 0
IsNotSpent Spent = ⊥
IsNotSpent _ = Unit {0}

abbrev pub ending : WalkRule
ending = record plain_rule { EndOk = IsNotSpent; exit_ok = λ code. tt; fault_ok = λ fault piece. tt }

-- ---- what happens in a turn

abbrev pub EndsWell : Happened → Type 0
EndsWell (Finished events e s k) = IsNotSpent e
EndsWell _ = Unit {0}

pub after_events : (before : List Event) (h : Happened) → EndsWell h → EndsWell (with_events before h)
after_events before (Led events place s k) well = tt
after_events before (Finished events e s k) well = well
after_events before (Broke events f s k) well = tt
after_events before (Lacks events) well = tt

pub after_scan : (k : Chain) (scan : BoardScan) (go : List Bool → Chain → Happened) → ((bits : List Bool) (l : Chain) → EndsWell (go bits l)) → EndsWell (scanned_on k scan go)
after_scan k scan go well = by (is_stable_state k.tap)
  where
    by : (b : Bool) → EndsWell (cond b (with_events (deed_events k (Scans scan)) (go (captured_on k scan) (deed_chain k (Scans scan)))) (Lacks []))
    by true = after_events (deed_events k (Scans scan)) (go (captured_on k scan) (deed_chain k (Scans scan))) (well (captured_on k scan) (deed_chain k (Scans scan)))
    by false = tt

pub turn_ends : (k : Chain) (t : Turned) → KeptTurned ending t → EndsWell (happens k t)
turn_ends k (Leads ds place s) h = tt
turn_ends k (Over ds e s) h = h.2
turn_ends k (Broken ds f s) h = tt
turn_ends k (Scanning ds scan rest) h =
    after_events (deeds_events k ds) (scanned_on (deeds_chain k ds) scan (λ bits l. happens l (rest bits)))
    (after_scan (deeds_chain k ds) scan (λ bits l. happens l (rest bits)) (λ bits l. turn_ends l (rest bits) (h.2 bits)))
turn_ends k (NoTurn ds) h = tt

-- ---- runs

abbrev pub StandsWell : Outcome → Type 0
StandsWell (Ended e) = IsNotSpent e
StandsWell _ = Unit {0}

pub goes_well : (h : Happened) (s : State) (k : Chain) (go : ℕ → State → Chain → Run) → EndsWell h → ((place : ℕ) (t : State) (l : Chain) → StandsWell (go place t l).outcome) →
    StandsWell (goes_on h s k go).outcome
goes_well (Led events place t l) s k go well more = more place t l
goes_well (Finished events e t l) s k go well more = well
goes_well (Broke events f t l) s k go well more = tt
goes_well (Lacks events) s k go well more = tt

pub is_going : (o : Outcome) → StandsWell o → ending_of o ≡ Some Spent → IsGoing o
is_going (Ended (Exit code)) well is = absurd cc
is_going (Ended (Fault f piece)) well is = absurd cc
is_going (Ended Spent) well is = absurd well
is_going (Going place) well is = tt
is_going Stopped well is = absurd cc

run_stands : (program : Played) (n i : ℕ) (s : State) (k : Chain) → StandsWell (run program n i s k).outcome
run_stands program zero i s k = tt
run_stands program (suc n) i s k =
    goes_well (happens k (turn program i s)) s k (run program n)
    (turn_ends k (turn program i s) (turn_kept ending (λ which bits s h. (tt, tt, tt)) (λ p ps h. tt) program i s (tt, tt, tt)))
    (λ place t l. run_stands program n place t l)

pub spent_goes_on : (program : Played) (chosen : List ℕ) (n : ℕ) (k : Chain) → ending_of (procedures_run program chosen n k).outcome ≡ Some Spent → IsGoing (procedures_run program chosen n k).outcome
spent_goes_on program chosen n k is =
    let s = start chosen (zeros_of program) in
    is_going (procedures_run program chosen n k).outcome
    (goes_well (happens k (beginning program s)) s k (run program n)
    (turn_ends k (beginning program s) (beginning_kept ending (λ which bits s h. (tt, tt, tt)) (λ p ps h. tt) program s (tt, tt, tt)))
    (λ place t l. run_stands program n place t l)) is
