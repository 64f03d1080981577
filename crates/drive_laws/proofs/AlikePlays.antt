-- Plays whose far ends answer the clocks of one of them alike are the same play.
use Rattle.std.proofs.Common.{◌≡◌, ℕ, zero, suc, Bool, true, false, if◌then◌else◌, List, [], ◌∷◌, ◌++◌, length, take, drop, map, refl, sym, ap, subst, ◌∙◌, append_assoc, append-nil}
use Rattle.std.proofs.Math.Seq.{take-append_seam, drop-append_seam}
use Rattle.std.proofs.lemmas.Bool.{false≢true}
use Rattle.std.proofs.lemmas.List.{length-map, map-append}
use Rattle.tap_states.specs.Tap.{is_stable_state}
use Rattle.dev_card.specs.Card.{Card}
use Rattle.dev_card.specs.Board.{Input, Clock, clocks_of, after_input}
use Rattle.dev_card.specs.Clocks.{move_inputs, stay_inputs}
use Rattle.dev_card.specs.FarEnds.{FarEnd, Told, Heard, heard_clocks, then_heard, far_clocks, far_after}
use Rattle.dev_card.specs.Padding.{BaseLengths}
use Rattle.dev_card.specs.Scans.{BoardScan, inputs_of_scan, captured_from}
use Rattle.scan_paths.specs.Cables.{clocks_in, input_of}
use Rattle.stapl_meaning.specs.declared.events.Event.{Event}
use Rattle.stapl_meaning.specs.declared.events.Event.TheVariants.{Print, Export, Usec, Hertz}
use Rattle.stapl_meaning.specs.declared.events.Event.TheVariants as events
use Rattle.stapl_meaning.specs.Deeds.{Deed, Says, Goes, Stays, Scans, Chain, based, pulses, deed_events, deed_chain, deeds_events, deeds_chain, captured_on}
use Rattle.stapl_meaning.specs.SaidEvents.{is_no_clock, SayNoClock, TurnSaysNoClock}
use Rattle.stapl_meaning.proofs.SaidEvents.{turn_says, beginning_says}
use Rattle.stapl_meaning.specs.States.{State, Turned, Leads, Over, Broken, Scanning, NoTurn, Happened, Led, Finished, Broke, Lacks, with_events, scanned_on, happens}
use Rattle.stapl_meaning.specs.Scopes.{Played, zeros_of}
use Rattle.stapl_meaning.specs.Turns.{turn}
use Rattle.stapl_meaning.specs.Plays.{Outcome, Ended, Stopped, Run, after, goes_on, run, start, beginning, procedures_run, reset_inputs, chain_reset, play}
use Rattle.padded_plays.proofs.QuietTurns.{with_events_first}
use Rattle.written_cable.specs.Signals.{signals_of}
use Rattle.written_cable.proofs.SignalLemmas.{clocks_of_both, clocks_of_pulses}
use Rattle.written_cable.proofs.FarLemmas.{far_append}
use Rattle.drive_laws.specs.HeardRuns.{inputs_in, AnswerAlike, IsSameRun}

-- ---- clocks of a far end

told_inputs : (is : List Input) (cs : List Card) → map input_of (clocks_of cs is) ≡ is
told_inputs [] cs = refl
told_inputs (i ∷ is) cs = ap (λ t. i ∷ t) (told_inputs is (after_input cs i))

heard_inputs : (is : List Input) (bs : List Bool) → map input_of (heard_clocks bs is) ≡ is
heard_inputs [] bs = refl
heard_inputs (i ∷ is) bs = ap (λ t. i ∷ t) (heard_inputs is (then_heard bs))

pub far_inputs : (far : FarEnd) (is : List Input) → map input_of (far_clocks far is) ≡ is
far_inputs (Told cs) is = told_inputs is cs
far_inputs (Heard bs) is = heard_inputs is bs

same_count : (a b : FarEnd) (is : List Input) → length (far_clocks a is) ≡ length (far_clocks b is)
same_count a b is = count a ∙ sym (count b)
  where
    count : (far : FarEnd) → length (far_clocks far is) ≡ length is
    count far =
        sym (length-map (far_clocks far is) input_of) ∙ ap (λ (js : List Input). length js) (far_inputs far is)

-- what is answered alike is so in both of its parts
record AreBothAlike (a b : FarEnd) (is js : List Input) : Type 0 where
  front : AnswerAlike a b is
  back : AnswerAlike (far_after a is) (far_after b is) js

both_alike : (a b : FarEnd) (is js : List Input) → AnswerAlike a b (is ++ js) → AreBothAlike a b is js
both_alike a b is js h =
    let xs : List Clock = far_clocks a is in
    let ys : List Clock = far_clocks (far_after a is) js in
    let us : List Clock = far_clocks b is in
    let vs : List Clock = far_clocks (far_after b is) js in
    let e : xs ++ ys ≡ us ++ vs = sym (far_append a is js) ∙ h ∙ far_append b is js in
    record {
      front = sym (take-append_seam xs ys) ∙ ap (λ (zs : List Clock). take (length xs) zs) e
          ∙ ap (λ n. take n (us ++ vs)) (same_count a b is) ∙ take-append_seam us vs;
      back = sym (drop-append_seam xs ys) ∙ ap (λ (zs : List Clock). drop (length xs) zs) e
          ∙ ap (λ n. drop n (us ++ vs)) (same_count a b is) ∙ drop-append_seam us vs;
    }

-- ---- inputs of events

inputs_both : (xs ys : List Event) → inputs_in (xs ++ ys) ≡ inputs_in xs ++ inputs_in ys
inputs_both xs ys =
    ap (map input_of) (clocks_of_both xs ys (clocks_in (signals_of xs)) (clocks_in (signals_of ys)) refl refl)
    ∙ map-append input_of (clocks_in (signals_of xs)) (clocks_in (signals_of ys))

inputs_pulsed : (far : FarEnd) (is : List Input) (es : List Event) →
    inputs_in (pulses (far_clocks far is) ++ es) ≡ is ++ inputs_in es
inputs_pulsed far is es =
    inputs_both (pulses (far_clocks far is)) es
    ∙ ap (λ ks. map input_of ks ++ inputs_in es) (clocks_of_pulses (far_clocks far is))
    ∙ ap (λ t. t ++ inputs_in es) (far_inputs far is)

inputs_said : (e : Event) (es : List Event) → is_no_clock e ≡ true → inputs_in (e ∷ es) ≡ inputs_in es
inputs_said (events.Clock tms tdi tdo) es h = absurd (false≢true h)
inputs_said (Print bytes) es h = refl
inputs_said (Export key value) es h = refl
inputs_said (Usec n) es h = refl
inputs_said (Hertz n) es h = refl

-- ---- runs

-- a chain with another far end
abbrev at_far : Chain → FarEnd → Chain
at_far k far = record k { far = far }

-- What goes on from a chain goes on alike from each far end that answers its clocks alike.
abbrev GoesAlike : (Chain → Run) → Type 0
GoesAlike go =
    (k : Chain) (far : FarEnd) → AnswerAlike k.far far (inputs_in (go k).events) → IsSameRun (go k) (go (at_far k far))

same_run : (r : Run) → IsSameRun r r
same_run r = record { same_events = refl; same_outcome = refl; same_state = refl }

alike_by : (go next : Chain → Run) → ((k : Chain) → go k ≡ next k) → GoesAlike go → GoesAlike next
alike_by go next e alike k far h =
    subst (λ r. IsSameRun r (next (at_far k far))) (e k)
    (subst (λ r. IsSameRun (go k) r) (e (at_far k far))
    (alike k far (subst (λ (r : Run). AnswerAlike k.far far (inputs_in r.events)) (sym (e k)) h)))

-- clocks, and then what follows them
pulses_alike : (k : Chain) (far : FarEnd) (is : List Input) (r q : Run) →
    AnswerAlike k.far far (inputs_in (pulses (far_clocks k.far is) ++ r.events)) →
    (AnswerAlike k.far far is → AnswerAlike (far_after k.far is) (far_after far is) (inputs_in r.events) →
    IsSameRun r q) →
    IsSameRun (after (pulses (far_clocks k.far is)) r) (after (pulses (far_clocks far is)) q)
pulses_alike k far is r q h follows =
    let both : AreBothAlike k.far far is (inputs_in r.events) =
    both_alike k.far far is (inputs_in r.events)
    (subst (λ js. AnswerAlike k.far far js) (inputs_pulsed k.far is r.events) h) in
    let rest : IsSameRun r q = follows both.front both.back in
    record {
      same_events = ap (λ ks. pulses ks ++ q.events) (sym both.front)
          ∙ ap (λ es. pulses (far_clocks k.far is) ++ es) rest.same_events;
      same_outcome = rest.same_outcome;
      same_state = rest.same_state;
    }

-- a deed, and then what follows it
deed_alike : (d : Deed) → SayNoClock (d ∷ []) → (go : Chain → Run) → GoesAlike go →
    GoesAlike (λ k. after (deed_events k d) (go (deed_chain k d)))
deed_alike (Says event) says go alike k far h =
    let later : IsSameRun (go k) (go (at_far k far)) =
    alike k far (subst (λ is. AnswerAlike k.far far is) (inputs_said event (go k).events says.0) h) in
    record {
      same_events = ap (λ es. event ∷ es) later.same_events;
      same_outcome = later.same_outcome;
      same_state = later.same_state;
    }
deed_alike (Goes to) says go alike k far h =
    pulses_alike k far (move_inputs k.tap to) (go (deed_chain k (Goes to))) (go (deed_chain (at_far k far) (Goes to))) h
    (λ front back. alike (deed_chain k (Goes to)) (far_after far (move_inputs k.tap to)) back)
deed_alike (Stays n) says go alike k far h =
    pulses_alike k far (stay_inputs k.tap n) (go (deed_chain k (Stays n))) (go (deed_chain (at_far k far) (Stays n))) h
    (λ front back. alike (deed_chain k (Stays n)) (far_after far (stay_inputs k.tap n)) back)
deed_alike (Scans scan) says go alike k far h =
    pulses_alike k far (inputs_of_scan k.tap (based k.base scan)) (go (deed_chain k (Scans scan)))
    (go (deed_chain (at_far k far) (Scans scan))) h
    (λ front back. alike (deed_chain k (Scans scan)) (far_after far (inputs_of_scan k.tap (based k.base scan))) back)

after_twice : (xs ys : List Event) (r : Run) → after xs (after ys r) ≡ after (xs ++ ys) r
after_twice xs ys r = ap (λ es. record r { events = es }) (sym (append_assoc xs ys r.events))

first_says : (d : Deed) (ds : List Deed) → SayNoClock (d ∷ ds) → SayNoClock (d ∷ []) × SayNoClock ds
first_says (Says event) ds h = ((h.0, tt), h.1)
first_says (Goes to) ds h = (tt, h)
first_says (Stays n) ds h = (tt, h)
first_says (Scans scan) ds h = (tt, h)

deeds_alike : (ds : List Deed) → SayNoClock ds → (go : Chain → Run) → GoesAlike go →
    GoesAlike (λ k. after (deeds_events k ds) (go (deeds_chain k ds)))
deeds_alike [] says go alike k far h =
    let later : IsSameRun (go k) (go (at_far k far)) = alike k far h in
    record { same_events = later.same_events; same_outcome = later.same_outcome; same_state = later.same_state }
deeds_alike (d ∷ ds) says go alike k far h =
    let both = first_says d ds says in
    let rest : Chain → Run = λ k. after (deeds_events k ds) (go (deeds_chain k ds)) in
    alike_by (λ k. after (deed_events k d) (rest (deed_chain k d)))
    (λ k. after (deeds_events k (d ∷ ds)) (go (deeds_chain k (d ∷ ds))))
    (λ k. after_twice (deed_events k d) (deeds_events (deed_chain k d) ds) (go (deeds_chain (deed_chain k d) ds)))
    (deed_alike d both.0 rest (λ l other e. deeds_alike ds both.1 go alike l other e)) k far h

-- ---- turns

-- a run that stands so, with no events
abbrev stands : Outcome → State → Chain → Run
stands outcome s k = record { events = []; outcome = outcome; state = s; chain = k }

module _ (go : ℕ → State → Chain → Run) (follows : (place : ℕ) (t : State) → GoesAlike (go place t))
    (s0 : State) (k0 : Chain) where
  abbrev goes : Happened → Run
  goes h = goes_on h s0 k0 go

  -- a scan, and what follows from the bits that it captures
  module _ (scan : BoardScan) (lands : List Bool → Chain → Happened)
      (alike : (bits : List Bool) → GoesAlike (λ k. goes (lands bits k))) where
    abbrev scan_goes : Chain → Run
    scan_goes k = goes (lands (captured_on k scan) (deed_chain k (Scans scan)))

    abbrev scan_runs : Chain → Run
    scan_runs k = after (deed_events k (Scans scan)) (scan_goes k)

    captures_alike : GoesAlike scan_runs
    captures_alike k far h =
        let is : List Input = inputs_of_scan k.tap (based k.base scan) in
        let next : Chain = deed_chain (at_far k far) (Scans scan) in
        pulses_alike k far is (scan_goes k) (scan_goes (at_far k far)) h
        (λ front back.
        subst (λ bits. IsSameRun (scan_goes k) (goes (lands bits next)))
        (ap (captured_from k.tap (based k.base scan)) front)
        (alike (captured_on k scan) (deed_chain k (Scans scan)) (far_after far is) back))

    stable_runs : GoesAlike (λ k. if is_stable_state k.tap then scan_runs k else stands Stopped s0 k0)
    stable_runs k far h = by (is_stable_state k.tap) h
      where
        by : (b : Bool) → AnswerAlike k.far far (inputs_in (if b then scan_runs k else stands Stopped s0 k0).events) →
            IsSameRun (if b then scan_runs k else stands Stopped s0 k0)
            (if b then scan_runs (at_far k far) else stands Stopped s0 k0)
        by true h = captures_alike k far h
        by false h = same_run (stands Stopped s0 k0)

    scan_is : (b : Bool) (es : List Event) (h : Happened) →
        (if b then after es (goes h) else stands Stopped s0 k0) ≡ goes (if b then with_events es h else Lacks [])
    scan_is true es h = sym (with_events_first es h s0 k0 go)
    scan_is false es h = refl

    scan_alike : GoesAlike (λ k. goes (scanned_on k scan lands))
    scan_alike =
        alike_by (λ k. if is_stable_state k.tap then scan_runs k else stands Stopped s0 k0)
        (λ k. goes (scanned_on k scan lands))
        (λ k. scan_is (is_stable_state k.tap) (deed_events k (Scans scan))
        (lands (captured_on k scan) (deed_chain k (Scans scan)))) stable_runs

  -- deeds after which nothing more happens
  ends_alike : (ds : List Deed) (outcome : Outcome) (s : State) (chain_of : Chain → Chain) → SayNoClock ds →
      GoesAlike (λ k. record { events = deeds_events k ds; outcome = outcome; state = s; chain = chain_of k })
  ends_alike ds outcome s chain_of says k far h =
      let none : Chain → Run = λ l. stands outcome s l in
      let other : Chain = at_far k far in
      let same : IsSameRun (after (deeds_events k ds) (none (deeds_chain k ds)))
      (after (deeds_events other ds) (none (deeds_chain other ds))) =
      deeds_alike ds says none (λ l f e. record { same_events = refl; same_outcome = refl; same_state = refl }) k far
      (subst (λ es. AnswerAlike k.far far (inputs_in es)) (sym (append-nil (deeds_events k ds))) h) in
      record {
        same_events = sym (append-nil (deeds_events other ds)) ∙ same.same_events ∙ append-nil (deeds_events k ds);
        same_outcome = refl;
        same_state = refl;
      }

  turn_alike : (t : Turned) → TurnSaysNoClock t → GoesAlike (λ k. goes (happens k t))
  turn_alike (Leads ds place s) says = deeds_alike ds says (go place s) (follows place s)
  turn_alike (Over ds ending s) says = ends_alike ds (Ended ending) s (λ k. deeds_chain k ds) says
  turn_alike (Broken ds f s) says = ends_alike ds Stopped s0 (λ k. k0) says
  turn_alike (Scanning ds scan rest) says =
      let lands : List Bool → Chain → Happened = λ bits l. happens l (rest bits) in
      let after_deeds : Chain → Run = λ l. goes (scanned_on l scan lands) in
      alike_by (λ k. after (deeds_events k ds) (after_deeds (deeds_chain k ds)))
      (λ k. goes (happens k (Scanning ds scan rest)))
      (λ k. sym (with_events_first (deeds_events k ds) (scanned_on (deeds_chain k ds) scan lands) s0 k0 go))
      (deeds_alike ds says.0 after_deeds (scan_alike scan lands (λ bits. turn_alike (rest bits) (says.1 bits))))
  turn_alike (NoTurn ds) says = ends_alike ds Stopped s0 (λ k. k0) says

-- the chain before a turn makes no difference but to the chain after it
other_chain : (h : Happened) (s : State) (k l : Chain) (go : ℕ → State → Chain → Run) →
    IsSameRun (goes_on h s k go) (goes_on h s l go)
other_chain (Led es place t m) s k l go = same_run (after es (go place t m))
other_chain (Finished es ending t m) s k l go = record { same_events = refl; same_outcome = refl; same_state = refl }
other_chain (Broke es f t m) s k l go = record { same_events = refl; same_outcome = refl; same_state = refl }
other_chain (Lacks es) s k l go = record { same_events = refl; same_outcome = refl; same_state = refl }

same_both : (a b c : Run) → IsSameRun a b → IsSameRun b c → IsSameRun a c
same_both a b c p q = record {
  same_events = q.same_events ∙ p.same_events;
  same_outcome = q.same_outcome ∙ p.same_outcome;
  same_state = q.same_state ∙ p.same_state;
}

-- ---- plays

begins_alike : (t : Turned) (s : State) (go : ℕ → State → Chain → Run) →
    ((place : ℕ) (t : State) → GoesAlike (go place t)) → TurnSaysNoClock t →
    GoesAlike (λ k. goes_on (happens k t) s k go)
begins_alike t s go follows says k far h =
    let there : Happened = happens (at_far k far) t in
    same_both (goes_on (happens k t) s k go) (goes_on there s k go) (goes_on there s (at_far k far) go)
    (turn_alike go follows s k t says k far h) (other_chain there s k (at_far k far) go)

run_alike : (program : Played) (n i : ℕ) (s : State) → GoesAlike (run program n i s)
run_alike program zero i s k far h = record { same_events = refl; same_outcome = refl; same_state = refl }
run_alike program (suc n) i s k far h =
    begins_alike (turn program i s) s (run program n) (λ place t. run_alike program n place t)
    (turn_says program i s) k far h

pub play_alike : (program : Played) (chosen : List ℕ) (n : ℕ) (base : BaseLengths) (a b : FarEnd) →
    AnswerAlike a b (inputs_in (play program chosen n base a).events) →
    IsSameRun (play program chosen n base a) (play program chosen n base b)
play_alike program chosen n base a b h =
    let s : State = start chosen (zeros_of program) in
    let k : Chain = record (chain_reset base a) { far = a } in
    pulses_alike k b reset_inputs (procedures_run program chosen n (chain_reset base a))
    (procedures_run program chosen n (chain_reset base b)) h
    (λ front back.
    begins_alike (beginning program s) s (run program n) (λ place t. run_alike program n place t)
    (beginning_says program s) (chain_reset base a) (far_after b reset_inputs) back)
