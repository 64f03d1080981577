-- On the place at which a run goes on.
use Rattle.std.proofs.Common.{◌≡◌, ℕ, List, [], ◌++◌, refl, sym, ap, subst, ◌∙◌}
use Rattle.std.specs.Prelude.{Option, Some, None, IfSome}
use Rattle.dev_card.specs.Card.{Card}
use Rattle.std.specs.Option.{option_map}
use Rattle.tap_states.specs.declared.Tap.{Tap}
use Rattle.tap_states.specs.declared.Tap.TheVariants.{Reset}
use Rattle.dev_card.specs.Board.{Clock, board_after, tdos}
use Rattle.dev_card.specs.FarEnds.{Told, far_end}
use Rattle.dev_card.specs.Padding.{BaseLengths}
use Rattle.scan_paths.specs.declared.cable.Cable.{Ghosts as CableOf}
use Rattle.scan_paths.specs.Cables.{Signal}
use Rattle.stapl_meaning.specs.declared.events.Event.{Event}
use Rattle.stapl_meaning.specs.Deeds.{Chain}
use Rattle.stapl_meaning.specs.States.{State, Happened, Led, Finished, Broke, Lacks}
use Rattle.stapl_meaning.specs.Plays.{Run, after, goes_on, reset_inputs}
use Rattle.stapl_meaning.specs.declared.values.Held.{Held}
use Rattle.stapl_code.specs.declared.raw.CodeLists.{CodeLists}
use Rattle.written_cable.specs.declared.paper.Paper.{Ghosts as PaperOf}
use Rattle.written_cable.specs.declared.pin_cable.PinCable.{PinCable}
use Rattle.written_cable.specs.Pins.{cable_of, tap_of, base_of, port_chain, IsSamePort}
use Rattle.written_cable.specs.PinLaws.{same_port, same_both}
use Rattle.written_cable.specs.Signals.{signals_of}
use Rattle.written_cable.specs.Resets.{IsReset}
use Rattle.written_cable.specs.Ports.{chain_before, Passes, PassesFront, Does, Runs}
use Rattle.written_cable.proofs.DeedLemmas.{passes_both, before_both}
use Rattle.machine_memory.specs.Zeros.{zeros_of_code}
use Rattle.stapl_machine.specs.Runs.{run_of, run_ticks_of, play_from}
use Rattle.stapl_machine.specs.Machines.{play_of}
use Rattle.stapl_machine.proofs.RunLemmas.{goes_after}
use Rattle.quiet_places.specs.Places.{GoesOnAt, MakesOn, GoesOnOver, GoesOnTold}

-- what holds of a place that is found
pub if_found : {P Q : ℕ → Type 0} (found : Option ℕ) → ((p : ℕ) → P p → Q p) → IfSome found P → IfSome found Q
if_found None f h = tt
if_found (Some p) f h = f p h

-- how a run stands does not depend on the state and the chain that it stands in if nothing is found to do
alike_outcome : (h : Happened) (s t : State) (k l : Chain) (go : ℕ → State → Chain → Run) → (goes_on h s k go).outcome ≡ (goes_on h t l go).outcome
alike_outcome (Led events place u c) s t k l go = refl
alike_outcome (Finished events ending u c) s t k l go = refl
alike_outcome (Broke events f u c) s t k l go = refl
alike_outcome (Lacks events) s t k l go = refl

module _ {C O : Type 0} (cable : CableOf C) (paper : PaperOf O) where
  -- all turns of a run are done
  pub run_place : (a b : PinCable C O) (code : CodeLists) (all : Chain → Run) (count : Chain → ℕ) (left place : ℕ) (u : State) (steps now : ℕ) → left ≡ 0 →
      Runs cable paper all count a steps (run_of code left place u) (run_ticks_of code left place u) b now →
      GoesOnAt cable paper all a place b
  run_place a b code all count left place u steps now e p = record {
    events = p.events;
    clocks = p.clocks;
    passed = p.passed;
    goes = λ more. ap (λ (r : Run). r.outcome) (p.runs more ∙ ap (λ (n : ℕ). after p.events (run_of code n place u (port_chain cable.board b more))) e);
  }

  -- the same run by another name
  pub place_same : (a b : PinCable C O) (all other : Chain → Run) (place : ℕ) → ((k : Chain) → all k ≡ other k) →
      GoesOnAt cable paper all a place b → GoesOnAt cable paper other a place b
  place_same a b all other place e p = record {
    events = p.events;
    clocks = p.clocks;
    passed = p.passed;
    goes = λ more. ap (λ (r : Run). r.outcome) (sym (e (chain_before cable paper a p.clocks more))) ∙ p.goes more;
  }

  -- a turn that was done, and a run after it
  pub place_then : ((x y z : C) (front back : List Signal) → cable.made x front y → cable.made y back z → cable.made x (front ++ back) z) →
      (a b c : PinCable C O) (all : Chain → Run) (s u : State) (go : ℕ → State → Chain → Run) (turn rest : Chain → Happened) (count left : Chain → ℕ) (steps now place : ℕ) →
      ((k : Chain) → all k ≡ goes_on (turn k) s k go) → Does cable paper turn count a steps rest left b now →
      GoesOnAt cable paper (λ k. goes_on (rest k) u k go) b place c → GoesOnAt cable paper all a place c
  place_then both a b c all s u go turn rest count left steps now place opened d q = record {
    events = d.events ++ q.events;
    clocks = d.clocks ++ q.clocks;
    passed = passes_both cable paper both a b c d.events q.events d.clocks q.clocks d.passed q.passed;
    goes = λ more.
        (let k : Chain = chain_before cable paper a d.clocks (tdos q.clocks ++ more) in
        let l : Chain = chain_before cable paper b q.clocks more in
        ap (λ (x : Chain). (all x).outcome) (before_both cable paper both a d.clocks q.clocks more)
        ∙ ap (λ (r : Run). r.outcome) (opened k)
        ∙ ap (λ (h : Happened). (goes_on h s k go).outcome) (d.does (tdos q.clocks ++ more))
        ∙ ap (λ (r : Run). r.outcome) (goes_after d.events (rest l) s k go)
        ∙ alike_outcome (rest l) s u k l go
        ∙ q.goes more);
  }

  -- over a port over a cable that tells its board
  pub goes_over : (a b : PinCable C O) (wire : C) (base : BaseLengths) (all : Chain → Run) (place : ℕ) → cable_of a ≡ wire → tap_of a ≡ Reset → base_of a ≡ base →
      GoesOnAt cable paper all a place b → GoesOnOver cable.board base all wire place
  goes_over a b wire base all place over tap pads p = λ cs told.
      (let there : cable.board (cable_of a) ≡ Some cs = ap cable.board over ∙ told in
      let is : chain_before cable paper a p.clocks [] ≡ record { tap = Reset; base = base; far = Told cs } =
      ap (λ (t : Tap). let k : Chain = record { tap = t; base = base_of a; far = far_end (cable.board (cable_of a)) (tdos p.clocks ++ []) } in k) tap
      ∙ ap (λ (l : BaseLengths). let k : Chain = record { tap = Reset; base = l; far = far_end (cable.board (cable_of a)) (tdos p.clocks ++ []) } in k) pads
      ∙ ap (λ (o : Option (List Card)). let k : Chain = record { tap = Reset; base = base; far = far_end o (tdos p.clocks ++ []) } in k) there in
      ap (λ (k : Chain). (all k).outcome) (sym is) ∙ p.goes [])

-- a play of the lists of a code, whose variables hold zeros
pub code_place : {C : Type 0} (board : C → Option (List Card)) (base : BaseLengths) (lists code : CodeLists) (chosen : List ℕ) (v : List Held) (n : ℕ) (cable : C) (place : ℕ) →
    lists ≡ code → v ≡ zeros_of_code code → GoesOnOver board base (play_from lists chosen v n) cable place → GoesOnOver board base (play_of code chosen n) cable place
code_place board base lists code chosen v n cable place same zeros p =
    subst (λ (w : List Held). GoesOnOver board base (play_from code chosen w n) cable place) zeros
    (subst (λ (l : CodeLists). GoesOnOver board base (play_from l chosen v n) cable place) same p)

-- a play from the first clocks on
pub told_place : {C : Type 0} (board : C → Option (List Card)) (makes : C → List Signal → C → Type 0) (base : BaseLengths) (code : CodeLists) (chosen : List ℕ) (n : ℕ)
    (old reset : C) (digits : List ℕ) (place : ℕ) → IsReset board makes old reset digits → GoesOnOver board base (play_of code chosen n) reset place →
    GoesOnTold board base (play_of code chosen n) old place
told_place board makes base code chosen n old reset digits place r p = λ cs told.
    p (board_after cs reset_inputs) (r.made.made.cards ∙ ap (λ (o : Option (List Card)). option_map (λ ks. board_after ks reset_inputs) o) told)

-- Signals that were made on the cable of a port.

module _ {C O : Type 0} {makes : C → List Signal → C → Type 0} where
  pub makes_none : (none : (c : C) → makes c [] c) (a : PinCable C O) → MakesOn makes a a
  makes_none none a = record { same = same_port a; signals = []; made = none (cable_of a) }

  pub makes_both : ((x y z : C) (front back : List Signal) → makes x front y → makes y back z → makes x (front ++ back) z) →
      {a b c : PinCable C O} → MakesOn makes a b → MakesOn makes b c → MakesOn makes a c
  makes_both both {a = a} {b = b} {c = c} p q = record {
    same = same_both p.same q.same;
    signals = p.signals ++ q.signals;
    made = both (cable_of a) (cable_of b) (cable_of c) p.signals q.signals p.made q.made;
  }

module _ {C O : Type 0} {cable : CableOf C} {paper : PaperOf O} where
  pub passes_make : {a b : PinCable C O} {events : List Event} {clocks : List Clock} → Passes cable paper a events clocks b → MakesOn cable.made a b
  passes_make {events = events} p = record { same = p.same; signals = signals_of events; made = p.made }

  pub front_makes : {a b : PinCable C O} {events : List Event} {clocks : List Clock} → IsSamePort a b → PassesFront cable paper a events clocks b → MakesOn cable.made a b
  front_makes {events = events} same p = record { same = same; signals = signals_of events; made = p.made }

-- they were made on the cable that the port stands over
pub made_over : {C O : Type 0} (makes : C → List Signal → C → Type 0) (a b : PinCable C O) (old new : C) → cable_of a ≡ old → new ≡ cable_of b →
    MakesOn makes a b → (signals : List Signal) × makes old signals new
made_over makes a b old new e f m =
    (m.signals, subst (λ c. makes old m.signals c) (sym f) (subst (λ c. makes c m.signals (cable_of b)) e m.made))
