-- Deeds over a cable whose clocks are written, one after another.
use Rattle.std.proofs.Common.{◌≡◌, ◌≢◌, ◌⊎◌, inl, inr, ◌<◌, ◌≤◌, ◌+◌, length, drop, slice_index_or, ℕ, Bool, true, false, List, [], ◌∷◌, ◌++◌, map, Option, Some, Result, Ok, Err, refl, sym, ap, subst, ◌∙◌, append_assoc}
use Rattle.std.specs.Prelude.{IsErr}
use Rattle.std.proofs.lemmas.List.{map-append, drop_more, drop_all, append-nil}
use Rattle.tap_states.specs.declared.Tap.{Tap}
use Rattle.dev_card.specs.Card.{Card}
use Rattle.std.specs.Option.{option_map}
use Rattle.dev_card.specs.Board.{Clock, Input, AllIn, clocks_of, board_after, tdos}
use Rattle.dev_card.specs.FarEnds.{FarEnd, far_clocks, far_after, far_end}
use Rattle.dev_card.specs.Padding.{BaseLengths}
use Rattle.scan_paths.specs.Cables.{Signal, pulsed, clocks_in, Breakage, whole, line, pins, input_of, PartCause, HasPartCause, WhereTold, cable_faults, IsCableLast}
use Rattle.scan_paths.specs.declared.cable.Cable.{Ghosts as CableOf}
use Rattle.tool_io.proofs.CauseLemmas.{kept_then, rose_after}
use Rattle.scan_paths.proofs.Parts.{line_start, pins_start, part_then}
use Rattle.stapl_meaning.specs.declared.events.Event.{Event}
use Rattle.stapl_meaning.specs.declared.events.Event.TheVariants.{Clock as Pulse, Print, Export, Usec, Hertz}
use Rattle.dev_card.specs.Scans.{BoardScan, inputs_of_scan, captured_from}
use Rattle.stapl_meaning.specs.Deeds.{Deed, Says, Goes, Scans, Chain, based, pulse, pulses, deed_events, deed_chain, deeds_events, deeds_chain}
use Rattle.stapl_meaning.specs.States.{State}
use Rattle.stapl_meaning.specs.Texts.{bytes_of, event_bytes, digits_after, pin_line, event_line}
use Rattle.written_cable.specs.declared.pin_cable.PinCable.{PinCable}
use Rattle.written_cable.specs.declared.paper.Paper.{Ghosts as PaperOf}
use Rattle.written_cable.specs.Papers.{Shown, Puts, PutsFront, PutsOnPaper, PutsOnPaperFront}
use Rattle.written_cable.specs.PaperLaws.{put_front, put_then, put_then_front, front_with}
use Rattle.written_cable.specs.Pins.{cable_of, lines_of, tap_of, base_of, digits_of, writes_pins, is_torn, broken_as, port_line_faults, IsPortLineLast, port_pin_faults, IsPortPinLast, IsSamePort, PutsEvents, HasMadePins, port_chain}
use Rattle.written_cable.specs.PinLaws.{same_port, same_both, put_none, events_both, events_both_front}
use Rattle.written_cable.specs.Ports.{broken_part, IsOpenPort, IsCableStill, IsKept, Finishes, FinishesFront, Passes, PassesFront, chain_before, Did, DidFront, DidScan, DoesAll, DoesPart, DoesDeeds, DoesScan, DoesCapture}
use Rattle.written_cable.specs.Signals.{signals_of, events_in}
use Rattle.written_cable.proofs.SignalLemmas.{signals_both, signals_of_pulses, clocks_of_both, clocks_of_pulses, events_in_pulsed}
use Rattle.written_cable.proofs.FarLemmas.{heard_both, far_made, far_left, far_append}

module _ {C O : Type 0} {cable : CableOf C} {paper : PaperOf O} where
  pub kept_none : (a : PinCable C O) → broken_part cable paper a ≡ whole → IsKept cable paper a a
  kept_none a w = record { same = same_port a; over = refl; line_cause = line_start _ _ _ w; pins_cause = pins_start _ _ _ w }

  pub kept_both : {a b c : PinCable C O} → IsKept cable paper a b → IsKept cable paper b c → IsKept cable paper a c
  kept_both p q = record {
    same = same_both p.same q.same;
    over = q.over ∙ p.over;
    line_cause = part_then p.line_cause q.line_cause;
    pins_cause = part_then p.pins_cause q.pins_cause;
  }

-- what a call kept that made signals
pub kept_made : {C O : Type 0} {cable : CableOf C} {paper : PaperOf O} {a b : PinCable C O} {signals : List Signal} →
    HasMadePins (broken_part cable paper) paper.shown cable.made a signals b →
    HasPartCause line (port_line_faults cable.line_faults cable.pin_faults) (IsPortLineLast cable.is_line_last cable.is_pin_last) (broken_part cable paper) a b →
    HasPartCause pins (port_pin_faults paper.faults) (IsPortPinLast paper.is_last) (broken_part cable paper) a b → IsKept cable paper a b
kept_made m l p = record { same = m.same; over = m.over; line_cause = l; pins_cause = p }

-- the next move and the rest
pub next_goes : (way : List Tap) (i : ℕ) (d : Tap) → i < length way → map Goes (drop i way) ≡ Goes (slice_index_or way i d) ∷ map Goes (drop (i + 1) way)
next_goes way i d inside = ap (map Goes) (drop_more way i d inside)

pub no_goes : (way : List Tap) (i : ℕ) → length way ≤ i → map Goes (drop i way) ≡ []
no_goes way i h = ap (map Goes) (drop_all i way h)

-- any event but a clock ends a line of clocks
abbrev pub IsNoClock : Event → Type 0
IsNoClock (Pulse tms tdi tdo) = ⊥
IsNoClock _ = Unit {0}

pub said_so : (e : Event) → IsNoClock e → (p : Bool) (ds : List ℕ) → event_bytes p ds e ≡ pin_line ds ++ event_line e
said_so (Pulse tms tdi tdo) h p ds = absurd h
said_so (Print text) h true ds = refl
said_so (Print text) h false ds = refl
said_so (Export key value) h true ds = refl
said_so (Export key value) h false ds = refl
said_so (Usec n) h true ds = refl
said_so (Usec n) h false ds = refl
said_so (Hertz n) h true ds = refl
said_so (Hertz n) h false ds = refl

pub none_wait_after : (e : Event) → IsNoClock e → (p : Bool) (ds : List ℕ) → digits_after p ds e ≡ []
none_wait_after (Pulse tms tdi tdo) h p ds = absurd h
none_wait_after (Print text) h true ds = refl
none_wait_after (Print text) h false ds = refl
none_wait_after (Export key value) h true ds = refl
none_wait_after (Export key value) h false ds = refl
none_wait_after (Usec n) h true ds = refl
none_wait_after (Usec n) h false ds = refl
none_wait_after (Hertz n) h true ds = refl
none_wait_after (Hertz n) h false ds = refl

no_clock : (e : Event) → IsNoClock e → clocks_in (signals_of (e ∷ [])) ≡ []
no_clock (Pulse tms tdi tdo) h = absurd h
no_clock (Print text) h = refl
no_clock (Export key value) h = refl
no_clock (Usec n) h = refl
no_clock (Hertz n) h = refl

-- clocks that a port made are put as clocks
module _ {C O : Type 0} {breakage : PinCable C O → Breakage} {shown : O → Shown} {makes : C → List Signal → C → Type 0}
    {old new : PinCable C O} (clocks : List Clock)
    (m : HasMadePins breakage shown makes old (pulsed clocks) new) where
  pub pins_put : breakage new ≡ whole → PutsEvents breakage shown old (pulses clocks) new
  pins_put w = subst (λ (es : List Event). PutsEvents breakage shown old es new) (events_in_pulsed clocks) (m.put.all w)

  pub pins_put_front : breakage new ≢ whole → PutsFront shown (lines_of old)
      (bytes_of (writes_pins old) (digits_of old) (pulses clocks)) (lines_of new)
  pins_put_front n = subst (λ (es : List Event). PutsFront shown (lines_of old)
      (bytes_of (writes_pins old) (digits_of old) es) (lines_of new)) (events_in_pulsed clocks) (m.put.some n).front

-- the chain at the end of ports with the same state, the same base padding and the same board
pub same_chain : {C O : Type 0} (board : C → Option (List Card)) (a b : PinCable C O) (more : List Bool) → tap_of b ≡ tap_of a → base_of b ≡ base_of a →
    board (cable_of b) ≡ board (cable_of a) → port_chain board a more ≡ port_chain board b more
same_chain board a b more tap base cards =
    ap (λ (t : Tap). let k : Chain = record { tap = t; base = base_of a; far = far_end (board (cable_of a)) more } in k) (sym tap)
    ∙ ap (λ (l : BaseLengths). let k : Chain = record { tap = tap_of b; base = l; far = far_end (board (cable_of a)) more } in k) (sym base)
    ∙ ap (λ (o : Option (List Card)). let k : Chain = record { tap = tap_of b; base = base_of b; far = far_end o more } in k) (sym cards)

module _ {C O : Type 0} (cable : CableOf C) (paper : PaperOf O) where
  -- nothing happens
  pub passes_none : (a : PinCable C O) → cable.made (cable_of a) [] (cable_of a) → broken_part cable paper a ≡ whole → Passes cable paper a [] [] a
  passes_none a m w = record {
    same = same_port a;
    made = m;
    clocks_are = refl;
    put = (put_none (broken_part cable paper) paper.shown a).all w;
  }

  pub front_none : (a : PinCable C O) → cable.made (cable_of a) [] (cable_of a) → broken_part cable paper a ≡ whole → PassesFront cable paper a [] [] a
  front_none a m w =
      let p = (put_none (broken_part cable paper) paper.shown a).all w in
      record {
        made = m;
        clocks_are = refl;
        front = put_front p.put;
      }

  pub did_none : (a : PinCable C O) (all : List Deed) → cable.made (cable_of a) [] (cable_of a) → broken_part cable paper a ≡ whole → Did cable paper all a all a
  did_none a all m w = record { events = []; clocks = []; passed = passes_none a m w; happened = λ more. refl; chain = λ more. refl }

  -- what was done, by other names
  pub did_same : (a b : PinCable C O) (all rest other : List Deed) → rest ≡ other → Did cable paper all a rest b → Did cable paper all a other b
  did_same a b all rest other e d = subst (λ (ds : List Deed). Did cable paper all a ds b) e d

  pub front_same : (a b : PinCable C O) (all other : List Deed) → all ≡ other → DidFront cable paper all a b → DidFront cable paper other a b
  front_same a b all other e d = subst (λ (ds : List Deed). DidFront cable paper ds a b) e d

  module _ (both : (x y z : C) (front back : List Signal) → cable.made x front y → cable.made y back z →
      cable.made x (front ++ back) z) where
    -- what happened, one after the other
    pub passes_both : (a b c : PinCable C O) (xs ys : List Event) (front back : List Clock) → Passes cable paper a xs front b → Passes cable paper b ys back c →
        Passes cable paper a (xs ++ ys) (front ++ back) c
    passes_both a b c xs ys front back p q = record {
      same = same_both p.same q.same;
      made = rw (signals_both xs ys) (both (cable_of a) (cable_of b) (cable_of c) (signals_of xs)
          (signals_of ys) p.made q.made);
      clocks_are = clocks_of_both xs ys front back p.clocks_are q.clocks_are;
      put = events_both (broken_part cable paper) paper.shown a b c xs ys p.same.pins p.put q.put;
    }

    pub passes_both_front : (a b c : PinCable C O) (xs ys : List Event) (front back : List Clock) → Passes cable paper a xs front b →
        PassesFront cable paper b ys back c →
        PassesFront cable paper a (xs ++ ys) (front ++ back) c
    passes_both_front a b c xs ys front back p q = record {
      made = rw (signals_both xs ys) (both (cable_of a) (cable_of b) (cable_of c) (signals_of xs)
          (signals_of ys) p.made q.made);
      clocks_are = clocks_of_both xs ys front back p.clocks_are q.clocks_are;
      front = events_both_front (broken_part cable paper) paper.shown a b c xs ys p.same.pins p.put q.front;
    }

    -- the chain before the clocks of both
    pub before_both : (a : PinCable C O) (front back : List Clock) (more : List Bool) →
        chain_before cable paper a (front ++ back) more ≡ chain_before cable paper a front (tdos back ++ more)
    before_both a front back more = ap (λ (bs : List Bool). port_chain cable.board a bs) (heard_both front back more)

    pub did_both : (a b c : PinCable C O) (all middle rest : List Deed) →
        Did cable paper all a middle b → Did cable paper middle b rest c → Did cable paper all a rest c
    did_both a b c all middle rest p q = record {
      events = p.events ++ q.events;
      clocks = p.clocks ++ q.clocks;
      passed = passes_both a b c p.events q.events p.clocks q.clocks p.passed q.passed;
      happened = λ more.
          ap (λ (k : Chain). deeds_events k all) (before_both a p.clocks q.clocks more) ∙ p.happened (tdos q.clocks ++ more)
          ∙ ap (λ (es : List Event). p.events ++ es) (q.happened more) ∙ sym (append_assoc p.events q.events (deeds_events (port_chain cable.board c more) rest));
      chain = λ more. ap (λ (k : Chain). deeds_chain k all) (before_both a p.clocks q.clocks more) ∙ p.chain (tdos q.clocks ++ more) ∙ q.chain more;
    }

    pub did_both_front : (a b c : PinCable C O) (all middle : List Deed) →
        Did cable paper all a middle b → DidFront cable paper middle b c → DidFront cable paper all a c
    did_both_front a b c all middle p q = record {
      events = p.events ++ q.events;
      clocks = p.clocks ++ q.clocks;
      passed = passes_both_front a b c p.events q.events p.clocks q.clocks p.passed q.passed;
      rest = q.rest;
      happened = λ more.
          ap (λ (k : Chain). deeds_events k all) (before_both a p.clocks q.clocks more) ∙ p.happened (tdos q.clocks ++ more)
          ∙ ap (λ (es : List Event). p.events ++ es) (q.happened more) ∙ sym (append_assoc p.events q.events (q.rest more));
    }

  -- ---- an event that is no clock was said: the line of the digits that wait, and its own

  module _ (event : Event) (other : IsNoClock event) (rest : List Deed) where
    said_bytes : (p : Bool) (ds : List ℕ) → bytes_of p ds (event ∷ []) ≡ pin_line ds ++ event_line event
    said_bytes p ds = append-nil (event_bytes p ds event) ∙ said_so event other p ds

    pub did_said : (a m b : PinCable C O) → cable.made (cable_of a) (signals_of (event ∷ [])) (cable_of b) →
        cable.board (cable_of b) ≡ cable.board (cable_of a) → tap_of b ≡ tap_of a → IsSamePort a b → broken_part cable paper a ≡ whole →
        Puts paper.shown (lines_of a) (pin_line (digits_of a)) (lines_of m) → Puts paper.shown (lines_of m) (event_line event) (lines_of b) → digits_of b ≡ [] →
        Did cable paper (Says event ∷ rest) a rest b
    did_said a m b made cards tap same w first second none =
        let before : (more : List Bool) → port_chain cable.board a more ≡ port_chain cable.board b more =
        λ more. same_chain cable.board a b more tap same.base cards in
        record {
          events = event ∷ [];
          clocks = [];
          passed = record {
            same = same;
            made = made;
            clocks_are = no_clock event other;
            put = record {
              was_whole = w;
              put = rw (said_bytes (writes_pins a) (digits_of a)) (put_then first second);
              digits = none ∙ sym (none_wait_after event other (writes_pins a) (digits_of a));
            };
          };
          happened = λ more. ap (λ (k : Chain). event ∷ deeds_events k rest) (before more);
          chain = λ more. ap (λ (k : Chain). deeds_chain k rest) (before more);
        }

    -- a front of it
    said_front : (a b : PinCable C O) → cable.made (cable_of a) (signals_of (event ∷ [])) (cable_of b) →
        PutsFront paper.shown (lines_of a) (pin_line (digits_of a) ++ event_line event) (lines_of b) →
        DidFront cable paper (Says event ∷ rest) a b
    said_front a b made front = record {
      events = event ∷ [];
      clocks = [];
      passed = record {
        made = made;
        clocks_are = no_clock event other;
        front = rw (said_bytes (writes_pins a) (digits_of a)) front;
      };
      rest = λ more. deeds_events (port_chain cable.board a more) rest;
      happened = λ more. refl;
    }

    pub said_line_front : (a m b : PinCable C O) → cable.made (cable_of a) (signals_of (event ∷ [])) (cable_of b) →
        Puts paper.shown (lines_of a) (pin_line (digits_of a)) (lines_of m) → PutsFront paper.shown (lines_of m) (event_line event) (lines_of b) → DidFront cable paper (Says event ∷ rest) a b
    said_line_front a m b made first second = said_front a b made (put_then_front first second)

    pub said_pins_front : (a b : PinCable C O) → cable.made (cable_of a) (signals_of (event ∷ [])) (cable_of b) →
        PutsFront paper.shown (lines_of a) (pin_line (digits_of a)) (lines_of b) →
        DidFront cable paper (Says event ∷ rest) a b
    said_pins_front a b made first = said_front a b made (front_with (event_line event) first)

  -- nothing of some deeds was done, and the lines are as they were
  pub untouched_front : (a b : PinCable C O) (all : List Deed) → cable.made (cable_of a) [] (cable_of b) → lines_of b ≡ lines_of a → broken_part cable paper a ≡ whole → DidFront cable paper all a b
  untouched_front a b all made same w =
      let p = (put_none (broken_part cable paper) paper.shown a).all w in
      record {
        events = [];
        clocks = [];
        passed = record {
          made = made;
          clocks_are = refl;
          front = subst (λ (l : O). PutsFront paper.shown (lines_of a) [] l) (sym same) (put_front p.put);
        };
        rest = λ more. deeds_events (port_chain cable.board a more) all;
        happened = λ more. refl;
      }

  -- a signal of the port was made, and its line was put
  pub signal_did : (event : Event) (other : IsNoClock event) (rest : List Deed) (a b : PinCable C O) →
      cable.made (cable_of a) (signals_of (event ∷ [])) (cable_of b) →
      cable.board (cable_of b) ≡ cable.board (cable_of a) → tap_of b ≡ tap_of a → IsSamePort a b →
      PutsEvents (broken_part cable paper) paper.shown a (event ∷ []) b → Did cable paper (Says event ∷ rest) a rest b
  signal_did event other rest a b made cards tap same put =
      let before : (more : List Bool) → port_chain cable.board a more ≡ port_chain cable.board b more = λ more. same_chain cable.board a b
      more tap same.base cards in
      record {
        events = event ∷ [];
        clocks = [];
        passed = record { same = same; made = made; clocks_are = no_clock event other; put = put };
        happened = λ more. ap (λ (k : Chain). event ∷ deeds_events k rest) (before more);
        chain = λ more. ap (λ (k : Chain). deeds_chain k rest) (before more);
      }

  -- it failed: it was made or not, and a front of its line was put
  pub signal_front : (event : Event) (other : IsNoClock event) (rest : List Deed) (a b : PinCable C O) →
      broken_part cable paper b ≢ whole →
      HasMadePins (broken_part cable paper) paper.shown cable.made a [] b ⊎ HasMadePins (broken_part cable paper) paper.shown cable.made a (signals_of (event ∷ [])) b →
      events_in (signals_of (event ∷ [])) ≡ event ∷ [] →
      DidFront cable paper (Says event ∷ rest) a b
  signal_front event other rest a b n (inl h) is = record {
    events = [];
    clocks = [];
    passed = record { made = h.made; clocks_are = refl; front = (h.put.some n).front };
    rest = λ more. deeds_events (port_chain cable.board a more) (Says event ∷ rest);
    happened = λ more. refl;
  }
  signal_front event other rest a b n (inr h) is = record {
    events = event ∷ [];
    clocks = [];
    passed = record {
      made = h.made;
      clocks_are = no_clock event other;
      front = subst (λ (es : List Event). PutsFront paper.shown (lines_of a) (bytes_of (writes_pins a) (digits_of a) es)
          (lines_of b)) is (h.put.some n).front;
    };
    rest = λ more. deeds_events (port_chain cable.board a more) rest;
    happened = λ more. refl;
  }

  -- ---- a deed of clocks

  pulses_passed : (old new : PinCable C O) (clocks : List Clock) → IsSamePort old new →
      cable.made (cable_of old) (pulsed clocks) (cable_of new) → PutsEvents (broken_part cable paper) paper.shown old (pulses clocks) new →
      Passes cable paper old (pulses clocks) clocks new
  pulses_passed old new clocks same made put = record {
    same = same;
    made = rw (signals_of_pulses clocks) made;
    clocks_are = clocks_of_pulses clocks;
    put = put;
  }

  module _ (old new : PinCable C O) (to : Tap) (d : Deed) (inputs : List Input)
      (events_are : (far : FarEnd) → deed_events (record { tap = tap_of old; base = base_of old; far = far }) d ≡ pulses (far_clocks far inputs))
      (chain_is : (far : FarEnd) → deed_chain (record { tap = tap_of old; base = base_of old; far = far }) d ≡
      (let k : Chain = record { tap = to; base = base_of old; far = far_after far inputs } in k)) (rest : List Deed) where
    abbrev far_before : List Clock → List Bool → FarEnd
    far_before clocks more = far_end (cable.board (cable_of old)) (tdos clocks ++ more)

    -- its clocks were made
    pub one_did : (clocks : List Clock) → tap_of new ≡ to → IsSamePort old new →
        cable.made (cable_of old) (pulsed clocks) (cable_of new) → PutsEvents (broken_part cable paper) paper.shown old (pulses clocks) new →
        map input_of clocks ≡ inputs → ((cs : List Card) → cable.board (cable_of old) ≡ Some cs → clocks ≡ clocks_of cs inputs) →
        cable.board (cable_of new) ≡ option_map (λ cs. board_after cs inputs) (cable.board (cable_of old)) → Did cable paper (d ∷ rest) old rest new
    one_did clocks tap same made put went_in seen cards =
        let after : (more : List Bool) → deed_chain (chain_before cable paper old clocks more) d ≡ port_chain cable.board new more =
        λ more. chain_is (far_before clocks more)
        ∙ ap (λ (far : FarEnd). let k : Chain = record { tap = to; base = base_of old; far = far } in k) (far_left (cable.board (cable_of old)) (cable.board (cable_of new)) clocks inputs went_in more cards)
        ∙ ap (λ (t : Tap). let k : Chain = record { tap = t; base = base_of old; far = far_end (cable.board (cable_of new)) more } in k) (sym tap)
        ∙ ap (λ (l : BaseLengths). let k : Chain = record { tap = tap_of new; base = l; far = far_end (cable.board (cable_of new)) more } in k) (sym same.base) in
        record {
          events = pulses clocks;
          clocks = clocks;
          passed = pulses_passed old new clocks same made put;
          happened = λ more.
              ap (λ (es : List Event). es ++ deeds_events (deed_chain (chain_before cable paper old clocks more) d) rest)
              (events_are (far_before clocks more) ∙ ap pulses (far_made (cable.board (cable_of old)) (cable.board (cable_of new)) clocks inputs went_in more seen))
              ∙ ap (λ (k : Chain). pulses clocks ++ deeds_events k rest) (after more);
          chain = λ more. ap (λ (k : Chain). deeds_chain k rest) (after more);
        }

    -- clocks with a front of its inputs were made
    pub one_did_front : (front more_inputs : List Input) (clocks : List Clock) → inputs ≡ front ++ more_inputs →
        cable.made (cable_of old) (pulsed clocks) (cable_of new) →
        PutsFront paper.shown (lines_of old) (bytes_of (writes_pins old) (digits_of old) (pulses clocks)) (lines_of new) → map input_of clocks ≡ front →
        ((cs : List Card) → cable.board (cable_of old) ≡ Some cs → clocks ≡ clocks_of cs front) → DidFront cable paper (d ∷ rest) old new
    one_did_front front more_inputs clocks parts made put went_in seen = record {
      events = pulses clocks;
      clocks = clocks;
      passed = record { made = rw (signals_of_pulses clocks) made; clocks_are = clocks_of_pulses clocks; front = put };
      rest = λ more. pulses (far_clocks (far_after (far_before clocks more) front) more_inputs) ++ deeds_events (deed_chain (chain_before cable paper old clocks more) d) rest;
      happened = λ more.
          (let far = far_before clocks more in
          let others : List Event = pulses (far_clocks (far_after far front) more_inputs) in
          let beyond : List Event = deeds_events (deed_chain (chain_before cable paper old clocks more) d) rest in
          ap (λ (es : List Event). es ++ beyond) (events_are far ∙ ap (λ (is : List Input). pulses (far_clocks far is)) parts
          ∙ ap pulses (far_append far front more_inputs)
          ∙ map-append pulse (far_clocks far front) (far_clocks (far_after far front) more_inputs)
          ∙ ap (λ (ks : List Clock). pulses ks ++ others) (far_made (cable.board (cable_of old)) (cable.board (cable_of old)) clocks front went_in more seen))
          ∙ append_assoc (pulses clocks) others beyond);
    }

  -- ---- a scan with base padding, and what it captured

  module _ (old new : PinCable C O) (s whole_scan : BoardScan) (e : whole_scan ≡ based (base_of old) s) where
    abbrev scan_inputs : List Input
    scan_inputs = inputs_of_scan (tap_of old) (based (base_of old) s)

    same_inputs : inputs_of_scan (tap_of old) whole_scan ≡ scan_inputs
    same_inputs = ap (inputs_of_scan (tap_of old)) e

    pub scan_did : (clocks : List Clock) (captured : List Bool) → tap_of new ≡ s.stop → IsSamePort old new →
        cable.made (cable_of old) (pulsed clocks) (cable_of new) → PutsEvents (broken_part cable paper) paper.shown old (pulses clocks) new →
        map input_of clocks ≡ inputs_of_scan (tap_of old) whole_scan → ((cs : List Card) → cable.board (cable_of old) ≡ Some cs → clocks ≡ clocks_of cs (inputs_of_scan (tap_of old) whole_scan)) →
        cable.board (cable_of new) ≡ option_map (λ cs. board_after cs (inputs_of_scan (tap_of old) whole_scan)) (cable.board (cable_of old)) →
        captured ≡ captured_from (tap_of old) whole_scan clocks → DidScan cable paper s captured old new
    unfolding one_did
    scan_did clocks captured tap same made put went_in seen cards is =
        let went = went_in ∙ same_inputs in
        let clocks_are : (cs : List Card) → cable.board (cable_of old) ≡ Some cs → clocks ≡ clocks_of cs scan_inputs = λ cs t. seen cs t ∙ ap (clocks_of cs) same_inputs in
        let after = cards ∙ ap (λ (is : List Input). option_map (λ cs. board_after cs is) (cable.board (cable_of old))) same_inputs in
        let one = one_did old new s.stop (Scans s) scan_inputs (λ far. refl) (λ far. refl) [] clocks tap same made put went clocks_are after in
        let did : Did cable paper (Scans s ∷ []) old [] new = record {
          events = pulses clocks;
          clocks = clocks;
          passed = pulses_passed old new clocks same made put;
          happened = one.happened;
          chain = one.chain;
        } in
        record {
          did = did;
          captured_is = λ more.
              ap (captured_from (tap_of old) (based (base_of old) s)) (far_made (cable.board (cable_of old)) (cable.board (cable_of new)) clocks scan_inputs went more clocks_are)
              ∙ sym (is ∙ ap (λ (x : BoardScan). captured_from (tap_of old) x clocks) e);
        }

    -- a front of it
    pub scan_did_front : (front more_inputs : List Input) (clocks : List Clock) →
        inputs_of_scan (tap_of old) whole_scan ≡ front ++ more_inputs →
        cable.made (cable_of old) (pulsed clocks) (cable_of new) →
        PutsFront paper.shown (lines_of old) (bytes_of (writes_pins old) (digits_of old) (pulses clocks)) (lines_of new) → map input_of clocks ≡ front →
        ((cs : List Card) → cable.board (cable_of old) ≡ Some cs → clocks ≡ clocks_of cs front) → (rest : List Deed) → DidFront cable paper (Scans s ∷ rest) old new
    scan_did_front front more_inputs clocks parts made put went_in seen rest =
        one_did_front old new s.stop (Scans s) scan_inputs (λ far. refl) (λ far. refl) rest front more_inputs clocks (sym same_inputs ∙ parts) made put went_in seen

-- ---- what is broken of a port, by its parts

parts_whole : (torn : Bool) (inner : Breakage) (failed : Bool) → torn ≡ false → inner ≡ whole → failed ≡ false → broken_as torn inner failed ≡ whole
parts_whole torn inner failed t i f = rw (t, i, f) refl

whole_of_parts : (torn : Bool) (inner : Breakage) (failed : Bool) → broken_as torn inner failed ≡ whole → (failed ≡ false) × (inner ≡ whole)
whole_of_parts true inner failed e = absurd cc
whole_of_parts false whole false e = (refl, refl)
whole_of_parts false whole true e = absurd cc
whole_of_parts false line failed e = absurd cc
whole_of_parts false pins failed e = absurd cc

part_torn : (torn : Bool) (inner : Breakage) (failed : Bool) → torn ≡ true → broken_as torn inner failed ≡ pins
part_torn torn inner failed t = rw t refl

whole≢line : whole ≡ line → ⊥
whole≢line e = cc

whole≢pins : whole ≡ pins → ⊥
whole≢pins e = cc

pins≢whole : pins ≡ whole → ⊥
pins≢whole e = cc

pins≢line : pins ≡ line → ⊥
pins≢line e = cc

module _ {C O : Type 0} (cable : CableOf C) (paper : PaperOf O) where
  pub whole_lines : (a : PinCable C O) → broken_part cable paper a ≡ whole → paper.failed (lines_of a) ≡ false
  whole_lines a e = (whole_of_parts (is_torn a) (cable.breakage (cable_of a)) (paper.failed (lines_of a)) e).0

  pub whole_line : (a : PinCable C O) → broken_part cable paper a ≡ whole → cable.breakage (cable_of a) ≡ whole
  whole_line a e = (whole_of_parts (is_torn a) (cable.breakage (cable_of a)) (paper.failed (lines_of a)) e).1

  -- a port whose board and whose state of the controllers are as they were
  pub open_still : (a b : PinCable C O) → IsOpenPort cable paper a → broken_part cable paper b ≡ whole → cable.board (cable_of b) ≡ cable.board (cable_of a) →
      tap_of b ≡ tap_of a → IsOpenPort cable paper b
  open_still a b o w cards tap = record {
    whole_port = w;
    in_step = λ cs t. subst (λ (tap : Tap). AllIn tap cs) (sym tap) (o.in_step cs (sym cards ∙ t));
  }

  -- a port of this state of the controllers
  pub stays_open : (b : PinCable C O) (at : Tap) → tap_of b ≡ at → broken_part cable paper b ≡ whole → WhereTold (cable.board (cable_of b)) (AllIn at) → IsOpenPort cable paper b
  stays_open b at tap w told = record { whole_port = w; in_step = λ cs t. subst (λ (tap : Tap). AllIn tap cs) (sym tap) (told cs t) }

  -- a signal of the port failed: it was made or not
  pub signal_part : (event : Event) (other : IsNoClock event) (a b : PinCable C O) → broken_part cable paper b ≢ whole →
      HasMadePins (broken_part cable paper) paper.shown cable.made a [] b ⊎ HasMadePins (broken_part cable paper) paper.shown cable.made a (signals_of (event ∷ [])) b →
      events_in (signals_of (event ∷ [])) ≡ event ∷ [] →
      HasPartCause line (port_line_faults cable.line_faults cable.pin_faults) (IsPortLineLast cable.is_line_last cable.is_pin_last) (broken_part cable paper) a b →
      HasPartCause pins (port_pin_faults paper.faults) (IsPortPinLast paper.is_last) (broken_part cable paper) a b → DoesPart cable paper (Says event ∷ []) a b
  signal_part event other a b n made is l p = record {
    front = λ rest. signal_front cable paper event other rest a b n made is;
    broken = n;
    kept = elim made [ inl h ↦ kept_made h l p | inr h ↦ kept_made h l p ];
  }

  -- a signal of the port was made, and its line was put
  pub signal_all : (event : Event) (other : IsNoClock event) (a b : PinCable C O) → IsOpenPort cable paper a → broken_part cable paper b ≡ whole →
      HasMadePins (broken_part cable paper) paper.shown cable.made a (signals_of (event ∷ [])) b → events_in (signals_of (event ∷ [])) ≡ event ∷ [] →
      cable.board (cable_of b) ≡ cable.board (cable_of a) → IsKept cable paper a b → DoesAll cable paper (Says event ∷ []) a b
  signal_all event other a b o w k is cards kept = record {
    did = λ rest. signal_did cable paper event other rest a b k.made cards k.tap k.same
        (subst (λ (es : List Event). PutsEvents (broken_part cable paper) paper.shown a es b) is (k.put.all w));
    open_now = open_still a b o w cards k.tap;
    kept = kept;
  }

  -- an event that is no signal was said
  module _ (event : Event) (other : IsNoClock event) (silent : signals_of (event ∷ []) ≡ []) (a m : PinCable C O)
      (o : IsOpenPort cable paper a) (still : IsCableStill a m) (k : IsKept cable paper a m) (none : cable.made (cable_of a) [] (cable_of a)) where
    abbrev line_faults : C → ℕ
    line_faults x = cable_faults cable.line_faults cable.pin_faults x

    abbrev IsLast : C → Type 0
    IsLast x = IsCableLast cable.is_line_last cable.is_pin_last x

    made_still : (b : PinCable C O) → cable_of b ≡ cable_of m → cable.made (cable_of a) (signals_of (event ∷ [])) (cable_of b)
    made_still b e = rw silent (subst (λ (x : C). cable.made (cable_of a) [] x) (sym (e ∙ still.cable)) none)

    pub line_said : (b : PinCable C O) → Finishes cable paper a m → IsSamePort a b → cable_of b ≡ cable_of m → tap_of b ≡ tap_of m → digits_of b ≡ digits_of m → is_torn b ≡ false →
        PutsOnPaper paper.shown paper.failed paper.faults paper.is_last (lines_of m) (event_line event) (lines_of b) → DoesAll cable paper (Says event ∷ []) a b
    line_said b f same on tap digits torn p =
        let cards = ap cable.board (on ∙ still.cable) in let at = tap ∙ still.tap in
        let w = parts_whole (is_torn b) (cable.breakage (cable_of b)) (paper.failed (lines_of b)) torn (ap cable.breakage on ∙ whole_line m f.unbroken) p.whole in
        record {
          did = λ rest. did_said cable paper event other rest a m b (made_still b on) cards at same o.whole_port f.put p.put (digits ∙ f.none);
          open_now = open_still a b o w cards at;
          kept = record {
            same = same;
            over = p.same ∙ k.over;
            line_cause = subst (λ (x : C). PartCause line (line_faults (cable_of a)) (line_faults x) (IsLast (cable_of a)) (IsLast x) (broken_part cable paper b)) (sym on)
                (record { kept = k.line_cause.kept; broke = λ e. absurd (whole≢line (sym w ∙ e)) });
            pins_cause = record { kept = kept_then k.pins_cause.kept p.kept; broke = λ e. absurd (whole≢pins (sym w ∙ e)) };
          };
        }

    -- its line failed
    pub line_torn : (b : PinCable C O) → Finishes cable paper a m → IsSamePort a b → cable_of b ≡ cable_of m → is_torn b ≡ true →
        PutsOnPaperFront paper.shown paper.failed paper.faults paper.is_last (lines_of m) (event_line event) (lines_of b) → DoesPart cable paper (Says event ∷ []) a b
    line_torn b f same on torn p =
        let broken = part_torn (is_torn b) (cable.breakage (cable_of b)) (paper.failed (lines_of b)) torn in
        record {
          front = λ rest. said_line_front cable paper event other rest a m b (made_still b on) f.put p.front;
          broken = λ e. pins≢whole (sym broken ∙ e);
          kept = record {
            same = same;
            over = p.same ∙ k.over;
            line_cause = subst (λ (x : C). PartCause line (line_faults (cable_of a)) (line_faults x) (IsLast (cable_of a)) (IsLast x) (broken_part cable paper b)) (sym on)
                (record { kept = k.line_cause.kept; broke = λ e. absurd (pins≢line (sym broken ∙ e)) });
            pins_cause = record { kept = kept_then k.pins_cause.kept p.kept; broke = λ e. rose_after k.pins_cause.kept p.rose };
          };
        }

    -- the line of the digits that waited failed
    pub digits_torn : FinishesFront cable paper a m → DoesPart cable paper (Says event ∷ []) a m
    digits_torn f = record {
      front = λ rest. said_pins_front cable paper event other rest a m (made_still m refl) f.front;
      broken = λ e. pins≢whole (sym f.broken ∙ e);
      kept = k;
    }

-- ---- deeds one after another

module _ {C O : Type 0} (cable : CableOf C) (paper : PaperOf O) where
  -- none
  pub does_nothing : (a : PinCable C O) → cable.made (cable_of a) [] (cable_of a) → IsOpenPort cable paper a → DoesAll cable paper [] a a
  does_nothing a none o = record {
    did = λ rest. did_none cable paper a rest none o.whole_port;
    open_now = o;
    kept = kept_none a o.whole_port;
  }

  -- these and no others
  pub all_did : {a b : PinCable C O} (deeds : List Deed) → DoesAll cable paper deeds a b → Did cable paper deeds a [] b
  all_did {a = a} {b = b} deeds d = subst (λ (ds : List Deed). Did cable paper ds a [] b) (append-nil deeds) (d.did [])

  pub part_did : {a b : PinCable C O} (deeds : List Deed) → DoesPart cable paper deeds a b → DidFront cable paper deeds a b
  part_did {a = a} {b = b} deeds d = subst (λ (ds : List Deed). DidFront cable paper ds a b) (append-nil deeds) (d.front [])

  -- more deeds that were to be done after
  pub part_with : {a b : PinCable C O} (deeds more : List Deed) → DoesPart cable paper deeds a b → DoesPart cable paper (deeds ++ more) a b
  part_with deeds more d = record {
    front = λ rest. rw (append_assoc deeds more rest) (d.front (more ++ rest));
    broken = d.broken;
    kept = d.kept;
  }

  module _ (both : (x y z : C) (front back : List Signal) → cable.made x front y → cable.made y back z →
      cable.made x (front ++ back) z) (a b c : PinCable C O) (deeds more : List Deed) (first : DoesAll cable paper deeds a b) where
    pub does_then : DoesAll cable paper more b c → DoesAll cable paper (deeds ++ more) a c
    does_then second = record {
      did = λ rest. rw (append_assoc deeds more rest)
          (did_both cable paper both a b c (deeds ++ (more ++ rest)) (more ++ rest) rest (first.did (more ++ rest)) (second.did rest));
      open_now = second.open_now;
      kept = kept_both first.kept second.kept;
    }

    pub does_then_part : DoesPart cable paper more b c → DoesPart cable paper (deeds ++ more) a c
    does_then_part second = record {
      front = λ rest. rw (append_assoc deeds more rest)
          (did_both_front cable paper both a b c (deeds ++ (more ++ rest)) (more ++ rest) (first.did (more ++ rest)) (second.front rest));
      broken = second.broken;
      kept = kept_both first.kept second.kept;
    }

-- a call that failed, by its result
module _ {C O T E : Type 0} {cable : CableOf C} {paper : PaperOf O} {old new : PinCable C O} where
  pub deeds_failed : {deeds : List Deed} (r : Result T E) → IsErr r → DoesPart cable paper deeds old new → DoesDeeds cable paper deeds old new r
  deeds_failed (Ok x) is part = absurd cc
  deeds_failed (Err e) is part = part

  pub scan_failed : {scan : BoardScan} (captured : List Bool) (r : Result T E) → IsErr r → DoesPart cable paper (Scans scan ∷ []) old new →
      DoesScan cable paper scan captured old new r
  scan_failed captured (Ok x) is part = absurd cc
  scan_failed captured (Err e) is part = part

  pub capture_failed : {scan : BoardScan} (lands : List Bool → State) (s : State) (r : Result T E) → IsErr r → DoesPart cable paper (Scans scan ∷ []) old new →
      DoesCapture cable paper scan lands old s new r
  capture_failed lands s (Ok x) is part = absurd cc
  capture_failed lands s (Err e) is part = part
