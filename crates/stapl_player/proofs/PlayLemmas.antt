-- The first clocks and the run after them are one play.
use Rattle.std.proofs.Common.{◌≡◌, ◌≤◌, ◌+◌, ℕ, Bool, List, [], ◌++◌, map, sym, ap, subst, ◌∙◌, arith, append_assoc}
use Rattle.std.proofs.lemmas.List.{map-append}
use Rattle.tap_states.specs.declared.Tap.TheVariants.{Reset}
use Rattle.dev_card.specs.Board.{Clock, Input, tdos}
use Rattle.dev_card.specs.FarEnds.{FarEnd, far_end, far_clocks, far_after}
use Rattle.dev_card.specs.Padding.{BaseLengths}
use Rattle.scan_paths.specs.declared.cable.Cable.{Ghosts as CableOf}
use Rattle.scan_paths.specs.Cables.{Signal, pulsed, HasMadeFront}
use Rattle.stapl_meaning.specs.declared.events.Event.{Event}
use Rattle.stapl_meaning.specs.declared.events.Ending.{Ending}
use Rattle.stapl_meaning.specs.Deeds.{Chain, pulse, pulses}
use Rattle.stapl_meaning.specs.Plays.{reset_inputs, reset_events, chain_reset, ending_of}
use Rattle.stapl_meaning.specs.Texts.{events_text}
use Rattle.stapl_code.specs.declared.raw.CodeLists.{CodeLists}
use Rattle.stapl_machine.specs.declared.running.Machine.{Machine}
use Rattle.stapl_machine.specs.Machines.{play_of, play_ticks_of, chain_at, IsPlayed, IsPlayedFront}
use Rattle.written_cable.specs.declared.paper.Paper.{Ghosts as PaperOf}
use Rattle.written_cable.specs.Papers.{Puts, PutsFront}
use Rattle.written_cable.specs.PinLaws.{front_nothing}
use Rattle.written_cable.specs.Resets.{digit_of_clock, IsReset, kept_digits}
use Rattle.written_cable.proofs.FarLemmas.{heard_both, far_made, far_left, far_append}
use Rattle.written_cable.specs.Signals.{signals_of}
use Rattle.written_cable.proofs.SignalLemmas.{signals_both, signals_of_pulses, clocks_of_both, clocks_of_pulses}
use Rattle.written_cable.proofs.ResetLemmas.{keeps_text}
use Rattle.tool_io.specs.Causes.{CountKept, CountRose}
use Rattle.tool_io.proofs.CauseLemmas.{rose_after}
use Rattle.written_cable.specs.declared.trouble.Trouble.{Trouble}
use Rattle.written_cable.specs.declared.trouble.Trouble.TheVariants.{CableFault, WriteFault}
use Rattle.written_cable.specs.Ports.{IfFault}
use Rattle.stapl_player.specs.Plays.{whole_play, whole_ticks, far_before, HasPlayed, HasPlayedFront}

module _ {C O : Type 0} (cable : CableOf C) (paper : PaperOf O)
    (pins : Bool) (code : CodeLists) (chosen : List ℕ) (n : ℕ) (base : BaseLengths)
    (both : (a b c : C) (front back : List Signal) → cable.made a front b → cable.made b back c → cable.made a (front ++ back) c) where
  abbrev before : C → List Clock → List Bool → FarEnd
  before = far_before cable.board cable.made paper.shown pins (whole_play code chosen n base) (whole_ticks code chosen n base)

  module _ (start mid : C) (digits : List ℕ) (r : IsReset cable.board cable.made start mid digits) (clocks : List Clock) (more : List Bool) where
    abbrev far : FarEnd
    far = before start (r.made.clocks ++ clocks) more

    same_far : far ≡ far_end (cable.board start) (tdos r.made.clocks ++ (tdos clocks ++ more))
    same_far = ap (far_end (cable.board start)) (heard_both r.made.clocks clocks more)

    -- the chain after the first clocks
    chain_is : chain_reset base far ≡ chain_at base cable.board mid (tdos clocks ++ more)
    chain_is =
        ap (chain_reset base) same_far
        ∙ ap (λ (f : FarEnd). let k : Chain = record { tap = Reset; base = base; far = f } in k)
        (far_left (cable.board start) (cable.board mid) r.made.clocks reset_inputs r.made.made.went_in (tdos clocks ++ more) r.made.made.cards)

    -- the first clocks are the first events
    first_are : reset_events far ≡ pulses r.made.clocks
    first_are =
        ap pulses (ap (λ (f : FarEnd). far_clocks f reset_inputs) same_far
        ∙ far_made (cable.board start) (cable.board mid) r.made.clocks reset_inputs r.made.made.went_in
        (tdos clocks ++ more) r.made.made.seen)

    events_are : (events : List Event) → (play_of code chosen n
        (chain_at base cable.board mid (tdos clocks ++ more))).events ≡ events →
        (whole_play code chosen n base far).events ≡ pulses r.made.clocks ++ events
    events_are events e =
        ap (λ (es : List Event). es ++ (play_of code chosen n (chain_reset base far)).events) first_are
        ∙ ap (λ (es : List Event). pulses r.made.clocks ++ es)
        (ap (λ (k : Chain). (play_of code chosen n k).events) chain_is ∙ e)

    -- their digits
    digits_are : digits ≡ map digit_of_clock (far_clocks far reset_inputs)
    digits_are =
        r.digits_are
        ∙ ap (map digit_of_clock) (sym (ap (λ (f : FarEnd). far_clocks f reset_inputs) same_far
        ∙ far_made (cable.board start) (cable.board mid) r.made.clocks reset_inputs r.made.made.went_in (tdos clocks ++ more) r.made.made.seen))

    text_is : events_text pins (kept_digits pins digits) (play_of code chosen n (chain_at base cable.board mid (tdos clocks ++ more))).events ≡ events_text pins [] (whole_play code chosen n base far).events
    text_is =
        ap (λ (ds : List ℕ). events_text pins (kept_digits pins ds) (play_of code chosen n (chain_at base cable.board mid (tdos clocks ++ more))).events) digits_are
        ∙ keeps_text pins far (play_of code chosen n (chain_at base cable.board mid (tdos clocks ++ more))).events
        ∙ ap (λ (k : Chain). events_text pins [] (reset_events far ++ (play_of code chosen n k).events)) (sym chain_is)

  module _ (start mid new : C) (out new_out : O) (digits : List ℕ) (steps now : ℕ) (r : IsReset cable.board cable.made start mid digits) where
    made_all : (events : List Event) → cable.made mid (signals_of events) new →
        cable.made start (signals_of (pulses r.made.clocks ++ events)) new
    made_all events m =
        rw (signals_both (pulses r.made.clocks) events, signals_of_pulses r.made.clocks)
        (both start mid new (pulsed r.made.clocks) (signals_of events) r.made.made.made m)

    pub played : (ending : Ending) (machine : Machine) →
        IsPlayed cable paper pins digits base (play_of code chosen n) (play_ticks_of code chosen n) mid out steps ending new new_out now machine →
        HasPlayed cable.board cable.made paper.shown pins (whole_play code chosen n base) (whole_ticks code chosen n base) start out steps ending new new_out now machine
    played ending machine p = record {
      events = pulses r.made.clocks ++ p.events;
      clocks = r.made.clocks ++ p.clocks;
      made = made_all p.events p.made;
      clocks_are = clocks_of_both (pulses r.made.clocks) p.events r.made.clocks p.clocks
          (clocks_of_pulses r.made.clocks) p.clocks_are;
      runs = λ more. events_are start mid digits r p.clocks more p.events (p.runs more);
      put = λ more.
          subst (λ (bs : List ℕ). Puts paper.shown out bs new_out)
          (ap (events_text pins (kept_digits pins digits)) (sym (p.runs more)) ∙ text_is start mid digits r p.clocks more) p.put;
      ended = λ more. ap (λ (k : Chain). ending_of (play_of code chosen n k).outcome) (chain_is start mid digits r p.clocks more) ∙ p.ended more;
      far = λ more. ap (λ (k : Chain). (play_of code chosen n k).chain.far) (chain_is start mid digits r p.clocks more) ∙ p.far more;
      variables = λ more. ap (λ (k : Chain). (play_of code chosen n k).state.store.variables) (chain_is start mid digits r p.clocks more) ∙ p.variables more;
      ticked = λ more. p.ticked more ∙ ap (λ (k : Chain). steps + play_ticks_of code chosen n k) (sym (chain_is start mid digits r p.clocks more));
    }

    pub played_front : IsPlayedFront cable paper pins digits base (play_of code chosen n) (play_ticks_of code chosen n) mid out steps new new_out now →
        HasPlayedFront cable.board cable.made paper.shown pins (whole_play code chosen n base) (whole_ticks code chosen n base) start out steps new new_out now
    played_front p = record {
      events = pulses r.made.clocks ++ p.events;
      clocks = r.made.clocks ++ p.clocks;
      made = made_all p.events p.made;
      clocks_are = clocks_of_both (pulses r.made.clocks) p.events r.made.clocks p.clocks
          (clocks_of_pulses r.made.clocks) p.clocks_are;
      rest = p.rest;
      runs = λ more. events_are start mid digits r p.clocks more (p.events ++ p.rest more) (p.runs more)
          ∙ sym (append_assoc (pulses r.made.clocks) p.events (p.rest more));
      driven =
          subst (λ (bs : List ℕ). PutsFront paper.shown out bs new_out)
          (ap (λ (ds : List ℕ). events_text pins (kept_digits pins ds) p.events)
          (digits_are start mid digits r p.clocks [])
          ∙ keeps_text pins (far start mid digits r p.clocks []) p.events
          ∙ ap (λ (es : List Event). events_text pins [] (es ++ p.events)) (first_are start mid digits r p.clocks []))
          p.driven;
      front = λ more. subst (λ (bs : List ℕ). PutsFront paper.shown out bs new_out) (text_is start mid digits r p.clocks more) (p.front more);
      most = λ more. subst (λ (k : Chain). now ≤ steps + play_ticks_of code chosen n k) (sym (chain_is start mid digits r p.clocks more)) (p.most more);
    }

  -- the first clocks were broken off
  pub broken_off : (start new : C) (out : O) (steps : ℕ) → HasMadeFront cable.board cable.made start new reset_inputs →
      HasPlayedFront cable.board cable.made paper.shown pins (whole_play code chosen n base) (whole_ticks code chosen n base) start out steps new out steps
  broken_off start new out steps f = record {
    events = pulses f.made.clocks;
    clocks = f.made.clocks;
    made = rw (signals_of_pulses f.made.clocks) f.made.made;
    clocks_are = clocks_of_pulses f.made.clocks;
    rest = λ more. let far = before start f.made.clocks more in
        pulses (far_clocks (far_after far f.front) f.rest) ++ (play_of code chosen n (chain_reset base far)).events;
    runs = λ more.
        (let far = before start f.made.clocks more in
        let others : List Event = pulses (far_clocks (far_after far f.front) f.rest) in
        let after : List Event = (play_of code chosen n (chain_reset base far)).events in
        ap (λ (es : List Event). es ++ after)
        (ap (λ (is : List Input). pulses (far_clocks far is)) f.parts ∙ ap pulses (far_append far f.front f.rest)
        ∙ map-append pulse (far_clocks far f.front) (far_clocks (far_after far f.front) f.rest)
        ∙ ap (λ (ks : List Clock). pulses ks ++ others)
        (far_made (cable.board start) (cable.board start) f.made.clocks f.front f.made.went_in more f.made.seen))
        ∙ append_assoc (pulses f.made.clocks) others after);
    driven = front_nothing paper.shown out _;
    front = λ more. front_nothing paper.shown out _;
    most = λ more. omega arith;
  }

-- a fault of the second part is one of both
pub fault_after : (a b c : ℕ) (last_a last_b last_c lines : Type 0) (trouble : Trouble) → CountKept a b last_a last_b → IfFault trouble (CountRose b c last_c) lines →
    IfFault trouble (CountRose a c last_c) lines
fault_after a b c last_a last_b last_c lines CableFault kept h = rose_after kept h
fault_after a b c last_a last_b last_c lines WriteFault kept h = h
