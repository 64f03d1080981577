-- On a turn over a port that is made for it.
use Rattle.std.proofs.Common.{◌≡◌, ℕ, Bool, false, List, [], ◌++◌, sym, ap, subst, ◌∙◌}
use Rattle.std.proofs.lemmas.List.{append-nil}
use Rattle.tap_states.specs.declared.Tap.{Tap}
use Rattle.dev_card.specs.Board.{Clock, tdos}
use Rattle.dev_card.specs.Padding.{BaseLengths}
use Rattle.scan_paths.specs.declared.cable.Cable.{Ghosts as CableOf}
use Rattle.scan_paths.specs.Cables.{Signal, clocks_in, whole}
use Rattle.stapl_meaning.specs.declared.events.Event.{Event}
use Rattle.stapl_meaning.specs.Deeds.{Chain}
use Rattle.stapl_meaning.specs.States.{Happened, with_events}
use Rattle.stapl_meaning.specs.Texts.{bytes_of, events_text, pin_line}
use Rattle.scan_accounts.proofs.OtherLines.{none_waits}
use Rattle.written_cable.specs.declared.paper.Paper.{Ghosts as PaperOf}
use Rattle.written_cable.specs.declared.pin_cable.PinCable.{PinCable}
use Rattle.written_cable.specs.Papers.{Puts, PutsFront}
use Rattle.written_cable.specs.Signals.{signals_of}
use Rattle.written_cable.specs.Pins.{cable_of, lines_of, tap_of, base_of, digits_of, writes_pins}
use Rattle.written_cable.specs.Ports.{chain_before, Does, DoesFront, IsOpenPort}
use Rattle.written_cable.proofs.DeedLemmas.{whole_line}
use Rattle.run_cable.specs.declared.run_cable.RunCable.{RunCable}
use Rattle.run_cable.specs.KeptRuns.{Kept, Hears, HearsIfRoom}
use Rattle.run_cable.specs.RunCables.{runs_of, LeadsRuns}
use Rattle.run_cable.specs.RunCables as runs_cable
use Rattle.account_plays.specs.AccountTurns.{chain_of, chain_heard, begun_at, IsOpenCable, Turns, TurnsFront, TurnsKept}

-- without the digits of clocks no line waits
text_whole : (es : List Event) → events_text false [] es ≡ bytes_of false [] es
text_whole es = ap (λ ds. bytes_of false [] es ++ pin_line ds) (none_waits es) ∙ append-nil (bytes_of false [] es)

-- the parts of a port before a turn and after it, by their own names
module _ {C O : Type 0} (cable : CableOf C) (paper : PaperOf O) (base : BaseLengths) (at to : Tap) (wire new_wire : C) (out new_out : O) (a b : PinCable C O)
    (wire_is : cable_of a ≡ wire) (out_is : lines_of a ≡ out) (at_is : tap_of a ≡ at) (base_is : base_of a ≡ base) (no_digit : digits_of a ≡ [])
    (no_pins : writes_pins a ≡ false) (new_wire_is : new_wire ≡ cable_of b) (new_out_is : new_out ≡ lines_of b) where
  begins : (events : List Event) (clocks : List Clock) (more : List Bool) → clocks_in (signals_of events) ≡ clocks →
      chain_heard cable base at wire events more ≡ chain_before cable paper a clocks more
  begins events clocks more e =
      ap (λ ks. chain_of cable base at wire (tdos ks ++ more)) e
      ∙ ap (λ (d : C). chain_of cable base at d (tdos clocks ++ more)) (sym wire_is)
      ∙ ap (λ (l : BaseLengths). chain_of cable l at (cable_of a) (tdos clocks ++ more)) (sym base_is)
      ∙ ap (λ (t : Tap). chain_of cable (base_of a) t (cable_of a) (tdos clocks ++ more)) (sym at_is)

  made_over : (signals : List Signal) → cable.made (cable_of a) signals (cable_of b) → cable.made wire signals new_wire
  made_over signals m = subst (λ (d : C). cable.made wire signals d) (sym new_wire_is) (subst (λ (d : C). cable.made d signals (cable_of b)) wire_is m)

  text_over : (es : List Event) → bytes_of (writes_pins a) (digits_of a) es ≡ events_text false [] es
  text_over es = ap (λ (x : Bool). bytes_of x (digits_of a) es) no_pins ∙ ap (λ ds. bytes_of false ds es) no_digit ∙ sym (text_whole es)

  put_over : (es : List Event) → Puts paper.shown (lines_of a) (bytes_of (writes_pins a) (digits_of a) es) (lines_of b) →
      Puts paper.shown out (events_text false [] es) new_out
  put_over es q =
      subst (λ (l : O). Puts paper.shown out (events_text false [] es) l) (sym new_out_is)
      (subst (λ (l : O). Puts paper.shown l (events_text false [] es) (lines_of b)) out_is
      (subst (λ t. Puts paper.shown (lines_of a) t (lines_of b)) (text_over es) q))

  front_over : (es : List Event) → PutsFront paper.shown (lines_of a) (bytes_of (writes_pins a) (digits_of a) es) (lines_of b) →
      PutsFront paper.shown out (events_text false [] es) new_out
  front_over es q =
      subst (λ (l : O). PutsFront paper.shown out (events_text false [] es) l) (sym new_out_is)
      (subst (λ (l : O). PutsFront paper.shown l (events_text false [] es) (lines_of b)) out_is
      (subst (λ t. PutsFront paper.shown (lines_of a) t (lines_of b)) (text_over es) q))

  pub turned : (turn : Chain → Happened) (count : Chain → ℕ) (steps now : ℕ) (rest : Chain → Happened) (left : Chain → ℕ) → to ≡ tap_of b → base_of b ≡ base_of a →
      Does cable paper turn count a steps rest left b now → Turns cable paper base turn at wire out rest to new_wire new_out
  turned turn count steps now rest left to_is same d = record {
    events = d.events;
    made = made_over (signals_of d.events) d.passed.made;
    put = put_over d.events d.passed.put.put;
    does = λ more.
        ap turn (begins d.events d.clocks more d.passed.clocks_are) ∙ d.does more
        ∙ ap (λ k. with_events d.events (rest k))
        (ap (λ (l : BaseLengths). chain_of cable l (tap_of b) (cable_of b) more) (same ∙ base_is)
        ∙ ap (λ (t : Tap). chain_of cable base t (cable_of b) more) (sym to_is)
        ∙ ap (λ (d : C). chain_of cable base to d more) (sym new_wire_is));
  }

  pub turned_front : (turn : Chain → Happened) (count : Chain → ℕ) (steps now : ℕ) → DoesFront cable paper turn count a steps b now →
      TurnsFront cable paper base turn at wire out new_wire new_out
  turned_front turn count steps now d = record {
    events = d.events;
    made = made_over (signals_of d.events) d.passed.made;
    put = front_over d.events d.passed.front;
    rest = d.rest;
    does = λ more. ap turn (begins d.events d.clocks more d.passed.clocks_are) ∙ d.does more;
  }

  pub open_then : to ≡ tap_of b → IsOpenPort cable paper b → IsOpenCable cable to new_wire
  open_then to_is p =
      subst (λ (d : C). IsOpenCable cable to d) (sym new_wire_is)
      (subst (λ (t : Tap). IsOpenCable cable t (cable_of b)) (sym to_is) (record { whole_cable = whole_line cable paper b p.whole_port; in_step = p.in_step }))

-- a turn over a cable whose runs are kept, by the names of its parts
module _ {C O : Type 0} (cable : CableOf C) (paper : PaperOf O) (base : BaseLengths) (at to : Tap) (old new : C) (runs new_runs : Kept) (out new_out : O)
    (a b : RunCable C) (old_is : runs_cable.cable_of a ≡ old) (new_is : new ≡ runs_cable.cable_of b) (begun_is : runs_of a ≡ begun_at at runs)
    (runs_is : new_runs ≡ runs_of b) (is_whole : cable.breakage (runs_cable.cable_of b) ≡ whole) where
  pub kept_turned : (turn rest : Chain → Happened) (events : List Event) → LeadsRuns cable.made cable.breakage a (signals_of events) b →
      Puts paper.shown out (events_text false [] events) new_out →
      ((more : List Bool) → turn (chain_heard cable base at (runs_cable.cable_of a) events more)
      ≡ with_events events (rest (chain_of cable base to (runs_cable.cable_of b) more))) →
      TurnsKept cable paper base turn at old runs out rest to new new_runs new_out
  kept_turned turn rest events leads put does =
      let signals : List Signal = signals_of events in
      record {
        turns = record {
          events = events;
          made = subst (λ (d : C). cable.made old signals d) (sym new_is) (subst (λ (d : C). cable.made d signals (runs_cable.cable_of b)) old_is leads.made);
          put = put;
          does = λ more.
              ap (λ (d : C). turn (chain_heard cable base at d events more)) (sym old_is) ∙ does more
              ∙ ap (λ (d : C). with_events events (rest (chain_of cable base to d more))) (sym new_is);
        };
        heard = subst (λ (k : Kept). Hears k signals new_runs) begun_is (subst (λ (k : Kept). Hears (runs_of a) signals k) (sym runs_is) leads.heard);
        fits = subst (λ (k : Kept). HearsIfRoom k signals new_runs) begun_is
            (subst (λ (k : Kept). HearsIfRoom (runs_of a) signals k) (sym runs_is) (leads.fits is_whole));
      }
