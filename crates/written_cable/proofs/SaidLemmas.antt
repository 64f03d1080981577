-- A wait or a frequency that a port makes on its cable and puts.
use Rattle.std.proofs.Common.{◌≡◌, ◌≢◌, ◌⊎◌, inl, inr, List, [], ◌∷◌, ◌++◌, Option, sym, subst, ◌∙◌}
use Rattle.std.proofs.lemmas.List.{append-nil}
use Rattle.dev_card.specs.Card.{Card}
use Rattle.scan_paths.specs.Cables.{Signal, Breakage, whole, IsSignalled, IsSignalledOrNot}
use Rattle.stapl_meaning.specs.declared.events.Event.{Event}
use Rattle.stapl_meaning.specs.Texts.{bytes_of, event_bytes, pin_line, event_line}
use Rattle.written_cable.specs.declared.pin_cable.PinCable.{PinCable}
use Rattle.written_cable.specs.Signals.{events_in}
use Rattle.written_cable.specs.Papers.{Shown, Puts, PutsFront, IsOverSame}
use Rattle.written_cable.specs.PaperLaws.{put_then, put_then_front, front_with}
use Rattle.written_cable.specs.Pins.{cable_of, lines_of, tap_of, digits_of, writes_pins, IsSamePort, HasPutEvents, HasMadePins}
use Rattle.written_cable.specs.PinLaws.{front_nothing}
use Rattle.written_cable.proofs.DeedLemmas.{IsNoClock, said_so, none_wait_after}

module _ {C O : Type 0} (breakage : PinCable C O → Breakage) (board : C → Option (List Card))
    (makes : C → List Signal → C → Type 0) (shown : O → Shown)
    (signal : Signal) (event : Event) (is : events_in (signal ∷ []) ≡ event ∷ []) (other : IsNoClock event)
    (a b : PinCable C O)
    (same : IsSamePort a b) (tap : tap_of b ≡ tap_of a) (over : IsOverSame shown (lines_of a) (lines_of b))
    (cards : board (cable_of b) ≡ board (cable_of a)) where
  abbrev port_board : PinCable C O → Option (List Card)
  port_board p = board (cable_of p)

  said_bytes : bytes_of (writes_pins a) (digits_of a) (event ∷ []) ≡ pin_line (digits_of a) ++ event_line event
  said_bytes = append-nil (event_bytes (writes_pins a) (digits_of a) event) ∙ said_so event other (writes_pins a)
      (digits_of a)

  made_so : (signals : List Signal) → makes (cable_of a) signals (cable_of b) →
      HasPutEvents breakage shown a (events_in signals) b → HasMadePins breakage shown makes a signals b
  made_so signals made put = record { same = same; tap = tap; over = over; made = made; put = put }

  made_one : makes (cable_of a) (signal ∷ []) (cable_of b) → HasPutEvents breakage shown a (event ∷ []) b →
      HasMadePins breakage shown makes a (signal ∷ []) b
  made_one made put = made_so (signal ∷ []) made
      (subst (λ (es : List Event). HasPutEvents breakage shown a es b) (sym is) put)

  -- nothing was put, and something is broken now
  still_put : (es : List Event) → lines_of b ≡ lines_of a → breakage b ≢ whole → HasPutEvents breakage shown a es b
  still_put es e n = record {
    all = λ w. absurd (n w);
    some = λ m. record {
      front = subst (λ (l : O). PutsFront shown (lines_of a) (bytes_of (writes_pins a) (digits_of a) es) l) (sym e)
          (front_nothing shown (lines_of a) (bytes_of (writes_pins a) (digits_of a) es));
      still = λ k. e;
    };
  }

  pub said_wholly : (m : O) → makes (cable_of a) (signal ∷ []) (cable_of b) → breakage a ≡ whole → breakage b ≡ whole →
      Puts shown (lines_of a) (pin_line (digits_of a)) m →
      Puts shown m (event_line event) (lines_of b) → digits_of b ≡ [] →
      IsSignalled port_board (HasMadePins breakage shown makes) a b signal
  said_wholly m made w now first second none = record {
    made = made_one made (record {
      all = λ e. record {
        was_whole = w;
        put = rw said_bytes (put_then first second);
        digits = none ∙ sym (none_wait_after event other (writes_pins a) (digits_of a));
      };
      some = λ n. absurd (n now);
    });
    cards = cards;
  }

  pub said_not : makes (cable_of a) [] (cable_of b) ⊎ makes (cable_of a) (signal ∷ []) (cable_of b) →
      lines_of b ≡ lines_of a → breakage b ≢ whole →
      IsSignalledOrNot port_board (HasMadePins breakage shown makes) a b signal
  said_not (inl none) e n = record { made = inl (made_so [] none (still_put [] e n)); cards = cards }
  said_not (inr one) e n = record { made = inr (made_one one (still_put (event ∷ []) e n)); cards = cards }

  said_in_part : makes (cable_of a) (signal ∷ []) (cable_of b) → breakage a ≡ whole → breakage b ≢ whole →
      PutsFront shown (lines_of a) (pin_line (digits_of a) ++ event_line event) (lines_of b) →
      IsSignalledOrNot port_board (HasMadePins breakage shown makes) a b signal
  said_in_part made w n front = record {
    made = inr (made_one made (record {
      all = λ e. absurd (n e);
      some = λ m. record { front = rw said_bytes front; still = λ k. absurd (k w) };
    }));
    cards = cards;
  }

  pub pins_failed : makes (cable_of a) (signal ∷ []) (cable_of b) → breakage a ≡ whole → breakage b ≢ whole →
      PutsFront shown (lines_of a) (pin_line (digits_of a)) (lines_of b) →
      IsSignalledOrNot port_board (HasMadePins breakage shown makes) a b signal
  pins_failed made w n first = said_in_part made w n (front_with (event_line event) first)

  pub line_failed : (m : O) → makes (cable_of a) (signal ∷ []) (cable_of b) → breakage a ≡ whole → breakage b ≢ whole →
      Puts shown (lines_of a) (pin_line (digits_of a)) m →
      PutsFront shown m (event_line event) (lines_of b) →
      IsSignalledOrNot port_board (HasMadePins breakage shown makes) a b signal
  line_failed m made w n first second = said_in_part made w n (put_then_front first second)
