-- On the calls of a cable over a wire: what was carried is what leads on from it.
use Rattle.std.proofs.Common.{◌≡◌, ◌≤◌, ℕ, List, [], ◌∷◌, map, length, Bool, true, false, refl, sym, ap, subst, ◌∙◌, ◌&&◌, not}
use Rattle.std.specs.Option.{option_map}
use Rattle.std.proofs.lemmas.Bool.{false≢true}
use Rattle.std.proofs.lemmas.List.{length-map}
use Rattle.std.proofs.lemmas.Option.{none-some}
use Rattle.dev_card.specs.Board.{Input, clock_with, board_step, board_after, tdos}
use Rattle.scan_paths.specs.Cables.{Signal, Pulses, pulsed, HasBrokenOff, IsClocked, IsSignalled, HasShifted, whole, whole_if}
use Rattle.scan_paths.proofs.Signals.{clocks_in_pulsed}
use Rattle.link_server.specs.Runs.{digit_of}
use Rattle.link_server.specs.Clients.{bytes_of_inputs, bytes_of_signals, answers_of}
use Rattle.link_server.specs.DriveLaws.{NoneCarried, driven, driven_front, bytes_pulsed, unanswered, bytes_unanswered}
use Rattle.link_cable.specs.declared.link_cable.LinkCable.{LinkCable}
use Rattle.link_cable.specs.declared.wire.Wire.{Ghosts as WireOf}
use Rattle.link_cable.specs.Wires.{told_board, HasBrokenAmong, HasClocked, HasShiftedOver}
use Rattle.link_cable.specs.LinkCables.{IsOverSame, wire_of, end_of, cable_board, board_through, IsGoodCable, StaysGoodOver, LeadsOver}

-- what a cable tells of which no call has failed
told_by : {W : Type 0} (wire : WireOf W) (c : LinkCable W) → c.is_broken ≡ false → cable_board wire.told c ≡ told_board (wire.told (wire_of c))
told_by wire c e = ap (λ b. board_through b (wire.told (wire_of c))) e

module _ {W : Type 0} (wire : WireOf W) (old new : LinkCable W) (same : IsOverSame old new) (before : old.is_broken ≡ false) where
  -- signals whose bytes went and whose answers came
  pub led : (signals : List Signal) → wire.carried (wire_of old) (bytes_of_signals false signals) (answers_of signals) (wire_of new) →
      (IsGoodCable wire.told wire.is_steady old → StaysGoodOver wire old new) → LeadsOver wire old signals new
  led signals went stays = record {
    same_wire = same;
    drives = record {
      whole = λ e. driven wire.carried false (end_of old) (end_of new) signals went;
      broken = λ e. absurd (false≢true (sym before ∙ e));
    };
    stays = λ e good. stays good;
  }

  -- a call failed among the bytes of these
  pub led_front : (inputs : List Input) → length inputs ≤ 64 → new.is_broken ≡ true → HasBrokenAmong wire.carried (wire_of old) (bytes_of_inputs inputs) (wire_of new) →
      (IsGoodCable wire.told wire.is_steady old → ⊥) → LeadsOver wire old [] new
  led_front inputs few broken h never = record {
    same_wire = same;
    drives = record {
      whole = λ e. driven_front wire.carried false (end_of old) (end_of new) (pulsed (unanswered inputs)) h.more h.rest h.uncounted
          (subst (λ n. n ≤ 64) (sym (length-map (unanswered inputs) Pulses ∙ length-map inputs (λ i. clock_with i false))) few)
          broken (bytes_unanswered false inputs ∙ h.parts) h.went;
      broken = λ e. absurd (false≢true (sym before ∙ e));
    };
    stays = λ e good. absurd (never good);
  }

  -- it tells nothing, so that no clock need be named
  pub made_nothing_over : new.is_broken ≡ true → LeadsOver wire old [] new → HasBrokenOff (cable_board wire.told) (LeadsOver wire) old new []
  made_nothing_over broken leads =
      let none = ap (λ b. board_through b (wire.told (wire_of new))) broken in
      record {
        clocks = [];
        made = leads;
        went_in = refl;
        seen = λ cs t. refl;
        cards = λ cs now t u. absurd (none-some now (sym none ∙ u));
        untold = λ t. none;
      }

  -- one clock
  pub clock_led : (tms tdi tdo : Bool) → new.is_broken ≡ false → HasClocked wire.told wire.carried (wire_of old) tms tdi tdo (wire_of new) →
      (IsGoodCable wire.told wire.is_steady old → StaysGoodOver wire old new) → IsClocked (cable_board wire.told) (LeadsOver wire) old new tms tdi tdo
  clock_led tms tdi tdo now h stays = record {
    made = led (Pulses (record { tms = tms; tdi = tdi; tdo = tdo }) ∷ []) h.went stays;
    seen = λ cs e. h.over.seen cs (sym (told_by wire old before) ∙ e);
    cards = told_by wire new now ∙ h.over.cards ∙ ap (λ o. option_map (λ cs. board_step cs tms tdi) o) (sym (told_by wire old before));
  }

  -- a block of clocks
  pub block_led : (inputs : List Input) (tdo : ℕ) → new.is_broken ≡ false → HasShiftedOver wire.told wire.carried (wire_of old) inputs tdo (wire_of new) →
      (IsGoodCable wire.told wire.is_steady old → StaysGoodOver wire old new) → HasShifted (cable_board wire.told) (LeadsOver wire) old new inputs tdo
  block_led inputs tdo now h stays = record {
    clocks = h.clocks;
    made = record {
      made = led (pulsed h.clocks)
          (subst (λ v. wire.carried (wire_of old) v (answers_of (pulsed h.clocks)) (wire_of new))
          (sym (bytes_pulsed false h.clocks ∙ ap (λ is. bytes_of_inputs is) h.over.went_in))
          (subst (λ ks. wire.carried (wire_of old) (bytes_of_inputs inputs) (map digit_of (tdos ks)) (wire_of new)) (sym (clocks_in_pulsed h.clocks)) h.went)) stays;
      went_in = h.over.went_in;
      seen = λ cs e. h.over.seen cs (sym (told_by wire old before) ∙ e);
      cards = told_by wire new now ∙ h.over.cards ∙ ap (λ o. option_map (λ cs. board_after cs inputs) o) (sym (told_by wire old before));
    };
    bits = h.bits;
  }

-- a signal for which nothing is sent
pub silent : {W : Type 0} (wire : WireOf W) → NoneCarried wire.carried → (c : LinkCable W) (signal : Signal) → c.is_broken ≡ false →
    bytes_of_signals false (signal ∷ []) ≡ [] → answers_of (signal ∷ []) ≡ [] → IsSignalled (cable_board wire.told) (LeadsOver wire) c c signal
silent wire none c signal before no_bytes no_answers = record {
  made = led wire c c refl before (signal ∷ [])
      (subst (λ v. wire.carried (wire_of c) v (answers_of (signal ∷ [])) (wire_of c)) (sym no_bytes)
      (subst (λ v. wire.carried (wire_of c) [] v (wire_of c)) (sym no_answers) (none (wire_of c))))
      (λ good. record { good = good; unbroken = before; calm = record { same = refl; last = λ h. h } });
  cards = refl;
}

-- a whole cable has had no call that failed
pub unbroken : (broken ready : Bool) → whole_if (not broken && ready) ≡ whole → broken ≡ false
unbroken true ready e = absurd (never e)
  where
    never : whole_if false ≡ whole → ⊥
    never e = cc
unbroken false ready e = refl
