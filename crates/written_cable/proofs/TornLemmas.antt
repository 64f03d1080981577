-- A clock that was made on the cable, and whose digit was not put.
use Rattle.std.proofs.Common.{◌≡◌, inr, Bool, true, false, ℕ, List, [], ◌∷◌, Option, refl, sym, ap, subst, ◌∙◌}
use Rattle.std.proofs.lemmas.List.{append-nil}
use Rattle.std.specs.Option.{option_map}
use Rattle.dev_card.specs.Card.{Card}
use Rattle.dev_card.specs.Board.{Clock, board_step}
use Rattle.scan_paths.specs.Cables.{Signal, Breakage, whole, pins, IsClocked, IsClockedOrNot}
use Rattle.stapl_meaning.specs.Deeds.{pulse}
use Rattle.stapl_meaning.specs.Texts.{bytes_of, full_line}
use Rattle.written_cable.specs.declared.pin_cable.PinCable.{PinCable}
use Rattle.written_cable.specs.Papers.{Shown, PutsFront, IsOverSame}
use Rattle.written_cable.specs.Pins.{cable_of, lines_of, tap_of, digits_of, writes_pins, IsSamePort, HasMadePins}
use Rattle.std.proofs.lemmas.Option.{same_Some}

pub pins≢whole : pins ≡ whole → ⊥
pins≢whole e = cc

clock_bytes : (p : Bool) (ds : List ℕ) (k : Clock) → p ≡ true → full_line ds ≡ bytes_of p ds (pulse k ∷ [])
clock_bytes true ds k e = sym (append-nil (full_line ds))
clock_bytes false ds k e = absurd cc

module _ {C O : Type 0} (breakage : PinCable C O → Breakage) (board : C → Option (List Card))
    (makes : C → List Signal → C → Type 0) (shown : O → Shown) where
  pub clock_torn : (a b : PinCable C O) (tms tdi tdo : Bool) → IsSamePort a b → tap_of b ≡ tap_of a →
      IsOverSame shown (lines_of a) (lines_of b) → writes_pins a ≡ true →
      breakage a ≡ whole → breakage b ≡ pins → IsClocked board makes (cable_of a) (cable_of b) tms tdi tdo →
      PutsFront shown (lines_of a) (full_line (digits_of a)) (lines_of b) →
      IsClockedOrNot (λ (p : PinCable C O). board (cable_of p)) (HasMadePins breakage shown makes) a b tms tdi
  clock_torn a b tms tdi tdo same tap over writes w broke c front =
      let k : Clock = record { tms = tms; tdi = tdi; tdo = tdo } in
      inr (record {
        clocks = k ∷ [];
        made = record {
          same = same;
          tap = tap;
          over = over;
          made = c.made;
          put = record {
            all = λ e. absurd (pins≢whole (sym broke ∙ e));
            some = λ n. record {
              front = subst (λ (bs : List ℕ). PutsFront shown (lines_of a) bs (lines_of b))
                  (clock_bytes (writes_pins a) (digits_of a) k writes) front;
              still = λ m. absurd (m w);
            };
          };
        };
        went_in = refl;
        seen = λ cs t. ap (λ (bit : Bool). let one : Clock = record { tms = tms; tdi = tdi; tdo = bit } in
            one ∷ []) (c.seen cs t);
        cards = λ cs after t u. same_Some _ _ (sym u ∙ c.cards
            ∙ ap (λ (o : Option (List Card)). option_map (λ cs. board_step cs tms tdi) o) t);
        untold = λ t. c.cards ∙ ap (λ (o : Option (List Card)). option_map (λ cs. board_step cs tms tdi) o) t;
      })
