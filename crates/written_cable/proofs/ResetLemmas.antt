-- The first clocks of a play, one after another.
use Rattle.std.proofs.Common.{◌≡◌, ◌≤◌, ◌+◌, ℕ, Bool, true, false, List, [], ◌∷◌, ◌++◌, length, map, Option, Some, append_assoc, refl, sym, ap, ◌∙◌, arith, length-append}
use Rattle.std.proofs.lemmas.List.{append-nil, map-append}
use Rattle.std.specs.Option.{option_map}
use Rattle.dev_card.specs.Card.{Card}
use Rattle.dev_card.specs.Board.{Clock, Input, clocks_of, board_after}
use Rattle.dev_card.proofs.ScanLines.{clocks-append, after_none, after_both}
use Rattle.scan_paths.specs.Cables.{Signal, Pulses, pulsed, input_of, IsClocked}
use Rattle.scan_paths.proofs.Way.{IsUnderWay}
use Rattle.dev_card.specs.FarEnds.{FarEnd, Told, Heard, far_clocks}
use Rattle.stapl_meaning.specs.declared.events.Event.{Event}
use Rattle.stapl_meaning.specs.Plays.{reset_inputs, reset_events}
use Rattle.stapl_meaning.specs.Texts.{events_text}
use Rattle.written_cable.specs.Resets.{digit_of_clock, IsReset, kept_digits}

-- what a run that begins with the kept digits puts is the text of the first clocks and of the events of the run
pub keeps_text : (pins : Bool) (far : FarEnd) (events : List Event) →
    events_text pins (kept_digits pins (map digit_of_clock (far_clocks far reset_inputs))) events ≡ events_text pins [] (reset_events far ++ events)
keeps_text true (Told cs) events = refl
keeps_text true (Heard bs) events = refl
keeps_text false (Told cs) events = refl
keeps_text false (Heard bs) events = refl

-- one clock with TMS 1
abbrev pub one : Input
one = record { tms = true; tdi = false }

abbrev pub one_with : Bool → Clock
one_with tdo = record { tms = true; tdi = false; tdo = tdo }

module _ {C : Type 0} (board : C → Option (List Card)) (makes : C → List Signal → C → Type 0) where
  -- of five clocks with TMS 1 some were made, and these are their digits
  pub record IsNoted (start now : C) (rest : List Input) (digits : List ℕ) : Type 0 where
    pub front : List Input
    pub parts : reset_inputs ≡ front ++ rest
    pub clocks : List Clock
    pub made : makes start (pulsed clocks) now
    pub went_in : map input_of clocks ≡ front
    pub seen : (cs : List Card) → board start ≡ Some cs → clocks ≡ clocks_of cs front
    pub cards : board now ≡ option_map (λ cs. board_after cs front) (board start)
    pub digits_are : digits ≡ map digit_of_clock clocks

  pub noted_none : (start : C) (digits : List ℕ) → digits ≡ [] → makes start [] start → IsNoted start start reset_inputs digits
  noted_none start digits e m = record {
    front = [];
    parts = refl;
    clocks = [];
    made = m;
    went_in = refl;
    seen = λ cs t. refl;
    cards = after_none (board start);
    digits_are = e;
  }

  pub noted_more : ((a b c : C) (front back : List Signal) → makes a front b → makes b back c →
      makes a (front ++ back) c) →
      (start now next : C) (rest : List Input) (digits : List ℕ) (tdo : Bool) → IsClocked board makes now next true false tdo →
      IsNoted start now (one ∷ rest) digits → IsNoted start next rest (digits ++ digit_of_clock (one_with tdo) ∷ [])
  noted_more both start now next rest digits tdo k n = record {
    front = n.front ++ one ∷ [];
    parts = n.parts ∙ sym (append_assoc n.front (one ∷ []) rest);
    clocks = n.clocks ++ one_with tdo ∷ [];
    made = rw (map-append Pulses n.clocks (one_with tdo ∷ []))
        (both start now next (pulsed n.clocks) (pulsed (one_with tdo ∷ [])) n.made k.made);
    went_in = map-append input_of n.clocks (one_with tdo ∷ []) ∙ ap (λ (z : List Input). z ++ one ∷ []) n.went_in;
    seen = λ cs t.
        (let mid : board now ≡ Some (board_after cs n.front) = n.cards ∙ ap (λ (o : Option (List Card)). option_map (λ (ks : List Card). board_after ks n.front) o) t in
        ap (λ (z : List Clock). z ++ one_with tdo ∷ []) (n.seen cs t)
        ∙ ap (λ (b : Bool). clocks_of cs n.front ++ one_with b ∷ []) (k.seen (board_after cs n.front) mid) ∙ sym (clocks-append n.front (one ∷ []) cs));
    cards = k.cards ∙ ap (λ (o : Option (List Card)). option_map (λ (ks : List Card). board_after ks (one ∷ [])) o) n.cards ∙ after_both (board start) n.front (one ∷ []);
    digits_are = ap (λ (ds : List ℕ). ds ++ digit_of_clock (one_with tdo) ∷ []) n.digits_are ∙ sym (map-append digit_of_clock n.clocks (one_with tdo ∷ []));
  }

  pub noted_way : (start now : C) (rest : List Input) (digits : List ℕ) → IsNoted start now rest digits → IsUnderWay board makes start now rest reset_inputs
  noted_way start now rest digits n = record {
    front = n.front;
    parts = n.parts;
    made = record { clocks = n.clocks; made = record { made = n.made; went_in = n.went_in; seen = n.seen; cards = n.cards } };
  }

  pub noted_all : (start now : C) (digits : List ℕ) → IsNoted start now [] digits → IsReset board makes start now digits
  noted_all start now digits n =
      let e : n.front ≡ reset_inputs = sym (n.parts ∙ append-nil n.front) in
      record {
        made = record {
          clocks = n.clocks;
          made = record {
            made = n.made;
            went_in = n.went_in ∙ e;
            seen = λ cs t. n.seen cs t ∙ ap (clocks_of cs) e;
            cards = n.cards ∙ ap (λ (is : List Input). option_map (λ (cs : List Card). board_after cs is) (board start)) e;
          };
        };
        digits_are = n.digits_are;
      }

pub length_more : (xs : List ℕ) (x n : ℕ) → length xs ≤ n → length (xs ++ x ∷ []) ≤ n + 1
length_more xs x n h = let e : length (xs ++ x ∷ []) ≡ length xs + 1 = length-append xs (x ∷ []) in omega arith
