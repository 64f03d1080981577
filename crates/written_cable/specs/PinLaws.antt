-- Clocks of a cable whose clocks are shown can be joined.
use Rattle.std.proofs.Common.{◌≡◌, ℕ, Bool, List, [], ◌∷◌, ◌++◌, ◌≢◌, refl, sym, ap, subst, ◌∙◌, append_assoc}
use Rattle.written_cable.specs.Papers.{Shown, Puts, PutsFront}
use Rattle.written_cable.specs.PaperLaws.{put_then, put_then_front, front_with, puts_nothing}
use Rattle.tool_io.proofs.BytesLemmas.{then_bytes-nothing}
use Rattle.scan_paths.specs.Cables.{Signal, Pulses, Waits, Tunes, Breakage, whole, line, pins}
use Rattle.stapl_meaning.specs.declared.events.Event.TheVariants.{Usec, Hertz}
use Rattle.written_cable.specs.Signals.{events_in}
use Rattle.stapl_meaning.specs.declared.events.Event.{Event}
use Rattle.stapl_meaning.specs.Deeds.{pulse}
use Rattle.stapl_meaning.specs.Texts.{event_bytes, digits_after, bytes_of, waiting}
use Rattle.written_cable.specs.declared.pin_cable.PinCable.{PinCable}
use Rattle.written_cable.specs.Pins.{cable_of, lines_of, digits_of, writes_pins, IsSamePort, PutsEvents, PutsEventsFront, HasPutEvents, HasMadePins}

pub bytes_both : (p : Bool) (digits : List ℕ) (xs ys : List Event) → bytes_of p digits (xs ++ ys) ≡ bytes_of p digits xs ++ bytes_of p (waiting p digits xs) ys
bytes_both p digits [] ys = refl
bytes_both p digits (x ∷ xs) ys =
    ap (λ z. event_bytes p digits x ++ z) (bytes_both p (digits_after p digits x) xs ys)
    ∙ sym (append_assoc (event_bytes p digits x) (bytes_of p (digits_after p digits x) xs) (bytes_of p (waiting p (digits_after p digits x) xs) ys))

pub waiting_both : (p : Bool) (digits : List ℕ) (xs ys : List Event) → waiting p digits (xs ++ ys) ≡ waiting p (waiting p digits xs) ys
waiting_both p digits [] ys = refl
waiting_both p digits (x ∷ xs) ys = waiting_both p (digits_after p digits x) xs ys

-- joined signals as events
pub events_in_both : (xs ys : List Signal) → events_in (xs ++ ys) ≡ events_in xs ++ events_in ys
events_in_both [] ys = refl
events_in_both (Pulses k ∷ xs) ys = ap (λ (z : List Event). pulse k ∷ z) (events_in_both xs ys)
events_in_both (Waits n ∷ xs) ys = ap (λ (z : List Event). Usec n ∷ z) (events_in_both xs ys)
events_in_both (Tunes n ∷ xs) ys = ap (λ (z : List Event). Hertz n ∷ z) (events_in_both xs ys)

pub same_port : {C O : Type 0} (a : PinCable C O) → IsSamePort a a
same_port a = record { cable = refl; out = refl; pins = refl; base = refl }

pub same_both : {C O : Type 0} {a b c : PinCable C O} → IsSamePort a b → IsSamePort b c → IsSamePort a c
same_both p q = record { cable = q.cable ∙ p.cable; out = q.out ∙ p.out; pins = q.pins ∙ p.pins; base = q.base ∙ p.base }

-- nothing is a front of any bytes
pub front_nothing : {O : Type 0} (shown : O → Shown) (lines : O) (bytes : List ℕ) → PutsFront shown lines bytes lines
front_nothing shown lines bytes = record {
  front = [];
  rest = (shown lines).waiting_bytes ++ bytes;
  parts = refl;
  went = sym (then_bytes-nothing (shown lines).told_bytes);
  waits = λ h. record { more = bytes; is = refl };
}

front_same : {O : Type 0} {shown : O → Shown} {a b : O} → b ≡ a → (bytes : List ℕ) → PutsFront shown a bytes b
front_same {shown = shown} {a = a} e bytes = subst (λ (l : _). PutsFront shown a bytes l) (sym e) (front_nothing shown a bytes)

front_still : {O : Type 0} (shown : O → Shown) (a b c : O) (bytes : List ℕ) → c ≡ b → PutsFront shown a bytes b → PutsFront shown a bytes c
front_still shown a b c bytes e f = subst (λ l. PutsFront shown a bytes l) (sym e) f

line≢whole : line ≡ whole → ⊥
line≢whole e = cc

pins≢whole : pins ≡ whole → ⊥
pins≢whole e = cc

module _ {C O : Type 0} (breakage : PinCable C O → Breakage) (shown : O → Shown) where
  -- no event, and nothing happened to the lines
  pub put_nothing : (a b : PinCable C O) → lines_of b ≡ lines_of a → digits_of b ≡ digits_of a →
      (breakage b ≡ whole → breakage a ≡ whole) → HasPutEvents breakage shown a [] b
  put_nothing a b e d was = record {
    all = λ w. record { was_whole = was w; put = subst (λ (l : O). Puts shown (lines_of a) [] l) (sym e) (puts_nothing shown (lines_of a)); digits = d };
    some = λ n. record { front = front_same e []; still = λ m. e };
  }

  pub put_none : (a : PinCable C O) → HasPutEvents breakage shown a [] a
  put_none a = put_nothing a a refl refl (λ w. w)

  bytes_split : (a b : PinCable C O) (xs ys : List Event) → writes_pins b ≡ writes_pins a → PutsEvents breakage shown a xs b →
      bytes_of (writes_pins a) (digits_of a) (xs ++ ys) ≡ bytes_of (writes_pins a) (digits_of a) xs ++ bytes_of (writes_pins b) (digits_of b) ys
  bytes_split a b xs ys e p =
      bytes_both (writes_pins a) (digits_of a) xs ys
      ∙ ap (λ (p : Bool). bytes_of (writes_pins a) (digits_of a) xs ++ bytes_of p (waiting (writes_pins a) (digits_of a) xs) ys) (sym e)
      ∙ ap (λ (d : List ℕ). bytes_of (writes_pins a) (digits_of a) xs ++ bytes_of (writes_pins b) d ys) (sym p.digits)

  pub events_both : (a b c : PinCable C O) (xs ys : List Event) → writes_pins b ≡ writes_pins a →
      PutsEvents breakage shown a xs b → PutsEvents breakage shown b ys c → PutsEvents breakage shown a (xs ++ ys) c
  events_both a b c xs ys e p q = record {
    was_whole = p.was_whole;
    put = rw (bytes_split a b xs ys e p) (put_then p.put q.put);
    digits = q.digits ∙ ap (λ (d : List ℕ). waiting (writes_pins b) d ys) p.digits
        ∙ ap (λ (p : Bool). waiting p (waiting (writes_pins a) (digits_of a) xs) ys) e ∙ sym (waiting_both (writes_pins a) (digits_of a) xs ys);
  }

  pub events_both_front : (a b c : PinCable C O) (xs ys : List Event) → writes_pins b ≡ writes_pins a → PutsEvents breakage shown a xs b →
      PutsFront shown (lines_of b) (bytes_of (writes_pins b) (digits_of b) ys) (lines_of c) →
      PutsFront shown (lines_of a) (bytes_of (writes_pins a) (digits_of a) (xs ++ ys)) (lines_of c)
  events_both_front a b c xs ys e p q = rw (bytes_split a b xs ys e p) (put_then_front p.put q)

  -- a front of the first events is one of all
  pub events_front_with : (a c : PinCable C O) (xs ys : List Event) → PutsFront shown (lines_of a) (bytes_of (writes_pins a) (digits_of a) xs) (lines_of c) →
      PutsFront shown (lines_of a) (bytes_of (writes_pins a) (digits_of a) (xs ++ ys)) (lines_of c)
  events_front_with a c xs ys f =
      rw (bytes_both (writes_pins a) (digits_of a) xs ys) (front_with (bytes_of (writes_pins a) (waiting (writes_pins a) (digits_of a) xs) ys) f)

  broken_before : (a b c : PinCable C O) (xs ys : List Event) → breakage b ≢ whole →
      HasPutEvents breakage shown a xs b → PutsEventsFront breakage shown b ys c → PutsEventsFront breakage shown a (xs ++ ys) c
  broken_before a b c xs ys n p q =
      let first = p.some n in
      let stood = q.still n in
      record {
        front = front_still shown (lines_of a) (lines_of b) (lines_of c) _ stood (events_front_with a b xs ys first.front);
        still = λ w. stood ∙ first.still w;
      }

  both_some : (now : Breakage) (a b c : PinCable C O) (xs ys : List Event) → breakage b ≡ now → writes_pins b ≡ writes_pins a →
      HasPutEvents breakage shown a xs b → PutsEventsFront breakage shown b ys c → PutsEventsFront breakage shown a (xs ++ ys) c
  both_some whole a b c xs ys e same p q =
      let first = p.all e in
      record { front = events_both_front a b c xs ys same first q.front; still = λ w. absurd (w first.was_whole) }
  both_some line a b c xs ys e same p q = broken_before a b c xs ys (λ w. line≢whole (sym e ∙ w)) p q
  both_some pins a b c xs ys e same p q = broken_before a b c xs ys (λ w. pins≢whole (sym e ∙ w)) p q

  pub put_both : (a b c : PinCable C O) (xs ys : List Event) → writes_pins b ≡ writes_pins a →
      HasPutEvents breakage shown a xs b → HasPutEvents breakage shown b ys c → HasPutEvents breakage shown a (xs ++ ys) c
  put_both a b c xs ys e p q = record {
    all = λ w. let second = q.all w in events_both a b c xs ys e (p.all second.was_whole) second;
    some = λ w. both_some (breakage b) a b c xs ys refl e p (q.some w);
  }

  module _ (makes : C → List Signal → C → Type 0) where
    pub made_none : (a : PinCable C O) → makes (cable_of a) [] (cable_of a) → HasMadePins breakage shown makes a [] a
    made_none a m = record { same = same_port a; tap = refl; over = refl; made = m; put = put_none a }

    pub made_both : (a b c : PinCable C O) (front back : List Signal) →
        makes (cable_of a) (front ++ back) (cable_of c) →
        HasMadePins breakage shown makes a front b → HasMadePins breakage shown makes b back c → HasMadePins breakage shown makes a (front ++ back) c
    made_both a b c front back m p q = record {
      same = same_both p.same q.same;
      tap = q.tap ∙ p.tap;
      over = q.over ∙ p.over;
      made = m;
      put = rw (events_in_both front back) (put_both a b c (events_in front) (events_in back) p.same.pins p.put q.put);
    }
