-- What was driven is as the meaning of a cable must be: nothing is driven by no call, and what leads on can be joined.
use Rattle.std.proofs.Common.{◌≡◌, ◌≤◌, ℕ, Bool, true, false, List, [], ◌∷◌, ◌++◌, map, length, refl, sym, ap, subst, ◌∙◌, append_assoc, arith}
use Rattle.std.proofs.lemmas.List.{map-append, append-nil}
use Rattle.std.proofs.lemmas.Bool.{false≢true}
use Rattle.dev_card.specs.Board.{Input, Clock, clock_with, tdos}
use Rattle.scan_paths.specs.Cables.{Signal, pulsed, clocks_in, input_of}
use Rattle.scan_paths.proofs.Signals.{clocks_in_both}
use Rattle.link_server.specs.Runs.{digit_of}
use Rattle.link_server.specs.Clients.{bytes_of_input, bytes_of_inputs, bytes_of_signal, bytes_of_signals, answers_of}
use Rattle.link_server.specs.Drives.{Carrying, ClientEnd, HasDriven, IsStill, Drives}

pub bytes_both : (sleeps : Bool) (xs ys : List Signal) →
    bytes_of_signals sleeps (xs ++ ys) ≡ bytes_of_signals sleeps xs ++ bytes_of_signals sleeps ys
bytes_both sleeps [] ys = refl
bytes_both sleeps (s ∷ xs) ys =
    ap (λ v. bytes_of_signal sleeps s ++ v) (bytes_both sleeps xs ys)
    ∙ sym (append_assoc (bytes_of_signal sleeps s) (bytes_of_signals sleeps xs) (bytes_of_signals sleeps ys))

pub answers_both : (xs ys : List Signal) → answers_of (xs ++ ys) ≡ answers_of xs ++ answers_of ys
answers_both xs ys =
    ap (λ ks. map digit_of (tdos ks)) (clocks_in_both xs ys)
    ∙ ap (λ bs. map digit_of bs) (map-append (λ (k : Clock). k.tdo) (clocks_in xs) (clocks_in ys))
    ∙ map-append digit_of (tdos (clocks_in xs)) (tdos (clocks_in ys))

-- what a wire's relation has to keep: nothing is carried by no call, and what was carried can be joined
abbrev pub NoneCarried : {W : Type 0} → Carrying W → Type 0
NoneCarried {W} carried = (w : W) → carried w [] [] w

abbrev pub BothCarried : {W : Type 0} → Carrying W → Type 0
BothCarried {W} carried = (a b c : W) (bytes more answers others : List ℕ) →
    carried a bytes answers b → carried b more others c → carried a (bytes ++ more) (answers ++ others) c

-- signals that were driven whole
pub driven : {W : Type 0} (carried : Carrying W) (sleeps : Bool) (old new : ClientEnd W) (signals : List Signal) →
    carried old.wire (bytes_of_signals sleeps signals) (answers_of signals) new.wire →
    HasDriven carried sleeps old signals new
driven carried sleeps old new signals went = record {
  pending = [];
  few = omega arith;
  more = [];
  rest = [];
  parts = refl;
  uncounted = [];
  no_more = λ e. refl;
  no_uncounted = λ e. refl;
  went = subst (λ v. carried old.wire v (answers_of signals ++ []) new.wire) (sym (append-nil (bytes_of_signals sleeps signals)))
      (subst (λ v. carried old.wire (bytes_of_signals sleeps signals) v new.wire) (sym (append-nil (answers_of signals))) went);
}

-- a call failed after a front of the bytes of these
pub driven_front : {W : Type 0} (carried : Carrying W) (sleeps : Bool) (old new : ClientEnd W) (pending : List Signal)
    (more rest uncounted : List ℕ) → length pending ≤ 64 → new.is_broken ≡ true →
    bytes_of_signals sleeps pending ≡ more ++ rest → carried old.wire more uncounted new.wire →
    HasDriven carried sleeps old [] new
driven_front carried sleeps old new pending more rest uncounted few broken parts went = record {
  pending = pending;
  few = few;
  more = more;
  rest = rest;
  parts = parts;
  uncounted = uncounted;
  no_more = λ e. absurd (false≢true (sym e ∙ broken));
  no_uncounted = λ e. absurd (false≢true (sym e ∙ broken));
  went = went;
}

-- the bytes of clocks are those of their inputs
pub bytes_pulsed : (sleeps : Bool) (clocks : List Clock) →
    bytes_of_signals sleeps (pulsed clocks) ≡ bytes_of_inputs (map input_of clocks)
bytes_pulsed sleeps [] = refl
bytes_pulsed sleeps (k ∷ ks) = ap (λ v. bytes_of_input (input_of k) ++ v) (bytes_pulsed sleeps ks)

-- clocks of which no TDO is known
abbrev pub unanswered : List Input → List Clock
unanswered inputs = map (λ i. clock_with i false) inputs

pub bytes_unanswered : (sleeps : Bool) (inputs : List Input) →
    bytes_of_signals sleeps (pulsed (unanswered inputs)) ≡ bytes_of_inputs inputs
bytes_unanswered sleeps [] = refl
bytes_unanswered sleeps (i ∷ is) = ap (λ v. bytes_of_input i ++ v) (bytes_unanswered sleeps is)

pub nothing_driven : {W : Type 0} (carried : Carrying W) (sleeps : Bool) → NoneCarried carried → (end : ClientEnd W) →
    Drives carried sleeps end [] end
nothing_driven carried sleeps none end = record {
  whole = λ e. driven carried sleeps end end [] (none end.wire);
  broken = λ e. record { none = refl; same = refl };
}

-- after a part that leaves the end whole
driven_then : {W : Type 0} (carried : Carrying W) (sleeps : Bool) → BothCarried carried → (a b c : ClientEnd W)
    (front back : List Signal) → b.is_broken ≡ false → HasDriven carried sleeps a front b →
    HasDriven carried sleeps b back c → HasDriven carried sleeps a (front ++ back) c
driven_then carried sleeps both a b c front back e h g = record {
  pending = g.pending;
  few = g.few;
  more = g.more;
  rest = g.rest;
  parts = g.parts;
  uncounted = g.uncounted;
  no_more = g.no_more;
  no_uncounted = g.no_uncounted;
  went = subst (λ v. carried a.wire v (answers_of (front ++ back) ++ g.uncounted) c.wire) bytes_are
      (subst (λ v. carried a.wire (bytes_of_signals sleeps front ++ (bytes_of_signals sleeps back ++ g.more)) v c.wire) answers_are
      (both a.wire b.wire c.wire (bytes_of_signals sleeps front) (bytes_of_signals sleeps back ++ g.more) (answers_of front)
      (answers_of back ++ g.uncounted) first g.went));
}
  where
    first : carried a.wire (bytes_of_signals sleeps front) (answers_of front) b.wire
    first =
        subst (λ v. carried a.wire v (answers_of front) b.wire)
        (ap (λ m. bytes_of_signals sleeps front ++ m) (h.no_more e) ∙ append-nil (bytes_of_signals sleeps front))
        (subst (λ v. carried a.wire (bytes_of_signals sleeps front ++ h.more) v b.wire)
        (ap (λ m. answers_of front ++ m) (h.no_uncounted e) ∙ append-nil (answers_of front)) h.went)

    bytes_are : bytes_of_signals sleeps front ++ (bytes_of_signals sleeps back ++ g.more)
        ≡ bytes_of_signals sleeps (front ++ back) ++ g.more
    bytes_are =
        sym (append_assoc (bytes_of_signals sleeps front) (bytes_of_signals sleeps back) g.more)
        ∙ ap (λ v. v ++ g.more) (sym (bytes_both sleeps front back))

    answers_are : answers_of front ++ (answers_of back ++ g.uncounted) ≡ answers_of (front ++ back) ++ g.uncounted
    answers_are =
        sym (append_assoc (answers_of front) (answers_of back) g.uncounted)
        ∙ ap (λ v. v ++ g.uncounted) (sym (answers_both front back))

-- after a part that leaves it broken, nothing more
driven_still : {W : Type 0} (carried : Carrying W) (sleeps : Bool) (a b c : ClientEnd W) (front back : List Signal) →
    HasDriven carried sleeps a front b → IsStill b back c → HasDriven carried sleeps a (front ++ back) c
driven_still carried sleeps a b c front back h s =
    subst (λ c. HasDriven carried sleeps a (front ++ back) c) (sym s.same)
    (subst (λ xs. HasDriven carried sleeps a xs b) (sym (ap (λ ys. front ++ ys) s.none ∙ append-nil front)) h)

driven_by : {W : Type 0} (carried : Carrying W) (sleeps : Bool) → BothCarried carried → (a b c : ClientEnd W)
    (front back : List Signal) (t : Bool) → b.is_broken ≡ t → HasDriven carried sleeps a front b →
    Drives carried sleeps b back c → HasDriven carried sleeps a (front ++ back) c
driven_by carried sleeps both a b c front back true e h q = driven_still carried sleeps a b c front back h (q.broken e)
driven_by carried sleeps both a b c front back false e h q = driven_then carried sleeps both a b c front back e h (q.whole e)

pub driven_both : {W : Type 0} (carried : Carrying W) (sleeps : Bool) → BothCarried carried → (a b c : ClientEnd W)
    (front back : List Signal) → Drives carried sleeps a front b → Drives carried sleeps b back c →
    Drives carried sleeps a (front ++ back) c
driven_both carried sleeps both a b c front back p q = record {
  whole = λ e. driven_by carried sleeps both a b c front back b.is_broken refl (p.whole e) q;
  broken = λ e.
      let s : IsStill a front b = p.broken e in
      let t : IsStill b back c = q.broken (ap (λ c. c.is_broken) s.same ∙ e) in
      record {
        none = ap (λ xs. xs ++ back) s.none ∙ t.none;
        same = t.same ∙ s.same;
      };
}
