-- What calls of a wire carry in a row, and by their results.
use Rattle.std.proofs.Common.{◌≡◌, ◌+◌, ◌⊎◌, inl, inr, ℕ, List, [], ◌∷◌, ◌++◌, length, take, drop, Bool, Option, Result, Ok, Err, refl, sym, ap, subst, ◌∙◌, append_assoc, arith}
use Rattle.std.specs.Prelude.{IsErr}
use Rattle.std.specs.Option.{option_map}
use Rattle.std.proofs.Math.ListN.{take-append-drop}
use Rattle.std.proofs.lemmas.List.{append-nil, take_all}
use Rattle.link_server.specs.Counts.{CountStill}
use Rattle.link_server.specs.Drives.{Carrying}
use Rattle.link_server.specs.DriveLaws.{NoneCarried, BothCarried}
use Rattle.link_cable.specs.Wires.{WireState, sent, told_sent, received, HasReceived, CarriesTold, HasTaken, HasTakenFront, AllCarried, HasBrokenAmong, ClockOver, ShiftOver}
use Rattle.dev_card.specs.Board.{Input}
use Rattle.link_server.specs.Clients.{bytes_of_inputs}
use Rattle.link_cable.specs.Wires.{bytes_of_clock}

-- ---- bytes that are sent

module _ {W : Type 0} (carried : Carrying W) (none : NoneCarried carried) (both : BothCarried carried) where
  pub none_taken : (w : W) (bytes : List ℕ) → HasTaken carried w bytes bytes w
  none_taken w bytes = record { front = []; parts = refl; went = none w }

  -- a front more was taken
  pub taken_more : (a b c : W) (bytes rest front back : List ℕ) → rest ≡ front ++ back → HasTaken carried a bytes rest b → carried b front [] c →
      HasTaken carried a bytes back c
  taken_more a b c bytes rest front back e h went = record {
    front = h.front ++ front;
    parts = h.parts ∙ ap (λ v. h.front ++ v) e ∙ sym (append_assoc h.front front back);
    went = both a b c h.front front [] [] h.went went;
  }

  pub taken_next : (a b c : W) (bytes rest : List ℕ) (n : ℕ) → HasTaken carried a bytes rest b → carried b (take n rest) [] c →
      HasTaken carried a bytes (drop n rest) c
  taken_next a b c bytes rest n h went = taken_more a b c bytes rest (take n rest) (drop n rest) (sym (take-append-drop n rest)) h went

  pub front_next : (a b c : W) (bytes rest : List ℕ) → HasTaken carried a bytes rest b → HasTakenFront carried b rest c → HasTakenFront carried a bytes c
  front_next a b c bytes rest h f =
      record { rest = f.rest; taken = taken_more a b c bytes rest f.taken.front f.rest f.taken.parts h f.taken.went }

  -- no byte is left
  pub all_taken : (a b : W) (bytes rest : List ℕ) → length rest ≡ 0 → HasTaken carried a bytes rest b → carried a bytes [] b
  all_taken a b bytes [] e h = subst (λ v. carried a v [] b) (sym (h.parts ∙ append-nil h.front)) h.went
  all_taken a b bytes (x ∷ rest) e h = absurd (omega (arith, e))

  -- ---- one clock
  pub broken_sending : (a b : W) (bytes : List ℕ) → HasTakenFront carried a bytes b → HasBrokenAmong carried a bytes b
  broken_sending a b bytes f = record { more = f.taken.front; rest = f.rest; parts = f.taken.parts; uncounted = []; went = f.taken.went }

  -- all bytes went, and then these answers came, if any
  pub broken_after : (a b c : W) (bytes answers : List ℕ) → carried a bytes [] b → carried b [] answers c → HasBrokenAmong carried a bytes c
  broken_after a b c bytes answers went came = record {
    more = bytes;
    rest = [];
    parts = sym (append-nil bytes);
    uncounted = answers;
    went = subst (λ v. carried a v answers c) (append-nil bytes) (both a b c bytes [] [] answers went came);
  }

  pub one_exchanged : (a b c : W) (bytes sent_bytes : List ℕ) (answer digit : ℕ) → sent_bytes ≡ bytes → answer ≡ digit → carried a sent_bytes [] b →
      carried b [] (answer ∷ []) c → carried a bytes (digit ∷ []) c
  one_exchanged a b c bytes sent_bytes answer digit is_bytes is_digit went came =
      subst (λ v. carried a v (digit ∷ []) c) (append-nil sent_bytes ∙ is_bytes)
      (subst (λ d. carried a (sent_bytes ++ []) (d ∷ []) c) is_digit (both a b c sent_bytes [] [] (answer ∷ []) went came))

-- ---- by results

pub all_failed : {W T E : Type 0} (carried : Carrying W) (old new : W) (bytes : List ℕ) (r : Result T E) → IsErr r → HasTakenFront carried old bytes new →
    AllCarried carried old bytes r new
all_failed carried old new bytes (Ok x) is f = absurd cc
all_failed carried old new bytes (Err e) is f = f

pub clock_over_failed : {W E : Type 0} (told : W → Option WireState) (carried : Carrying W) (old new : W) (tms tdi : Bool) (r : Result Bool E) → IsErr r →
    HasBrokenAmong carried old (bytes_of_clock tms tdi) new → ClockOver told carried old tms tdi r new
clock_over_failed told carried old new tms tdi (Ok x) is f = absurd cc
clock_over_failed told carried old new tms tdi (Err e) is f = f

pub shift_over_failed : {W E : Type 0} (told : W → Option WireState) (carried : Carrying W) (old new : W) (inputs : List Input) (r : Result ℕ E) → IsErr r →
    HasBrokenAmong carried old (bytes_of_inputs inputs) new → ShiftOver told carried old inputs r new
shift_over_failed told carried old new inputs (Ok x) is f = absurd cc
shift_over_failed told carried old new inputs (Err e) is f = f

-- ---- a told link

pub sent_carries : (old new : Option WireState) (bytes : List ℕ) → new ≡ told_sent old bytes → CarriesTold old (take (length bytes) bytes) [] new
sent_carries old new bytes e = subst (λ v. CarriesTold old v [] new) (sym (take_all (length bytes) bytes (omega arith))) (record {
  untold = λ none. e ∙ ap (λ o. told_sent o bytes) none;
  told = λ s is. record { now = sent s bytes; now_is = e ∙ ap (λ o. told_sent o bytes) is; end = refl; answers_are = refl };
})

pub received_carries : (old new : Option WireState) (buffer : List ℕ) (n : ℕ) → HasReceived old n buffer new → CarriesTold old [] (take n buffer) new
received_carries old new buffer n h = record {
  untold = λ e. h.state ∙ ap (λ o. option_map (λ s. received s n) o) e;
  told = λ s e. record {
    now = received s n;
    now_is = h.state ∙ ap (λ o. option_map (λ s. received s n) o) e;
    end = refl;
    answers_are = append-nil s.waiting ∙ sym (take-append-drop n s.waiting) ∙ ap (λ v. v ++ drop n s.waiting) (sym (h.answers s e));
  };
}

-- ---- counts

pub still_start : (now : ℕ) (last : Type 0) → CountStill now now last last
still_start now last = record { same = refl; last = λ h. h }

pub still_then : {a b c : ℕ} {last_a last_b last_c : Type 0} → CountStill a b last_a last_b → CountStill b c last_b last_c → CountStill a c last_a last_c
still_then first next = record { same = next.same ∙ first.same; last = λ h. first.last (next.last h) }

pub sum_still : {a b c d : ℕ} {last_a last_b last_c last_d : Type 0} → CountStill a b last_a last_b → CountStill c d last_c last_d →
    CountStill (a + c) (b + d) (last_a ⊎ last_c) (last_b ⊎ last_d)
sum_still left right = record {
  same = omega (arith, left.same, right.same);
  last = λ h. elim h [ inl l ↦ inl (left.last l) | inr r ↦ inr (right.last r) ];
}
