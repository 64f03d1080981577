-- The clocks of a block, and their digits.
use Rattle.std.proofs.Common.{◌≡◌, ◌≢◌, inl, inr, ◌<◌, ◌≤◌, ◌+◌, ◌-◌, ◌*◌, ◌^◌, ◌/◌, ◌%◌, ◌&&◌, ℕ, zero, suc, nat_eq, Bool, true, false, List, [], ◌∷◌, ◌++◌, map, length, take, drop, get_or, Option, Some, refl, sym, ap, ap₂, subst, ◌∙◌, append_assoc, arith}
use Rattle.std.proofs.lemmas.Bool.Decides.{nat_tests}
use Rattle.std.specs.Prelude.{if◌then◌else◌, slice_index}
use Rattle.std.specs.Int.{bit_at}
use Rattle.std.specs.Option.{option_map}
use Rattle.std.proofs.lemmas.List.{append-nil, length-append, length-map, length-take-le, length-drop, take-append-drop, take_all, get_or-take, ext_get_or}
use Rattle.std.proofs.Math.Pow.{pow_mono}
use Rattle.std.proofs.lemmas.Nat.Bits.{bit_at_lowest, bit_at-suc, bit_at-pow_same, bit_at-pow_other}
use Rattle.base.specs.Bits.{low_bits, number_of, bit_value}
use Rattle.base.proofs.NumberBits.{low_bits-number_of, bit_value-odd}
use Rattle.bit_lanes.specs.Pins.{digit_at}
use Rattle.dev_card.specs.Card.{Card}
use Rattle.dev_card.specs.Board.{Clock, Input, tdos, board_after}
use Rattle.dev_card.specs.Clocks.{is_nil, clocks_with, with_zero}
use Rattle.dev_card.specs.Blocks.{block_inputs}
use Rattle.scan_paths.specs.Cables.{Signal, pulsed, Breakage, whole, input_of, IsClockedOrNot, HasBrokenOff, HasMadeFront, HasShifted}
use Rattle.stapl_meaning.specs.Deeds.{pulses}
use Rattle.stapl_meaning.specs.Texts.{pin_limit, pin_line, full_line, with_digit, bytes_of, waiting}
use Rattle.written_cable.specs.declared.pin_cable.PinCable.{PinCable}
use Rattle.written_cable.specs.Blocks.{word_inputs, word_clocks, clock_digits, lines_of_digits, with_digits}
use Rattle.written_cable.specs.Resets.{digit_of_clock}
use Rattle.written_cable.specs.Papers.{Shown, Puts, PutsFront, IsOverSame}
use Rattle.written_cable.specs.PaperLaws.{puts_nothing}
use Rattle.written_cable.specs.PinLaws.{front_nothing}
use Rattle.written_cable.proofs.SignalLemmas.{events_in_pulsed}
use Rattle.written_cable.specs.Pins.{cable_of, lines_of, tap_of, digits_of, writes_pins, IsSamePort, PutsEvents, HasPutEvents, HasMadePins}
use Rattle.std.proofs.lemmas.Option.{same_Some}

own_clocks : (ks : List Clock) → clocks_with (map input_of ks) (tdos ks) ≡ ks
own_clocks [] = refl
own_clocks (k ∷ ks) = ap (λ z. k ∷ z) (own_clocks ks)

block_known : (ks : List Clock) (is : List Input) (tdo n : ℕ) → map input_of ks ≡ is → length is ≡ n → tdo ≡ number_of (tdos ks) →
    clocks_with is (low_bits n tdo) ≡ ks
block_known ks is tdo n e len f =
    let count : length (tdos ks) ≡ n = length-map ks (λ (k : Clock). k.tdo) ∙ sym (length-map ks input_of) ∙ ap length e ∙ len in
    let bits : low_bits n tdo ≡ tdos ks = ap (low_bits n) f ∙ ap (λ m. low_bits m (number_of (tdos ks))) (sym count) ∙ low_bits-number_of (tdos ks) in
    ap (clocks_with is) bits ∙ ap (λ is. clocks_with is (tdos ks)) (sym e) ∙ own_clocks ks

count_of_words : (tms tdi n : ℕ) → length (word_inputs tms tdi n) ≡ n
count_of_words tms tdi zero = refl
count_of_words tms tdi (suc n) = ap suc (count_of_words (tms / 2) (tdi / 2) n)

words_known : (ks : List Clock) (is : List Input) (tms tdi tdo n : ℕ) → word_inputs tms tdi n ≡ is → map input_of ks ≡ is →
    tdo ≡ number_of (tdos ks) → word_clocks tms tdi tdo n ≡ ks
words_known ks is tms tdi tdo n w e f =
    ap (λ is. clocks_with is (low_bits n tdo)) w ∙ block_known ks is tdo n e (ap length (sym w) ∙ count_of_words tms tdi n) f

-- ---- the digits of a block

lowest_bit : (z : ℕ) → bit_value (nat_eq (z % 2) 1) ≡ bit_at z 0
lowest_bit z = bit_value-odd (z % 2) (omega arith) ∙ sym (bit_at_lowest z)

digit_of_word : (n i t x y : ℕ) → i < n →
    get_or (clock_digits (word_clocks t x y n)) i 0 ≡ 48 + (4 * bit_at t i + (2 * bit_at x i + bit_at y i))
digit_of_word zero i t x y h = absurd (omega (arith, h))
digit_of_word (suc n) zero t x y h =
    ap (λ z. 48 + (4 * z + (2 * bit_value (nat_eq (x % 2) 1) + bit_value (nat_eq (y % 2) 1)))) (lowest_bit t)
    ∙ ap₂ (λ u v. 48 + (4 * bit_at t 0 + (2 * u + v))) (lowest_bit x) (lowest_bit y)
digit_of_word (suc n) (suc i) t x y h =
    digit_of_word n i (t / 2) (x / 2) (y / 2) (omega (arith, h))
    ∙ ap (λ z. 48 + (4 * z + (2 * bit_at (x / 2) i + bit_at (y / 2) i))) (sym (bit_at-suc t i))
    ∙ ap₂ (λ u v. 48 + (4 * bit_at t (suc i) + (2 * u + v))) (sym (bit_at-suc x i)) (sym (bit_at-suc y i))

count_of_digits : (n t x y : ℕ) → length (clock_digits (word_clocks t x y n)) ≡ n
count_of_digits zero t x y = refl
count_of_digits (suc n) t x y = ap suc (count_of_digits n (t / 2) (x / 2) (y / 2))

line_of_words : (n tms x y : ℕ) (line : List ℕ) → n ≤ length line →
    ((i : ℕ) → i < n → slice_index line i ≡ digit_at tms x y i) → take n line ≡ clock_digits (word_clocks tms x y n)
line_of_words n tms x y line room is =
    let count : length (take n line) ≡ n = length-take-le n line room in
    let one : (i : ℕ) → i < length (take n line) → get_or (take n line) i 0 ≡ get_or (clock_digits (word_clocks tms x y n)) i 0 =
    λ i h. let below : i < n = omega (arith, h, count) in
    get_or-take n line i 0 below ∙ is i below ∙ sym (digit_of_word n i tms x y below) in
    ext_get_or 0 (take n line) (clock_digits (word_clocks tms x y n)) (count ∙ sym (count_of_digits n tms x y)) one

-- ---- the inputs of a block, and of a move

last_of_first : (n x : ℕ) → is_nil (low_bits n x) ≡ nat_eq 1 (suc n)
last_of_first zero x = refl
last_of_first (suc n) x = grind (arith, nat_tests)

later : (n i : ℕ) → nat_eq (suc i + 1) (suc n) ≡ nat_eq (i + 1) n
later n i = grind (arith, nat_tests)

value_is : (b : Bool) → nat_eq (bit_value b) 1 ≡ b
value_is true = refl
value_is false = refl

pub words_of_block : (n tms x : ℕ) (last : Bool) → ((i : ℕ) → i < n → bit_at tms i ≡ bit_value (last && nat_eq (i + 1) n)) →
    word_inputs tms x n ≡ block_inputs x n last
words_of_block zero tms x last mode = refl
words_of_block (suc n) tms x last mode =
    let first : nat_eq (tms % 2) 1 ≡ last && is_nil (low_bits n (x / 2)) =
    ap (λ z. nat_eq z 1) (sym (bit_at_lowest tms) ∙ mode 0 (omega arith)) ∙ value_is (last && nat_eq 1 (suc n))
    ∙ ap (λ b. last && b) (sym (last_of_first n (x / 2))) in
    let rest : word_inputs (tms / 2) (x / 2) n ≡ block_inputs (x / 2) n last =
    words_of_block n (tms / 2) (x / 2) last (λ i h. sym (bit_at-suc tms i) ∙ mode (suc i) (omega (arith, h)) ∙ ap (λ b. bit_value (last && b)) (later n i)) in
    ap₂ (λ t is. record { tms = t; tdi = nat_eq (x % 2) 1 } ∷ is) first rest

pub words_of_moves : (n tms : ℕ) → word_inputs tms 0 n ≡ with_zero (low_bits n tms)
words_of_moves zero tms = refl
words_of_moves (suc n) tms = ap (λ is. record { tms = nat_eq (tms % 2) 1; tdi = false } ∷ is) (words_of_moves n (tms / 2))

-- TMS of a block whose last clock is marked
last_tms : (n i : ℕ) → 1 ≤ n → i < n → bit_at (2 ^ (n - 1)) i ≡ bit_value (nat_eq (i + 1) n)
last_tms n i some h = by (nat_eq (i + 1) n) refl
  where
    by : (b : Bool) → nat_eq (i + 1) n ≡ b → bit_at (2 ^ (n - 1)) i ≡ bit_value b
    by true e = let same : i ≡ n - 1 = grind (arith, nat_tests) in ap (bit_at (2 ^ (n - 1))) same ∙ bit_at-pow_same (n - 1)
    by false e = bit_at-pow_other (n - 1) i (λ same. absurd (grind (arith, nat_tests)))

pub marked_tms : (n i : ℕ) → 1 ≤ n → n ≤ 64 → i < n → bit_at (1 * 2 ^ (n - 1) % 18446744073709551616) i ≡ bit_value (nat_eq (i + 1) n)
marked_tms n i some most h =
    let below : n - 1 ≤ 63 = omega (arith, most) in
    let power : 2 ^ (n - 1) ≤ 2 ^ 63 = pow_mono below in
    let fits : 1 * 2 ^ (n - 1) % 18446744073709551616 ≡ 2 ^ (n - 1) = omega (arith, power) in
    ap (λ x. bit_at x i) fits ∙ last_tms n i some h

bytes_of_clocks : (digits : List ℕ) (ks : List Clock) → bytes_of true digits (pulses ks) ≡ lines_of_digits digits (clock_digits ks)
bytes_of_clocks digits [] = refl
bytes_of_clocks digits (k ∷ ks) = ap (λ z. full_line digits ++ z) (bytes_of_clocks (with_digit digits (digit_of_clock k)) ks)

waiting_of_clocks : (digits : List ℕ) (ks : List Clock) → waiting true digits (pulses ks) ≡ with_digits digits (clock_digits ks)
waiting_of_clocks digits [] = refl
waiting_of_clocks digits (k ∷ ks) = waiting_of_clocks (with_digit digits (digit_of_clock k)) ks

-- what a block notes is what its line of digits does
module _ (n tms x y : ℕ) (line digits : List ℕ) (room : n ≤ length line) (is : (i : ℕ) → i < n → slice_index line i ≡ digit_at tms x y i) where
  pub noted_lines : bytes_of true digits (pulses (word_clocks tms x y n)) ≡ lines_of_digits digits (take n line)
  noted_lines = bytes_of_clocks digits (word_clocks tms x y n) ∙ ap (lines_of_digits digits) (sym (line_of_words n tms x y line room is))

  pub noted_digits : waiting true digits (pulses (word_clocks tms x y n)) ≡ with_digits digits (take n line)
  noted_digits = waiting_of_clocks digits (word_clocks tms x y n) ∙ ap (with_digits digits) (sym (line_of_words n tms x y line room is))

-- ---- digits that are added at once

-- while all fit, no line becomes full
open_line : (digits : List ℕ) → length digits < pin_limit → nat_eq (length digits) pin_limit ≡ false
open_line digits h = grind (arith, nat_tests)

pub lines_fit : (digits line : List ℕ) → length digits + length line ≤ pin_limit → lines_of_digits digits line ≡ []
lines_fit digits [] h = refl
lines_fit digits (d ∷ line) h =
    ap (λ b. (if b then pin_line digits else []) ++ lines_of_digits (if b then d ∷ [] else digits ++ d ∷ []) line)
    (open_line digits (omega (arith, h)))
    ∙ lines_fit (digits ++ d ∷ []) line (omega (arith, h, length-append digits (d ∷ [])))

pub digits_fit : (digits line : List ℕ) → length digits + length line ≤ pin_limit → with_digits digits line ≡ digits ++ line
digits_fit digits [] h = sym (append-nil digits)
digits_fit digits (d ∷ line) h =
    ap (λ b. with_digits (if b then d ∷ [] else digits ++ d ∷ []) line) (open_line digits (omega (arith, h)))
    ∙ digits_fit (digits ++ d ∷ []) line (omega (arith, h, length-append digits (d ∷ [])))
    ∙ append_assoc digits (d ∷ []) line

lines_both : (digits front back : List ℕ) →
    lines_of_digits digits (front ++ back) ≡ lines_of_digits digits front ++ lines_of_digits (with_digits digits front) back
lines_both digits [] back = refl
lines_both digits (d ∷ front) back =
    ap (λ z. full_line digits ++ z) (lines_both (with_digit digits d) front back)
    ∙ sym (append_assoc (full_line digits) (lines_of_digits (with_digit digits d) front) (lines_of_digits (with_digits (with_digit digits d) front) back))

digits_both : (digits front back : List ℕ) → with_digits digits (front ++ back) ≡ with_digits (with_digits digits front) back
digits_both digits [] back = refl
digits_both digits (d ∷ front) back = digits_both (with_digit digits d) front back

-- those that fill a line, and as many as fit into the next one
full_front : (digits front : List ℕ) → length digits + length front ≡ pin_limit → nat_eq (length (digits ++ front)) pin_limit ≡ true
full_front digits front full = let e : length (digits ++ front) ≡ pin_limit = length-append digits front ∙ full in grind (arith, nat_tests)

module _ (digits front back : List ℕ) (full : length digits + length front ≡ pin_limit) where
  lines_over : 1 ≤ length back → length back ≤ pin_limit → lines_of_digits digits (front ++ back) ≡ pin_line (digits ++ front)
  lines_over some most = lines_both digits front back
      ∙ ap₂ (λ u v. u ++ lines_of_digits v back) (lines_fit digits front (omega (arith, full))) (digits_fit digits front (omega (arith, full)))
      ∙ next back some most
    where
      next : (back : List ℕ) → 1 ≤ length back → length back ≤ pin_limit → lines_of_digits (digits ++ front) back ≡ pin_line (digits ++ front)
      next [] some most = absurd (omega (arith, some))
      next (d ∷ back) some most =
          ap (λ b. (if b then pin_line (digits ++ front) else []) ++ lines_of_digits (if b then d ∷ [] else (digits ++ front) ++ d ∷ []) back)
          (full_front digits front full)
          ∙ ap (λ z. pin_line (digits ++ front) ++ z) (lines_fit (d ∷ []) back (omega (arith, most)))
          ∙ append-nil (pin_line (digits ++ front))

  digits_over : 1 ≤ length back → length back ≤ pin_limit → with_digits digits (front ++ back) ≡ back
  digits_over some most = digits_both digits front back ∙ ap (λ v. with_digits v back) (digits_fit digits front (omega (arith, full))) ∙ next back some most
    where
      next : (back : List ℕ) → 1 ≤ length back → length back ≤ pin_limit → with_digits (digits ++ front) back ≡ back
      next [] some most = absurd (omega (arith, some))
      next (d ∷ back) some most =
          ap (λ b. with_digits (if b then d ∷ [] else (digits ++ front) ++ d ∷ []) back) (full_front digits front full)
          ∙ digits_fit (d ∷ []) back (omega (arith, most))

module _ (digits line : List ℕ) (room : ℕ) (full : length digits + room ≡ pin_limit) (over : room < length line) (most : length line ≤ pin_limit) where
  filled : length digits + length (take room line) ≡ pin_limit
  filled = omega (arith, full, length-take-le room line (omega (arith, over)))

  left : length (drop room line) ≡ length line - room
  left = length-drop room line

  pub lines_full : lines_of_digits digits line ≡ pin_line (digits ++ take room line)
  lines_full = ap (lines_of_digits digits) (sym (take-append-drop room line))
      ∙ lines_over digits (take room line) (drop room line) filled (omega (arith, left, over)) (omega (arith, left, most))

  pub digits_full : with_digits digits line ≡ take (length line - room) (drop room line)
  digits_full = ap (with_digits digits) (sym (take-append-drop room line))
      ∙ digits_over digits (take room line) (drop room line) filled (omega (arith, left, over)) (omega (arith, left, most))
      ∙ sym (take_all (length line - room) (drop room line) (omega (arith, left)))

-- without pins a block puts nothing
quiet_bytes : (digits : List ℕ) (ks : List Clock) → bytes_of false digits (pulses ks) ≡ []
quiet_bytes digits [] = refl
quiet_bytes digits (k ∷ ks) = quiet_bytes digits ks

quiet_waiting : (digits : List ℕ) (ks : List Clock) → waiting false digits (pulses ks) ≡ digits
quiet_waiting digits [] = refl
quiet_waiting digits (k ∷ ks) = quiet_waiting digits ks

after_told : (before now : Option (List Card)) (is : List Input) (cs after : List Card) →
    now ≡ option_map (λ ks. board_after ks is) before → before ≡ Some cs → now ≡ Some after →
    after ≡ board_after cs is
after_told before now is cs after e t u = same_Some _ _ (sym u ∙ e ∙ ap (λ o. option_map (λ ks. board_after ks is) o) t)

-- A block over a cable whose clocks are written.
module _ {C O : Type 0} (breakage : PinCable C O → Breakage) (shown : O → Shown) (board : C → Option (List Card))
    (makes : C → List Signal → C → Type 0)
    (a b : PinCable C O) (same : IsSamePort a b) (tap : tap_of b ≡ tap_of a) (over : IsOverSame shown (lines_of a) (lines_of b)) where
  pins_made : (ks : List Clock) → makes (cable_of a) (pulsed ks) (cable_of b) → HasPutEvents breakage shown a (pulses ks) b →
      HasMadePins breakage shown makes a (pulsed ks) b
  pins_made ks m p = record { same = same; tap = tap; over = over; made = m; put = rw (events_in_pulsed ks) p }

  -- the line failed, and nothing was put
  cut_by_line : (is : List Input) → lines_of b ≡ lines_of a → breakage b ≢ whole → HasBrokenOff board makes (cable_of a) (cable_of b) is →
      HasBrokenOff (λ p. board (cable_of p)) (HasMadePins breakage shown makes) a b is
  cut_by_line is e n k = record {
    clocks = k.clocks;
    made = pins_made k.clocks k.made (record {
      all = λ w. absurd (n w);
      some = λ m. record {
        front = subst (λ (l : O). PutsFront shown (lines_of a) (bytes_of (writes_pins a) (digits_of a) (pulses k.clocks)) l) (sym e)
            (front_nothing shown (lines_of a) _);
        still = λ w. e;
      };
    });
    went_in = k.went_in;
    seen = k.seen;
    cards = k.cards;
    untold = k.untold;
  }

  pub front_by_line : (is : List Input) → lines_of b ≡ lines_of a → breakage b ≢ whole → HasMadeFront board makes (cable_of a) (cable_of b) is →
      HasMadeFront (λ p. board (cable_of p)) (HasMadePins breakage shown makes) a b is
  front_by_line is e n f = record { front = f.front; rest = f.rest; parts = f.parts; made = cut_by_line f.front e n f.made }

  pub clock_by_line : (tms tdi : Bool) → lines_of b ≡ lines_of a → breakage b ≢ whole → IsClockedOrNot board makes (cable_of a) (cable_of b) tms tdi →
      IsClockedOrNot (λ p. board (cable_of p)) (HasMadePins breakage shown makes) a b tms tdi
  clock_by_line tms tdi e n (inl none) = inl (cut_by_line [] e n none)
  clock_by_line tms tdi e n (inr one) = inr (cut_by_line (record { tms = tms; tdi = tdi } ∷ []) e n one)

  -- all clocks were made, and a line of digits failed
  pub front_by_pins : (is : List Input) (tms tdi n tdo : ℕ) → word_inputs tms tdi n ≡ is → writes_pins a ≡ true → breakage a ≡ whole → breakage b ≢ whole →
      HasShifted board makes (cable_of a) (cable_of b) is tdo →
      PutsFront shown (lines_of a) (bytes_of true (digits_of a) (pulses (word_clocks tms tdi tdo n)))
      (lines_of b) →
      HasMadeFront (λ p. board (cable_of p)) (HasMadePins breakage shown makes) a b is
  front_by_pins is tms tdi n tdo w pins was broken k f =
      let known : word_clocks tms tdi tdo n ≡ k.clocks = words_known k.clocks is tms tdi tdo n w k.made.went_in k.bits in
      record {
        front = is;
        rest = [];
        parts = sym (append-nil is);
        made = record {
          clocks = k.clocks;
          made = pins_made k.clocks k.made.made (record {
            all = λ now. absurd (broken now);
            some = λ m. record {
              front = subst (λ ks. PutsFront shown (lines_of a) (bytes_of (writes_pins a) (digits_of a) (pulses ks)) (lines_of b)) known
                  (subst (λ p. PutsFront shown (lines_of a) (bytes_of p (digits_of a) (pulses (word_clocks tms tdi tdo n))) (lines_of b)) (sym pins) f);
              still = λ now. absurd (now was);
            };
          });
          went_in = k.made.went_in;
          seen = k.made.seen;
          cards = λ cs after t u. after_told (board (cable_of a)) (board (cable_of b)) is cs after k.made.cards t u;
          untold = λ t. k.made.cards ∙ ap (λ o. option_map (λ ks. board_after ks is) o) t;
        };
      }

  shifted_so : (is : List Input) (tdo : ℕ) → breakage b ≡ whole →
      (k : HasShifted board makes (cable_of a) (cable_of b) is tdo) → PutsEvents breakage shown a (pulses k.clocks) b →
      HasShifted (λ p. board (cable_of p)) (HasMadePins breakage shown makes) a b is tdo
  shifted_so is tdo now k p = record {
    clocks = k.clocks;
    made = record {
      made = pins_made k.clocks k.made.made (record { all = λ w. p; some = λ n. absurd (n now) });
      went_in = k.made.went_in;
      seen = k.made.seen;
      cards = k.made.cards;
    };
    bits = k.bits;
  }

  pub shifted_quietly : (is : List Input) (tdo : ℕ) → writes_pins a ≡ false → lines_of b ≡ lines_of a →
      digits_of b ≡ digits_of a → breakage a ≡ whole → breakage b ≡ whole →
      HasShifted board makes (cable_of a) (cable_of b) is tdo → HasShifted (λ p. board (cable_of p)) (HasMadePins breakage shown makes) a b is tdo
  shifted_quietly is tdo pins e d was now k =
      let none : bytes_of (writes_pins a) (digits_of a) (pulses k.clocks) ≡ [] =
      ap (λ p. bytes_of p (digits_of a) (pulses k.clocks)) pins ∙ quiet_bytes (digits_of a) k.clocks in
      let kept : waiting (writes_pins a) (digits_of a) (pulses k.clocks) ≡ digits_of a =
      ap (λ p. waiting p (digits_of a) (pulses k.clocks)) pins ∙ quiet_waiting (digits_of a) k.clocks in
      shifted_so is tdo now k (record {
        was_whole = was;
        put = subst (λ z. Puts shown (lines_of a) z (lines_of b)) (sym none)
            (subst (λ (l : O). Puts shown (lines_of a) [] l) (sym e) (puts_nothing shown (lines_of a)));
        digits = d ∙ sym kept;
      })

  pub shifted_noted : (is : List Input) (tms tdi n tdo : ℕ) → word_inputs tms tdi n ≡ is → writes_pins a ≡ true → breakage a ≡ whole → breakage b ≡ whole →
      HasShifted board makes (cable_of a) (cable_of b) is tdo →
      Puts shown (lines_of a) (bytes_of true (digits_of a) (pulses (word_clocks tms tdi tdo n))) (lines_of b) →
      digits_of b ≡ waiting true (digits_of a) (pulses (word_clocks tms tdi tdo n)) →
      HasShifted (λ p. board (cable_of p)) (HasMadePins breakage shown makes) a b is tdo
  shifted_noted is tms tdi n tdo w pins was now k p d =
      let known : word_clocks tms tdi tdo n ≡ k.clocks = words_known k.clocks is tms tdi tdo n w k.made.went_in k.bits in
      shifted_so is tdo now k (record {
        was_whole = was;
        put = subst (λ ks. Puts shown (lines_of a) (bytes_of (writes_pins a) (digits_of a) (pulses ks)) (lines_of b)) known
            (subst (λ q. Puts shown (lines_of a) (bytes_of q (digits_of a) (pulses (word_clocks tms tdi tdo n))) (lines_of b)) (sym pins) p);
        digits = d ∙ ap (λ q. waiting q (digits_of a) (pulses (word_clocks tms tdi tdo n))) (sym pins)
            ∙ ap (λ ks. waiting (writes_pins a) (digits_of a) (pulses ks)) known;
      })
