-- The clocks of the lines up to a place of a text.
use Rattle.std.proofs.Common.{◌≡◌, ◌≢◌, ◌<◌, ◌≤◌, ◌+◌, ◌-◌, ◌||◌, ◌&&◌, ◌==◌, ℕ, zero, suc, List, [], ◌∷◌, ◌++◌, length, take, drop, map, refl, sym, ap, subst, ◌∙◌, Bool, true, false, cond, not, Option, Some, None, slice_get, arith, length-append}
use Rattle.std.specs.Prelude.{IsSome, nat_le, unwrap_or, slice_index_or}
use Rattle.std.specs.List.{flat_map, list_any, list_all}
use Rattle.std.specs.Option.{option_map_or}
use Rattle.std.proofs.Math.Seq.{drop-nil, drop-append_seam}
use Rattle.std.proofs.Math.ListN.{drop_of_length-le}
use Rattle.std.proofs.lemmas.Bool.{or_parts, and_parts, leb-true, not-false}
use Rattle.std.proofs.lemmas.List.{length-drop, take-append-le}
use Rattle.std.proofs.lemmas.Option.{none-some}
use Rattle.dev_card.specs.declared.desc.Kind.{Kind}
use Rattle.dev_card.specs.Card.{Card}
use Rattle.dev_card.specs.Board.{board_tdo, clocks_of, after_input}
use Rattle.dev_card.specs.Sound.{SoundCard}
use Rattle.chain_sim.specs.Places.{cards_at, IsAbsent}
use Rattle.pin_lines.specs.PinLines.{lines_of, after_mark, is_pin_digit, are_pin_digits, is_bad_line, has_bad_line, line_digits, pins_in, input_of_pin, clock_of_pin, inputs_of_pins}
use Rattle.pin_lines.specs.Traces.{Agrees, board_led_to}
use Rattle.trace_check.specs.Clocked.{AreClocked, DiffersAt, IsTraced, IsTracedUpTo}
use Rattle.trace_check.proofs.LineLemmas.{drop_twice}
use Rattle.trace_check.proofs.ClockLemmas.{head_of, tail_of, AreClockedUpTo, some_still}

led_join : (xs ys : List ℕ) (cs : List Card) → board_led_to cs (xs ++ ys) ≡ board_led_to (board_led_to cs xs) ys
led_join [] ys cs = refl
led_join (x ∷ xs) ys cs = led_join xs ys (after_input cs (input_of_pin x))

agree_join : (xs ys : List ℕ) (cs : List Card) → Agrees cs xs → Agrees (board_led_to cs xs) ys → Agrees cs (xs ++ ys)
agree_join [] ys cs h k = k
agree_join (x ∷ xs) ys cs h k =
    ap (λ c. c ∷ clocks_of (after_input cs (input_of_pin x)) (inputs_of_pins (xs ++ ys))) (ap (head_of (clock_of_pin x)) h)
    ∙ ap (λ ks. clock_of_pin x ∷ ks) (agree_join xs ys (after_input cs (input_of_pin x)) (ap tail_of h) k)

none_taken : (xs : List ℕ) (k : ℕ) → xs ≡ [] → take k xs ≡ []
none_taken [] zero e = refl
none_taken [] (suc k) e = refl
none_taken (x ∷ xs) k e = cc

front_none : (front back : List ℕ) → [] ≡ front ++ back → front ≡ []
front_none [] back e = refl
front_none (x ∷ front) back e = cc

-- what is taken of more digits, by those that are left
take_more : (all front back : List ℕ) (n m : ℕ) → drop n all ≡ front ++ back → m ≤ length front → take (n + m) all ≡ take n all ++ take m front
take_more all front back zero m e le =
    let z : 0 + m ≡ m = omega arith in
    ap (λ k. take k all) z ∙ ap (take m) e ∙ take-append-le m front back le
take_more [] front back (suc n) m e le =
    none_taken [] (suc n + m) refl ∙ sym (none_taken front m (front_none front back (sym (drop-nil {A = ℕ} (suc n)) ∙ e)))
take_more (x ∷ all) front back (suc n) m e le =
    let z : suc n + m ≡ suc (n + m) = omega arith in
    ap (λ k. take k (x ∷ all)) z ∙ ap (λ t. x ∷ t) (take_more all front back n m e le)

slice_front : (front back : List ℕ) (m d : ℕ) → slice_get front m ≡ Some d → slice_get (front ++ back) m ≡ Some d
slice_front [] back m d e = absurd (none-some d e)
slice_front (x ∷ front) back zero d e = e
slice_front (x ∷ front) back (suc m) d e = slice_front front back m d e

slice_more : (all front back : List ℕ) (n m d : ℕ) → drop n all ≡ front ++ back → slice_get front m ≡ Some d → slice_get all (n + m) ≡ Some d
slice_more all front back zero m d e f =
    let z : 0 + m ≡ m = omega arith in
    ap (slice_get all) z ∙ ap (λ (xs : List ℕ). slice_get xs m) e ∙ slice_front front back m d f
slice_more [] front back (suc n) m d e f =
    absurd (none-some d (ap (λ (xs : List ℕ). slice_get xs m) (sym (front_none front back (sym (drop-nil {A = ℕ} (suc n)) ∙ e))) ∙ f))
slice_more (x ∷ all) front back (suc n) m d e f =
    let z : suc n + m ≡ suc (n + m) = omega arith in
    ap (slice_get (x ∷ all)) z ∙ slice_more all front back n m d e f

-- ---- the digits of a line

pub digits_short : (line : List ℕ) → length (line_digits line) ≤ length line
digits_short [] = omega arith
digits_short (a ∷ []) = omega arith
digits_short (a ∷ b ∷ rest) = by (a == 67 && b == 32)
  where
    by : (t : Bool) → length (unwrap_or (cond t (Some rest) None) []) ≤ length (a ∷ b ∷ rest)
    by true = omega arith
    by false = omega arith

each_digit : (ds : List ℕ) → list_all is_pin_digit ds ≡ true → (k : ℕ) → k < length ds → 48 ≤ slice_index_or ds k 48
each_digit [] h k lt = absurd (omega (arith, lt))
each_digit (d ∷ ds) h zero lt = leb-true 48 d (and_parts (nat_le 48 d) (nat_le d 55) (and_parts (is_pin_digit d) (list_all is_pin_digit ds) h).0).0
each_digit (d ∷ ds) h (suc k) lt = each_digit ds (and_parts (is_pin_digit d) (list_all is_pin_digit ds) h).1 k (omega (arith, lt))

pub digits_of_good : (line : List ℕ) → is_bad_line line ≡ false → (k : ℕ) → k < length (line_digits line) → 48 ≤ slice_index_or (line_digits line) k 48
digits_of_good line h = by (after_mark line) h
  where
    by : (o : Option (List ℕ)) → option_map_or (λ bytes. not (are_pin_digits bytes)) o false ≡ false → (k : ℕ) → k < length (unwrap_or o []) → 48 ≤ slice_index_or (unwrap_or o []) k 48
    by None h k lt = absurd (omega (arith, lt))
    by (Some ds) h k lt = each_digit ds (and_parts _ (list_all is_pin_digit ds) (not-false (are_pin_digits ds) h)).1 k lt

-- ---- the loop

module _ {X : Type 0} (fitted : X → Option SoundCard) (kind_of : X → Kind) where
  pub record AreTracedUpTo (old new : List X) (places text : List ℕ) (at total : ℕ) : Type 0 where
    pub within : at ≤ length text
    pub small : total ≤ at
    pub rest : drop total (pins_in text) ≡ pins_in (drop at text)
    pub good : has_bad_line (drop at text) ≡ false
    pub clocked : AreClockedUpTo fitted kind_of old new places (pins_in text) total

  pub none_traced : (old : List X) (places text : List ℕ) → IsSome (cards_at (map fitted old) places) → has_bad_line text ≡ false → AreTracedUpTo old old places text 0 0
  none_traced old places text h good = record {
    within = omega arith;
    small = omega arith;
    rest = refl;
    good = good;
    clocked = record { within = omega arith; kinds = refl; others = λ k a. refl; still_fitted = h; clocked = λ cs e. record { agree = refl; board = e } };
  }

  module _ (old now new : List X) (places text rest line digits : List ℕ) (at total len n : ℕ) (is : rest ≡ drop at text) (h : AreTracedUpTo old now places text at total)
      (few : len ≤ length rest) (short : length line ≤ len) (first : lines_of rest ≡ line ∷ lines_of (drop len rest)) (own : digits ≡ line_digits line)
      (most : n ≤ length digits)
      (clocks : (cs : List Card) → cards_at (map fitted now) places ≡ Some cs → AreClocked cs digits n (cards_at (map fitted new) places)) where
    back : List ℕ
    back = pins_in (drop len rest)

    left_over : drop total (pins_in text) ≡ digits ++ pins_in (drop len rest)
    left_over = h.rest ∙ ap pins_in (sym is) ∙ ap (flat_map line_digits) first ∙ ap (λ t. t ++ pins_in (drop len rest)) (sym own)

    pub so_far : (cs : List Card) → cards_at (map fitted old) places ≡ Some cs → AreClocked cs (pins_in text) (total + n) (cards_at (map fitted new) places)
    so_far cs e =
        let a : AreClocked cs (pins_in text) total (cards_at (map fitted now) places) = h.clocked.clocked cs e in
        let b : AreClocked (board_led_to cs (take total (pins_in text))) digits n (cards_at (map fitted new) places) = clocks (board_led_to cs (take total (pins_in text))) a.board in
        let taken : take (total + n) (pins_in text) ≡ take total (pins_in text) ++ take n digits = take_more (pins_in text) digits (pins_in (drop len rest)) total n left_over most in
        record {
          agree = subst (Agrees cs) (sym taken) (agree_join (take total (pins_in text)) (take n digits) cs a.agree b.agree);
          board = b.board ∙ ap (λ b. Some b) (sym (ap (board_led_to cs) taken ∙ led_join (take total (pins_in text)) (take n digits) cs));
        }

    pub differs_so : ((cs : List Card) → cards_at (map fitted now) places ≡ Some cs → DiffersAt cs digits n) → (i : ℕ) → total + n + 1 ≡ i
        → (cs : List Card) → cards_at (map fitted old) places ≡ Some cs → IsTracedUpTo cs (pins_in text) i (cards_at (map fitted new) places)
    differs_so f i e cs o =
        let a : AreClocked cs (pins_in text) total (cards_at (map fitted now) places) = h.clocked.clocked cs o in
        let all : AreClocked cs (pins_in text) (total + n) (cards_at (map fitted new) places) = so_far cs o in
        let d : DiffersAt (board_led_to cs (take total (pins_in text))) digits n = f (board_led_to cs (take total (pins_in text))) a.board in
        let k : total + n ≡ i - 1 = omega (arith, e) in
        let taken : take (total + n) (pins_in text) ≡ take total (pins_in text) ++ take n digits = take_more (pins_in text) digits (pins_in (drop len rest)) total n left_over most in
        let led : board_led_to (board_led_to cs (take total (pins_in text))) (take n digits) ≡ board_led_to cs (take (i - 1) (pins_in text)) =
        sym (led_join (take total (pins_in text)) (take n digits) cs) ∙ ap (board_led_to cs) (sym taken) ∙ ap (λ k. board_led_to cs (take k (pins_in text))) k in
        record {
          first = record {
            some = omega (arith, e);
            digit = d.digit;
            stands = ap (slice_get (pins_in text)) (sym k) ∙ slice_more (pins_in text) digits (pins_in (drop len rest)) total n d.digit left_over d.stands;
            before = subst (λ k. Agrees cs (take k (pins_in text))) k all.agree;
            differs = subst (λ (b : List Card). board_tdo b (input_of_pin d.digit).tdi ≢ (clock_of_pin d.digit).tdo) led d.differs;
          };
          board = all.board ∙ ap (λ k. Some (board_led_to cs (take k (pins_in text)))) k;
        }

    pub one_more_line : n ≡ length digits → map kind_of new ≡ map kind_of now → ((k : ℕ) → IsAbsent k places → slice_get new k ≡ slice_get now k)
        → AreTracedUpTo old new places text (at + len) (total + n)
    one_more_line whole kinds others =
        let bad : (is_bad_line line || has_bad_line (drop len rest)) ≡ false = sym (ap (list_any is_bad_line) first) ∙ ap has_bad_line is ∙ h.good in
        let r : length rest ≡ length text - at = ap (λ (xs : List ℕ). length xs) is ∙ length-drop at text in
        let far : drop len rest ≡ drop (at + len) text = ap (drop len) is ∙ drop_twice len at text in
        let size : length digits ≤ length line = subst (λ ds. length ds ≤ length line) (sym own) (digits_short line) in
        let total_is : length (drop total (pins_in text)) ≡ length digits + length (pins_in (drop len rest)) =
        ap (λ (xs : List ℕ). length xs) left_over ∙ length-append digits (pins_in (drop len rest)) in
        let lost : length (drop total (pins_in text)) ≡ length (pins_in text) - total = length-drop total (pins_in text) in
        record {
          within = omega (arith, r, few, h.within);
          small = omega (arith, h.small, whole, size, short);
          rest = sym (drop_twice n total (pins_in text)) ∙ ap (drop n) left_over ∙ ap (λ k. drop k (digits ++ pins_in (drop len rest))) whole
              ∙ drop-append_seam digits (pins_in (drop len rest)) ∙ ap pins_in far;
          good = ap has_bad_line (sym far) ∙ (or_parts (is_bad_line line) (has_bad_line (drop len rest)) bad).1;
          clocked = record {
            within = omega (arith, h.clocked.within, total_is, lost, most);
            kinds = kinds ∙ h.clocked.kinds;
            others = λ k a. others k a ∙ h.clocked.others k a;
            still_fitted = some_still fitted kind_of (cards_at (map fitted now) places) (cards_at (map fitted new) places) h.clocked.still_fitted
                (λ cs e. (board_led_to cs (take n digits), (clocks cs e).board));
            clocked = so_far;
          };
        }

    pub line_is_good : is_bad_line line ≡ false
    line_is_good = (or_parts (is_bad_line line) (has_bad_line (drop len rest)) (sym (ap (list_any is_bad_line) first) ∙ ap has_bad_line is ∙ h.good)).0

  whole_taken : (xs : List ℕ) (k : ℕ) → drop k xs ≡ [] → k ≤ length xs → (take k xs ≡ xs) × (k ≡ length xs)
  whole_taken [] zero e le = (refl, refl)
  whole_taken [] (suc k) e le = absurd (omega (arith, le))
  whole_taken (x ∷ xs) zero e le = cc
  whole_taken (x ∷ xs) (suc k) e le = let p = whole_taken xs k e (omega (arith, le)) in (ap (λ t. x ∷ t) p.0, ap suc p.1)

  pub all_traced : (old new : List X) (places text : List ℕ) (at total n : ℕ) → AreTracedUpTo old new places text at total → length text ≤ at → total ≡ n
      → (cs : List Card) → cards_at (map fitted old) places ≡ Some cs → IsTraced cs (pins_in text) n (cards_at (map fitted new) places)
  all_traced old new places text at total n h end e cs o =
      let none : drop total (pins_in text) ≡ [] = h.rest ∙ ap pins_in (drop_of_length-le text end) in
      let p = whole_taken (pins_in text) total none h.clocked.within in
      let a : AreClocked cs (pins_in text) total (cards_at (map fitted new) places) = h.clocked.clocked cs o in
      record {
        count = sym e ∙ p.1;
        agrees = subst (Agrees cs) p.0 a.agree;
        board = a.board ∙ ap (λ ds. Some (board_led_to cs ds)) p.0;
      }
