-- Digits that are clocked one after another.
use Rattle.std.proofs.Common.{◌≡◌, ◌≢◌, ◌<◌, ◌≤◌, ◌+◌, ℕ, zero, suc, List, [], ◌∷◌, length, take, map, refl, sym, ap, subst, ◌∙◌, Bool, true, false, Option, Some, None, slice_get, arith}
use Rattle.std.specs.Prelude.{IsSome}
use Rattle.std.proofs.lemmas.Bool.{false≢true}
use Rattle.std.proofs.lemmas.Option.{same_Some, none-some}
use Rattle.dev_card.specs.declared.desc.Kind.{Kind}
use Rattle.dev_card.specs.Card.{Card}
use Rattle.dev_card.specs.Board.{Clock, board_tdo, clock_with, clocks_of, after_input}
use Rattle.dev_card.specs.Sound.{SoundCard}
use Rattle.chain_sim.specs.Places.{cards_at, IsAbsent}
use Rattle.pin_lines.specs.PinLines.{input_of_pin, clock_of_pin, inputs_of_pins}
use Rattle.pin_lines.specs.Traces.{Agrees, board_led_to}
use Rattle.trace_check.specs.Clocked.{IsOneClock, AreClocked, DiffersAt}

abbrev pub head_of : Clock → List Clock → Clock
head_of k [] = k
head_of k (x ∷ xs) = x

abbrev pub tail_of : List Clock → List Clock
tail_of [] = []
tail_of (x ∷ xs) = xs

led_more : (digits : List ℕ) (cs : List Card) (n d : ℕ) → slice_get digits n ≡ Some d
    → board_led_to cs (take (n + 1) digits) ≡ after_input (board_led_to cs (take n digits)) (input_of_pin d)
led_more [] cs n d e = absurd (none-some d e)
led_more (x ∷ xs) cs zero d e = ap (λ x. after_input cs (input_of_pin x)) (same_Some x d e)
led_more (x ∷ xs) cs (suc n) d e =
    let a : suc (n + 1) ≡ suc n + 1 = omega arith in
    ap (λ n. board_led_to cs (take n (x ∷ xs))) (sym a) ∙ led_more xs (after_input cs (input_of_pin x)) n d e

agree_more : (digits : List ℕ) (cs : List Card) (n d : ℕ) → slice_get digits n ≡ Some d → Agrees cs (take n digits)
    → board_tdo (board_led_to cs (take n digits)) (input_of_pin d).tdi ≡ (clock_of_pin d).tdo → Agrees cs (take (n + 1) digits)
agree_more [] cs n d e h t = absurd (none-some d e)
agree_more (x ∷ xs) cs zero d e h t =
    let same : x ≡ d = same_Some x d e in
    ap (λ b. clock_with (input_of_pin x) b ∷ []) (subst (λ d. board_tdo cs (input_of_pin d).tdi ≡ (clock_of_pin d).tdo) (sym same) t)
agree_more (x ∷ xs) cs (suc n) d e h t =
    let a : suc (n + 1) ≡ suc n + 1 = omega arith in
    let more : Agrees (after_input cs (input_of_pin x)) (take (n + 1) xs) = agree_more xs (after_input cs (input_of_pin x)) n d e (ap tail_of h) t in
    subst (λ n. Agrees cs (take n (x ∷ xs))) a
    (ap (λ k. k ∷ clocks_of (after_input cs (input_of_pin x)) (inputs_of_pins (take (n + 1) xs))) (ap (head_of (clock_of_pin x)) h) ∙ ap (λ ks. clock_of_pin x ∷ ks) more)

module _ {X : Type 0} (fitted : X → Option SoundCard) (kind_of : X → Kind) where
  pub record AreClockedUpTo (old new : List X) (places digits : List ℕ) (n : ℕ) : Type 0 where
    pub within : n ≤ length digits
    pub kinds : map kind_of new ≡ map kind_of old
    pub others : (k : ℕ) → IsAbsent k places → slice_get new k ≡ slice_get old k
    pub still_fitted : IsSome (cards_at (map fitted new) places)
    pub clocked : (cs : List Card) → cards_at (map fitted old) places ≡ Some cs → AreClocked cs digits n (cards_at (map fitted new) places)

  pub none_clocked : (old : List X) (places digits : List ℕ) → IsSome (cards_at (map fitted old) places) → AreClockedUpTo old old places digits 0
  none_clocked old places digits h =
      record { within = omega arith; kinds = refl; others = λ k a. refl; still_fitted = h; clocked = λ cs e. record { agree = refl; board = e } }

  not_clocked : (old now new : List X) (places digits : List ℕ) (n d : ℕ) (r : Bool) → r ≡ false → AreClockedUpTo old now places digits n
      → ((cs : List Card) → cards_at (map fitted now) places ≡ Some cs → IsOneClock cs d r (cards_at (map fitted new) places))
      → (cs : List Card) → cards_at (map fitted old) places ≡ Some cs
      → (board_tdo (board_led_to cs (take n digits)) (input_of_pin d).tdi ≢ (clock_of_pin d).tdo) × (cards_at (map fitted new) places ≡ Some (board_led_to cs (take n digits)))
  not_clocked old now new places digits n d r e h f cs is =
      let a : AreClocked cs digits n (cards_at (map fitted now) places) = h.clocked cs is in
      subst (λ r. IsOneClock (board_led_to cs (take n digits)) d r (cards_at (map fitted new) places)) e (f (board_led_to cs (take n digits)) a.board)

  pub as_far : (old now new : List X) (places digits : List ℕ) (n d : ℕ) (r : Bool) → r ≡ false → AreClockedUpTo old now places digits n
      → ((cs : List Card) → cards_at (map fitted now) places ≡ Some cs → IsOneClock cs d r (cards_at (map fitted new) places))
      → (cs : List Card) → cards_at (map fitted old) places ≡ Some cs → AreClocked cs digits n (cards_at (map fitted new) places)
  as_far old now new places digits n d r e h f cs is =
      record { agree = (h.clocked cs is).agree; board = (not_clocked old now new places digits n d r e h f cs is).1 }

  pub it_differs : (old now new : List X) (places digits : List ℕ) (n d : ℕ) (r : Bool) → r ≡ false → slice_get digits n ≡ Some d → AreClockedUpTo old now places digits n
      → ((cs : List Card) → cards_at (map fitted now) places ≡ Some cs → IsOneClock cs d r (cards_at (map fitted new) places))
      → (cs : List Card) → cards_at (map fitted old) places ≡ Some cs → DiffersAt cs digits n
  it_differs old now new places digits n d r e at h f cs is =
      record { digit = d; stands = at; differs = (not_clocked old now new places digits n d r e h f cs is).0 }

  pub some_still : (o p : Option (List Card)) → IsSome o → ((cs : List Card) → o ≡ Some cs → (x : List Card) × (p ≡ Some x)) → IsSome p
  some_still None p h f = absurd (false≢true h)
  some_still (Some cs) p h f = subst (λ p. IsSome p) (sym (f cs refl).1) refl

  pub one_more_clock : (old now new : List X) (places digits : List ℕ) (n d : ℕ) (r : Bool) → r ≡ true → slice_get digits n ≡ Some d → n < length digits → AreClockedUpTo old now places digits n
      → map kind_of new ≡ map kind_of now → ((k : ℕ) → IsAbsent k places → slice_get new k ≡ slice_get now k)
      → ((cs : List Card) → cards_at (map fitted now) places ≡ Some cs → IsOneClock cs d r (cards_at (map fitted new) places))
      → AreClockedUpTo old new places digits (n + 1)
  one_more_clock old now new places digits n d r e at lt h kinds others f =
      let g : (cs : List Card) → cards_at (map fitted now) places ≡ Some cs → IsOneClock cs d true (cards_at (map fitted new) places) =
      λ cs is. subst (λ r. IsOneClock cs d r (cards_at (map fitted new) places)) e (f cs is) in
      record {
        within = omega (arith, lt);
        kinds = kinds ∙ h.kinds;
        others = λ k a. others k a ∙ h.others k a;
        still_fitted = some_still (cards_at (map fitted now) places) (cards_at (map fitted new) places) h.still_fitted (λ cs is. (after_input cs (input_of_pin d), (g cs is).1));
        clocked = λ cs is.
            let a : AreClocked cs digits n (cards_at (map fitted now) places) = h.clocked cs is in
            let one : IsOneClock (board_led_to cs (take n digits)) d true (cards_at (map fitted new) places) = g (board_led_to cs (take n digits)) a.board in
            record {
              agree = agree_more digits cs n d at a.agree one.0;
              board = one.1 ∙ ap (λ b. Some b) (sym (led_more digits cs n d at));
            };
      }
