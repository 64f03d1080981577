-- Shifting bits into a board is one equation of lists.
use Rattle.std.proofs.Common.{◌≡◌, ◌<◌, ℕ, suc, zero, Bool, true, false, List, [], ◌∷◌, ◌++◌, length, take, drop, refl, sym, ap, ◌∙◌, append_assoc, arith}
use Rattle.std.proofs.lemmas.List.{length-append, length-drop, length-take}
use Rattle.tap_states.specs.Tap.{next_of}
use Rattle.dev_card.specs.Card.{Card, step, tdo_of, tdo_in, during, entered, lowest, shifted}
use Rattle.dev_card.specs.Clocks.{still_inputs}
use Rattle.dev_card.specs.Board.{board_tdo, board_step, clocks_of, board_after, tdos}
use Rattle.dev_card.specs.Line.{list_of, with_list, shift_state, line_of, cut_back, shifted_out, left_in, AllShift}

-- shifting bits into a board is one equation of lists
pub record ShiftsLine (ir : Bool) (cs : List Card) (bits : List Bool) : Type 0 where
  pub seen : tdos (clocks_of cs (still_inputs bits)) ≡ shifted_out (line_of ir cs) bits
  pub cards : board_after cs (still_inputs bits) ≡ cut_back ir cs (left_in (line_of ir cs) bits)

-- a card that shifts
step_of : (ir : Bool) (c : Card) (b : Bool) → c.tap ≡ shift_state ir → step c false b ≡ with_list ir c (shifted (list_of ir c) b)
step_of true c b e = ap (λ t. entered (next_of t false) (during t b c)) e ∙ sym (ap (λ t. record c { tap = t; ir_list = shifted c.ir_list b }) e)
step_of false c b e = ap (λ t. entered (next_of t false) (during t b c)) e ∙ sym (ap (λ t. record c { tap = t; dr_list = shifted c.dr_list b }) e)

tdo_of_shift : (ir : Bool) (c : Card) → c.tap ≡ shift_state ir → tdo_of c ≡ lowest (list_of ir c)
tdo_of_shift true c e = ap (λ t. tdo_in t c) e
tdo_of_shift false c e = ap (λ t. tdo_in t c) e

list_of-with_list : (ir : Bool) (c : Card) (bits : List Bool) → list_of ir (with_list ir c bits) ≡ bits
list_of-with_list true c bits = refl
list_of-with_list false c bits = refl

with_list-with_list : (ir : Bool) (c : Card) (xs ys : List Bool) → with_list ir (with_list ir c xs) ys ≡ with_list ir c ys
with_list-with_list true c xs ys = refl
with_list-with_list false c xs ys = refl

with_own_list : (ir : Bool) (c : Card) → with_list ir c (list_of ir c) ≡ c
with_own_list true c = refl
with_own_list false c = refl

tap_of_with_list : (ir : Bool) (c : Card) (bits : List Bool) → (with_list ir c bits).tap ≡ c.tap
tap_of_with_list true c bits = refl
tap_of_with_list false c bits = refl

-- on lists
lowest-append : (xs ys : List Bool) → 0 < length xs → lowest (xs ++ ys) ≡ lowest xs
lowest-append [] ys h = absurd (omega arith)
lowest-append (x ∷ xs) ys h = refl

take_one_more : (xs : List Bool) (L : List Bool) (b : Bool) → take (suc (length xs)) (xs ++ (L ++ b ∷ [])) ≡ xs ++ lowest (L ++ b ∷ []) ∷ []
take_one_more [] [] b = refl
take_one_more [] (x ∷ L) b = refl
take_one_more (x ∷ xs) L b = ap (λ zs. x ∷ zs) (take_one_more xs L b)

drop_one_more : (xs M : List Bool) → drop (suc (length xs)) (xs ++ M) ≡ drop 1 M
drop_one_more [] M = refl
drop_one_more (x ∷ xs) M = drop_one_more xs M

take_own : (xs ys : List Bool) → take (length xs) (xs ++ ys) ≡ xs
take_own [] ys = refl
take_own (x ∷ xs) ys = ap (λ zs. x ∷ zs) (take_own xs ys)

drop_own : (xs ys : List Bool) → drop (length xs) (xs ++ ys) ≡ ys
drop_own [] ys = refl
drop_own (x ∷ xs) ys = drop_own xs ys

take_and_drop : (n : ℕ) (xs : List Bool) → take n xs ++ drop n xs ≡ xs
take_and_drop zero xs = refl
take_and_drop (suc n) [] = refl
take_and_drop (suc n) (x ∷ xs) = ap (λ zs. x ∷ zs) (take_and_drop n xs)

no_bits : (xs : List Bool) → length xs ≡ 0 → xs ≡ []
no_bits [] h = refl
no_bits (x ∷ xs) h = absurd (omega arith)

some_kept : (n m : ℕ) → m ≡ n → 0 < n → 0 < m
some_kept n m e h = omega arith

module _ (ir : Bool) where
  -- the TDO of a board that shifts is the first bit of its line, or what comes in
  tdo_of_line : (cs : List Card) (b : Bool) → AllShift ir cs → board_tdo cs b ≡ lowest (line_of ir cs ++ b ∷ [])
  tdo_of_line [] b h = refl
  tdo_of_line (c ∷ cs) b h =
      tdo_of_shift ir c h.0.state ∙ sym (ap lowest (append_assoc (list_of ir c) (line_of ir cs) (b ∷ [])) ∙ lowest-append (list_of ir c) (line_of ir cs ++ b ∷ []) h.0.some)

  -- one card's part of the line, one bit on
  first_part : (l L : List Bool) (b : Bool) → 0 < length l → take (length l) (drop 1 ((l ++ L) ++ b ∷ [])) ≡ shifted l (lowest (L ++ b ∷ []))
  first_part [] L b h = absurd (omega arith)
  first_part (x ∷ l) L b h = ap (λ M. take (suc (length l)) M) (append_assoc l L (b ∷ [])) ∙ take_one_more l L b

  other_part : (l L : List Bool) (b : Bool) → 0 < length l → drop (length l) (drop 1 ((l ++ L) ++ b ∷ [])) ≡ drop 1 (L ++ b ∷ [])
  other_part [] L b h = absurd (omega arith)
  other_part (x ∷ l) L b h = ap (λ M. drop (suc (length l)) M) (append_assoc l L (b ∷ [])) ∙ drop_one_more l (L ++ b ∷ [])

  pub stepped : (cs : List Card) (b : Bool) → AllShift ir cs → board_step cs false b ≡ cut_back ir cs (drop 1 (line_of ir cs ++ b ∷ []))
  stepped [] b h = refl
  stepped (c ∷ cs) b h =
      let l : List Bool = list_of ir c in
      let L : List Bool = line_of ir cs in
      let here : step c false (board_tdo cs b) ≡ with_list ir c (take (length l) (drop 1 ((l ++ L) ++ b ∷ []))) =
      step_of ir c (board_tdo cs b) h.0.state ∙ ap (λ t. with_list ir c (shifted l t)) (tdo_of_line cs b h.1) ∙ ap (with_list ir c) (sym (first_part l L b h.0.some)) in
      let there : board_step cs false b ≡ cut_back ir cs (drop (length l) (drop 1 ((l ++ L) ++ b ∷ []))) =
      stepped cs b h.1 ∙ ap (cut_back ir cs) (sym (other_part l L b h.0.some)) in
      ap (λ k. k ∷ board_step cs false b) here ∙ ap (λ ks. with_list ir c (take (length l) (drop 1 ((l ++ L) ++ b ∷ []))) ∷ ks) there

  pub line_of_cut : (cs : List Card) (xs : List Bool) → length xs ≡ length (line_of ir cs) → line_of ir (cut_back ir cs xs) ≡ xs
  line_of_cut [] xs h = sym (no_bits xs h)
  line_of_cut (c ∷ cs) xs h =
      let n : ℕ = length (list_of ir c) in
      let k : length (drop n xs) ≡ length (line_of ir cs) = omega (arith, length-drop n xs, length-append (list_of ir c) (line_of ir cs)) in
      ap (λ t. t ++ line_of ir (cut_back ir cs (drop n xs))) (list_of-with_list ir c (take n xs)) ∙ ap (λ t. take n xs ++ t) (line_of_cut cs (drop n xs) k) ∙ take_and_drop n xs

  cut_twice : (cs : List Card) (xs ys : List Bool) → length xs ≡ length (line_of ir cs) → cut_back ir (cut_back ir cs xs) ys ≡ cut_back ir cs ys
  cut_twice [] xs ys h = refl
  cut_twice (c ∷ cs) xs ys h =
      let n : ℕ = length (list_of ir c) in
      let k : length (drop n xs) ≡ length (line_of ir cs) = omega (arith, length-drop n xs, length-append (list_of ir c) (line_of ir cs)) in
      let m : length (list_of ir (with_list ir c (take n xs))) ≡ n = ap length (list_of-with_list ir c (take n xs)) ∙ omega (arith, length-take n xs, length-append (list_of ir c) (line_of ir cs)) in
      ap (λ j. with_list ir (with_list ir c (take n xs)) (take j ys) ∷ cut_back ir (cut_back ir cs (drop n xs)) (drop j ys)) m ∙ ap
      (λ d. d ∷ cut_back ir (cut_back ir cs (drop n xs)) (drop n ys)) (with_list-with_list ir c (take n xs) (take n ys)) ∙ ap (λ ds. with_list ir c (take n ys) ∷ ds)
      (cut_twice cs (drop n xs) (drop n ys) k)

  cut_own : (cs : List Card) (ys : List Bool) → cut_back ir cs (line_of ir cs ++ ys) ≡ cs
  cut_own [] ys = refl
  cut_own (c ∷ cs) ys =
      let l : List Bool = list_of ir c in
      let e = append_assoc l (line_of ir cs) ys in
      ap (λ z. with_list ir c (take (length l) z) ∷ cut_back ir cs (drop (length l) z)) e ∙ ap
      (λ z. with_list ir c z ∷ cut_back ir cs (drop (length l) (l ++ (line_of ir cs ++ ys)))) (take_own l _) ∙ ap
      (λ d. d ∷ cut_back ir cs (drop (length l) (l ++ (line_of ir cs ++ ys)))) (with_own_list ir c) ∙ ap (λ z. c ∷ cut_back ir cs z) (drop_own l _) ∙ ap (λ ds. c ∷ ds) (cut_own cs ys)

  pub cut_shifts : (cs : List Card) (xs : List Bool) → length xs ≡ length (line_of ir cs) → AllShift ir cs → AllShift ir (cut_back ir cs xs)
  cut_shifts [] xs h a = tt
  cut_shifts (c ∷ cs) xs h a =
      let n : ℕ = length (list_of ir c) in
      let k : length (drop n xs) ≡ length (line_of ir cs) = omega (arith, length-drop n xs, length-append (list_of ir c) (line_of ir cs)) in
      let m : length (list_of ir (with_list ir c (take n xs))) ≡ n = ap length (list_of-with_list ir c (take n xs)) ∙ omega (arith, length-take n xs, length-append (list_of ir c) (line_of ir cs)) in (
        record {
          state = tap_of_with_list ir c (take n xs) ∙ a.0.state;
          some =
              some_kept (length (list_of ir c)) (length (list_of ir (with_list ir c (take n xs)))) m a.0.some;
        },
        cut_shifts cs (drop n xs) k a.1,
      )

  -- the line after one bit
  line_after : List Card → Bool → List Bool
  line_after cs b = drop 1 (line_of ir cs ++ b ∷ [])

  same_length : (cs : List Card) (b : Bool) → length (line_after cs b) ≡ length (line_of ir cs)
  unfolding line_after
  same_length cs b = omega (arith, length-drop 1 (line_of ir cs ++ b ∷ []), length-append (line_of ir cs) (b ∷ []))

  out_more : (L : List Bool) (b : Bool) (bs : List Bool) → 0 < length L → lowest (L ++ b ∷ []) ∷ take (length bs) (drop 1 (L ++ b ∷ []) ++ bs) ≡ take (suc (length bs)) (L ++ b ∷ bs)
  out_more [] b bs h = absurd (omega arith)
  out_more (x ∷ L) b bs h = ap (λ z. x ∷ take (length bs) z) (append_assoc L (b ∷ []) bs)

  left_more : (L : List Bool) (b : Bool) (bs : List Bool) → 0 < length L → drop (length bs) (drop 1 (L ++ b ∷ []) ++ bs) ≡ drop (suc (length bs)) (L ++ b ∷ bs)
  left_more [] b bs h = absurd (omega arith)
  left_more (x ∷ L) b bs h = ap (λ z. drop (length bs) z) (append_assoc L (b ∷ []) bs)

  pub shifts : (bits : List Bool) (cs : List Card) → 0 < length (line_of ir cs) → AllShift ir cs → ShiftsLine ir cs bits
  unfolding line_after
  shifts [] cs h a = record { seen = refl; cards = sym (cut_own cs []) }
  shifts (b ∷ bs) cs h a =
      let L : List Bool = line_of ir cs in
      let L1 : List Bool = drop 1 (L ++ b ∷ []) in
      let next : List Card = cut_back ir cs L1 in
      let n : length L1 ≡ length L = same_length cs b in
      let line : line_of ir next ≡ L1 = line_of_cut cs L1 n in
      let rest = shifts bs next (omega (arith, ap length line)) (cut_shifts cs L1 n a) in
      let e : board_step cs false b ≡ next = stepped cs b a in
      record {
        seen = ap (λ k. board_tdo cs b ∷ tdos (clocks_of k (still_inputs bs))) e ∙ ap (λ z. board_tdo cs b ∷ z) rest.seen ∙ ap
            (λ z. board_tdo cs b ∷ take (length bs) (z ++ bs)) line ∙ ap (λ t. t ∷ take (length bs) (L1 ++ bs)) (tdo_of_line cs b a) ∙ out_more L b bs h;
        cards = ap (λ k. board_after k (still_inputs bs)) e ∙ rest.cards ∙ ap (λ z. cut_back ir next (drop (length bs) (z ++ bs))) line ∙ cut_twice cs L1 _ n ∙ ap
            (cut_back ir cs) (left_more L b bs h);
      }
