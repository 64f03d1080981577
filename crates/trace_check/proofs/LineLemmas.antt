-- The first line of a text, and the lines up to a place.
use Rattle.std.proofs.Common.{◌≡◌, ◌<◌, ◌≤◌, ◌+◌, ◌-◌, ◌&&◌, ◌||◌, ℕ, zero, suc, List, [], ◌∷◌, length, take, drop, refl, sym, ap, ◌∙◌, Bool, true, false, cond, nat_lt, Some, None, slice_get, arith}
use Rattle.std.specs.Prelude.{not, ◌==◌, nat_le}
use Rattle.std.specs.List.{position, position_or_len, list_any, list_all}
use Rattle.std.proofs.Math.Seq.{drop-length, drop-nil}
use Rattle.std.proofs.Math.ListN.{drop_of_length-le}
use Rattle.std.proofs.lemmas.List.{length-drop}
use Rattle.std.proofs.lemmas.Bool.{ltb-true, ltb-false, le-leb}
use Rattle.pin_lines.specs.PinLines.{in_front, lines_of, is_pin_digit, are_pin_digits, is_bad_line, has_bad_line}
use Rattle.pin_lines.specs.FirstFaults.{IsFirstBadLine}

abbrev feeds : ℕ → Bool
feeds b = b == 10

found_at : (inside : Bool) (n m : ℕ) → Some m ≡ cond inside (Some n) None → (inside ≡ true) × (m ≡ n)
found_at true n m e = (refl, cc)
found_at false n m e = cc

not_found : (inside : Bool) (n : ℕ) → None ≡ cond inside (Some n) None → inside ≡ false
not_found true n e = cc
not_found false n e = refl

line_at : (xs : List ℕ) → position_or_len feeds xs < length xs → lines_of xs ≡ take (position_or_len feeds xs) xs ∷ lines_of (drop (position_or_len feeds xs + 1) xs)
line_at [] lt = absurd (omega (arith, lt))
line_at (x ∷ xs) lt = by (position_or_len feeds xs) (x == 10) lt (line_at xs)
  where
    by : (k : ℕ) (t : Bool) → cond (not t) (1 + k) 0 < length (x ∷ xs) → (k < length xs → lines_of xs ≡ take k xs ∷ lines_of (drop (k + 1) xs))
        → cond t ([] ∷ lines_of xs) (in_front x (lines_of xs)) ≡ take (cond (not t) (1 + k) 0) (x ∷ xs) ∷ lines_of (drop (cond (not t) (1 + k) 0 + 1) (x ∷ xs))
    by k true lt f = refl
    by k false lt f =
        let a : suc k ≡ 1 + k = omega arith in
        let b : suc (k + 1) ≡ 1 + k + 1 = omega arith in
        ap (in_front x) (f (omega (arith, lt))) ∙ ap (λ n. take n (x ∷ xs) ∷ lines_of (drop (k + 1) xs)) a ∙ ap (λ n. take (1 + k) (x ∷ xs) ∷ lines_of (drop n (x ∷ xs))) b

pub line_with_end : (xs : List ℕ) (n : ℕ) → Some n ≡ position feeds xs → lines_of xs ≡ take n xs ∷ lines_of (drop (n + 1) xs)
line_with_end xs n found =
    let place = found_at (nat_lt (position_or_len feeds xs) (length xs)) (position_or_len feeds xs) n found in
    let inside : position_or_len feeds xs < length xs = ltb-true _ _ place.0 in
    line_at xs inside ∙ ap (λ (k : ℕ). take k xs ∷ lines_of (drop (k + 1) xs)) (sym place.1)

one_line : (xs : List ℕ) → 0 < length xs → length xs ≤ position_or_len feeds xs → lines_of xs ≡ xs ∷ []
one_line [] some le = absurd (omega (arith, some))
one_line (x ∷ []) some le = by (x == 10) le
  where
    by : (t : Bool) → 1 ≤ cond (not t) (1 + 0) 0 → cond t ([] ∷ []) ((x ∷ []) ∷ []) ≡ (x ∷ []) ∷ []
    by true le = absurd (omega (arith, le))
    by false le = refl
one_line (x ∷ y ∷ xs) some le = by (x == 10) le (one_line (y ∷ xs) (omega arith))
  where
    by : (t : Bool) → length (x ∷ y ∷ xs) ≤ cond (not t) (1 + position_or_len feeds (y ∷ xs)) 0 → (length (y ∷ xs) ≤ position_or_len feeds (y ∷ xs) → lines_of (y ∷ xs) ≡ (y ∷ xs) ∷ [])
        → cond t ([] ∷ lines_of (y ∷ xs)) (in_front x (lines_of (y ∷ xs))) ≡ (x ∷ y ∷ xs) ∷ []
    by true le f = absurd (omega (arith, le))
    by false le f = ap (in_front x) (f (omega (arith, le)))

pub last_line : (xs : List ℕ) → None ≡ position feeds xs → 0 < length xs → lines_of xs ≡ xs ∷ lines_of (drop (length xs) xs)
last_line xs none some =
    let ge : length xs ≤ position_or_len feeds xs = ltb-false _ _ (not_found (nat_lt (position_or_len feeds xs) (length xs)) (position_or_len feeds xs) none) in
    one_line xs some ge ∙ ap (λ (r : List ℕ). xs ∷ lines_of r) (sym (drop-length xs))

pub digits_are : (bytes : List ℕ) (r : Bool) → 1 ≤ length bytes → length bytes ≤ 64 → r ≡ list_all is_pin_digit bytes → r ≡ are_pin_digits bytes
digits_are bytes r some few e =
    e ∙ sym (ap (λ t. (t && nat_le (length bytes) 64) && list_all is_pin_digit bytes) (le-leb 1 (length bytes) some)
    ∙ ap (λ t. (true && t) && list_all is_pin_digit bytes) (le-leb (length bytes) 64 few))

-- one line more
record OneMore (L R : List (List ℕ)) (k : ℕ) (x : List ℕ) : Type 0 where
  rest : drop (k + 1) L ≡ R
  stands : slice_get L k ≡ Some x
  any : list_any is_bad_line (take (k + 1) L) ≡ (list_any is_bad_line (take k L) || is_bad_line x)

one_more : (L R : List (List ℕ)) (k : ℕ) (x : List ℕ) → drop k L ≡ x ∷ R → OneMore L R k x
one_more [] R k x e = absurd (no_cons (sym (drop-nil {A = List ℕ} k) ∙ e))
  where
    no_cons : [] ≡ x ∷ R → ⊥
    no_cons e = cc
one_more (y ∷ L) R zero x e =
    let same : y ≡ x = ap (λ xs. first_of xs) e in
    record {
      rest = ap (λ (xs : List (List ℕ)). drop 1 xs) e;
      stands = ap (λ z. Some z) same;
      any = or_false (is_bad_line y) ∙ ap is_bad_line same;
    }
  where
    first_of : List (List ℕ) → List ℕ
    first_of [] = []
    first_of (z ∷ zs) = z

    or_false : (b : Bool) → (b || false) ≡ b
    or_false true = refl
    or_false false = refl
one_more (y ∷ L) R (suc k) x e =
    let m : OneMore L R k x = one_more L R k x e in
    let n : suc (k + 1) ≡ suc k + 1 = omega arith in
    record {
      rest = ap (λ n. drop n (y ∷ L)) (sym n) ∙ m.rest;
      stands = m.stands;
      any = ap (λ n. list_any is_bad_line (take n (y ∷ L))) (sym n) ∙ ap (λ t. is_bad_line y || t) m.any
          ∙ or_join (is_bad_line y) (list_any is_bad_line (take k L)) (is_bad_line x);
    }
  where
    or_join : (a b c : Bool) → (a || (b || c)) ≡ ((a || b) || c)
    or_join true b c = refl
    or_join false b c = refl

-- the lines up to a place of a text are read, and none of them is bad
pub record AreGoodUpTo (text : List ℕ) (at count : ℕ) : Type 0 where
  pub within : at ≤ length text
  pub counted : count ≤ at
  pub rest : drop count (lines_of text) ≡ lines_of (drop at text)
  pub good : list_any is_bad_line (take count (lines_of text)) ≡ false

pub drop_twice : (n k : ℕ) (xs : List ℕ) → drop n (drop k xs) ≡ drop (k + n) xs
drop_twice n zero xs = let e : n ≡ 0 + n = omega arith in ap (λ m. drop m xs) e
drop_twice n (suc k) [] = drop-nil {A = ℕ} n ∙ sym (drop-nil {A = ℕ} (suc k + n))
drop_twice n (suc k) (x ∷ xs) = let e : suc (k + n) ≡ suc k + n = omega arith in drop_twice n k xs ∙ ap (λ m. drop m (x ∷ xs)) e

pub line_read : (text rest line : List ℕ) (at count len : ℕ) → rest ≡ drop at text → AreGoodUpTo text at count → 0 < len → len ≤ length rest → lines_of rest ≡ line ∷ lines_of (drop len rest)
    → is_bad_line line ≡ false → AreGoodUpTo text (at + len) (count + 1)
line_read text rest line at count len is good some few first fine =
    let m : OneMore (lines_of text) (lines_of (drop len rest)) count line = one_more (lines_of text) (lines_of (drop len rest)) count line (good.rest ∙ ap lines_of (sym is) ∙ first) in
    let n : length rest ≡ length text - at = ap (λ (xs : List ℕ). length xs) is ∙ length-drop at text in
    record {
      within = omega (arith, n, few, good.within);
      counted = omega (arith, good.counted, some);
      rest = m.rest ∙ ap (λ xs. lines_of (drop len xs)) is ∙ ap lines_of (drop_twice len at text);
      good = m.any ∙ ap (λ t. t || is_bad_line line) good.good ∙ fine;
    }

pub bad_read : (text rest line : List ℕ) (at count len n : ℕ) → rest ≡ drop at text → AreGoodUpTo text at count → lines_of rest ≡ line ∷ lines_of (drop len rest)
    → is_bad_line line ≡ true → count + 1 ≡ n → IsFirstBadLine text n
bad_read text rest line at count len n is good first bad e =
    let m : OneMore (lines_of text) (lines_of (drop len rest)) count line = one_more (lines_of text) (lines_of (drop len rest)) count line (good.rest ∙ ap lines_of (sym is) ∙ first) in
    let k : count ≡ n - 1 = omega (arith, e) in
    record {
      some = omega (arith, e);
      line = line;
      stands = ap (λ k. slice_get (lines_of text) k) (sym k) ∙ m.stands;
      bad = bad;
      before = ap (λ k. list_any is_bad_line (take k (lines_of text))) (sym k) ∙ good.good;
    }

whole_taken : (L : List (List ℕ)) (k : ℕ) → drop k L ≡ [] → take k L ≡ L
whole_taken [] zero e = refl
whole_taken [] (suc k) e = refl
whole_taken (x ∷ L) zero e = sym e
whole_taken (x ∷ L) (suc k) e = ap (λ t. x ∷ t) (whole_taken L k e)

pub all_read : (text : List ℕ) (at count : ℕ) → AreGoodUpTo text at count → length text ≤ at → has_bad_line text ≡ false
all_read text at count good end =
    let none : drop count (lines_of text) ≡ [] = good.rest ∙ ap lines_of (drop_of_length-le text end) in
    ap (list_any is_bad_line) (sym (whole_taken (lines_of text) count none)) ∙ good.good

pub none_read : (text : List ℕ) → AreGoodUpTo text 0 0
none_read text = record { within = omega arith; counted = omega arith; rest = refl; good = refl }
