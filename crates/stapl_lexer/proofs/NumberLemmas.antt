-- On numbers in front of some bytes.
use Rattle.std.proofs.Common.{◌≡◌, ◌≢◌, ◌≤◌, ◌<◌, ◌+◌, ◌*◌, ◌^◌, ◌-◌, ℕ, min, List, [], ◌∷◌, ◌++◌, length, take, drop, get_or, refl, sym, ap, ◌∙◌, Bool, true, false, arith, subst, zero, suc, append-nil, add-one, inl, inr}
use Rattle.std.proofs.Math.Seq.{take-add, drop-append_seam}
use Rattle.std.proofs.lemmas.Bool.{and_parts, cases_order}
use Rattle.std.proofs.lemmas.Bool.Decides.{nat_tests}
use Rattle.std.proofs.lemmas.Int.Digits.{digits_value_more}
use Rattle.std.proofs.lemmas.List.{drop-drop, length-take-le, length-drop, get_or-drop}
use Rattle.std.proofs.lemmas.List.Sums.{take_while-cons}
use Rattle.std.specs.Char.{is_ascii_digit, digit_value}
use Rattle.std.specs.List.{list_all}
use Rattle.std.specs.Str.Parse.{digits_value}
use Rattle.stapl_lexer.specs.Runs.{StartsWithout}
use Rattle.stapl_lexer.specs.PieceTokens.{is_exponent_mark, begins_exponent, IsExponent, front_digits, number_value}
use Rattle.stapl_lexer.specs.TokenReading.{cap, IsRun, IsNumberFront}
use Rattle.stapl_lexer.proofs.RunLemmas.{run_has}
use Rattle.stapl_lexer.proofs.PieceTokenLemmas.{mark_no_digit}

-- a value that is capped at each digit is the value, capped
pub capped : (a v d limit : ℕ) → v ≡ min a limit → min (v * 10 + d) limit ≡ min (a * 10 + d) limit
capped a v d limit e = omega arith

pub digit_value_is : (b : ℕ) → is_ascii_digit b ≡ true → digit_value b ≡ b - 48
digit_value_is b h = grind (arith, nat_tests, h)

pub passes_at : (test : ℕ → Bool) (bytes : List ℕ) (i : ℕ) → list_all test bytes ≡ true → i < length bytes → test (get_or bytes i 0) ≡ true
passes_at test [] i all lt = absurd (omega arith)
passes_at test (b ∷ bs) zero all lt = (and_parts (test b) _ all).0
passes_at test (b ∷ bs) (suc i) all lt = passes_at test bs i (and_parts (test b) _ all).1 (omega arith)

pub digits_more : (digits : List ℕ) (i v limit : ℕ) → list_all is_ascii_digit digits ≡ true → i < length digits →
    v ≡ min (digits_value 10 (take i digits)) limit → min (v * 10 + (get_or digits i 0 - 48)) limit ≡ min (digits_value 10 (take (i + 1) digits)) limit
digits_more digits i v limit all lt e =
    capped (digits_value 10 (take i digits)) v (get_or digits i 0 - 48) limit e
    ∙ ap (λ (d : ℕ). min (digits_value 10 (take i digits) * 10 + d) limit) (sym (digit_value_is _ (passes_at is_ascii_digit digits i all lt)))
    ∙ ap (λ (d : ℕ). min d limit) (sym (digits_value_more 10 digits i lt))

-- one more power of ten
pub scaled_more : (value turns scaled : ℕ) → scaled ≡ min (value * 10 ^ turns) cap → min (scaled * 10) cap ≡ min (value * 10 ^ (turns + 1)) cap
scaled_more value turns scaled e =
    let power : 10 ^ (turns + 1) ≡ 10 ^ turns * 10 = ap (λ (k : ℕ). 10 ^ k) (add-one turns) ∙ omega arith in
    let product : value * 10 ^ (turns + 1) ≡ value * 10 ^ turns * 10 = ap (λ (k : ℕ). value * k) power ∙ grind arith in
    omega arith

-- the digits in front, where none follows
pub front_run : (digits rest : List ℕ) → list_all is_ascii_digit digits ≡ true → StartsWithout is_ascii_digit rest → front_digits (digits ++ rest) ≡ digits
front_run [] [] all stops = refl
front_run [] (b ∷ bs) all stops = take_while-cons is_ascii_digit b bs ∙ rw stops refl
front_run (d ∷ ds) rest all stops =
    take_while-cons is_ascii_digit d (ds ++ rest)
    ∙ rw (and_parts (is_ascii_digit d) _ all).0 (ap (λ (v : List ℕ). d ∷ v) (front_run ds rest (and_parts (is_ascii_digit d) _ all).1 stops))

after_digits : (digits rest : List ℕ) → drop (length digits + 1) (digits ++ rest) ≡ drop 1 rest
after_digits digits rest =
    sym (drop-drop 1 (length digits) (digits ++ rest)) ∙ ap (drop 1) (drop-append_seam digits rest)

value_is : (digits rest : List ℕ) → list_all is_ascii_digit digits ≡ true → StartsWithout is_ascii_digit rest →
    number_value (digits ++ rest) ≡ digits_value 10 digits * 10 ^ digits_value 10 (drop 1 rest)
value_is digits rest all stops =
    ap (λ (v : List ℕ). digits_value 10 v * 10 ^ digits_value 10 (drop (length v + 1) (digits ++ rest))) (front_run digits rest all stops)
    ∙ ap (λ (v : List ℕ). digits_value 10 digits * 10 ^ digits_value 10 v) (after_digits digits rest)

one_times : (n : ℕ) → n * 10 ^ digits_value 10 [] ≡ n
one_times n = omega arith

digits_some : (bytes : List ℕ) (n : ℕ) → 0 < n → n ≤ length bytes → take n bytes ≢ []
digits_some bytes n some within e = let l = ap length e in omega (arith, length-take-le n bytes within)

digit_has : (bytes : List ℕ) → is_ascii_digit (get_or bytes 0 0) ≡ true → 0 < length bytes
digit_has [] h = absurd cc
digit_has (b ∷ bs) h = omega arith

-- a number without an exponent
pub plain_number : (bytes : List ℕ) (n value : ℕ) → is_ascii_digit (get_or bytes 0 0) ≡ true → IsRun is_ascii_digit bytes n → begins_exponent (drop n bytes) ≡ false →
    value ≡ min (digits_value 10 (take n bytes)) cap → IsNumberFront bytes n value
plain_number bytes n value digit run ends v =
    let some : 0 < n = run_has is_ascii_digit bytes n (digit_has bytes digit) digit run in
    let own = take n bytes in
    let whole : number_value own ≡ digits_value 10 own = ap number_value (sym (append-nil own)) ∙ value_is own [] run.passes tt ∙ one_times (digits_value 10 own) in
    record {
      within = run.within;
      some = some;
      number = record { digits = own; exponent = []; parts = sym (append-nil own); are_digits = (digits_some bytes n some run.within, run.passes); ends = (run.stops, ends) };
      value_is = v ∙ ap (λ (k : ℕ). min k cap) (sym whole);
    }

exponent_has : (xs : List ℕ) → begins_exponent xs ≡ true → 1 < length xs
exponent_has [] e = absurd cc
exponent_has (x ∷ []) e = let z = (and_parts (is_exponent_mark x) _ e).1 in absurd cc
exponent_has (x ∷ y ∷ zs) e = omega arith

take_exponent : (xs : List ℕ) (m : ℕ) → 0 < length xs → take (suc m) xs ≡ get_or xs 0 0 ∷ take m (drop 1 xs)
take_exponent [] m lt = absurd (omega arith)
take_exponent (x ∷ xs) m lt = refl

power_some : (e : ℕ) → 0 < 10 ^ e
power_some zero = omega arith
power_some (suc e) = let h = power_some e in omega arith

power_more : (k : ℕ) → cap ≤ 10 ^ (10 + k)
power_more zero = omega arith
power_more (suc k) =
    let h : cap ≤ 10 ^ (10 + k) = power_more k in
    let one_more : cap ≤ 10 ^ suc (10 + k) = omega arith in
    subst (λ (j : ℕ). cap ≤ 10 ^ j) (omega arith) one_more

large_power : (e : ℕ) → 10 ≤ e → cap ≤ 10 ^ e
large_power e le = subst (λ (k : ℕ). cap ≤ 10 ^ k) (omega arith) (power_more (e - 10))

at_least : (n p : ℕ) → 0 < n → cap ≤ p → cap ≤ n * p
at_least zero p some le = absurd (omega arith)
at_least (suc n) p some le = omega arith

-- the cap of a product
times : (n p : ℕ) → 0 < p → min (min n cap * p) cap ≡ min (n * p) cap
times n p some = elim (cases_order n cap) [
  | inl e ↦ let same : min n cap ≡ n = omega arith in ap (λ (k : ℕ). min (k * p) cap) same
  | inr (inl lt) ↦ let same : min n cap ≡ n = omega arith in ap (λ (k : ℕ). min (k * p) cap) same
  | inr (inr gt) ↦ past_cap n p some (omega arith)
]
  where
    past : (k q : ℕ) → 0 < q → cap ≤ k → cap ≤ k * q
    past k zero some le = absurd (omega arith)
    past k (suc q) some le = let h : k ≤ k * suc q = omega arith in omega arith

    past_cap : (k q : ℕ) → 0 < q → cap ≤ k → min (min k cap * q) cap ≡ min (k * q) cap
    past_cap k q some le =
        let one : cap ≤ min k cap * q = past (min k cap) q some (omega arith) in
        let two : cap ≤ k * q = past k q some le in
        omega (arith, one, two)

-- ten powers are enough
pub powers : (n e : ℕ) → min (min n cap * 10 ^ min (min e cap) 10) cap ≡ min (n * 10 ^ e) cap
powers n e = times n (10 ^ min (min e cap) 10) (power_some (min (min e cap) 10)) ∙ elim (cases_order e 10) [
  | inl is ↦ let same : min (min e cap) 10 ≡ e = omega arith in ap (λ (k : ℕ). min (n * 10 ^ k) cap) same
  | inr (inl lt) ↦ let same : min (min e cap) 10 ≡ e = omega arith in ap (λ (k : ℕ). min (n * 10 ^ k) cap) same
  | inr (inr gt) ↦ let ten : min (min e cap) 10 ≡ 10 = omega arith in ap (λ (k : ℕ). min (n * 10 ^ k) cap) ten ∙ past n (10 ^ e) (large_power e (omega arith))
]
  where
    past : (n p : ℕ) → cap ≤ p → min (n * 10 ^ 10) cap ≡ min (n * p) cap
    past zero p le = omega arith
    past (suc n) p le =
        let one : cap ≤ suc n * 10 ^ 10 = at_least (suc n) (10 ^ 10) (omega arith) (omega arith) in
        let two : cap ≤ suc n * p = at_least (suc n) p (omega arith) le in
        omega (arith, one, two)

-- a number with an exponent
pub scaled_number : (bytes : List ℕ) (n m value power scaled : ℕ) → is_ascii_digit (get_or bytes 0 0) ≡ true → IsRun is_ascii_digit bytes n → begins_exponent (drop n bytes) ≡ true →
    IsRun is_ascii_digit (drop (n + 1) bytes) m → value ≡ min (digits_value 10 (take n bytes)) cap →
    power ≡ min (digits_value 10 (take m (drop (n + 1) bytes))) cap → scaled ≡ min (value * 10 ^ min power 10) cap → IsNumberFront bytes (n + 1 + m) scaled
scaled_number bytes n m value power scaled digit run begins more v p s =
    let some : 0 < n = run_has is_ascii_digit bytes n (digit_has bytes digit) digit run in
    let within : n ≤ length bytes = run.within in
    let after = drop n bytes in
    let has : 1 < length after = exponent_has after begins in
    let next : drop 1 after ≡ drop (n + 1) bytes = drop-drop 1 n bytes in
    let digits = take n bytes in
    let exponent = get_or after 0 0 ∷ take m (drop (n + 1) bytes) in
    let m_within : m ≤ length (drop (n + 1) bytes) = more.within in
    let first : is_ascii_digit (get_or (drop (n + 1) bytes) 0 0) ≡ true =
    ap (λ (w : List ℕ). is_ascii_digit (get_or w 0 0)) (sym next) ∙ ap is_ascii_digit (get_or-drop 1 after 0 0) ∙ (and_parts (is_exponent_mark (get_or after 0 0)) _ begins).1 in
    let m_some : 0 < m = run_has is_ascii_digit (drop (n + 1) bytes) m (digit_has (drop (n + 1) bytes) first) first more in
    let own : take (n + 1 + m) bytes ≡ digits ++ exponent =
    ap (λ (k : ℕ). take k bytes) (omega arith) ∙ take-add n (suc m) bytes
    ∙ ap (λ (w : List ℕ). digits ++ w) (take_exponent after m (omega arith) ∙ ap (λ (w : List ℕ). get_or after 0 0 ∷ take m w) next) in
    let ends : IsExponent exponent (drop (n + 1 + m) bytes) = (
      (and_parts (is_exponent_mark (get_or after 0 0)) _ begins).0,
      (digits_some (drop (n + 1) bytes) m m_some m_within, more.passes),
      subst (StartsWithout is_ascii_digit) (drop-drop m (n + 1) bytes) more.stops,
    ) in
    let whole : number_value (take (n + 1 + m) bytes) ≡ digits_value 10 digits * 10 ^ digits_value 10 (take m (drop (n + 1) bytes)) =
    ap number_value own ∙ value_is digits exponent run.passes (mark_no_digit (get_or after 0 0) ends.0) in
    record {
      within = omega (arith, has, m_within, length-drop n bytes, length-drop (n + 1) bytes);
      some = omega arith;
      number = record { digits = digits; exponent = exponent; parts = own; are_digits = (digits_some bytes n some within, run.passes); ends = ends };
      value_is = s ∙ ap (λ (k : ℕ). min (k * 10 ^ min power 10) cap) v
          ∙ ap (λ (k : ℕ). min (min (digits_value 10 digits) cap * 10 ^ min k 10) cap) p
          ∙ powers (digits_value 10 digits) (digits_value 10 (take m (drop (n + 1) bytes)))
          ∙ ap (λ (k : ℕ). min k cap) (sym whole);
    }
