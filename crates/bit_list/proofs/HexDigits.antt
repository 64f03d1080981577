-- Hexadecimal digits: those of a word, and those of a list of bits in parts.
use Rattle.std.proofs.Common.{◌≡◌, ◌≤◌, ◌<◌, ℕ, zero, suc, ◌+◌, ◌-◌, ◌*◌, ◌/◌, ◌%◌, ◌^◌, Bool, List, [], ◌∷◌, ◌++◌, length, take, drop, get_or, refl, sym, ap, ap₂, ◌∙◌, subst, arith}
use Rattle.std.proofs.lemmas.List.{drop-drop, drop_all, length-drop, length-take-le, drop-take, take_all}
use Rattle.std.proofs.lemmas.Nat.{pow-add}
use Rattle.std.proofs.Math.Nat.{pow-suc, mod-eq_of_lt}
use Rattle.std.proofs.Math.Seq.{drop-cons}
use Rattle.base.specs.Bits.{low_bits, number_of}
use Rattle.base.proofs.NumberBits.{length-low_bits, number_of-low_bits, number_of-below, number_of-drop, number_of-take}
use Rattle.bit_list.specs.Ranges.{taken}
use Rattle.bit_list.proofs.Splices.{taken_of_first, length_taken}
use Rattle.bit_list.proofs.WordMoves.{bits_of_part}
use Rattle.bit_list.specs.Hexadecimal.{hex_digit, digits_needed, hex_digits, all_hex_digits}

-- ---- the digits of a number

power_of_16 : (k : ℕ) → 2 ^ (4 * k) ≡ 16 ^ k
power_of_16 zero = refl
power_of_16 (suc k) =
    let e : 4 * suc k ≡ 4 + 4 * k = omega arith in
    ap (λ (n : ℕ). 2 ^ n) e ∙ pow-add 2 4 (4 * k) ∙ ap (λ (n : ℕ). 16 * n) (power_of_16 k) ∙ omega (arith, pow-suc 16 k)

-- a digit of a word, by how far the word is shifted for it
pub digit_shifted : (word k : ℕ) → k < 16 → hex_digit (word / 2 ^ (60 - 4 * k) % 16) ≡ hex_digit (word / 16 ^ (15 - k) % 16)
digit_shifted word k h =
    let places : 60 - 4 * k ≡ 4 * (15 - k) = omega (arith, h) in
    ap (λ (d : ℕ). hex_digit (word / d % 16)) (ap (λ (n : ℕ). 2 ^ n) places ∙ power_of_16 (15 - k))

-- a digit of a list, by the number that the list stands for
digit_of : (k : ℕ) (bits : List Bool) → number_of (taken (4 * k) 4 bits) ≡ number_of bits / 16 ^ k % 16
digit_of k bits =
    number_of-take 4 (drop (4 * k) bits) ∙ ap (λ (n : ℕ). n % 16) (number_of-drop (4 * k) bits ∙ ap (λ (d : ℕ). number_of bits / d) (power_of_16 k))

-- ---- the digits of a word

module _ (digits : List ℕ) (word : ℕ) (all : length digits ≡ 16)
    (each : (k : ℕ) → k < 16 → get_or digits k 0 ≡ hex_digit (word / 16 ^ (15 - k) % 16)) where
  -- the last digits are those of each list of bits that stands for the word
  pub last_digits : (m : ℕ) (bits : List Bool) → m ≤ 16 → number_of bits ≡ word → drop (16 - m) digits ≡ hex_digits m bits
  last_digits zero bits h e = drop_all 16 digits (omega (arith, all))
  last_digits (suc m) bits h e =
      let place : 16 - suc m ≡ 15 - m = omega (arith, h) in
      let next : suc (15 - m) ≡ 16 - m = omega (arith, h) in
      let power : 15 - (15 - m) ≡ m = omega (arith, h) in
      let digit : get_or digits (15 - m) 0 ≡ hex_digit (number_of (taken (4 * m) 4 bits)) =
      each (15 - m) (omega arith) ∙ ap (λ (k : ℕ). hex_digit (word / 16 ^ k % 16)) power
      ∙ ap (λ (w : ℕ). hex_digit (w / 16 ^ m % 16)) (sym e) ∙ ap hex_digit (sym (digit_of m bits)) in
      ap (λ (k : ℕ). drop k digits) place ∙ drop-cons digits (15 - m) 0 (omega (arith, all))
      ∙ ap₂ (λ (d : ℕ) (k : ℕ). d ∷ drop k digits) digit next
      ∙ ap (λ (l : List ℕ). hex_digit (number_of (taken (4 * m) 4 bits)) ∷ l) (last_digits m bits (omega (arith, h)) e)

  -- those of the lowest bits of the word, if the others are 0
  pub digits_of_part : (len first : ℕ) → len ≤ 64 → word < 2 ^ len → first ≡ 16 - (len + 3) / 4 →
      take (16 - first) (drop first digits) ≡ all_hex_digits (low_bits len word)
  digits_of_part len first most fits place =
      let whole : number_of (low_bits len word) ≡ word = number_of-low_bits len word ∙ mod-eq_of_lt fits in
      take_all (16 - first) (drop first digits) (omega (arith, all, length-drop first digits))
      ∙ ap (λ (k : ℕ). drop k digits) place
      ∙ last_digits ((len + 3) / 4) (low_bits len word) (omega (arith, most)) whole
      ∙ ap (λ (n : ℕ). hex_digits (digits_needed n) (low_bits len word)) (sym (length-low_bits len word))

-- ---- the digits of a list, word by word

-- those from digit a on, and then those below it
digits_from : (a m : ℕ) (bits : List Bool) → hex_digits (a + m) bits ≡ hex_digits m (drop (4 * a) bits) ++ hex_digits a bits
digits_from a zero bits = let e : a + 0 ≡ a = omega arith in ap (λ (n : ℕ). hex_digits n bits) e
digits_from a (suc m) bits =
    let e : a + suc m ≡ suc (a + m) = omega arith in
    let place : 4 * (a + m) ≡ 4 * a + 4 * m = omega arith in
    ap (λ (n : ℕ). hex_digits n bits) e
    ∙ ap₂ (λ (l : List Bool) (rest : List ℕ). hex_digit (number_of (take 4 l)) ∷ rest)
    (ap (λ (k : ℕ). drop k bits) place ∙ sym (drop-drop (4 * m) (4 * a) bits)) (digits_from a m bits)

-- the lowest digits do not see what stands above them
digits_below : (m n : ℕ) (bits : List Bool) → 4 * m ≤ n → hex_digits m (take n bits) ≡ hex_digits m bits
digits_below zero n bits h = refl
digits_below (suc m) n bits h =
    ap₂ (λ (l : List Bool) (rest : List ℕ). hex_digit (number_of l) ∷ rest)
    (taken_of_first n (4 * m) 4 bits (omega (arith, h))) (digits_below m n bits (omega (arith, h)))

-- the digits of the lowest bits: those of the bits from a place on at which a digit begins, and then those below it
digits_parted : (left low : ℕ) (bits : List Bool) → low ≤ left → left ≤ length bits → low % 4 ≡ 0 →
    all_hex_digits (take left bits) ≡ all_hex_digits (taken low (left - low) bits) ++ all_hex_digits (take low bits)
digits_parted left low bits below inside whole =
    let a : ℕ = low / 4 in
    let place : 4 * a ≡ low = omega (arith, whole) in
    let size : length (take left bits) ≡ left = length-take-le left bits inside in
    let rest : length (taken low (left - low) bits) ≡ left - low =
    length-take-le (left - low) (drop low bits) (omega (arith, below, inside, length-drop low bits)) in
    let front : length (take low bits) ≡ low = length-take-le low bits (omega (arith, below, inside)) in
    let digits : digits_needed (length (take left bits)) ≡ a + digits_needed (length (taken low (left - low) bits)) = omega arith in
    let lowest : digits_needed (length (take low bits)) ≡ a = omega arith in
    let high : drop (4 * a) (take left bits) ≡ taken low (left - low) bits =
    ap (λ (k : ℕ). drop k (take left bits)) place ∙ ap (λ (n : ℕ). drop low (take n bits)) (omega (arith, below)) ∙ drop-take low (left - low) bits in
    ap (λ (n : ℕ). hex_digits n (take left bits)) digits
    ∙ digits_from a (digits_needed (length (taken low (left - low) bits))) (take left bits)
    ∙ ap₂ (λ (h : List ℕ) (l : List ℕ). h ++ l) (ap (hex_digits (digits_needed (length (taken low (left - low) bits)))) high)
    (digits_below a left bits (omega (arith, place, below)) ∙ sym (digits_below a low bits (omega (arith, place)))
    ∙ ap (λ (n : ℕ). hex_digits n (take low bits)) (sym lowest))

-- a word of a part fits
pub word_fits : (at n word : ℕ) (bits : List Bool) → at + n ≤ length bits → word ≡ number_of (taken at n bits) → word < 2 ^ n
word_fits at n word bits inside e =
    subst (λ (m : ℕ). word < 2 ^ m) (length_taken at n bits inside)
    (subst (λ (x : ℕ). x < 2 ^ length (taken at n bits)) (sym e) (number_of-below (taken at n bits)))

-- the digits of the lowest bits: those of a word that is read from a place on at which a digit begins, and then those
-- below it
pub digits_down : (left low word : ℕ) (bits : List Bool) → low ≤ left → left ≤ length bits → low % 4 ≡ 0 → word ≡ number_of (taken low (left - low) bits) →
    all_hex_digits (take left bits) ≡ all_hex_digits (low_bits (left - low) word) ++ all_hex_digits (take low bits)
digits_down left low word bits below inside whole e =
    digits_parted left low bits below inside whole
    ∙ ap (λ (l : List Bool). all_hex_digits l ++ all_hex_digits (take low bits))
    (sym (bits_of_part low (left - low) word bits (omega (arith, below, inside)) e))

-- no bit is left, and all bits are
pub none_left : (left : ℕ) (bits : List Bool) → left ≤ 0 → all_hex_digits (take left bits) ≡ []
none_left left bits h = let e : left ≡ 0 = omega (arith, h) in ap (λ (n : ℕ). all_hex_digits (take n bits)) e ∙ nothing bits
  where
    nothing : (bits : List Bool) → all_hex_digits (take 0 bits) ≡ []
    nothing [] = refl
    nothing (b ∷ bits) = refl

pub all_left : (left : ℕ) (bits : List Bool) → left ≡ length bits → all_hex_digits (take left bits) ≡ all_hex_digits bits
all_left left bits e = ap all_hex_digits (take_all left bits (omega (arith, e)))
