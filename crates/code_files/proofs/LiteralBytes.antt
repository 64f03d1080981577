-- The bytes of a word are the bytes of its bits.
use Rattle.std.proofs.Common.{◌≡◌, ◌≤◌, ◌<◌, ◌^◌, ◌+◌, ◌-◌, ◌*◌, ◌/◌, ◌%◌, min, ℕ, zero, suc, Bool, List, [], ◌∷◌, ◌++◌, length, take, drop, refl, sym, ap, ap₂, ◌∙◌, append_assoc, arith, nat_cmp}
use Rattle.std.specs.Int.{w64, to_le_bytes, bytes_low_first, byte_at}
use Rattle.std.specs.Ordering.{ord_min}
use Rattle.std.specs.List.{flat_map}
use Rattle.std.proofs.Math.Nat.{pow-suc, div-div-eq-div-mul}
use Rattle.std.proofs.Math.Pow.{pow_mono}
use Rattle.std.proofs.lemmas.Bool.Decides.{nat_tests}
use Rattle.std.proofs.lemmas.List.{length-take, drop-drop, drop-take, take-take, take_min}
use Rattle.base.specs.Bits.{low_bits, bit_value, number_of}
use Rattle.base.proofs.NumberBits.{number_of-below, low_bits_cut, low_bits_mod}
use Rattle.stapl_code.specs.Fields.{bytes_for, bytes_of_bits}

pub min_is : (a b : ℕ) → ord_min nat_cmp a b ≡ min a b
min_is a b = grind (arith, nat_tests)

-- ---- the bytes of a number

-- the bytes from the next one on are those of the number without its lowest byte
next_byte : (i n : ℕ) → byte_at (suc i) n ≡ byte_at i (n / 256)
next_byte zero n = refl
next_byte (suc i) n =
    let power : 256 * 256 ^ suc i ≡ 256 ^ suc (suc i) = omega (arith, pow-suc 256 (suc i)) in
    sym (ap (λ m. m % 256) (div-div-eq-div-mul n 256 (256 ^ suc i) ∙ ap (λ p. n / p) power))

bytes_after : (i m n : ℕ) → bytes_low_first (suc i) m n ≡ bytes_low_first i m (n / 256)
bytes_after i zero n = refl
bytes_after i (suc m) n = ap₂ (λ b bs. b ∷ bs) (next_byte i n) (bytes_after (suc i) m n)

take_bytes : (i m k n : ℕ) → m ≤ k → take m (bytes_low_first i k n) ≡ bytes_low_first i m n
take_bytes i zero k n few = refl
take_bytes i (suc m) zero n few = absurd (omega arith)
take_bytes i (suc m) (suc k) n few = ap (λ bs. byte_at i n ∷ bs) (take_bytes (suc i) m k n (omega arith))

-- the bits of the bytes are those of the number
pub bits_of_bytes : (m n : ℕ) → flat_map (low_bits 8) (bytes_low_first 0 m n) ≡ low_bits (8 * m) n
bits_of_bytes zero n = refl
bits_of_bytes (suc m) n =
    let more : 8 + 8 * m ≡ 8 * suc m = omega arith in
    ap₂ (λ x bs. x ++ flat_map (low_bits 8) bs) (low_bits_mod 8 n) (bytes_after 0 m n)
    ∙ ap (λ x. low_bits 8 n ++ x) (bits_of_bytes m (n / 256))
    ∙ sym (low_bits_cut 8 (8 * m) n) ∙ ap (λ k. low_bits k n) more

-- ---- the number of some bits

regrouped : (bit p low high : ℕ) → bit + 2 * (low + p * high) ≡ (bit + 2 * low) + (p * 2) * high
regrouped bit p low high = omega arith

number_split : (k : ℕ) (bits : List Bool) → number_of bits ≡ number_of (take k bits) + 2 ^ k * number_of (drop k bits)
number_split zero bits = omega arith
number_split (suc k) [] = omega arith
number_split (suc k) (b ∷ bits) =
    ap (λ n. bit_value b + 2 * n) (number_split k bits)
    ∙ regrouped (bit_value b) (2 ^ k) (number_of (take k bits)) (number_of (drop k bits))
    ∙ ap (λ p. (bit_value b + 2 * number_of (take k bits)) + p * number_of (drop k bits)) (sym (pow-suc 2 k))

byte_below : (bits : List Bool) → number_of (take 8 bits) < 256
byte_below bits =
    let few : length (take 8 bits) ≤ 8 = omega (arith, length-take 8 bits) in
    omega (arith, number_of-below (take 8 bits), pow_mono few)

-- its bytes are those of the bits
bytes_of_number : (m j : ℕ) (bits : List Bool) → 8 * m ≤ j → bytes_low_first 0 m (number_of (take j bits)) ≡ bytes_of_bits m bits
bytes_of_number zero j bits room = refl
bytes_of_number (suc m) j bits room =
    let n : ℕ = number_of (take j bits) in
    let split : n ≡ number_of (take 8 (take j bits)) + 256 * number_of (drop 8 (take j bits)) = number_split 8 (take j bits) in
    let below : number_of (take 8 (take j bits)) < 256 = byte_below (take j bits) in
    let byte : n % 256 ≡ number_of (take 8 bits) = omega arith ∙ ap number_of (take-take 8 j bits (omega arith)) in
    let whole : 8 + (j - 8) ≡ j = omega arith in
    let cut : drop 8 (take j bits) ≡ take (j - 8) (drop 8 bits) = ap (λ k. drop 8 (take k bits)) (sym whole) ∙ drop-take 8 (j - 8) bits in
    let rest : n / 256 ≡ number_of (take (j - 8) (drop 8 bits)) = omega arith ∙ ap number_of cut in
    ap₂ (λ b bs. b ∷ bs) byte (bytes_after 0 m n ∙ ap (bytes_low_first 0 m) rest ∙ bytes_of_number m (j - 8) (drop 8 bits) (omega arith))

-- the first bytes of a word
pub word_bytes : (m n word : ℕ) (bits : List Bool) → m ≤ 8 → n ≡ min 64 (length bits) → word ≡ number_of (take n bits)
    → take m (to_le_bytes w64 word) ≡ bytes_of_bits m bits
word_bytes m n word bits few size is =
    take_bytes 0 m 8 word few
    ∙ ap (bytes_low_first 0 m) (is ∙ ap (λ k. number_of (take k bits)) size ∙ ap number_of (take_min 64 bits))
    ∙ bytes_of_number m 64 bits (omega arith)

-- ---- the bytes of a literal

-- at most so many bytes, and those after them
bytes_cut : (a c : ℕ) (bits : List Bool) → bytes_of_bits c bits ≡ bytes_of_bits (min a c) bits ++ bytes_of_bits (c - a) (drop (8 * a) bits)
bytes_cut zero c bits =
    let none : 0 ≡ min 0 c = omega arith in
    let all : c ≡ c - 0 = omega arith in
    ap₂ (λ j k. bytes_of_bits j bits ++ bytes_of_bits k bits) none all
bytes_cut (suc a) zero bits =
    let none : 0 ≡ min (suc a) 0 = omega arith in
    let nothing : 0 ≡ 0 - suc a = omega arith in
    ap₂ (λ j k. bytes_of_bits j bits ++ bytes_of_bits k (drop (8 * suc a) bits)) none nothing
bytes_cut (suc a) (suc c) bits =
    let more : 8 + 8 * a ≡ 8 * suc a = omega arith in
    let some : suc (min a c) ≡ min (suc a) (suc c) = omega arith in
    let left : c - a ≡ suc c - suc a = omega arith in
    ap (λ bs. number_of (take 8 bits) ∷ bs) (bytes_cut a c (drop 8 bits))
    ∙ ap (λ x. number_of (take 8 bits) ∷ (bytes_of_bits (min a c) (drop 8 bits) ++ bytes_of_bits (c - a) x))
    (drop-drop (8 * a) 8 bits ∙ ap (λ k. drop k bits) more)
    ∙ ap₂ (λ j k. bytes_of_bits j bits ++ bytes_of_bits k (drop (8 * suc a) bits)) some left

-- a word more is put
pub word_put : (out new total : List ℕ) (bits : List Bool) (k : ℕ) →
    new ≡ out ++ bytes_of_bits (min 8 (bytes_for (length bits - 64 * k))) (drop (64 * k) bits) →
    out ++ bytes_of_bits (bytes_for (length bits - 64 * k)) (drop (64 * k) bits) ≡ total →
    new ++ bytes_of_bits (bytes_for (length bits - 64 * (k + 1))) (drop (64 * (k + 1)) bits) ≡ total
word_put out new total bits k made so_far =
    let count : ℕ = bytes_for (length bits - 64 * k) in
    let part : List ℕ = bytes_of_bits (min 8 count) (drop (64 * k) bits) in
    let next : 64 * k + 64 ≡ 64 * (k + 1) = omega arith in
    let left : bytes_for (length bits - 64 * (k + 1)) ≡ count - 8 = omega arith in
    let after : drop (64 * (k + 1)) bits ≡ drop 64 (drop (64 * k) bits) = sym (drop-drop 64 (64 * k) bits ∙ ap (λ j. drop j bits) next) in
    ap₂ (λ x y. x ++ y) made (ap₂ bytes_of_bits left after)
    ∙ append_assoc out part (bytes_of_bits (count - 8) (drop 64 (drop (64 * k) bits)))
    ∙ ap (λ x. out ++ x) (sym (bytes_cut 8 count (drop (64 * k) bits))) ∙ so_far
