-- Laws of numbers and their lists of bits.
use Rattle.std.proofs.Common.{◌≡◌, ◌<◌, ◌≤◌, ℕ, zero, suc, ◌+◌, ◌-◌, ◌*◌, ◌/◌, ◌%◌, ◌^◌, nat_eq, Bool, true, false, List, [], ◌∷◌, ◌++◌, length, take, drop, replicate, get_or, refl, sym, ap, ap₂, ◌∙◌, arith}
use Rattle.std.specs.Int.{bit_at}
use Rattle.std.proofs.Math.Nat.{pow-suc, div-div-eq-div-mul, mod-eq_of_lt, zero-div}
use Rattle.std.proofs.Math.Pow.{pow_mono}
use Rattle.std.proofs.Math.Arith.{mod-mul}
use Rattle.std.proofs.lemmas.Nat.{pow_pos, shr_high, mod_low}
use Rattle.std.proofs.lemmas.List.{take-append-drop}
use Rattle.base.specs.Bits.{low_bits, bit_value, number_of}

pub length-low_bits : (n x : ℕ) → length (low_bits n x) ≡ n
length-low_bits zero x = refl
length-low_bits (suc n) x = ap suc (length-low_bits n (x / 2))

-- the bits of a number from bit j on
pub drop-low_bits : (j m x : ℕ) → drop j (low_bits (j + m) x) ≡ low_bits m (x / 2 ^ j)
drop-low_bits zero m x =
    let e : 0 + m ≡ m = omega arith in let one : x / 1 ≡ x = omega arith in
    ap (λ (k : ℕ). low_bits k x) e ∙ ap (low_bits m) (sym one)
drop-low_bits (suc j) m x =
    let e : suc j + m ≡ suc (j + m) = omega arith in let power : 2 * 2 ^ j ≡ 2 ^ suc j = omega (arith, pow-suc 2 j) in
    ap (λ (k : ℕ). drop (suc j) (low_bits k x)) e ∙ drop-low_bits j m (x / 2) ∙ ap (low_bits m) (div-div-eq-div-mul x 2 (2 ^ j) ∙ ap (λ (d : ℕ). x / d) power)

-- the lowest bit of a number is its remainder by 2
pub bit_value-odd : (r : ℕ) → r < 2 → bit_value (nat_eq r 1) ≡ r
bit_value-odd zero h = refl
bit_value-odd (suc zero) h = refl
bit_value-odd (suc (suc r)) h = absurd (omega arith)

pub number_of-low_bits : (n x : ℕ) → number_of (low_bits n x) ≡ x % 2 ^ n
number_of-low_bits zero x = omega arith
number_of-low_bits (suc n) x =
    let low : bit_value (nat_eq (x % 2) 1) ≡ x % 2 = bit_value-odd (x % 2) (omega arith) in
    let high : number_of (low_bits n (x / 2)) ≡ (x / 2) % 2 ^ n = number_of-low_bits n (x / 2) in
    let split : x % (2 ^ n * 2) ≡ (x / 2 % 2 ^ n) * 2 + x % 2 = mod-mul x (pow_pos n) (omega arith) in
    let power : 2 ^ suc n ≡ 2 ^ n * 2 = pow-suc 2 n in
    rw (power, split, low, high) (omega arith)

pub number_of-below : (bits : List Bool) → number_of bits < 2 ^ length bits
number_of-below [] = omega arith
number_of-below (true ∷ bits) = let h = number_of-below bits in let power : 2 ^ suc (length bits) ≡ 2 ^ length bits * 2 = pow-suc 2 (length bits) in omega arith
number_of-below (false ∷ bits) = let h = number_of-below bits in
    let power : 2 ^ suc (length bits) ≡ 2 ^ length bits * 2 = pow-suc 2 (length bits) in omega arith

half_of_odd : (k : ℕ) → (1 + 2 * k) / 2 ≡ k
half_of_odd k = omega arith

half_of_even : (k : ℕ) → (0 + 2 * k) / 2 ≡ k
half_of_even k = omega arith

pub low_bits-number_of : (bits : List Bool) → low_bits (length bits) (number_of bits) ≡ bits
low_bits-number_of [] = refl
low_bits-number_of (true ∷ bits) =
    let low : (1 + 2 * number_of bits) % 2 ≡ 1 = omega arith in
    rw (low, half_of_odd (number_of bits)) (ap (λ z. true ∷ z) (low_bits-number_of bits))
low_bits-number_of (false ∷ bits) =
    let low : (0 + 2 * number_of bits) % 2 ≡ 0 = omega arith in
    rw (low, half_of_even (number_of bits)) (ap (λ z. false ∷ z) (low_bits-number_of bits))

-- parts of a number

-- the lowest bits of the lowest bits
pub lowest_bits : (n m x : ℕ) → n ≤ m → take n (low_bits m x) ≡ low_bits n x
lowest_bits zero m x h = refl
lowest_bits (suc n) zero x h = absurd (omega (arith, h))
lowest_bits (suc n) (suc m) x h = ap (λ l. nat_eq (x % 2) 1 ∷ l) (lowest_bits n m (x / 2) (omega (arith, h)))

-- the lowest bits and the rest
pub low_bits_cut : (a b z : ℕ) → low_bits (a + b) z ≡ low_bits a z ++ low_bits b (z / 2 ^ a)
low_bits_cut a b z =
    sym (take-append-drop a (low_bits (a + b) z))
    ∙ ap₂ (λ x y. x ++ y) (lowest_bits a (a + b) z (omega arith)) (drop-low_bits a b z)

-- the lowest bits do not see what stands above them
pub low_bits_mod : (n z : ℕ) → low_bits n (z % 2 ^ n) ≡ low_bits n z
low_bits_mod n z =
    ap (low_bits n) (sym (number_of-low_bits n z)) ∙ ap (λ k. low_bits k (number_of (low_bits n z))) (sym (length-low_bits n z))
    ∙ low_bits-number_of (low_bits n z)

-- the bits of two numbers, one above the other
pub low_bits_joined : (a b x y : ℕ) → x < 2 ^ a → low_bits (a + b) (y * 2 ^ a + x) ≡ low_bits a x ++ low_bits b y
low_bits_joined a b x y small =
    low_bits_cut a b (y * 2 ^ a + x)
    ∙ ap₂ (λ u v. u ++ v)
    (sym (low_bits_mod a (y * 2 ^ a + x)) ∙ ap (low_bits a) (mod_low y a x small))
    (ap (low_bits b) (shr_high y a x small))

-- the n bits from bit r on
pub part_of_number : (r n m z : ℕ) → r + n ≤ m → take n (drop r (low_bits m z)) ≡ low_bits n (z / 2 ^ r)
part_of_number r n m z h =
    let whole : r + (m - r) ≡ m = omega arith in
    ap (λ k. take n (drop r (low_bits k z))) (sym whole) ∙ ap (take n) (drop-low_bits r (m - r) z) ∙ lowest_bits n (m - r) (z / 2 ^ r) (omega arith)

-- the number of two lists of bits in a row
pub number_of-append : (xs ys : List Bool) → number_of (xs ++ ys) ≡ number_of ys * 2 ^ length xs + number_of xs
number_of-append [] ys = omega arith
number_of-append (x ∷ xs) ys =
    let more : number_of (xs ++ ys) ≡ number_of ys * 2 ^ length xs + number_of xs = number_of-append xs ys in
    let power : number_of ys * 2 ^ suc (length xs) ≡ 2 * (number_of ys * 2 ^ length xs) =
    ap (λ k. number_of ys * k) (pow-suc 2 (length xs)) ∙ omega arith in
    omega arith

-- bit j of a number
pub get_or-low_bits : (n x j : ℕ) → j < n → get_or (low_bits n x) j false ≡ nat_eq (bit_at x j) 1
get_or-low_bits zero x j h = absurd (omega arith)
get_or-low_bits (suc n) x zero h = let one : x / 2 ^ 0 ≡ x = omega arith in ap (λ z. nat_eq (z % 2) 1) (sym one)
get_or-low_bits (suc n) x (suc j) h =
    let power : 2 * 2 ^ j ≡ 2 ^ suc j = omega (arith, pow-suc 2 j) in
    get_or-low_bits n (x / 2) j (omega arith) ∙ ap (λ z. nat_eq (z % 2) 1) (div-div-eq-div-mul x 2 (2 ^ j) ∙ ap (λ d. x / d) power)

-- the bits of zero and of all ones
pub low_bits_of_zero : (n : ℕ) → low_bits n 0 ≡ replicate n false
low_bits_of_zero zero = refl
low_bits_of_zero (suc n) = ap (λ z. false ∷ z) (low_bits_of_zero n)

pub low_bits_of_ones : (n k : ℕ) → n ≤ k → low_bits n (2 ^ k - 1) ≡ replicate n true
low_bits_of_ones zero k h = refl
low_bits_of_ones (suc n) zero h = absurd (omega arith)
low_bits_of_ones (suc n) (suc k) h =
    let power : 2 ^ suc k ≡ 2 ^ k * 2 = pow-suc 2 k in
    let some : 0 < 2 ^ k = pow_pos k in
    let odd : (2 ^ suc k - 1) % 2 ≡ 1 = omega arith in
    let half : (2 ^ suc k - 1) / 2 ≡ 2 ^ k - 1 = omega arith in
    ap₂ (λ r x. nat_eq r 1 ∷ low_bits n x) odd half ∙ ap (λ z. true ∷ z) (low_bits_of_ones n k (omega arith))

-- the numbers of parts of a list
value_below : (b : Bool) → bit_value b < 2
value_below true = omega arith
value_below false = omega arith

pub number_of-drop : (j : ℕ) (bits : List Bool) → number_of (drop j bits) ≡ number_of bits / 2 ^ j
number_of-drop zero bits = omega arith
number_of-drop (suc j) [] = sym (zero-div (2 ^ suc j))
number_of-drop (suc j) (b ∷ bits) =
    let whole : ℕ = bit_value b + 2 * number_of bits in
    let half : whole / 2 ≡ number_of bits = omega (arith, value_below b) in
    let power : 2 * 2 ^ j ≡ 2 ^ suc j = omega (arith, pow-suc 2 j) in
    number_of-drop j bits ∙ ap (λ (n : ℕ). n / 2 ^ j) (sym half)
    ∙ div-div-eq-div-mul whole 2 (2 ^ j) ∙ ap (λ (d : ℕ). whole / d) power

pub number_of-take : (n : ℕ) (bits : List Bool) → number_of (take n bits) ≡ number_of bits % 2 ^ n
number_of-take zero [] = omega arith
number_of-take zero (b ∷ bits) = omega arith
number_of-take (suc n) [] = sym (mod-eq_of_lt (pow_pos (suc n)))
number_of-take (suc n) (b ∷ bits) =
    let small = value_below b in
    let rest = number_of-take n bits in
    let split : (bit_value b + 2 * number_of bits) % (2 ^ n * 2)
    ≡ ((bit_value b + 2 * number_of bits) / 2 % 2 ^ n) * 2 + (bit_value b + 2 * number_of bits) % 2 =
    mod-mul (bit_value b + 2 * number_of bits) (pow_pos n) (omega arith) in
    let half : (bit_value b + 2 * number_of bits) / 2 ≡ number_of bits = omega (arith, small) in
    let odd : (bit_value b + 2 * number_of bits) % 2 ≡ bit_value b = omega (arith, small) in
    let power : 2 ^ suc n ≡ 2 ^ n * 2 = pow-suc 2 n in
    rw (power, split, half, odd, rest) (omega arith)

-- the lowest bits of a word, as its remainder
pub lowest_of : (n x : ℕ) → n < 64 → x % (1 * 2 ^ n % 18446744073709551616) ≡ number_of (low_bits n x)
lowest_of n x h =
    let k : n ≤ 63 = omega (arith, h) in
    let p : 2 ^ n ≤ 2 ^ 63 = pow_mono k in
    let small : 1 * 2 ^ n % 18446744073709551616 ≡ 2 ^ n = omega (arith, p) in
    ap (λ m. x % m) small ∙ sym (number_of-low_bits n x)

pub whole_of : (n x : ℕ) → n ≡ 64 → x < 2 ^ 64 → x ≡ number_of (low_bits n x)
whole_of n x e h =
    sym (mod-eq_of_lt h) ∙ sym (number_of-low_bits 64 x) ∙ ap (λ m. number_of (low_bits m x)) (sym e)
