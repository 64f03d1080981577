-- Numbers in a row, and a number cut in two.
use Rattle.std.proofs.Common.{◌≡◌, ◌<◌, ◌≤◌, ℕ, suc, ◌+◌, ◌-◌, ◌*◌, ◌/◌, ◌%◌, ◌^◌, ◌++◌, sym, ap, subst, ◌∙◌, arith}
use Rattle.std.proofs.lemmas.Nat.{pow_pos, pow-add}
use Rattle.std.proofs.Math.Nat.{mod-eq_of_lt, mul-le-mul_right, div-lt_iff_lt-mul}
use Rattle.std.proofs.Math.Pow.{pow_mono}
use Rattle.base.specs.Bits.{low_bits, number_of}
use Rattle.base.proofs.NumberBits.{length-low_bits, number_of-below, low_bits-number_of, low_bits_cut, low_bits_mod, low_bits_joined}

-- a power of 2 that a number of 128 bits holds
power_fits : (n : ℕ) → n ≤ 64 → 1 * 2 ^ n % 340282366920938463463374607431768211456 ≡ 2 ^ n
power_fits n h = let p : 2 ^ n ≤ 2 ^ 64 = pow_mono h in omega (arith, p)

-- the lowest bits of a number, as a number
pub lowest_same : (n x r : ℕ) → r ≡ number_of (low_bits n x) → low_bits n r ≡ low_bits n x
lowest_same n x r e =
    ap (low_bits n) e ∙ ap (λ k. low_bits k (number_of (low_bits n x))) (sym (length-low_bits n x))
    ∙ low_bits-number_of (low_bits n x)

pub lowest_below : (n x r : ℕ) → r ≡ number_of (low_bits n x) → r < 2 ^ n
lowest_below n x r e =
    rw e (subst (λ k. number_of (low_bits n x) < 2 ^ k) (length-low_bits n x) (number_of-below (low_bits n x)))

-- two numbers in a row
pub joined_below : (low len high n : ℕ) → low < 2 ^ len → high < 2 ^ n → low + high * 2 ^ len < 2 ^ (len + n)
joined_below low len high n h k =
    let p : 2 ^ (len + n) ≡ 2 ^ n * 2 ^ len = ap (λ m. 2 ^ m) (omega arith) ∙ pow-add 2 n len in
    let one : suc high ≤ 2 ^ n = omega (arith, k) in
    let m : suc high * 2 ^ len ≤ 2 ^ n * 2 ^ len = mul-le-mul_right (2 ^ len) one in
    omega (arith, h, m, p)

high_fits : (len high n : ℕ) → len ≤ 64 → n ≤ 64 → high < 2 ^ n → high * 2 ^ len < 340282366920938463463374607431768211456
high_fits len high n h k b =
    let w : len + n ≤ 128 = omega (arith, h, k) in
    let j : 2 ^ (len + n) ≤ 2 ^ 128 = pow_mono w in
    let c : 0 + high * 2 ^ len < 2 ^ (len + n) = joined_below 0 len high n (pow_pos len) b in
    omega (arith, c, j)

pub shifted_fits : (low len high n a b : ℕ) → len ≤ 64 → n ≤ 64 → high < 2 ^ n → a ≡ low → b ≡ high →
    a + b * 2 ^ len % 340282366920938463463374607431768211456 ≡ low + high * 2 ^ len
shifted_fits low len high n a b h k c e f =
    ap (λ x. x + b * 2 ^ len % 340282366920938463463374607431768211456) e
    ∙ ap (λ x. low + x * 2 ^ len % 340282366920938463463374607431768211456) f
    ∙ ap (λ x. low + x) (mod-eq_of_lt (high_fits len high n h k c))

swapped : (x y : ℕ) → x + y ≡ y + x
swapped x y = omega arith

pub joined_bits : (low len high n : ℕ) → low < 2 ^ len → low_bits (len + n) (low + high * 2 ^ len) ≡ low_bits len low ++ low_bits n high
joined_bits low len high n h = ap (low_bits (len + n)) (swapped low (high * 2 ^ len)) ∙ low_bits_joined len n low high h

-- a number cut in two
pub cut_bits : (number n len : ℕ) → n ≤ 64 → n ≤ len →
    low_bits len number ≡ low_bits n (number % (1 * 2 ^ n % 340282366920938463463374607431768211456)) ++ low_bits (len - n) (number / 2 ^ n)
cut_bits number n len m h =
    let e : n + (len - n) ≡ len = omega (arith, h) in
    ap (λ k. low_bits k number) (sym e) ∙ low_bits_cut n (len - n) number
    ∙ ap (λ l. l ++ low_bits (len - n) (number / 2 ^ n)) (sym (low_bits_mod n number) ∙ ap (λ p. low_bits n (number % p)) (sym (power_fits n m)))

pub cut_rest : (number n len : ℕ) → n ≤ len → number < 2 ^ len → number / 2 ^ n < 2 ^ (len - n)
cut_rest number n len h b =
    let e : (len - n) + n ≡ len = omega (arith, h) in
    let p : 2 ^ len ≡ 2 ^ (len - n) * 2 ^ n = ap (λ m. 2 ^ m) (sym e) ∙ pow-add 2 (len - n) n in
    (div-lt_iff_lt-mul (pow_pos n)).1 (omega (arith, b, p))

pub cut_fits : (number n len : ℕ) → n ≤ len → len ≤ n + 64 → number < 2 ^ len → number / 2 ^ n < 2 ^ 64
cut_fits number n len h k b =
    let c : number / 2 ^ n < 2 ^ (len - n) = cut_rest number n len h b in
    let d : len - n ≤ 64 = omega (arith, h, k) in
    let p : 2 ^ (len - n) ≤ 2 ^ 64 = pow_mono d in
    omega (arith, c, p)
