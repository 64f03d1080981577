-- Numbers as shift registers: zero, one, and a shift.
use Rattle.std.proofs.Common.{◌≡◌, ◌<◌, ◌≤◌, ◌+◌, ◌-◌, ◌*◌, ◌/◌, ◌%◌, ◌^◌, ℕ, suc, zero, nat_eq, Bool, true, false, [], ◌∷◌, ◌++◌, drop, replicate, sym, ap, ◌∙◌, mod-eq_of_lt, arith}
use Rattle.std.proofs.Math.Nat.{pow-succ'}
use Rattle.base.proofs.NumberBits.{number_of-low_bits, low_bits_of_zero}
use Rattle.base.specs.Bits.{low_bits, number_of, bit_value}

suc_less : (n : ℕ) → n ≡ suc n - 1
suc_less n = omega arith

pub low_bits_one : (n : ℕ) → 1 ≤ n → low_bits n 1 ≡ true ∷ replicate (n - 1) false
low_bits_one zero h = absurd (omega arith)
low_bits_one (suc n) h = ap (λ bs. true ∷ bs) (low_bits_of_zero n ∙ ap (λ m. replicate m false) (suc_less n))

-- a number that n bits hold is that of its lowest n bits
pub number_of-low_bits_below : (n x : ℕ) → x < 2 ^ n → number_of (low_bits n x) ≡ x
number_of-low_bits_below n x h = number_of-low_bits n x ∙ mod-eq_of_lt h

regrouped : (y a q : ℕ) → y + a * (2 * q) ≡ y + 2 * (a * q)
regrouped y a q = omega arith

-- a bit above the others
low_bits_above : (n y : ℕ) (b : Bool) → y < 2 ^ n → low_bits (suc n) (y + bit_value b * 2 ^ n) ≡ low_bits n y ++ b ∷ []
low_bits_above zero y true h = let e : y ≡ 0 = omega arith in ap (λ z. low_bits 1 (z + 1)) e
low_bits_above zero y false h = let e : y ≡ 0 = omega arith in ap (λ z. low_bits 1 (z + 0)) e
low_bits_above (suc n) y b h =
    let p : 2 ^ suc n ≡ 2 * 2 ^ n = pow-succ' 2 n in
    let v : ℕ = bit_value b * 2 ^ n in
    let whole : y + bit_value b * 2 ^ suc n ≡ y + 2 * v = ap (λ q. y + bit_value b * q) p ∙ regrouped y (bit_value b) (2 ^ n) in
    let odd : (y + 2 * v) % 2 ≡ y % 2 = omega arith in
    let half : (y + 2 * v) / 2 ≡ y / 2 + v = omega arith in
    let below : y / 2 < 2 ^ n = omega arith in
    ap (λ z. low_bits (suc (suc n)) z) whole ∙ ap (λ z. nat_eq z 1 ∷ low_bits (suc n) ((y + 2 * v) / 2)) odd
    ∙ ap (λ z. nat_eq (y % 2) 1 ∷ low_bits (suc n) z) half
    ∙ ap (λ bs. nat_eq (y % 2) 1 ∷ bs) (low_bits_above n (y / 2) b below)

pub low_bits_shifted : (n x : ℕ) (b : Bool) → 1 ≤ n → x < 2 ^ n → low_bits n (x / 2 + bit_value b * 2 ^ (n - 1)) ≡ drop 1 (low_bits n x) ++ b ∷ []
low_bits_shifted zero x b h f = absurd (omega arith)
low_bits_shifted (suc n) x b h f =
    let p : 2 ^ suc n ≡ 2 * 2 ^ n = pow-succ' 2 n in
    let below : x / 2 < 2 ^ n = omega arith in
    ap (λ m. low_bits (suc n) (x / 2 + bit_value b * 2 ^ m)) (sym (suc_less n)) ∙ low_bits_above n (x / 2) b below
