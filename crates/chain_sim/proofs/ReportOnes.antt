-- Cells all of whose bits are 1, word by word.
use Rattle.std.proofs.Common.{◌≡◌, ◌≢◌, ◌≤◌, ◌<◌, ℕ, zero, suc, ◌+◌, ◌-◌, ◌*◌, ◌/◌, ◌^◌, Bool, true, false, ◌&&◌, List, [], ◌∷◌, length, take, drop, refl, sym, ap, ap₂, ◌∙◌, arith}
use Rattle.std.proofs.lemmas.List.{drop-drop}
use Rattle.std.proofs.lemmas.Nat.{pow_pos, pow-add, shr_high}
use Rattle.std.proofs.Math.Nat.{pow-suc}
use Rattle.base.specs.Bits.{number_of}
use Rattle.bit_list.specs.Ranges.{taken}
use Rattle.bit_list.proofs.Splices.{length_taken}
use Rattle.dev_card.specs.Reports.{are_ones}

-- bits that are all 1, as a number, and the other way round
ones_number : (bits : List Bool) → are_ones bits ≡ true → number_of bits + 1 ≡ 2 ^ length bits
ones_number [] h = refl
ones_number (true ∷ bits) h = omega (arith, ones_number bits h, pow-suc 2 (length bits))
ones_number (false ∷ bits) h = cc

number_ones : (bits : List Bool) → number_of bits + 1 ≡ 2 ^ length bits → are_ones bits ≡ true
number_ones [] h = refl
number_ones (true ∷ bits) h = number_ones bits (omega (arith, h, pow-suc 2 (length bits)))
number_ones (false ∷ bits) h = absurd (omega (arith, h, pow-suc 2 (length bits)))

-- all bits are 1 if those of both parts are
ones_parted : (n : ℕ) (bits : List Bool) → are_ones bits ≡ (are_ones (take n bits) && are_ones (drop n bits))
ones_parted zero [] = refl
ones_parted zero (b ∷ bits) = refl
ones_parted (suc n) [] = refl
ones_parted (suc n) (true ∷ bits) = ones_parted n bits
ones_parted (suc n) (false ∷ bits) = refl

one_less : (a k whole : ℕ) → 0 < k → whole ≡ (a + 1) * k → whole - 1 ≡ a * k + (k - 1)
one_less a k whole h e = omega (arith, h, e)

-- the number of n ones, by a shift of more ones
pub ones_shifted : (m n : ℕ) → n ≤ m → (2 ^ m - 1) / 2 ^ (m - n) ≡ 2 ^ n - 1
ones_shifted m n h =
    let k : ℕ = m - n in
    let some = pow_pos n in
    let place : m ≡ n + k = omega (arith, h) in
    let one : 2 ^ n ≡ 2 ^ n - 1 + 1 = omega arith in
    let whole : 2 ^ m ≡ (2 ^ n - 1 + 1) * 2 ^ k = ap (λ (i : ℕ). 2 ^ i) place ∙ pow-add 2 n k ∙ ap (λ (a : ℕ). a * 2 ^ k) one in
    let below : 2 ^ k - 1 < 2 ^ k = omega (arith, pow_pos k) in
    ap (λ (x : ℕ). x / 2 ^ k) (one_less (2 ^ n - 1) (2 ^ k) (2 ^ m) (pow_pos k) whole) ∙ shr_high (2 ^ n - 1) k (2 ^ k - 1) below

module _ (at n word ones : ℕ) (bits : List Bool) (inside : at + n ≤ length bits) (read : word ≡ number_of (taken at n bits)) (full : ones ≡ 2 ^ n - 1) where
  count : 2 ^ length (taken at n bits) ≡ 2 ^ n
  count = ap (λ (m : ℕ). 2 ^ m) (length_taken at n bits inside)

  -- a word of ones more
  pub ones_up : are_ones bits ≡ are_ones (drop at bits) → word ≡ ones → are_ones bits ≡ are_ones (drop (at + n) bits)
  ones_up so_far same =
      let all : are_ones (taken at n bits) ≡ true = number_ones (taken at n bits) (omega (arith, read, full, same, count, pow_pos n)) in
      so_far ∙ ones_parted n (drop at bits) ∙ ap₂ (λ (a : Bool) (l : List Bool). a && are_ones l) all (drop-drop n at bits)

  -- another word
  pub ones_end : are_ones bits ≡ are_ones (drop at bits) → word ≢ ones → false ≡ are_ones bits
  ones_end so_far other = by (are_ones (taken at n bits)) refl
    where
      by : (b : Bool) → are_ones (taken at n bits) ≡ b → false ≡ are_ones bits
      by false e = sym (so_far ∙ ones_parted n (drop at bits) ∙ ap (λ (a : Bool). a && are_ones (drop n (drop at bits))) e)
      by true e = absurd (other (omega (arith, read, full, count, ones_number (taken at n bits) e)))
