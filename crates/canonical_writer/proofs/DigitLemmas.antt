-- Digits that are written one after the other, the highest first.
use Rattle.std.proofs.Common.{◌≡◌, ℕ, ◌+◌, ◌-◌, ◌*◌, ◌/◌, ◌%◌, ◌<◌, zero, suc, Bool, List, [], ◌∷◌, ◌++◌, length, take, slice_get, Some, refl, sym, ap, ◌∙◌}
use Rattle.std.proofs.Common.{append_assoc, append-nil, arith}
use Rattle.std.specs.Prelude.{if◌then◌else◌}
use Rattle.std.proofs.lemmas.List.{take_all}
use Rattle.std.proofs.Common.{◌^◌, drop, slice_index}
use Rattle.base.specs.Bits.{low_bits, number_of}
use Rattle.bit_list.proofs.HexDigits.{digits_of_part}
use Rattle.bit_list.specs.Ranges.{taken}
use Rattle.bit_list.specs.Hexadecimal.{hex_digit, digits_needed, hex_digits, all_hex_digits}
use Rattle.canonical_text.specs.PrintedTokens.{binary_digits}

-- one hexadecimal digit more
pub hex_more : (front whole : List ℕ) (bits : List Bool) (n left d : ℕ) → 0 < n → left + 1 ≡ n → front ++ hex_digits n bits ≡ whole →
    d ≡ hex_digit (number_of (taken (4 * left) 4 bits)) → (front ++ d ∷ []) ++ hex_digits left bits ≡ whole
hex_more front whole bits zero left d lt e f g = absurd (omega arith)
hex_more front whole bits (suc n) left d lt e f g =
    let same : left ≡ n = omega arith in
    append_assoc front (d ∷ []) (hex_digits left bits)
    ∙ ap (λ (x : ℕ). front ++ (x ∷ hex_digits left bits)) g
    ∙ ap (λ (k : ℕ). front ++ (hex_digit (number_of (taken (4 * k) 4 bits)) ∷ hex_digits k bits)) same ∙ f

-- all of them
pub hex_all : (front : List ℕ) (bits : List Bool) (n : ℕ) → length bits % 4 ≡ 0 → n ≡ length bits / 4 → front ++ hex_digits n bits ≡ front ++ all_hex_digits bits
hex_all front bits n whole e = let same : n ≡ digits_needed (length bits) = omega arith in ap (λ (k : ℕ). front ++ hex_digits k bits) same

pub no_hex : (front whole : List ℕ) (bits : List Bool) (n : ℕ) → n ≡ 0 → front ++ hex_digits n bits ≡ whole → front ≡ whole
no_hex front whole bits zero e f = sym (append-nil front) ∙ f
no_hex front whole bits (suc n) e f = absurd (omega arith)

-- the highest binary digit
highest_first : (n : ℕ) (bits : List Bool) (b : Bool) → slice_get bits n ≡ Some b → binary_digits (take (suc n) bits) ≡ (if b then 49 else 48) ∷ binary_digits (take n bits)
highest_first n [] b e = absurd cc
highest_first zero (x ∷ bits) b e = let same : x ≡ b = cc in ap (λ (y : Bool). (if y then 49 else 48) ∷ []) same
highest_first (suc n) (x ∷ bits) b e = ap (λ (v : List ℕ). v ++ (if x then 49 else 48) ∷ []) (highest_first n bits b e)

-- one binary digit more
pub binary_more : (front whole : List ℕ) (bits : List Bool) (n left d : ℕ) (b : Bool) → left + 1 ≡ n → front ++ binary_digits (take n bits) ≡ whole → slice_get bits left ≡ Some b →
    d ≡ (if b then 49 else 48) → (front ++ d ∷ []) ++ binary_digits (take left bits) ≡ whole
binary_more front whole bits zero left d b e f g h = absurd (omega arith)
binary_more front whole bits (suc n) left d b e f g h =
    let same : left ≡ n = omega arith in
    append_assoc front (d ∷ []) (binary_digits (take left bits))
    ∙ ap (λ (x : ℕ). front ++ (x ∷ binary_digits (take left bits))) h
    ∙ ap (λ (v : List ℕ). front ++ v) (sym (highest_first left bits b g))
    ∙ ap (λ (k : ℕ). front ++ binary_digits (take (suc k) bits)) same ∙ f

pub binary_all : (front : List ℕ) (bits : List Bool) (n : ℕ) → n ≡ length bits → front ++ binary_digits (take n bits) ≡ front ++ binary_digits bits
binary_all front bits n e = ap (λ (v : List Bool). front ++ binary_digits v) (take_all n bits (omega arith))

pub no_binary : (front whole : List ℕ) (bits : List Bool) (n : ℕ) → n ≡ 0 → front ++ binary_digits (take n bits) ≡ whole → front ≡ whole
no_binary front whole bits zero e f = sym (append-nil front) ∙ f
no_binary front whole bits (suc n) e f = absurd (omega arith)

-- the last four digits of a word that has 16 bits
pub check_digits : (digits : List ℕ) (word n : ℕ) → length digits ≡ 16 → ((k : ℕ) → k < 16 → slice_index digits k ≡ hex_digit (n / 16 ^ (15 - k) % 16)) → n ≡ word → word < 2 ^ 16 →
    take 4 (drop 12 digits) ≡ all_hex_digits (low_bits 16 word)
check_digits digits word n all are e fits =
    digits_of_part digits n all are 16 12 (omega arith) (omega arith) refl ∙ ap (λ (k : ℕ). all_hex_digits (low_bits 16 k)) e
