-- The digits of printed literals and numbers are read back.
use Rattle.std.proofs.Common.{◌≡◌, ℕ, ◌+◌, ◌*◌, ◌%◌, ◌<◌, ◌≤◌, ◌^◌, zero, suc, Bool, true, false, List, [], ◌∷◌, ◌++◌, length, take, drop, refl, sym, ap, subst, ◌∙◌, arith}
use Rattle.std.specs.Prelude.{if◌then◌else◌}
use Rattle.std.specs.Char.{digit_value, is_ascii_digit, is_ascii_hexdigit}
use Rattle.std.specs.Fmt.{decimal}
use Rattle.std.specs.List.{list_all, flat_map}
use Rattle.std.specs.Str.Parse.{AllDigits, digits_value}
use Rattle.std.proofs.Math.Seq.{take-add}
use Rattle.std.proofs.lemmas.Bool.Decides.{nat_tests}
use Rattle.std.proofs.lemmas.List.{length-append, length-take-le, length-drop, reverse-append, take_all}
use Rattle.std.proofs.lemmas.List.Folds.{list_all-append}
use Rattle.std.proofs.lemmas.Fmt.{decimal_is_IsNumeral}
use Rattle.base.specs.Bits.{low_bits, number_of}
use Rattle.base.proofs.NumberBits.{low_bits-number_of, number_of-below}
use Rattle.bit_list.specs.Digits.{bits_of_binary, bits_of_hex}
use Rattle.bit_list.proofs.DigitBits.{bits_of_digits-cons}
use Rattle.bit_list.specs.Ranges.{taken}
use Rattle.bit_list.specs.Hexadecimal.{hex_digit, digits_needed, hex_digits, all_hex_digits}
use Rattle.stapl_lexer.specs.declared.token.TokenKind.TheVariants as kinds
use Rattle.stapl_lexer.specs.PieceTokens.{is_literal_digit}
use Rattle.canonical_text.specs.PrintedTokens.{binary_digits}

-- ---- hexadecimal digits

pub hex_value : (n : ℕ) → n < 16 → digit_value (hex_digit n) ≡ n
hex_value n lt = grind (arith, nat_tests)

hex_is_digit : (n : ℕ) → n < 16 → is_ascii_hexdigit (hex_digit n) ≡ true
hex_is_digit n lt = grind (arith, nat_tests)

module _ (bits : List Bool) where
  four : (n : ℕ) → 4 * suc n ≤ length bits → length (taken (4 * n) 4 bits) ≡ 4
  four n le = length-take-le 4 (drop (4 * n) bits) (omega (arith, length-drop (4 * n) bits))

  small : (n : ℕ) → 4 * suc n ≤ length bits → number_of (taken (4 * n) 4 bits) < 16
  small n le = subst (λ (k : ℕ). number_of (taken (4 * n) 4 bits) < 2 ^ k) (four n le) (number_of-below (taken (4 * n) 4 bits))

  pub hex_back : (n : ℕ) → 4 * n ≤ length bits → bits_of_hex (hex_digits n bits) ≡ take (4 * n) bits
  hex_back zero le = refl
  hex_back (suc n) le =
      let own = taken (4 * n) 4 bits in
      let more : 4 * suc n ≡ 4 * n + 4 = omega arith in
      bits_of_digits-cons 4 (hex_digit (number_of own)) (hex_digits n bits)
      ∙ ap (λ (v : List Bool). v ++ low_bits 4 (digit_value (hex_digit (number_of own)))) (hex_back n (omega arith))
      ∙ ap (λ (k : ℕ). take (4 * n) bits ++ low_bits 4 k) (hex_value (number_of own) (small n le))
      ∙ ap (λ (k : ℕ). take (4 * n) bits ++ low_bits k (number_of own)) (sym (four n le))
      ∙ ap (λ (v : List Bool). take (4 * n) bits ++ v) (low_bits-number_of own)
      ∙ sym (ap (λ (k : ℕ). take k bits) more ∙ take-add (4 * n) 4 bits)

  pub hex_are_digits : (n : ℕ) → 4 * n ≤ length bits → list_all is_ascii_hexdigit (hex_digits n bits) ≡ true
  hex_are_digits zero le = refl
  hex_are_digits (suc n) le =
      rw (hex_is_digit (number_of (taken (4 * n) 4 bits)) (small n le)) (hex_are_digits n (omega arith))

  pub hex_length : (n : ℕ) → length (hex_digits n bits) ≡ n
  hex_length zero = refl
  hex_length (suc n) = ap suc (hex_length n)

pub needed : (n : ℕ) → n % 4 ≡ 0 → 4 * digits_needed n ≡ n
needed n e = omega arith

pub all_hex_back : (bits : List Bool) → length bits % 4 ≡ 0 → bits_of_hex (all_hex_digits bits) ≡ bits
all_hex_back bits e =
    hex_back bits (digits_needed (length bits)) (omega (arith, needed (length bits) e))
    ∙ take_all _ bits (omega (arith, needed (length bits) e))

pub all_hex_are_digits : (bits : List Bool) → length bits % 4 ≡ 0 → list_all is_ascii_hexdigit (all_hex_digits bits) ≡ true
all_hex_are_digits bits e = hex_are_digits bits (digits_needed (length bits)) (omega (arith, needed (length bits) e))

-- ---- binary digits

pub binary_back : (bits : List Bool) → bits_of_binary (binary_digits bits) ≡ bits
binary_back [] = refl
binary_back (b ∷ bits) =
    ap (flat_map (λ digit. low_bits 1 (digit_value digit))) (reverse-append (binary_digits bits) ((if b then 49 else 48) ∷ []))
    ∙ first b (binary_back bits)
  where
    first : (b : Bool) → bits_of_binary (binary_digits bits) ≡ bits →
        low_bits 1 (digit_value (if b then 49 else 48)) ++ bits_of_binary (binary_digits bits) ≡ b ∷ bits
    first true e = ap (λ (v : List Bool). true ∷ v) e
    first false e = ap (λ (v : List Bool). false ∷ v) e

pub binary_are_digits : (bits : List Bool) → list_all (is_literal_digit kinds.Binary) (binary_digits bits) ≡ true
binary_are_digits [] = refl
binary_are_digits (b ∷ bits) =
    list_all-append (is_literal_digit kinds.Binary) (binary_digits bits) _ ∙ rw (binary_are_digits bits) (one b)
  where
    one : (b : Bool) → list_all (is_literal_digit kinds.Binary) ((if b then 49 else 48) ∷ []) ≡ true
    one true = refl
    one false = refl

pub binary_some : (bits : List Bool) → length (binary_digits bits) ≡ length bits
binary_some [] = refl
binary_some (b ∷ bits) = omega (arith, length-append (binary_digits bits) ((if b then 49 else 48) ∷ []), binary_some bits)

-- ---- decimal digits

decimal_digit : (d : ℕ) → digit_value d < 10 → is_ascii_digit d ≡ true
decimal_digit d lt = grind (arith, nat_tests)

are_digits : (ds : List ℕ) → AllDigits 10 ds → list_all is_ascii_digit ds ≡ true
are_digits [] all = refl
are_digits (d ∷ ds) all = rw (decimal_digit d all.0) (are_digits ds all.1)

pub decimal_are_digits : (n : ℕ) → n < 2 ^ 64 → list_all is_ascii_digit (decimal n) ≡ true
decimal_are_digits n lt = are_digits (decimal n) (decimal_is_IsNumeral n lt).0.1

pub decimal_some : (n : ℕ) → n < 2 ^ 64 → 0 < length (decimal n)
decimal_some n lt = (decimal_is_IsNumeral n lt).0.0

pub decimal_back : (n : ℕ) → n < 2 ^ 64 → digits_value 10 (decimal n) ≡ n
decimal_back n lt = (decimal_is_IsNumeral n lt).1
