-- A printed CRC statement is read back.
use Rattle.std.proofs.Common.{◌≡◌, ℕ, ◌+◌, ◌/◌, ◌%◌, ◌^◌, ◌<◌, ◌==◌, ◌||◌, zero, suc, Bool, true, false, List, [], ◌∷◌, ◌++◌, length, take, drop, slice_index}
use Rattle.std.proofs.Common.{Some, None, refl, sym, ap, subst, ◌∙◌, arith, append-nil}
use Rattle.std.specs.Prelude.{codes}
use Rattle.std.specs.Char.{digit_value, is_ascii_hexdigit}
use Rattle.std.specs.List.{list_all}
use Rattle.std.specs.Str.Parse.{digits_value}
use Rattle.std.proofs.lemmas.Bool.Decides.{nat_tests}
use Rattle.base.specs.Bits.{low_bits, number_of}
use Rattle.base.proofs.NumberBits.{length-low_bits, drop-low_bits, number_of-low_bits}
use Rattle.bit_list.specs.Ranges.{taken}
use Rattle.bit_list.specs.Hexadecimal.{hex_digit, digits_needed, hex_digits, all_hex_digits}
use Rattle.stapl_lexer.specs.declared.terminal.OuterWord.TheVariants as outers
use Rattle.stapl_lexer.specs.declared.token.TokenKind.TheVariants as kinds
use Rattle.stapl_lexer.specs.Pieces.{is_white}
use Rattle.stapl_lexer.specs.ReservedWords.{word_terminal}
use Rattle.stapl_lexer.specs.PieceTokens.{AreBlanks, HasNoDigit}
use Rattle.stapl_lexer.proofs.DigitLemmas.{digits_are_spaced}
use Rattle.stapl_syntax.specs.Symbols.{CheckWord, terminal_sign}
use Rattle.stapl_syntax.specs.Statements.{outer}
use Rattle.canonical_text.specs.PrintedTokens.{Seen, outer_spelling, sign_spelling}
use Rattle.canonical_text.specs.Spacing.{leans_back, leans_on, is_function, is_left_round, spaced}
use Rattle.canonical_text.proofs.Digits.{hex_value, all_hex_are_digits, hex_length}
use Rattle.canonical_text.proofs.Reading.{IsRead, Reads}
use Rattle.canonical_text.proofs.TokenReads.{blanks_none, spaced_digits}
use Rattle.std.proofs.lemmas.Bool.{and_parts}
use Rattle.canonical_text.proofs.ListReads.{IsBlank, space_blank}

-- ---- the four digits of a number

take_low : (k m x : ℕ) → take k (low_bits (k + m) x) ≡ low_bits k x
take_low zero m x = refl
take_low (suc k) m x =
    let more : suc k + m ≡ suc (k + m) = omega arith in
    ap (λ (j : ℕ). take (suc k) (low_bits j x)) more
    ∙ ap (λ (v : List Bool). (x % 2 == 1) ∷ v) (take_low k m (x / 2))

module _ (n : ℕ) where
  digit_at : (j m : ℕ) → j + (4 + m) ≡ 16 → number_of (taken j 4 (low_bits 16 n)) ≡ n / 2 ^ j % 16
  digit_at j m e =
      ap (λ (k : ℕ). number_of (take 4 (drop j (low_bits k n)))) (sym e)
      ∙ ap (λ (v : List Bool). number_of (take 4 v)) (drop-low_bits j (4 + m) n)
      ∙ ap number_of (take_low 4 m (n / 2 ^ j)) ∙ number_of-low_bits 4 (n / 2 ^ j)

  value_at : (j m : ℕ) → j + (4 + m) ≡ 16 → digit_value (hex_digit (number_of (taken j 4 (low_bits 16 n)))) ≡ n / 2 ^ j % 16
  value_at j m e =
      ap (λ (k : ℕ). digit_value (hex_digit k)) (digit_at j m e) ∙ hex_value (n / 2 ^ j % 16) (omega arith)

  four : hex_digits 4 (low_bits 16 n) ≡ all_hex_digits (low_bits 16 n)
  four = ap (λ (k : ℕ). hex_digits (digits_needed k) (low_bits 16 n)) (sym (length-low_bits 16 n))

  value_of_four : n < 65536 → digits_value 16 (hex_digits 4 (low_bits 16 n)) % 65536 ≡ n
  value_of_four lt = rw (value_at 12 0 refl, value_at 8 4 refl, value_at 4 8 refl, value_at 0 12 refl) (omega arith)

-- ---- CRC and its digits

no_digit_after : HasNoDigit kinds.Hex4 []
no_digit_after = record { rest = []; blank = blanks_none []; solid = tt; stops = tt }

digit_solid : (b : ℕ) → is_ascii_hexdigit b ≡ true → (is_white b || b == 39) ≡ false
digit_solid b e = grind (arith, nat_tests, e)

first_passes : (test : ℕ → Bool) (own : List ℕ) → 0 < length own → list_all test own ≡ true → test (slice_index own 0) ≡ true
first_passes test [] some all = absurd (omega arith)
first_passes test (b ∷ own) some all = (and_parts (test b) (list_all test own) all).0

digits_read : (n : ℕ) → n < 65536 → IsRead (Some true) (all_hex_digits (low_bits 16 n)) [] (CheckWord n)
digits_read n lt =
    let own = all_hex_digits (low_bits 16 n) in
    let len : length own ≡ 4 = ap length (sym (four n)) ∙ hex_length (low_bits 16 n) 4 in
    let all : list_all is_ascii_hexdigit own ≡ true = all_hex_are_digits (low_bits 16 n) (ap (λ (k : ℕ). k % 4) (length-low_bits 16 n)) in
    let spaced = spaced_digits kinds.Hex4 own [] all no_digit_after in
    record {
      kind = kinds.Hex4;
      some = omega (arith, len);
      kind_is = refl;
      solid = digit_solid (slice_index own 0) (first_passes is_ascii_hexdigit own (omega (arith, len)) all);
      spells = record { digits = own; spaced = spaced; four = len; ends = blanks_none [] };
      sees = ap (λ (v : List ℕ). CheckWord (digits_value 16 v % 65536)) (sym (digits_are_spaced kinds.Hex4 own [] own spaced))
          ∙ ap (λ (v : List ℕ). CheckWord (digits_value 16 v % 65536)) (sym (four n)) ∙ ap CheckWord (value_of_four n lt);
      short = refl;
      small = refl;
    }

pub crc_reads : (blank : List ℕ) (n : ℕ) → IsBlank blank → n < 65536 →
    Reads None (blank ++ spaced (Seen (outer outers.Crc) ∷ Seen (CheckWord n) ∷ [])) (outer outers.Crc ∷ CheckWord n ∷ [])
unfolding leans_on leans_back is_function is_left_round sign_spelling outer_spelling word_terminal terminal_sign
crc_reads blank n blanks lt =
    let own = all_hex_digits (low_bits 16 n) in (
      blank,
      codes "CRC",
      32 ∷ own,
      refl,
      blanks (codes "CRC" ++ (32 ∷ own)),
      record {
        kind = kinds.Word;
        some = omega arith;
        kind_is = refl;
        solid = refl;
        spells = (record { name = codes "CRC"; tail = []; parts = refl; name_bytes = refl; ends = (refl, refl) }, refl);
        sees = refl;
        short = refl;
        small = refl;
      },
      (
        32 ∷ [],
        own,
        [],
        ap (λ (v : List ℕ). 32 ∷ v) (sym (append-nil own)),
        subst (λ (v : List ℕ). AreBlanks (32 ∷ own) v) (sym (append-nil own)) (space_blank own),
        digits_read n lt,
        blanks_none [],
      ),
    )
