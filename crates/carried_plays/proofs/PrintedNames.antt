-- The name with a number is a name of the language, in upper case and not reserved.
use Rattle.std.proofs.Common.{◌≡◌, ℕ, ◌≤◌, ◌+◌, true, false, not, List, [], ◌∷◌, ◌++◌, length, codes, refl, ap, ◌∙◌, arith}
use Rattle.std.specs.Prelude.{nat_le}
use Rattle.std.specs.List.{list_all}
use Rattle.std.specs.Fmt.{decimal}
use Rattle.std.specs.Char.{is_ascii_digit, to_ascii_uppercase}
use Rattle.std.proofs.lemmas.Bool.{and_parts, and_from, le-leb}
use Rattle.std.proofs.lemmas.Bool.Decides.{nat_tests}
use Rattle.std.proofs.lemmas.Fmt.{length-decimal-le}
use Rattle.std.proofs.lemmas.List.{length-append}
use Rattle.std.proofs.lemmas.Slice.Eq.{bytes_eq-Decides}
use Rattle.std.specs.Str.{bytes_eq, str_to_ascii_uppercase}
use Rattle.stapl_lexer.specs.Names.{is_name_byte, is_name}
use Rattle.stapl_lexer.specs.ReservedWords.{word_terminal, is_reserved_word, is_free_name}
use Rattle.canonical_text.specs.Spellable.{is_printed_name}
use Rattle.canonical_text.proofs.Digits.{decimal_are_digits}
use Rattle.carried_plays.specs.PadNames.{pad_name}

digit_in_name : (d : ℕ) → is_ascii_digit d ≡ true → is_name_byte d ≡ true
digit_in_name d e = grind (arith, nat_tests, e)

digit_is_upper : (d : ℕ) → is_ascii_digit d ≡ true → to_ascii_uppercase d ≡ d
digit_is_upper d e = grind (arith, nat_tests, e)

digits_in_name : (ds : List ℕ) → list_all is_ascii_digit ds ≡ true → list_all is_name_byte ds ≡ true
digits_in_name [] e = refl
digits_in_name (d ∷ ds) e =
    let p = and_parts (is_ascii_digit d) (list_all is_ascii_digit ds) e in
    and_from (is_name_byte d) (list_all is_name_byte ds) (digit_in_name d p.0) (digits_in_name ds p.1)

digits_are_upper : (ds : List ℕ) → list_all is_ascii_digit ds ≡ true → str_to_ascii_uppercase ds ≡ ds
digits_are_upper [] e = refl
digits_are_upper (d ∷ ds) e =
    let p = and_parts (is_ascii_digit d) (list_all is_ascii_digit ds) e in
    ap (λ x. x ∷ str_to_ascii_uppercase ds) (digit_is_upper d p.0) ∙ ap (λ t. d ∷ t) (digits_are_upper ds p.1)

-- CHAIN_PAD_ and some digits

named : (ds : List ℕ) → list_all is_ascii_digit ds ≡ true → length ds ≤ 22 → is_name (codes "CHAIN_PAD_" ++ ds) ≡ true
named ds e few =
    let whole : length (codes "CHAIN_PAD_" ++ ds) ≡ 10 + length ds = length-append (codes "CHAIN_PAD_") ds in
    and_from (list_all is_name_byte ds) (nat_le (length (codes "CHAIN_PAD_" ++ ds)) 32) (digits_in_name ds e)
    (le-leb (length (codes "CHAIN_PAD_" ++ ds)) 32 (omega (arith, whole, few)))

not_reserved : (ds : List ℕ) → is_reserved_word (codes "CHAIN_PAD_" ++ ds) ≡ false
unfolding word_terminal
not_reserved ds = refl

upper : (ds : List ℕ) → list_all is_ascii_digit ds ≡ true → str_to_ascii_uppercase (codes "CHAIN_PAD_" ++ ds) ≡ codes "CHAIN_PAD_" ++ ds
upper ds e = ap (λ t. codes "CHAIN_PAD_" ++ t) (digits_are_upper ds e)

pub pad_name_is_printed : (n : ℕ) → n ≤ 100000 → is_printed_name (pad_name n) ≡ true
pad_name_is_printed n few =
    let ds : List ℕ = decimal n in
    let digits : list_all is_ascii_digit ds ≡ true = decimal_are_digits n (omega (arith, few)) in
    let short : length ds ≤ 6 = length-decimal-le 6 n (omega arith) (omega (arith, few)) (omega (arith, few)) in
    let free : is_free_name (pad_name n) ≡ true =
    and_from (is_name (pad_name n)) (not (is_reserved_word (pad_name n))) (named ds digits (omega (arith, short))) (ap not (not_reserved ds)) in
    and_from (is_free_name (pad_name n)) (bytes_eq (str_to_ascii_uppercase (pad_name n)) (pad_name n)) free
    ((bytes_eq-Decides (str_to_ascii_uppercase (pad_name n)) (pad_name n)).1 (upper ds digits))
