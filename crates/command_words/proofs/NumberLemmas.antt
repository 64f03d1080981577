-- On numbers in words.
use Rattle.std.proofs.Common.{◌≡◌, ◌<◌, ◌^◌, ℕ, List, [], ◌∷◌, length, arith, rules, true, ◌&&◌, not, ◌==◌}
use Rattle.std.proofs.lemmas.Bool.{and_parts}
use Rattle.std.proofs.lemmas.Str.Parse.{IsNumeralModel, numerals_by_value, without_leading_plus_none, not_in_digits}
use Rattle.std.specs.Char.{is_ascii_digit}
use Rattle.std.specs.List.{list_all}
use Rattle.std.specs.Str.Parse.{digits_value, without_leading_plus, IsNumeral}
use Rattle.base.specs.Decimals.{is_decimal}
use Rattle.command_words.specs.KeyedWords.{SpellsNumber}

own : IsNumeralModel (λ ds. list_all is_ascii_digit ds ≡ true) (digits_value 10)
own = numerals_by_value _ (search rules)

not_empty : (spelling : List ℕ) → not (length spelling == 0) ≡ true → 0 < length spelling
not_empty [] h = absurd cc
not_empty (b ∷ bytes) h = omega arith

-- what is spelled as a decimal number has digits alone, and one at least
pub digits_of : (spelling : List ℕ) → is_decimal spelling ≡ true → (list_all is_ascii_digit spelling ≡ true) × (0 < length spelling)
digits_of spelling h =
    let front = (and_parts (not (length spelling == 0) && list_all is_ascii_digit spelling) _ h).0 in
    let both = and_parts (not (length spelling == 0)) (list_all is_ascii_digit spelling) front in
    (both.1, not_empty spelling both.0)

no_plus : (spelling : List ℕ) → list_all is_ascii_digit spelling ≡ true → 0 < length spelling → without_leading_plus spelling ≡ spelling
no_plus spelling digits some =
    without_leading_plus_none spelling (not_in_digits own spelling 43 digits (λ r. omega (arith, r.0, r.1)) 0 some)

-- what spells a number below 2 ^ 32 is read as one
pub number_parsed : (least most : ℕ) (spelling : List ℕ) (n : ℕ) → most < 2 ^ 32 → SpellsNumber least most spelling n →
    IsNumeral 10 (without_leading_plus spelling) × (digits_value 10 (without_leading_plus spelling) < 2 ^ 32)
number_parsed least most spelling n below s =
    let d = digits_of spelling s.spelled in
    let value = s.value in
    let few = s.few in
    rw (no_plus spelling d.0 d.1) ((d.1, own.to spelling d.0), omega arith)
