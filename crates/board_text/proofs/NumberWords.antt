-- The values of digits.
use Rattle.std.proofs.Common.{◌≡◌, ◌<◌, ◌≤◌, ◌+◌, ◌*◌, ◌^◌, ◌-◌, ℕ, min, List, [], ◌∷◌, length, take, get_or, sym, ap, ◌∙◌, true, arith}
use Rattle.std.proofs.lemmas.Bool.{and_parts}
use Rattle.std.proofs.lemmas.Bool.Decides.{nat_tests}
use Rattle.std.proofs.lemmas.Int.Digits.{digits_value_more, digits_value-lt}
use Rattle.std.proofs.lemmas.Str.Parse.{digits_value-take-le}
use Rattle.std.proofs.Math.Nat.{pow-le-pow_right}
use Rattle.std.specs.Char.{is_ascii_digit, is_ascii_hexdigit, digit_value}
use Rattle.std.specs.List.{list_all}
use Rattle.std.specs.Str.Parse.{digits_value, AllDigits}
use Rattle.stapl_lexer.proofs.NumberLemmas.{passes_at, digit_value_is, capped}
use Rattle.board_text.specs.Shapes.{are_hexadecimal}

-- a value that is capped at each digit is the value, capped
pub decimal_more : (limit : ℕ) (digits : List ℕ) (i v : ℕ) → list_all is_ascii_digit digits ≡ true → i < length digits →
    v ≡ min (digits_value 10 (take i digits)) limit → min (v * 10 + (get_or digits i 0 - 48)) limit ≡ min (digits_value 10 (take (i + 1) digits)) limit
decimal_more limit digits i v all lt e =
    capped (digits_value 10 (take i digits)) v (get_or digits i 0 - 48) limit e
    ∙ ap (λ (d : ℕ). min (digits_value 10 (take i digits) * 10 + d) limit) (sym (digit_value_is _ (passes_at is_ascii_digit digits i all lt)))
    ∙ ap (λ (d : ℕ). min d limit) (sym (digits_value_more 10 digits i lt))

hexadecimal_below : (b : ℕ) → is_ascii_hexdigit b ≡ true → digit_value b < 16
hexadecimal_below b h = grind (arith, nat_tests, h)

all_digits : (digits : List ℕ) → are_hexadecimal digits ≡ true → AllDigits 16 digits
all_digits [] e = tt
all_digits (d ∷ ds) e = (hexadecimal_below d (and_parts (is_ascii_hexdigit d) _ e).0, all_digits ds (and_parts (is_ascii_hexdigit d) _ e).1)

pub hexadecimal_lt : (digits : List ℕ) → are_hexadecimal digits ≡ true → digits_value 16 digits < 16 ^ length digits
hexadecimal_lt digits e = digits_value-lt 16 digits (all_digits digits e)

-- the values of the digits up to a place fit 64 bits
pub front_fits : (digits : List ℕ) (i : ℕ) → are_hexadecimal digits ≡ true → length digits ≤ 16 → digits_value 16 (take i digits) < 2 ^ 64
front_fits digits i e short =
    let front : digits_value 16 (take i digits) ≤ digits_value 16 digits = digits_value-take-le 16 digits i (omega arith) in
    let whole : digits_value 16 digits < 16 ^ length digits = hexadecimal_lt digits e in
    let most : 16 ^ length digits ≤ 16 ^ 16 = pow-le-pow_right (omega arith) short in
    omega arith

pub hexadecimal_more : (digits : List ℕ) (i : ℕ) → i < length digits → digits_value 16 (take (i + 1) digits) ≡ digits_value 16 (take i digits) * 16 + digit_value (get_or digits i 0)
hexadecimal_more digits i lt = digits_value_more 16 digits i lt
