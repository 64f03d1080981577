-- On the digits of literals.
use Rattle.std.proofs.Common.{◌≡◌, ℕ, ◌+◌, ◌*◌, ◌%◌, ◌<◌, List, [], ◌∷◌, true, ◌==◌, Option, Some, length, take, get_or, sym, ap, ◌∙◌, arith}
use Rattle.std.specs.Prelude.{All, ◌||◌}
use Rattle.std.specs.List.{list_all}
use Rattle.std.proofs.lemmas.Bool.{and_parts}
use Rattle.std.proofs.lemmas.List.Elements.{All-nil, All-cons}
use Rattle.std.specs.Char.{digit_value, is_ascii_hexdigit}
use Rattle.std.specs.Option.{SomeIff}
use Rattle.std.specs.Str.Parse.{digits_value}
use Rattle.std.proofs.lemmas.Bool.Decides.{nat_tests}
use Rattle.std.proofs.lemmas.Int.Digits.{digits_value_more}
use Rattle.bit_list.specs.Digits.{IsDigit, IsFirstBadDigit}
use Rattle.stapl_lexer.specs.declared.token.TokenKind.{TokenKind}
use Rattle.stapl_lexer.specs.declared.token.TokenKind.TheVariants as kinds
use Rattle.stapl_lexer.specs.PieceTokens.{is_literal_digit}
use Rattle.bit_list.proofs.Steps.{value_of_digit}

-- what `to_digit` reads is the value of the digit
one_more : (a number value : ℕ) → number ≡ a % 65536 → (number * 16 + value) % 65536 ≡ (a * 16 + value) % 65536
one_more a number value e = omega arith

-- the number with one more digit
pub number_more : (digits : List ℕ) (i number value c : ℕ) (read : Option ℕ) (P : Type 0) → i < length digits → number ≡ digits_value 16 (take i digits) % 65536 →
    SomeIff read P (digit_value c) → read ≡ Some value → c ≡ get_or digits i 0 → (number * 16 + value) % 65536 ≡ digits_value 16 (take (i + 1) digits) % 65536
number_more digits i number value c read P lt e reads got here =
    one_more (digits_value 16 (take i digits)) number value e
    ∙ ap (λ (d : ℕ). (digits_value 16 (take i digits) * 16 + d) % 65536) (value_of_digit read P _ value reads got ∙ ap digit_value here)
    ∙ ap (λ (d : ℕ). d % 65536) (sym (digits_value_more 16 digits i lt))

-- the base of the digits of each kind of literal
pub base_of : TokenKind → ℕ
base_of kinds.Binary = 2
base_of _ = 16

binary_digit : (b : ℕ) → ((b == 48) || (b == 49)) ≡ true → digit_value b < 2
binary_digit b h = grind (arith, nat_tests, h)

hex_digit : (b : ℕ) → is_ascii_hexdigit b ≡ true → digit_value b < 16
hex_digit b h = grind (arith, nat_tests, h)

digit_below : (kind : TokenKind) (b : ℕ) → is_literal_digit kind b ≡ true → digit_value b < base_of kind
unfolding base_of
digit_below kinds.Binary b h = binary_digit b h
digit_below kinds.Word b h = hex_digit b h
digit_below kinds.Number b h = hex_digit b h
digit_below kinds.Text b h = hex_digit b h
digit_below kinds.Hexadecimal b h = hex_digit b h
digit_below kinds.Mark b h = hex_digit b h
digit_below kinds.Hex4 b h = hex_digit b h

-- the digits of a literal are digits of its base
each_digit : (kind : TokenKind) (digits : List ℕ) → list_all (is_literal_digit kind) digits ≡ true → All (IsDigit (base_of kind)) digits
each_digit kind [] all = All-nil (IsDigit (base_of kind))
each_digit kind (b ∷ bs) all =
    let both = and_parts (is_literal_digit kind b) (list_all (is_literal_digit kind) bs) all in
    All-cons (IsDigit (base_of kind)) b bs (digit_below kind b both.0) (each_digit kind bs both.1)

pub all_binary : (digits : List ℕ) → list_all (is_literal_digit kinds.Binary) digits ≡ true → All (IsDigit 2) digits
unfolding base_of
all_binary digits all = each_digit kinds.Binary digits all

pub all_hexadecimal : (digits : List ℕ) → list_all (is_literal_digit kinds.Hexadecimal) digits ≡ true → All (IsDigit 16) digits
unfolding base_of
all_hexadecimal digits all = each_digit kinds.Hexadecimal digits all

pub all_check : (digits : List ℕ) → list_all (is_literal_digit kinds.Hex4) digits ≡ true → All (IsDigit 16) digits
unfolding base_of
all_check digits all = each_digit kinds.Hex4 digits all

-- where all bytes are digits none is the first that is none
pub no_bad_digit : (base : ℕ) (bytes : List ℕ) (place : ℕ) → IsFirstBadDigit base bytes place → All (IsDigit base) bytes → ⊥
no_bad_digit base bytes place bad all = bad.bad (all place 0 bad.inside)
