-- The segments of printed tokens: strings, and single bytes of the language.
use Rattle.std.proofs.Common.{◌≡◌, ◌≢◌, ℕ, ◌%◌, ◌==◌, ◌&&◌, ◌||◌, Bool, true, false, List, [], ◌∷◌, ◌++◌, length, map, refl, sym, ap, subst, ◌∙◌, arith, append_assoc}
use Rattle.std.specs.Prelude.{nat_abs, nat_lt, not, codes, if◌then◌else◌}
use Rattle.std.specs.Char.{is_ascii_digit, is_ascii_hexdigit}
use Rattle.std.specs.Fmt.{decimal}
use Rattle.std.specs.List.{list_all, list_any}
use Rattle.std.proofs.lemmas.Bool.{and_parts, eqb-true}
use Rattle.std.proofs.lemmas.Bool.Decides.{nat_tests}
use Rattle.std.proofs.lemmas.List.Folds.{list_all-append}
use Rattle.base.specs.Bits.{low_bits}
use Rattle.base.proofs.NumberBits.{length-low_bits}
use Rattle.bit_list.specs.Hexadecimal.{all_hex_digits}
use Rattle.stapl_lexer.specs.declared.terminal.BinOp.{BinOp}
use Rattle.stapl_lexer.specs.declared.terminal.BinOp.TheVariants.{Multiply, Divide, Remainder, Add, Subtract, ShiftLeft, ShiftRight, Less, AtMost, Greater}
use Rattle.stapl_lexer.specs.declared.terminal.BinOp.TheVariants.{AtLeast, Equal, NotEqual, BitAnd, BitXor, BitOr, And, Or}
use Rattle.stapl_lexer.specs.declared.terminal.Function.TheVariants as functions
use Rattle.stapl_lexer.specs.declared.terminal.Mark.{Mark}
use Rattle.stapl_lexer.specs.declared.terminal.Mark.TheVariants as marks
use Rattle.stapl_lexer.specs.declared.terminal.OuterWord.TheVariants as outers
use Rattle.stapl_lexer.specs.declared.token.TokenKind.TheVariants as kinds
use Rattle.stapl_lexer.specs.Names.{is_name_byte}
use Rattle.stapl_lexer.specs.Pieces.{is_white, is_semicolon}
use Rattle.stapl_lexer.specs.PieceTokens.{is_literal_digit}
use Rattle.stapl_lexer.specs.PieceFaults.{is_language_byte, is_foreign, is_open_string, is_compressed}
use Rattle.stapl_lexer.specs.Segments.{Segment, Closed, Plain as PlainByte, Open, Comment, ends_string, Divides}
use Rattle.stapl_syntax.specs.declared.signs.Sign.{Sign}
use Rattle.stapl_syntax.specs.declared.signs.Sign.TheVariants as signs
use Rattle.stapl_syntax.specs.declared.signs.UnOp.TheVariants.{Negate, Complement, Not}
use Rattle.stapl_syntax.specs.Symbols.{Plain, Text, Literal, CheckWord}
use Rattle.canonical_text.specs.PrintedTokens.{Printed, Seen, UnaryMark, seen, operator_spelling, mark_spelling, outer_spelling, function_spelling}
use Rattle.canonical_text.specs.PrintedTokens.{sign_spelling, binary_digits, literal_spelling, spelling}
use Rattle.canonical_text.specs.Spacing.{touches, gap, spaced}
use Rattle.canonical_text.specs.Spellable.{is_spellable, is_spellable_sign}
use Rattle.canonical_text.proofs.Digits.{all_hex_are_digits, binary_are_digits, decimal_are_digits}
use Rattle.canonical_text.proofs.Words.{IsWordOf, inner_word, simple_word, port_word, join_word, state_word, name_word}
use Rattle.canonical_text.proofs.TokenReads.{below, held_value}

-- a byte of the language that is no quote, apostrophe, semicolon or `@`
abbrev pub is_calm : ℕ → Bool
is_calm b = is_language_byte b && not (b == 34) && not (b == 39) && not (b == 59) && not (b == 64)

name_calm : (b : ℕ) → is_name_byte b ≡ true → is_calm b ≡ true
name_calm b e = grind (arith, nat_tests, e)

hex_calm : (b : ℕ) → is_ascii_hexdigit b ≡ true → is_calm b ≡ true
hex_calm b e = grind (arith, nat_tests, e)

digit_calm : (b : ℕ) → is_ascii_digit b ≡ true → is_calm b ≡ true
digit_calm b e = grind (arith, nat_tests, e)

bit_calm : (b : ℕ) → is_literal_digit kinds.Binary b ≡ true → is_calm b ≡ true
bit_calm b e = grind (arith, nat_tests, e)

all_calm : (test : ℕ → Bool) → ((b : ℕ) → test b ≡ true → is_calm b ≡ true) → (bytes : List ℕ) → list_all test bytes ≡ true → list_all is_calm bytes ≡ true
all_calm test each [] all = refl
all_calm test each (b ∷ bs) all =
    let parts = and_parts (test b) (list_all test bs) all in
    rw (each b parts.0) (all_calm test each bs parts.1)

word_calm : (own : List ℕ) (sign : Sign) → IsWordOf own sign → list_all is_calm own ≡ true
word_calm own sign is = all_calm is_name_byte name_calm own (and_parts _ (list_all is_name_byte own) (and_parts _ (not (nat_lt 32 (length own))) (and_parts _ _ is.spelled).0).0).1

literal_calm : (bits : List Bool) → list_all is_calm (literal_spelling bits) ≡ true
literal_calm bits = by (length bits % 4 == 0) refl
  where
    by : (b : Bool) → (length bits % 4 == 0) ≡ b → list_all is_calm (if b then 36 ∷ all_hex_digits bits else 35 ∷ binary_digits bits) ≡ true
    by true e = all_calm is_ascii_hexdigit hex_calm (all_hex_digits bits) (all_hex_are_digits bits (eqb-true (length bits % 4) 0 e))
    by false e = all_calm (is_literal_digit kinds.Binary) bit_calm (binary_digits bits) (binary_are_digits bits)

operator_calm : (op : BinOp) → list_all is_calm (operator_spelling op) ≡ true
unfolding operator_spelling
operator_calm Multiply = refl
operator_calm Divide = refl
operator_calm Remainder = refl
operator_calm Add = refl
operator_calm Subtract = refl
operator_calm ShiftLeft = refl
operator_calm ShiftRight = refl
operator_calm Less = refl
operator_calm AtMost = refl
operator_calm Greater = refl
operator_calm AtLeast = refl
operator_calm Equal = refl
operator_calm NotEqual = refl
operator_calm BitAnd = refl
operator_calm BitXor = refl
operator_calm BitOr = refl
operator_calm And = refl
operator_calm Or = refl

mark_calm : (m : Mark) → list_all is_calm (mark_spelling m) ≡ true
unfolding mark_spelling
mark_calm marks.Tilde = refl
mark_calm marks.Exclamation = refl
mark_calm marks.LeftRound = refl
mark_calm marks.RightRound = refl
mark_calm marks.LeftSquare = refl
mark_calm marks.RightSquare = refl
mark_calm marks.Dots = refl
mark_calm marks.Comma = refl
mark_calm marks.Equals = refl
mark_calm marks.Colon = refl

sign_calm : (sign : Sign) → is_spellable_sign sign ≡ true → list_all is_calm (sign_spelling sign) ≡ true
unfolding is_spellable_sign sign_spelling outer_spelling function_spelling
sign_calm (signs.Number z) spells = all_calm is_ascii_digit digit_calm (decimal (nat_abs z)) (decimal_are_digits (nat_abs z) (omega (arith, (held_value z spells).1)))
sign_calm (signs.Name v) spells = word_calm v (signs.Name v) (name_word v spells)
sign_calm (signs.State k) spells = word_calm (sign_spelling (signs.State k)) (signs.State k) (state_word k (below k 16 spells))
sign_calm (signs.Operator op) spells = operator_calm op
sign_calm (signs.Mark m) spells = mark_calm m
sign_calm (signs.Outer outers.Crc) spells = refl
sign_calm (signs.Outer outers.Note) spells = refl
sign_calm (signs.Outer outers.Action) spells = refl
sign_calm (signs.Outer outers.Procedure) spells = refl
sign_calm (signs.Outer outers.Data) spells = refl
sign_calm (signs.Outer outers.EndData) spells = refl
sign_calm (signs.Inner w) spells = word_calm _ (signs.Inner w) (inner_word w)
sign_calm (signs.Simple w) spells = word_calm _ (signs.Simple w) (simple_word w)
sign_calm signs.If spells = refl
sign_calm (signs.Port w) spells = word_calm _ (signs.Port w) (port_word w)
sign_calm (signs.Join w) spells = word_calm _ (signs.Join w) (join_word w)
sign_calm (signs.Function functions.Abs) spells = refl
sign_calm (signs.Function functions.Bool) spells = refl
sign_calm (signs.Function functions.Int) spells = refl
sign_calm (signs.Function functions.Character) spells = refl
sign_calm signs.LeftOutStatement spells = absurd cc
sign_calm signs.LeftOutWord spells = absurd cc
sign_calm signs.Other spells = absurd cc

-- ---- segments

-- a closed string, or a byte of the language that is no semicolon and no `@`
abbrev pub is_calm_segment : Segment → Bool
is_calm_segment (PlainByte b) = is_calm b || is_white b
is_calm_segment (Closed bytes) = true
is_calm_segment (Open bytes) = false
is_calm_segment (Comment bytes) = false

abbrev pub plain_segments : List ℕ → List Segment
plain_segments bytes = map PlainByte bytes

-- the segments of a token
abbrev pub token_segments : Printed → List Segment
token_segments (Seen (Text bytes)) = Closed bytes ∷ []
token_segments t = plain_segments (spelling t)

-- the segments of tokens with their spaces
abbrev pub spaced_segments : List Printed → List Segment
spaced_segments [] = []
spaced_segments (t ∷ []) = token_segments t
spaced_segments (t ∷ next ∷ ts) = token_segments t ++ (plain_segments (gap t next) ++ spaced_segments (next ∷ ts))

pub divides_on : (a b : List Segment) (x y z : List ℕ) → Divides a x y → Divides b y z → Divides (a ++ b) x z
divides_on [] b x y z d e = subst (λ (v : List ℕ). Divides b v z) (sym d) e
divides_on (s ∷ a) b x y z d e = (d.0, d.1, d.2, divides_on a b d.0 y z d.3 e)

calm_no_quote : (b : ℕ) → (is_calm b || is_white b) ≡ true → (b ≢ 34) × (b ≢ 39)
calm_no_quote b e = ((λ is. quote b e is), (λ is. apostrophe b e is))
  where
    quote : (b : ℕ) → (is_calm b || is_white b) ≡ true → b ≡ 34 → ⊥
    quote b e is = let f = subst (λ (k : ℕ). (is_calm k || is_white k) ≡ true) is e in absurd cc

    apostrophe : (b : ℕ) → (is_calm b || is_white b) ≡ true → b ≡ 39 → ⊥
    apostrophe b e is = let f = subst (λ (k : ℕ). (is_calm k || is_white k) ≡ true) is e in absurd cc

pub plain_divides : (bytes rest : List ℕ) → list_all (λ b. is_calm b || is_white b) bytes ≡ true → Divides (plain_segments bytes) (bytes ++ rest) rest
plain_divides [] rest all = refl
plain_divides (b ∷ bs) rest all =
    let parts = and_parts (is_calm b || is_white b) (list_all (λ b. is_calm b || is_white b) bs) all in
    (bs ++ rest, refl, calm_no_quote b parts.0, plain_divides bs rest parts.1)

pub plain_calm : (bytes : List ℕ) → list_all (λ b. is_calm b || is_white b) bytes ≡ true → list_all is_calm_segment (plain_segments bytes) ≡ true
plain_calm [] all = refl
plain_calm (b ∷ bs) all =
    let parts = and_parts (is_calm b || is_white b) (list_all (λ b. is_calm b || is_white b) bs) all in
    rw parts.0 (plain_calm bs parts.1)

calm_or_white : (bytes : List ℕ) → list_all is_calm bytes ≡ true → list_all (λ b. is_calm b || is_white b) bytes ≡ true
calm_or_white [] all = refl
calm_or_white (b ∷ bs) all =
    let parts = and_parts (is_calm b) (list_all is_calm bs) all in
    rw parts.0 (calm_or_white bs parts.1)

-- what is known of the segments of some bytes, before others
pub record AreCalm (segments : List Segment) (bytes : List ℕ) : Type 0 where
  pub divides : (rest : List ℕ) → Divides segments (bytes ++ rest) rest
  pub calm : list_all is_calm_segment segments ≡ true

pub calm_on : (a b : List Segment) (x y : List ℕ) → AreCalm a x → AreCalm b y → AreCalm (a ++ b) (x ++ y)
calm_on a b x y p q = record {
  divides = λ rest. divides_on a b ((x ++ y) ++ rest) (y ++ rest) rest (subst (λ (v : List ℕ). Divides a v (y ++ rest)) (sym (append_assoc x y rest)) (p.divides (y ++ rest))) (q.divides rest);
  calm = list_all-append is_calm_segment a b ∙ rw p.calm q.calm;
}

pub plain_are_calm : (bytes : List ℕ) → list_all (λ b. is_calm b || is_white b) bytes ≡ true → AreCalm (plain_segments bytes) bytes
plain_are_calm bytes all = record { divides = λ rest. plain_divides bytes rest all; calm = plain_calm bytes all }

text_is_calm : (bytes : List ℕ) → list_all (λ b. not (ends_string b)) bytes ≡ true → AreCalm (Closed bytes ∷ []) (34 ∷ bytes ++ 34 ∷ [])
text_is_calm bytes none = record { divides = λ rest. (rest, refl, none, refl); calm = refl }

token_is_calm : (t : Printed) → is_spellable (seen t) ≡ true → AreCalm (token_segments t) (spelling t)
unfolding is_spellable
token_is_calm (Seen (Plain sign)) spells = plain_are_calm (sign_spelling sign) (calm_or_white (sign_spelling sign) (sign_calm sign spells))
token_is_calm (Seen (Text bytes)) spells = text_is_calm bytes spells
token_is_calm (Seen (Literal bits)) spells = plain_are_calm (literal_spelling bits) (calm_or_white (literal_spelling bits) (literal_calm bits))
token_is_calm (Seen (CheckWord n)) spells =
    plain_are_calm (all_hex_digits (low_bits 16 n))
    (calm_or_white (all_hex_digits (low_bits 16 n)) (all_calm is_ascii_hexdigit hex_calm (all_hex_digits (low_bits 16 n))
    (all_hex_are_digits (low_bits 16 n) (ap (λ (k : ℕ). k % 4) (length-low_bits 16 n)))))
token_is_calm (UnaryMark Negate) spells = plain_are_calm (codes "-") refl
token_is_calm (UnaryMark Complement) spells = plain_are_calm (codes "~") refl
token_is_calm (UnaryMark Not) spells = plain_are_calm (codes "!") refl

gap_is_calm : (t next : Printed) → AreCalm (plain_segments (gap t next)) (gap t next)
gap_is_calm t next = by (touches t next)
  where
    by : (b : Bool) → AreCalm (plain_segments (if b then [] else 32 ∷ [])) (if b then [] else 32 ∷ [])
    by true = plain_are_calm [] refl
    by false = plain_are_calm (32 ∷ []) refl

pub spaced_are_calm : (ts : List Printed) → list_all (λ t. is_spellable (seen t)) ts ≡ true → AreCalm (spaced_segments ts) (spaced ts)
spaced_are_calm [] all = plain_are_calm [] refl
spaced_are_calm (t ∷ []) all = token_is_calm t (and_parts (is_spellable (seen t)) true all).0
spaced_are_calm (t ∷ next ∷ ts) all =
    let parts = and_parts (is_spellable (seen t)) (list_all (λ t. is_spellable (seen t)) (next ∷ ts)) all in
    calm_on (token_segments t) (plain_segments (gap t next) ++ spaced_segments (next ∷ ts)) (spelling t) (gap t next ++ spaced (next ∷ ts)) (token_is_calm t parts.0)
    (calm_on (plain_segments (gap t next)) (spaced_segments (next ∷ ts)) (gap t next) (spaced (next ∷ ts)) (gap_is_calm t next) (spaced_are_calm (next ∷ ts) parts.1))

-- ---- calm segments have no fault, and end no piece

calm_byte : (b : ℕ) → (is_calm b || is_white b) ≡ true → (is_language_byte b ≡ true) × ((b == 64) ≡ false) × ((b == 59) ≡ false)
calm_byte b e = (language b e, at_sign b e, semicolon b e)
  where
    language : (b : ℕ) → (is_calm b || is_white b) ≡ true → is_language_byte b ≡ true
    language b e = grind (arith, nat_tests, e)

    at_sign : (b : ℕ) → (is_calm b || is_white b) ≡ true → (b == 64) ≡ false
    at_sign b e = grind (arith, nat_tests, e)

    semicolon : (b : ℕ) → (is_calm b || is_white b) ≡ true → (b == 59) ≡ false
    semicolon b e = grind (arith, nat_tests, e)

-- what is known of a calm segment
record IsFaultless (s : Segment) : Type 0 where
  foreign : is_foreign s ≡ false
  unclosed : is_open_string s ≡ false
  compressed : is_compressed s ≡ false
  ends_none : is_semicolon s ≡ false

segment_faultless : (s : Segment) → is_calm_segment s ≡ true → IsFaultless s
segment_faultless (PlainByte b) e = let c = calm_byte b e in record { foreign = ap not c.0; unclosed = refl; compressed = c.1; ends_none = c.2 }
segment_faultless (Closed bytes) e = record { foreign = refl; unclosed = refl; compressed = refl; ends_none = refl }
segment_faultless (Open bytes) e = absurd cc
segment_faultless (Comment bytes) e = absurd cc

pub none_such : (test : Segment → Bool) → ((s : Segment) → is_calm_segment s ≡ true → test s ≡ false) → (segments : List Segment) →
    list_all is_calm_segment segments ≡ true → list_any test segments ≡ false
none_such test each [] all = refl
none_such test each (s ∷ ss) all =
    let parts = and_parts (is_calm_segment s) (list_all is_calm_segment ss) all in
    rw (each s parts.0) (none_such test each ss parts.1)

pub no_foreign : (segments : List Segment) → list_all is_calm_segment segments ≡ true → list_any is_foreign segments ≡ false
no_foreign = none_such is_foreign (λ s e. (segment_faultless s e).foreign)

pub no_open : (segments : List Segment) → list_all is_calm_segment segments ≡ true → list_any is_open_string segments ≡ false
no_open = none_such is_open_string (λ s e. (segment_faultless s e).unclosed)

pub no_compressed : (segments : List Segment) → list_all is_calm_segment segments ≡ true → list_any is_compressed segments ≡ false
no_compressed = none_such is_compressed (λ s e. (segment_faultless s e).compressed)

pub no_end : (s : Segment) → is_calm_segment s ≡ true → is_semicolon s ≡ false
no_end s e = (segment_faultless s e).ends_none
