-- Each printed token is read back, where the byte after it does not go on with it.
use Rattle.std.proofs.Common.{◌≡◌, ◌≢◌, ℕ, ℤ, pos, negsuc, ◌+◌, ◌-◌, ◌*◌, ◌^◌, ◌%◌, ◌<◌, ◌≤◌, ◌==◌, ◌&&◌, ◌||◌, Bool, true, false, List, [], ◌∷◌, ◌++◌, length}
use Rattle.std.proofs.Common.{take, drop, slice_index, Option, Some, None, inl, inr, refl, sym, ap, subst, ◌∙◌, arith, append-nil}
use Rattle.std.specs.Prelude.{nat_lt, nat_le, nat_abs, not, codes, if◌then◌else◌}
use Rattle.std.specs.Char.{is_ascii_alphabetic, is_ascii_digit, is_ascii_hexdigit}
use Rattle.std.specs.Fmt.{decimal}
use Rattle.std.specs.Int.{w32, cast_signed}
use Rattle.std.specs.List.{list_all, list_any}
use Rattle.std.specs.Str.Parse.{digits_value}
use Rattle.std.proofs.Math.Seq.{take-append_seam}
use Rattle.std.proofs.lemmas.Bool.{and_parts, cases_eq, le-leb, eqb-true}
use Rattle.std.proofs.lemmas.Bool.Decides.{nat_tests}
use Rattle.std.proofs.lemmas.Int.{to_z_pos}
use Rattle.std.proofs.Math.ListN.{drop_of_length-le}
use Rattle.std.proofs.lemmas.List.{length-append}
use Rattle.stapl_lexer.specs.Depth.{is_word}
use Rattle.bit_list.specs.Digits.{bits_of_binary, bits_of_hex}
use Rattle.stapl_lexer.specs.declared.terminal.BinOp.{BinOp}
use Rattle.stapl_lexer.specs.declared.terminal.BinOp.TheVariants.{Multiply, Divide, Remainder, Add, Subtract, ShiftLeft, ShiftRight, Less, AtMost, Greater}
use Rattle.stapl_lexer.specs.declared.terminal.BinOp.TheVariants.{AtLeast, Equal, NotEqual, BitAnd, BitXor, BitOr, And, Or}
use Rattle.stapl_lexer.specs.declared.terminal.Function.TheVariants as functions
use Rattle.stapl_lexer.specs.declared.terminal.Mark.{Mark}
use Rattle.stapl_lexer.specs.declared.terminal.Mark.TheVariants as marks
use Rattle.stapl_lexer.specs.declared.terminal.OuterWord.TheVariants as outers
use Rattle.stapl_lexer.specs.declared.token.TokenKind.{TokenKind}
use Rattle.stapl_lexer.specs.declared.token.TokenKind.TheVariants as kinds
use Rattle.stapl_lexer.specs.Names.{is_name_byte}
use Rattle.stapl_lexer.specs.Pieces.{is_white}
use Rattle.stapl_lexer.specs.Runs.{StartsWithout}
use Rattle.stapl_lexer.specs.Marks.{mark_terminal, is_mark_spelling}
use Rattle.stapl_lexer.specs.ReservedWords.{spells_word, word_terminal}
use Rattle.stapl_lexer.specs.Segments.{Closed, ends_string}
use Rattle.stapl_lexer.specs.PieceTokens.{AreBlanks, front_digits, number_value, is_literal_digit, HasNoDigit, SpacedDigits, IsLiteral, digits_in, IsMark}
use Rattle.stapl_lexer.specs.PieceTokens.{kind_of, kind_at, first_word, string_inside}
use Rattle.stapl_lexer.proofs.DigitLemmas.{digits_are_spaced}
use Rattle.stapl_lexer.proofs.NumberLemmas.{front_run}
use Rattle.stapl_lexer.proofs.SpellingLemmas.{no_double_mark}
use Rattle.stapl_syntax.specs.declared.signs.Sign.{Sign}
use Rattle.stapl_syntax.specs.declared.signs.Sign.TheVariants as signs
use Rattle.stapl_syntax.specs.declared.signs.UnOp.TheVariants.{Negate, Complement, Not}
use Rattle.stapl_syntax.specs.Symbols.{Symbol, Plain, Text, Literal, CheckWord, terminal_sign, mark_sign}
use Rattle.bit_list.specs.Hexadecimal.{digits_needed, all_hex_digits}
use Rattle.canonical_text.specs.PrintedTokens.{Printed, Seen, UnaryMark, seen, unary_symbol, operator_spelling, mark_spelling, function_spelling}
use Rattle.canonical_text.specs.PrintedTokens.{sign_spelling, binary_digits, literal_spelling, spelling}
use Rattle.canonical_text.specs.Spacing.{is_ordinary}
use Rattle.canonical_text.specs.Spellable.{is_held, is_spellable_sign, is_spellable}
use Rattle.canonical_text.proofs.Digits.{all_hex_back, all_hex_are_digits, needed, hex_length, binary_back, binary_are_digits, binary_some, decimal_are_digits, decimal_some, decimal_back}
use Rattle.canonical_text.proofs.Words.{IsWordOf, outer_word, inner_word, simple_word, port_word, join_word, if_word, abs_word, bool_word, int_word, state_word, name_word}
use Rattle.canonical_text.proofs.Reading.{IsRead}

-- ---- the byte after a token

-- nothing, a space, or a mark before which no space stands
abbrev pub is_quiet : ℕ → Bool
is_quiet c = list_any (λ k. k == c) (0 ∷ 32 ∷ 44 ∷ 58 ∷ 41 ∷ 93 ∷ 91 ∷ 46 ∷ 40 ∷ [])

-- nothing, or a mark before which no space stands
abbrev pub is_shut : ℕ → Bool
is_shut c = list_any (λ k. k == c) (0 ∷ 44 ∷ 58 ∷ 41 ∷ 93 ∷ 91 ∷ 46 ∷ [])

quiet_no_name : (c : ℕ) → is_quiet c ≡ true → is_name_byte c ≡ false
quiet_no_name c e = grind (arith, nat_tests, e)

quiet_no_digit : (c : ℕ) → is_quiet c ≡ true → is_ascii_digit c ≡ false
quiet_no_digit c e = grind (arith, nat_tests, e)

quiet_no_exponent : (c : ℕ) → is_quiet c ≡ true → ((c == 69) || (c == 101)) ≡ false
quiet_no_exponent c e = grind (arith, nat_tests, e)

quiet_no_dollar : (c : ℕ) → is_quiet c ≡ true → (c == 36) ≡ false
quiet_no_dollar c e = grind (arith, nat_tests, e)

shut_solid : (c : ℕ) → is_shut c ≡ true → (is_white c || c == 39) ≡ false
shut_solid c e = grind (arith, nat_tests, e)

shut_no_digit : (c : ℕ) → is_shut c ≡ true → is_ascii_hexdigit c ≡ false
shut_no_digit c e = grind (arith, nat_tests, e)

shut_no_bit : (c : ℕ) → is_shut c ≡ true → ((c == 48) || (c == 49)) ≡ false
shut_no_bit c e = grind (arith, nat_tests, e)

starts_without : (test : ℕ → Bool) (bytes : List ℕ) → test (slice_index bytes 0) ≡ false → StartsWithout test bytes
starts_without test [] e = tt
starts_without test (b ∷ bs) e = e

and_false : (a b : Bool) → b ≡ false → (a && b) ≡ false
and_false true b e = e
and_false false b e = refl

and_no : (a b : Bool) → a ≡ false → (a && b) ≡ false
and_no true b e = absurd cc
and_no false b e = refl

not_true : (b : Bool) → not b ≡ true → b ≡ false
not_true true e = absurd cc
not_true false e = refl

-- ---- whether the first word is CRC

-- it is known to be
abbrev pub is_crc : Option Bool → Bool
is_crc None = false
is_crc (Some b) = b

kind_at_is : (first : Option Bool) (b : ℕ) → is_crc first ≡ false → kind_at first b ≡ kind_of b
kind_at_is None b e = refl
kind_at_is (Some true) b e = absurd cc
kind_at_is (Some false) b e = refl

word_goes_on : (first : Option Bool) (own : List ℕ) → is_crc first ≡ false → spells_word (codes "CRC") own ≡ false → is_crc (first_word first kinds.Word own) ≡ false
word_goes_on None own e free = free
word_goes_on (Some b) own e free = e

-- a token that is read, and whose piece still has not CRC for its first word
pub record IsReadOn (first : Option Bool) (own after : List ℕ) (t : Symbol) : Type 0 where
  pub read : IsRead first own after t
  pub goes_on : is_crc (first_word first read.kind own) ≡ false

-- ---- words

alpha_some : (own : List ℕ) → is_ascii_alphabetic (slice_index own 0) ≡ true → 0 < length own
alpha_some [] e = absurd cc
alpha_some (b ∷ own) e = omega arith

alpha_solid : (b : ℕ) → is_ascii_alphabetic b ≡ true → (is_white b || b == 39) ≡ false
alpha_solid b e = grind (arith, nat_tests, e)

alpha_kind : (b : ℕ) → is_ascii_alphabetic b ≡ true → kind_of b ≡ kinds.Word
alpha_kind b e = rw e refl

word_reads : (first : Option Bool) (own after : List ℕ) (sign : Sign) → is_crc first ≡ false → IsWordOf own sign → is_quiet (slice_index after 0) ≡ true →
    IsReadOn first own after (Plain sign)
word_reads first own after sign free is quiet =
    let all = and_parts (is_ascii_alphabetic (slice_index own 0) && list_all is_name_byte own && not (nat_lt 32 (length own))) (not (spells_word (codes "CRC") own)) is.spelled in
    let most = and_parts (is_ascii_alphabetic (slice_index own 0) && list_all is_name_byte own) (not (nat_lt 32 (length own))) all.0 in
    let front = and_parts (is_ascii_alphabetic (slice_index own 0)) (list_all is_name_byte own) most.0 in
    record {
      read = record {
        kind = kinds.Word;
        some = alpha_some own front.0;
        kind_is = sym (alpha_kind (slice_index own 0) front.0) ∙ sym (kind_at_is first (slice_index own 0) free);
        solid = alpha_solid (slice_index own 0) front.0;
        spells = (
          record {
            name = own;
            tail = [];
            parts = sym (append-nil own);
            name_bytes = front.1;
            ends = (
              starts_without is_name_byte after (quiet_no_name (slice_index after 0) quiet),
              and_false (spells_word (codes "CHR") own) (slice_index after 0 == 36) (quiet_no_dollar (slice_index after 0) quiet),
            );
          },
          refl,
        );
        sees = ap Plain is.sees;
        short = not_true (nat_lt 32 (length own)) most.1;
        small = refl;
      };
      goes_on = word_goes_on first own free (not_true (spells_word (codes "CRC") own) all.1);
    }

other_goes_on : (first : Option Bool) (kind : TokenKind) (own : List ℕ) → is_crc first ≡ false → is_word kind ≡ false → is_crc (first_word first kind own) ≡ false
other_goes_on first kinds.Word own e w = absurd cc
other_goes_on None kinds.Number own e w = refl
other_goes_on (Some b) kinds.Number own e w = e
other_goes_on None kinds.Text own e w = refl
other_goes_on (Some b) kinds.Text own e w = e
other_goes_on None kinds.Binary own e w = refl
other_goes_on (Some b) kinds.Binary own e w = e
other_goes_on None kinds.Hexadecimal own e w = refl
other_goes_on (Some b) kinds.Hexadecimal own e w = e
other_goes_on None kinds.Mark own e w = refl
other_goes_on (Some b) kinds.Mark own e w = e
other_goes_on None kinds.Hex4 own e w = refl
other_goes_on (Some b) kinds.Hex4 own e w = e

-- CHR$, whatever stands after it
chr_reads : (first : Option Bool) (after : List ℕ) → is_crc first ≡ false → IsReadOn first (codes "CHR$") after (Plain (signs.Function functions.Character))
unfolding word_terminal terminal_sign
chr_reads first after free = record {
  read = record {
    kind = kinds.Word;
    some = omega arith;
    kind_is = sym (kind_at_is first 67 free);
    solid = refl;
    spells = (record { name = codes "CHR"; tail = codes "$"; parts = refl; name_bytes = refl; ends = (refl, refl) }, refl);
    sees = refl;
    short = refl;
    small = refl;
  };
  goes_on = word_goes_on first (codes "CHR$") free refl;
}

-- ---- numbers

value_alone : (own : List ℕ) → list_all is_ascii_digit own ≡ true → number_value own ≡ digits_value 10 own
value_alone own all =
    let front : front_digits own ≡ own = ap front_digits (sym (append-nil own)) ∙ front_run own [] all tt in
    let rest : drop (length own + 1) own ≡ [] = drop_of_length-le own (omega arith) in
    ap (λ (v : List ℕ). digits_value 10 v * 10 ^ digits_value 10 (drop (length v + 1) own)) front
    ∙ ap (λ (v : List ℕ). digits_value 10 own * 10 ^ digits_value 10 v) rest ∙ omega arith

digit_kind : (b : ℕ) → is_ascii_digit b ≡ true → kind_of b ≡ kinds.Number
digit_kind b e = let other : is_ascii_alphabetic b ≡ false = grind (arith, nat_tests, e) in rw (other, e) refl

digit_solid : (b : ℕ) → is_ascii_digit b ≡ true → (is_white b || b == 39) ≡ false
digit_solid b e = grind (arith, nat_tests, e)

pub first_digit : (own : List ℕ) → 0 < length own → list_all is_ascii_digit own ≡ true → is_ascii_digit (slice_index own 0) ≡ true
first_digit [] some all = absurd (omega arith)
first_digit (b ∷ own) some all = (and_parts (is_ascii_digit b) (list_all is_ascii_digit own) all).0

not_larger : (n : ℕ) → n ≤ 2147483648 → nat_lt 2147483648 n ≡ false
not_larger n le = grind (arith, nat_tests)

number_reads : (first : Option Bool) (own after : List ℕ) (n : ℕ) → is_crc first ≡ false → 0 < length own → list_all is_ascii_digit own ≡ true →
    digits_value 10 own ≡ n → n ≤ 2147483648 → is_quiet (slice_index after 0) ≡ true → IsReadOn first own after (Plain (signs.Number (cast_signed w32 n)))
number_reads first own after n free some all value small quiet =
    let first_is = first_digit own some all in
    let value_is : number_value own ≡ n = value_alone own all ∙ value in
    record {
      read = record {
        kind = kinds.Number;
        some = some;
        kind_is = sym (digit_kind (slice_index own 0) first_is) ∙ sym (kind_at_is first (slice_index own 0) free);
        solid = digit_solid (slice_index own 0) first_is;
        spells = (
          record {
            digits = own;
            exponent = [];
            parts = sym (append-nil own);
            are_digits = (λ none. omega (arith, some, ap length none), all);
            ends = (
              starts_without is_ascii_digit after (quiet_no_digit (slice_index after 0) quiet),
              and_no _ (is_ascii_digit (slice_index after 1)) (quiet_no_exponent (slice_index after 0) quiet),
            );
          },
          sym (ap not (quiet_no_name (slice_index after 0) quiet)),
        );
        sees = ap (λ (k : ℕ). Plain (signs.Number (if nat_le k 2147483648 then cast_signed w32 k else pos 0))) value_is
            ∙ ap (λ (b : Bool). Plain (signs.Number (if b then cast_signed w32 n else pos 0))) (le-leb n 2147483648 small);
        short = refl;
        small = ap (nat_lt 2147483648) value_is ∙ not_larger n small;
      };
      goes_on = other_goes_on first kinds.Number own free refl;
    }

-- ---- strings

pub inside_is : (bytes : List ℕ) → string_inside (34 ∷ bytes ++ 34 ∷ []) ≡ bytes
inside_is bytes =
    let len : length (34 ∷ bytes ++ 34 ∷ []) - 2 ≡ length bytes = omega (arith, length-append bytes (34 ∷ [])) in
    ap (λ (n : ℕ). take n (bytes ++ 34 ∷ [])) len ∙ take-append_seam bytes (34 ∷ [])

text_reads : (first : Option Bool) (bytes after : List ℕ) → is_crc first ≡ false → list_all (λ b. not (ends_string b)) bytes ≡ true →
    IsReadOn first (34 ∷ bytes ++ 34 ∷ []) after (Text bytes)
text_reads first bytes after free none = record {
  read = record {
    kind = kinds.Text;
    some = omega arith;
    kind_is = sym (kind_at_is first 34 free);
    solid = refl;
    spells = (Closed bytes, refl, none, refl);
    sees = ap Text (inside_is bytes);
    short = refl;
    small = refl;
  };
  goes_on = other_goes_on first kinds.Text (34 ∷ bytes ++ 34 ∷ []) free refl;
}

-- ---- literals

pub blanks_none : (bytes : List ℕ) → AreBlanks bytes bytes
blanks_none bytes = record { blanks = []; divides = refl; blank = refl }

no_more_digits : (kind : TokenKind) (after : List ℕ) → is_shut (slice_index after 0) ≡ true → is_literal_digit kind (slice_index after 0) ≡ false → HasNoDigit kind after
no_more_digits kind after shut none = record {
  rest = after;
  blank = blanks_none after;
  solid = starts_without (λ b. is_white b || b == 39) after (shut_solid (slice_index after 0) shut);
  stops = starts_without (is_literal_digit kind) after none;
}

pub spaced_digits : (kind : TokenKind) (digits after : List ℕ) → list_all (is_literal_digit kind) digits ≡ true → HasNoDigit kind after → SpacedDigits kind (digits ++ after) digits after
spaced_digits kind [] after all none = (refl, none)
spaced_digits kind (d ∷ digits) after all none =
    let parts = and_parts (is_literal_digit kind d) (list_all (is_literal_digit kind) digits) all in
    (digits ++ after, blanks_none (d ∷ digits ++ after), parts.0, spaced_digits kind digits after parts.1 none)

one_at_least : (n : ℕ) → 0 < n → true ≡ nat_le 1 n
one_at_least n lt = grind (arith, nat_tests)

literal_is : (kind : TokenKind) (mark : ℕ) (digits after : List ℕ) → list_all (is_literal_digit kind) digits ≡ true → 0 < length digits → HasNoDigit kind after →
    IsLiteral kind true (mark ∷ digits) after
literal_is kind mark digits after all some none = (digits, spaced_digits kind digits after all none, one_at_least (length digits) some)

digits_back : (kind : TokenKind) (digits after : List ℕ) → list_all (is_literal_digit kind) digits ≡ true → HasNoDigit kind after → digits_in kind false digits ≡ digits
digits_back kind digits after all none = sym (digits_are_spaced kind digits after digits (spaced_digits kind digits after all none))

hex_reads : (first : Option Bool) (digits after : List ℕ) (bits : List Bool) → is_crc first ≡ false → list_all is_ascii_hexdigit digits ≡ true → 0 < length digits →
    bits_of_hex digits ≡ bits → is_shut (slice_index after 0) ≡ true → IsReadOn first (36 ∷ digits) after (Literal bits)
hex_reads first digits after bits free all some back shut =
    let none = no_more_digits kinds.Hexadecimal after shut (shut_no_digit (slice_index after 0) shut) in
    record {
      read = record {
        kind = kinds.Hexadecimal;
        some = omega arith;
        kind_is = sym (kind_at_is first 36 free);
        solid = refl;
        spells = literal_is kinds.Hexadecimal 36 digits after all some none;
        sees = ap (λ (v : List ℕ). Literal (bits_of_hex v)) (digits_back kinds.Hexadecimal digits after all none) ∙ ap Literal back;
        short = refl;
        small = refl;
      };
      goes_on = other_goes_on first kinds.Hexadecimal (36 ∷ digits) free refl;
    }

binary_reads : (first : Option Bool) (digits after : List ℕ) (bits : List Bool) → is_crc first ≡ false → list_all (is_literal_digit kinds.Binary) digits ≡ true → 0 < length digits →
    bits_of_binary digits ≡ bits → is_shut (slice_index after 0) ≡ true → IsReadOn first (35 ∷ digits) after (Literal bits)
binary_reads first digits after bits free all some back shut =
    let none = no_more_digits kinds.Binary after shut (shut_no_bit (slice_index after 0) shut) in
    record {
      read = record {
        kind = kinds.Binary;
        some = omega arith;
        kind_is = sym (kind_at_is first 35 free);
        solid = refl;
        spells = literal_is kinds.Binary 35 digits after all some none;
        sees = ap (λ (v : List ℕ). Literal (bits_of_binary v)) (digits_back kinds.Binary digits after all none) ∙ ap Literal back;
        short = refl;
        small = refl;
      };
      goes_on = other_goes_on first kinds.Binary (35 ∷ digits) free refl;
    }

literal_reads : (first : Option Bool) (bits : List Bool) (after : List ℕ) → is_crc first ≡ false → 0 < length bits → is_shut (slice_index after 0) ≡ true →
    IsReadOn first (literal_spelling bits) after (Literal bits)
literal_reads first bits after free some shut = by (length bits % 4 == 0) refl
  where
    by : (b : Bool) → (length bits % 4 == 0) ≡ b → IsReadOn first (if b then 36 ∷ all_hex_digits bits else 35 ∷ binary_digits bits) after (Literal bits)
    by true e =
        let whole : length bits % 4 ≡ 0 = eqb-true (length bits % 4) 0 e in
        hex_reads first (all_hex_digits bits) after bits free (all_hex_are_digits bits whole)
        (omega (arith, hex_length bits (digits_needed (length bits)), needed (length bits) whole)) (all_hex_back bits whole) shut
    by false e =
        binary_reads first (binary_digits bits) after bits free (binary_are_digits bits) (omega (arith, binary_some bits)) (binary_back bits) shut

-- ---- marks

-- what is printed for a mark is one, where that byte stands after it
record IsMarkOf (own : List ℕ) (t : Symbol) (after : List ℕ) : Type 0 where
  some : 0 < length own
  kind : kind_of (slice_index own 0) ≡ kinds.Mark
  solid : (is_white (slice_index own 0) || slice_index own 0 == 39) ≡ false
  longest : IsMark own after
  good : true ≡ is_mark_spelling own
  sees : Plain (mark_sign (mark_terminal own)) ≡ t

mark_reads : (first : Option Bool) (own after : List ℕ) (t : Symbol) → is_crc first ≡ false → IsMarkOf own t after → IsReadOn first own after t
mark_reads first own after t free is = record {
  read = record {
    kind = kinds.Mark;
    some = is.some;
    kind_is = sym is.kind ∙ sym (kind_at_is first (slice_index own 0) free);
    solid = is.solid;
    spells = (is.longest, is.good);
    sees = is.sees;
    short = refl;
    small = refl;
  };
  goes_on = other_goes_on first kinds.Mark own free refl;
}

quiet_no_second : (c : ℕ) → is_quiet c ≡ true → c ≢ 46 → list_any (λ mark. mark == c) (codes "<>=&|.") ≡ false
quiet_no_second c e ne = grind (arith, nat_tests, e)

-- a mark of one byte that no point may follow
single : (a c : ℕ) → is_mark_spelling (a ∷ 46 ∷ []) ≡ false → is_quiet c ≡ true → is_mark_spelling (a ∷ c ∷ []) ≡ false
single a c point quiet = elim (cases_eq c 46) [
  | inl e ↦ ap (λ (k : ℕ). is_mark_spelling (a ∷ k ∷ [])) e ∙ point
  | inr ne ↦ no_double_mark a c (quiet_no_second c quiet ne)
]

operator_is : (op : BinOp) (after : List ℕ) → is_quiet (slice_index after 0) ≡ true → IsMarkOf (operator_spelling op) (Plain (signs.Operator op)) after
unfolding operator_spelling mark_terminal terminal_sign
operator_is Multiply after quiet = record { some = omega arith; kind = refl; solid = refl; longest = single 42 (slice_index after 0) refl quiet; good = refl; sees = refl }
operator_is Divide after quiet = record { some = omega arith; kind = refl; solid = refl; longest = single 47 (slice_index after 0) refl quiet; good = refl; sees = refl }
operator_is Remainder after quiet = record { some = omega arith; kind = refl; solid = refl; longest = single 37 (slice_index after 0) refl quiet; good = refl; sees = refl }
operator_is Add after quiet = record { some = omega arith; kind = refl; solid = refl; longest = single 43 (slice_index after 0) refl quiet; good = refl; sees = refl }
operator_is Subtract after quiet = record { some = omega arith; kind = refl; solid = refl; longest = single 45 (slice_index after 0) refl quiet; good = refl; sees = refl }
operator_is ShiftLeft after quiet = record { some = omega arith; kind = refl; solid = refl; longest = refl; good = refl; sees = refl }
operator_is ShiftRight after quiet = record { some = omega arith; kind = refl; solid = refl; longest = refl; good = refl; sees = refl }
operator_is Less after quiet = record { some = omega arith; kind = refl; solid = refl; longest = single 60 (slice_index after 0) refl quiet; good = refl; sees = refl }
operator_is AtMost after quiet = record { some = omega arith; kind = refl; solid = refl; longest = refl; good = refl; sees = refl }
operator_is Greater after quiet = record { some = omega arith; kind = refl; solid = refl; longest = single 62 (slice_index after 0) refl quiet; good = refl; sees = refl }
operator_is AtLeast after quiet = record { some = omega arith; kind = refl; solid = refl; longest = refl; good = refl; sees = refl }
operator_is Equal after quiet = record { some = omega arith; kind = refl; solid = refl; longest = refl; good = refl; sees = refl }
operator_is NotEqual after quiet = record { some = omega arith; kind = refl; solid = refl; longest = refl; good = refl; sees = refl }
operator_is BitAnd after quiet = record { some = omega arith; kind = refl; solid = refl; longest = single 38 (slice_index after 0) refl quiet; good = refl; sees = refl }
operator_is BitXor after quiet = record { some = omega arith; kind = refl; solid = refl; longest = single 94 (slice_index after 0) refl quiet; good = refl; sees = refl }
operator_is BitOr after quiet = record { some = omega arith; kind = refl; solid = refl; longest = single 124 (slice_index after 0) refl quiet; good = refl; sees = refl }
operator_is And after quiet = record { some = omega arith; kind = refl; solid = refl; longest = refl; good = refl; sees = refl }
operator_is Or after quiet = record { some = omega arith; kind = refl; solid = refl; longest = refl; good = refl; sees = refl }

-- a mark after which a space may stand
closing_is : (m : Mark) (after : List ℕ) → is_quiet (slice_index after 0) ≡ true → IsMarkOf (mark_spelling m) (Plain (signs.Mark m)) after
unfolding mark_spelling mark_terminal terminal_sign
closing_is marks.Tilde after quiet = record { some = omega arith; kind = refl; solid = refl; longest = single 126 (slice_index after 0) refl quiet; good = refl; sees = refl }
closing_is marks.Exclamation after quiet = record { some = omega arith; kind = refl; solid = refl; longest = single 33 (slice_index after 0) refl quiet; good = refl; sees = refl }
closing_is marks.LeftRound after quiet = record { some = omega arith; kind = refl; solid = refl; longest = single 40 (slice_index after 0) refl quiet; good = refl; sees = refl }
closing_is marks.RightRound after quiet = record { some = omega arith; kind = refl; solid = refl; longest = single 41 (slice_index after 0) refl quiet; good = refl; sees = refl }
closing_is marks.LeftSquare after quiet = record { some = omega arith; kind = refl; solid = refl; longest = single 91 (slice_index after 0) refl quiet; good = refl; sees = refl }
closing_is marks.RightSquare after quiet = record { some = omega arith; kind = refl; solid = refl; longest = single 93 (slice_index after 0) refl quiet; good = refl; sees = refl }
closing_is marks.Dots after quiet = record { some = omega arith; kind = refl; solid = refl; longest = refl; good = refl; sees = refl }
closing_is marks.Comma after quiet = record { some = omega arith; kind = refl; solid = refl; longest = single 44 (slice_index after 0) refl quiet; good = refl; sees = refl }
closing_is marks.Equals after quiet = record { some = omega arith; kind = refl; solid = refl; longest = single 61 (slice_index after 0) refl quiet; good = refl; sees = refl }
closing_is marks.Colon after quiet = record { some = omega arith; kind = refl; solid = refl; longest = single 58 (slice_index after 0) refl quiet; good = refl; sees = refl }

-- marks after which no space stands: what follows is no matter
left_round_is : (after : List ℕ) → IsMarkOf (codes "(") (Plain (signs.Mark marks.LeftRound)) after
unfolding mark_terminal terminal_sign
left_round_is after = record { some = omega arith; kind = refl; solid = refl; longest = refl; good = refl; sees = refl }

left_square_is : (after : List ℕ) → IsMarkOf (codes "[") (Plain (signs.Mark marks.LeftSquare)) after
unfolding mark_terminal terminal_sign
left_square_is after = record { some = omega arith; kind = refl; solid = refl; longest = refl; good = refl; sees = refl }

dots_is : (after : List ℕ) → IsMarkOf (codes "..") (Plain (signs.Mark marks.Dots)) after
unfolding mark_terminal terminal_sign
dots_is after = record { some = omega arith; kind = refl; solid = refl; longest = refl; good = refl; sees = refl }

negate_is : (after : List ℕ) → IsMarkOf (codes "-") (unary_symbol Negate) after
unfolding mark_terminal terminal_sign unary_symbol
negate_is after = record { some = omega arith; kind = refl; solid = refl; longest = refl; good = refl; sees = refl }

complement_is : (after : List ℕ) → IsMarkOf (codes "~") (unary_symbol Complement) after
unfolding mark_terminal terminal_sign unary_symbol
complement_is after = record { some = omega arith; kind = refl; solid = refl; longest = refl; good = refl; sees = refl }

-- but no `=` may follow `!`
not_alone : (c : ℕ) → c ≢ 61 → is_mark_spelling (33 ∷ c ∷ []) ≡ false
unfolding mark_terminal
not_alone c ne = by (61 == c) refl
  where
    by : (b : Bool) → (61 == c) ≡ b → is_mark_spelling (33 ∷ c ∷ []) ≡ false
    by true e = absurd (ne (sym (eqb-true 61 c e)))
    by false e = rw e refl

not_is : (after : List ℕ) → slice_index after 0 ≢ 61 → IsMarkOf (codes "!") (unary_symbol Not) after
unfolding mark_terminal terminal_sign unary_symbol
not_is after ne = record { some = omega arith; kind = refl; solid = refl; longest = not_alone (slice_index after 0) ne; good = refl; sees = refl }

-- ---- all tokens

-- what may stand after a token: this byte, or 0 for nothing
unfoldable pub may_stand : Printed → ℕ → Bool
may_stand (UnaryMark op) c = not (c == 61)
may_stand (Seen (Plain (signs.Mark marks.LeftRound))) c = true
may_stand (Seen (Plain (signs.Mark marks.LeftSquare))) c = true
may_stand (Seen (Plain (signs.Mark marks.Dots))) c = true
may_stand (Seen (Plain (signs.Function functions.Character))) c = true
may_stand (Seen (Text bytes)) c = true
may_stand (Seen (Literal bits)) c = is_shut c
may_stand _ c = is_quiet c

pub below : (n m : ℕ) → nat_lt n m ≡ true → n < m
below n m e = grind (arith, nat_tests, e)

pub held_value : (z : ℤ) → is_held z ≡ true → (cast_signed w32 (nat_abs z) ≡ z) × (nat_abs z ≤ 2147483648)
unfolding is_held
held_value (pos n) e = let lt = below n 2147483648 e in (to_z_pos w32 n lt, omega (arith, lt))
held_value (negsuc n) e =
    let is : n ≡ 2147483647 = eqb-true n 2147483647 e in
    subst (λ (k : ℕ). (cast_signed w32 (nat_abs (negsuc k)) ≡ negsuc k) × (nat_abs (negsuc k) ≤ 2147483648)) (sym is) (refl, omega arith)

not_equal : (c k : ℕ) → not (c == k) ≡ true → c ≢ k
not_equal c k e is = grind (arith, nat_tests, e, is)

pub token_reads : (first : Option Bool) (t : Printed) (after : List ℕ) → is_crc first ≡ false → is_spellable (seen t) ≡ true → is_ordinary t ≡ true →
    may_stand t (slice_index after 0) ≡ true → IsReadOn first (spelling t) after (seen t)
unfolding is_spellable is_spellable_sign is_ordinary may_stand sign_spelling mark_spelling function_spelling
token_reads first (Seen (Plain (signs.Number z))) after free spells other stands =
    let own = held_value z spells in
    subst (λ (w : ℤ). IsReadOn first (decimal (nat_abs z)) after (Plain (signs.Number w))) own.0
    (number_reads first (decimal (nat_abs z)) after (nat_abs z) free (decimal_some (nat_abs z) (omega (arith, own.1)))
    (decimal_are_digits (nat_abs z) (omega (arith, own.1))) (decimal_back (nat_abs z) (omega (arith, own.1))) own.1 stands)
token_reads first (Seen (Plain (signs.Name v))) after free spells other stands = word_reads first v after (signs.Name v) free (name_word v spells) stands
token_reads first (Seen (Plain (signs.State k))) after free spells other stands =
    word_reads first (sign_spelling (signs.State k)) after (signs.State k) free (state_word k (below k 16 spells)) stands
token_reads first (Seen (Plain (signs.Operator op))) after free spells other stands = mark_reads first (operator_spelling op) after _ free (operator_is op after stands)
token_reads first (Seen (Plain (signs.Mark marks.LeftRound))) after free spells other stands = mark_reads first _ after _ free (left_round_is after)
token_reads first (Seen (Plain (signs.Mark marks.LeftSquare))) after free spells other stands = mark_reads first _ after _ free (left_square_is after)
token_reads first (Seen (Plain (signs.Mark marks.Dots))) after free spells other stands = mark_reads first _ after _ free (dots_is after)
token_reads first (Seen (Plain (signs.Mark marks.Tilde))) after free spells other stands = mark_reads first _ after _ free (closing_is marks.Tilde after stands)
token_reads first (Seen (Plain (signs.Mark marks.Exclamation))) after free spells other stands = mark_reads first _ after _ free (closing_is marks.Exclamation after stands)
token_reads first (Seen (Plain (signs.Mark marks.RightRound))) after free spells other stands = mark_reads first _ after _ free (closing_is marks.RightRound after stands)
token_reads first (Seen (Plain (signs.Mark marks.RightSquare))) after free spells other stands = mark_reads first _ after _ free (closing_is marks.RightSquare after stands)
token_reads first (Seen (Plain (signs.Mark marks.Comma))) after free spells other stands = mark_reads first _ after _ free (closing_is marks.Comma after stands)
token_reads first (Seen (Plain (signs.Mark marks.Equals))) after free spells other stands = mark_reads first _ after _ free (closing_is marks.Equals after stands)
token_reads first (Seen (Plain (signs.Mark marks.Colon))) after free spells other stands = mark_reads first _ after _ free (closing_is marks.Colon after stands)
token_reads first (Seen (Plain (signs.Outer outers.Note))) after free spells other stands = word_reads first _ after _ free (outer_word outers.Note (λ e. absurd cc)) stands
token_reads first (Seen (Plain (signs.Outer outers.Action))) after free spells other stands = word_reads first _ after _ free (outer_word outers.Action (λ e. absurd cc)) stands
token_reads first (Seen (Plain (signs.Outer outers.Procedure))) after free spells other stands = word_reads first _ after _ free (outer_word outers.Procedure (λ e. absurd cc)) stands
token_reads first (Seen (Plain (signs.Outer outers.Data))) after free spells other stands = word_reads first _ after _ free (outer_word outers.Data (λ e. absurd cc)) stands
token_reads first (Seen (Plain (signs.Outer outers.EndData))) after free spells other stands = word_reads first _ after _ free (outer_word outers.EndData (λ e. absurd cc)) stands
token_reads first (Seen (Plain (signs.Outer outers.Crc))) after free spells other stands = absurd cc
token_reads first (Seen (Plain (signs.Inner w))) after free spells other stands = word_reads first _ after _ free (inner_word w) stands
token_reads first (Seen (Plain (signs.Simple w))) after free spells other stands = word_reads first _ after _ free (simple_word w) stands
token_reads first (Seen (Plain signs.If)) after free spells other stands = word_reads first _ after _ free if_word stands
token_reads first (Seen (Plain (signs.Port w))) after free spells other stands = word_reads first _ after _ free (port_word w) stands
token_reads first (Seen (Plain (signs.Join w))) after free spells other stands = word_reads first _ after _ free (join_word w) stands
token_reads first (Seen (Plain (signs.Function functions.Abs))) after free spells other stands = word_reads first _ after _ free abs_word stands
token_reads first (Seen (Plain (signs.Function functions.Bool))) after free spells other stands = word_reads first _ after _ free bool_word stands
token_reads first (Seen (Plain (signs.Function functions.Int))) after free spells other stands = word_reads first _ after _ free int_word stands
token_reads first (Seen (Plain (signs.Function functions.Character))) after free spells other stands = chr_reads first after free
token_reads first (Seen (Plain signs.LeftOutStatement)) after free spells other stands = absurd cc
token_reads first (Seen (Plain signs.LeftOutWord)) after free spells other stands = absurd cc
token_reads first (Seen (Plain signs.Other)) after free spells other stands = absurd cc
token_reads first (Seen (Text bytes)) after free spells other stands = text_reads first bytes after free spells
token_reads first (Seen (Literal bits)) after free spells other stands = literal_reads first bits after free (below 0 (length bits) spells) stands
token_reads first (Seen (CheckWord n)) after free spells other stands = absurd cc
token_reads first (UnaryMark Negate) after free spells other stands = mark_reads first _ after _ free (negate_is after)
token_reads first (UnaryMark Complement) after free spells other stands = mark_reads first _ after _ free (complement_is after)
token_reads first (UnaryMark Not) after free spells other stands = mark_reads first _ after _ free (not_is after (not_equal (slice_index after 0) 61 stands))
