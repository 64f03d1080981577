-- Printed tokens with their spaces are read back.
use Rattle.std.proofs.Common.{◌≡◌, ℕ, ◌<◌, ◌==◌, ◌&&◌, ◌||◌, Bool, true, false, List, [], ◌∷◌, ◌++◌, length, map, slice_index, Option, None, refl, sym, ap, subst, ◌∙◌, arith, append-nil}
use Rattle.std.specs.Prelude.{nat_abs, not, if◌then◌else◌}
use Rattle.std.specs.Char.{is_ascii_alphabetic, is_ascii_digit}
use Rattle.std.specs.Fmt.{decimal}
use Rattle.std.specs.List.{list_all}
use Rattle.std.proofs.lemmas.Bool.{and_parts}
use Rattle.std.proofs.lemmas.Bool.Decides.{nat_tests}
use Rattle.stapl_lexer.specs.declared.terminal.Function.TheVariants as functions
use Rattle.stapl_lexer.specs.declared.terminal.Mark.TheVariants as marks
use Rattle.stapl_lexer.specs.Segments.{Plain as PlainByte}
use Rattle.stapl_lexer.specs.PieceTokens.{AreBlanks, first_word}
use Rattle.stapl_syntax.specs.declared.signs.Sign.TheVariants as signs
use Rattle.stapl_syntax.specs.declared.signs.UnOp.TheVariants.{Negate, Complement, Not}
use Rattle.stapl_syntax.specs.Symbols.{Plain, Text, Literal}
use Rattle.canonical_text.specs.PrintedTokens.{Printed, Seen, UnaryMark, seen, mark_spelling, function_spelling, sign_spelling, spelling}
use Rattle.canonical_text.specs.Spacing.{leans_back, leans_on, is_function, is_left_round, touches, gap, spaced, begins_operand, stays_apart, stay_apart, is_ordinary}
use Rattle.canonical_text.specs.Spellable.{is_spellable, is_spellable_sign}
use Rattle.canonical_text.proofs.Digits.{decimal_are_digits, decimal_some}
use Rattle.canonical_text.proofs.Words.{printed_name}
use Rattle.canonical_text.proofs.Reading.{Reads}
use Rattle.canonical_text.proofs.TokenReads.{is_crc, is_quiet, is_shut, may_stand, held_value, first_digit, blanks_none, token_reads}

-- nothing may stand after an ordinary token
nothing_stands : (t : Printed) → is_ordinary t ≡ true → may_stand t 0 ≡ true
unfolding may_stand is_ordinary
nothing_stands (Seen (Plain (signs.Mark marks.LeftRound))) other = refl
nothing_stands (Seen (Plain (signs.Mark marks.LeftSquare))) other = refl
nothing_stands (Seen (Plain (signs.Mark marks.Dots))) other = refl
nothing_stands (Seen (Plain (signs.Function functions.Character))) other = refl
nothing_stands (Seen (Text bytes)) other = refl
nothing_stands (Seen (Literal bits)) other = refl
nothing_stands (UnaryMark op) other = refl
nothing_stands _ other = refl

-- a token has a byte
some_byte : (t : Printed) → is_spellable (seen t) ≡ true → is_ordinary t ≡ true → 0 < length (spelling t)
some_byte t spells other = (token_reads None t [] refl spells other (nothing_stands t other)).read.some

front_of : (a b : List ℕ) → 0 < length a → slice_index (a ++ b) 0 ≡ slice_index a 0
front_of [] b some = absurd (omega arith)
front_of (x ∷ a) b some = refl

spaced_first : (t : Printed) (ts : List Printed) → 0 < length (spelling t) → slice_index (spaced (t ∷ ts)) 0 ≡ slice_index (spelling t) 0
spaced_first t [] some = refl
spaced_first t (u ∷ us) some = front_of (spelling t) (gap t u ++ spaced (u ∷ us)) some

-- ---- the first byte of what may touch a token

leaning_first : (t : Printed) → leans_back t ≡ true → is_shut (slice_index (spelling t) 0) ≡ true
unfolding leans_back sign_spelling mark_spelling
leaning_first (Seen (Plain (signs.Mark marks.Comma))) e = refl
leaning_first (Seen (Plain (signs.Mark marks.Colon))) e = refl
leaning_first (Seen (Plain (signs.Mark marks.RightRound))) e = refl
leaning_first (Seen (Plain (signs.Mark marks.RightSquare))) e = refl
leaning_first (Seen (Plain (signs.Mark marks.LeftSquare))) e = refl
leaning_first (Seen (Plain (signs.Mark marks.Dots))) e = refl
leaning_first _ e = absurd cc

round_first : (t : Printed) → is_left_round t ≡ true → is_quiet (slice_index (spelling t) 0) ≡ true
unfolding is_left_round sign_spelling mark_spelling
round_first (Seen (Plain (signs.Mark marks.LeftRound))) e = refl
round_first _ e = absurd cc

shut_quiet : (c : ℕ) → is_shut c ≡ true → is_quiet c ≡ true
shut_quiet c e = grind (arith, nat_tests, e)

digit_no_equals : (c : ℕ) → is_ascii_digit c ≡ true → not (c == 61) ≡ true
digit_no_equals c e = grind (arith, nat_tests, e)

letter_no_equals : (c : ℕ) → is_ascii_alphabetic c ≡ true → not (c == 61) ≡ true
letter_no_equals c e = grind (arith, nat_tests, e)

operand_first : (t : Printed) → is_spellable (seen t) ≡ true → begins_operand t ≡ true → not (slice_index (spelling t) 0 == 61) ≡ true
unfolding is_spellable is_spellable_sign begins_operand sign_spelling mark_spelling function_spelling
operand_first (Seen (Plain (signs.Number z))) spells e =
    let own = held_value z spells in
    digit_no_equals _ (first_digit (decimal (nat_abs z)) (decimal_some (nat_abs z) (omega (arith, own.1))) (decimal_are_digits (nat_abs z) (omega (arith, own.1))))
operand_first (Seen (Plain (signs.Name v))) spells e =
    letter_no_equals (slice_index v 0) (and_parts (is_ascii_alphabetic (slice_index v 0)) _ (and_parts _ _ (printed_name v spells).named).0).0
operand_first (Seen (Plain (signs.Mark marks.LeftRound))) spells e = refl
operand_first (Seen (Plain (signs.Function functions.Abs))) spells e = refl
operand_first (Seen (Plain (signs.Function functions.Bool))) spells e = refl
operand_first (Seen (Plain (signs.Function functions.Character))) spells e = refl
operand_first (Seen (Plain (signs.Function functions.Int))) spells e = refl
operand_first (UnaryMark Negate) spells e = refl
operand_first (UnaryMark Complement) spells e = refl
operand_first (UnaryMark Not) spells e = refl
operand_first _ spells e = absurd cc

-- ---- what stands after a token

-- a space
space_stands : (t : Printed) → is_ordinary t ≡ true → leans_on t ≡ false → (next : Printed) → leans_back next ≡ false → stays_apart t next ≡ true → may_stand t 32 ≡ true
unfolding may_stand is_ordinary leans_on stays_apart
space_stands (Seen (Plain (signs.Mark marks.LeftRound))) other on next back apart = refl
space_stands (Seen (Plain (signs.Mark marks.LeftSquare))) other on next back apart = refl
space_stands (Seen (Plain (signs.Mark marks.Dots))) other on next back apart = refl
space_stands (Seen (Plain (signs.Function functions.Character))) other on next back apart = refl
space_stands (Seen (Text bytes)) other on next back apart = refl
space_stands (Seen (Literal bits)) other on next back apart = absurd cc
space_stands (UnaryMark op) other on next back apart = absurd cc
space_stands _ other on next back apart = refl

alone : (b : Bool) → (b || false) ≡ true → b ≡ true
alone true e = refl
alone false e = absurd cc

round_or_back : (next : Printed) → (leans_back next || is_left_round next) ≡ true → is_quiet (slice_index (spelling next) 0) ≡ true
round_or_back next touch = by (leans_back next) refl touch
  where
    by : (b : Bool) → leans_back next ≡ b → (b || is_left_round next) ≡ true → is_quiet (slice_index (spelling next) 0) ≡ true
    by true e touch = shut_quiet (slice_index (spelling next) 0) (leaning_first next e)
    by false e touch = round_first next touch

-- a token that touches it
next_stands : (t next : Printed) → is_spellable (seen next) ≡ true → touches t next ≡ true → stays_apart t next ≡ true → may_stand t (slice_index (spelling next) 0) ≡ true
unfolding may_stand leans_on stays_apart is_function
next_stands (Seen (Plain (signs.Mark marks.LeftRound))) next spells touch apart = refl
next_stands (Seen (Plain (signs.Mark marks.LeftSquare))) next spells touch apart = refl
next_stands (Seen (Plain (signs.Mark marks.Dots))) next spells touch apart = refl
next_stands (Seen (Plain (signs.Function functions.Character))) next spells touch apart = refl
next_stands (Seen (Plain (signs.Function f))) next spells touch apart = round_or_back next touch
next_stands (Seen (Text bytes)) next spells touch apart = refl
next_stands (Seen (Literal bits)) next spells touch apart = leaning_first next apart
next_stands (UnaryMark op) next spells touch apart = operand_first next spells apart
next_stands _ next spells touch apart = shut_quiet (slice_index (spelling next) 0) (leaning_first next (alone (leans_back next) touch))

after_stands : (t next : Printed) (ts : List Printed) → is_spellable (seen next) ≡ true → is_ordinary next ≡ true → is_ordinary t ≡ true → stays_apart t next ≡ true →
    may_stand t (slice_index (gap t next ++ spaced (next ∷ ts)) 0) ≡ true
after_stands t next ts spells other own apart = by (leans_on t) (leans_back next) (is_function t && is_left_round next) refl refl refl
  where
    touching : touches t next ≡ true → may_stand t (slice_index (spaced (next ∷ ts)) 0) ≡ true
    touching touch = ap (may_stand t) (spaced_first next ts (some_byte next spells other)) ∙ next_stands t next spells touch apart

    by : (on back round : Bool) → leans_on t ≡ on → leans_back next ≡ back → (is_function t && is_left_round next) ≡ round →
        may_stand t (slice_index ((if on || back || round then [] else 32 ∷ []) ++ spaced (next ∷ ts)) 0) ≡ true
    by true back round p q r = touching (ap (λ (b : Bool). b || leans_back next || (is_function t && is_left_round next)) p)
    by false true round p q r = touching (ap (λ (b : Bool). leans_on t || b || (is_function t && is_left_round next)) q ∙ ap (λ (b : Bool). b || true || (is_function t && is_left_round next)) p)
    by false false true p q r = touching (ap (λ (b : Bool). leans_on t || leans_back next || b) r ∙ ap (λ (b : Bool). b || leans_back next || true) p ∙ ap (λ (b : Bool). b || true) q)
    by false false false p q r = space_stands t own p next q apart

-- ---- lists

-- bytes that are blank before whatever follows them
abbrev pub IsBlank : List ℕ → Type 0
IsBlank blank = (rest : List ℕ) → AreBlanks (blank ++ rest) rest

pub nothing_blank : IsBlank []
nothing_blank rest = blanks_none rest

pub space_blank : IsBlank (32 ∷ [])
space_blank rest = record { blanks = PlainByte 32 ∷ []; divides = (rest, refl, ((λ e. absurd cc), (λ e. absurd cc)), refl); blank = refl }

pub line_feed_blank : IsBlank (10 ∷ [])
line_feed_blank rest = record { blanks = PlainByte 10 ∷ []; divides = (rest, refl, ((λ e. absurd cc), (λ e. absurd cc)), refl); blank = refl }

gap_blank : (t next : Printed) → IsBlank (gap t next)
gap_blank t next = by (touches t next)
  where
    by : (b : Bool) → IsBlank (if b then [] else 32 ∷ [])
    by true = nothing_blank
    by false = space_blank

-- what is printed of ordinary tokens that stay apart is read as what they are
pub list_reads : (first : Option Bool) (blank : List ℕ) (ts : List Printed) → is_crc first ≡ false → IsBlank blank →
    list_all (λ t. is_spellable (seen t)) ts ≡ true → list_all is_ordinary ts ≡ true → stay_apart ts ≡ true →
    Reads first (blank ++ spaced ts) (map seen ts)
list_reads first blank [] free blanks spell other apart = blanks []
list_reads first blank (t ∷ []) free blanks spell other apart =
    let spells = (and_parts (is_spellable (seen t)) true spell).0 in
    let own = (and_parts (is_ordinary t) true other).0 in
    let read = token_reads first t [] free spells own (nothing_stands t own) in (
      blank,
      spelling t,
      [],
      ap (λ (v : List ℕ). blank ++ v) (sym (append-nil (spelling t))),
      subst (AreBlanks (blank ++ spelling t)) (sym (append-nil (spelling t))) (blanks (spelling t)),
      read.read,
      blanks_none [],
    )
list_reads first blank (t ∷ next ∷ ts) free blanks spell other apart =
    let spells = and_parts (is_spellable (seen t)) (list_all (λ t. is_spellable (seen t)) (next ∷ ts)) spell in
    let own = and_parts (is_ordinary t) (list_all is_ordinary (next ∷ ts)) other in
    let aparts = and_parts (stays_apart t next) (stay_apart (next ∷ ts)) apart in
    let after = gap t next ++ spaced (next ∷ ts) in
    let read = token_reads first t after free spells.0 own.0
    (after_stands t next ts (and_parts (is_spellable (seen next)) _ spells.1).0 (and_parts (is_ordinary next) _ own.1).0 own.0 aparts.0) in (
      blank,
      spelling t,
      after,
      refl,
      blanks (spelling t ++ after),
      read.read,
      list_reads (first_word first read.read.kind (spelling t)) (gap t next) (next ∷ ts) read.goes_on (gap_blank t next) spells.1 own.1 aparts.1,
    )
