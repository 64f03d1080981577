-- Each text has pieces, and the bytes between two places have tokens, good and bad.
use Rattle.std.proofs.Common.{◌≡◌, ◌≤◌, ◌<◌, ◌+◌, ℕ, List, [], ◌∷◌, ◌++◌, length, take, drop, get_or, refl, sym, ap, ◌∙◌, Bool, true, false, ◌&&◌, ◌||◌, ◌==◌, not, arith, subst, zero, suc, append_assoc, append-nil, slice_index, slice_range, Option, None, Some, nat_le, codes, if◌then◌else◌, ◌⊎◌, inl, inr}
use Rattle.std.proofs.Math.Seq.{take-append_seam, drop-append_seam}
use Rattle.std.proofs.lemmas.Bool.{and_parts, cases_eq, eqb-true}
use Rattle.std.proofs.lemmas.Bool.Decides.{nat_tests}
use Rattle.std.proofs.lemmas.List.{length-append}
use Rattle.std.specs.Char.{is_ascii_alphabetic, is_ascii_digit}
use Rattle.std.specs.List.{list_all, slice_split}
use Rattle.stapl_lexer.specs.declared.piece.Piece.{Piece}
use Rattle.stapl_lexer.specs.declared.token.Token.{Token}
use Rattle.stapl_lexer.specs.declared.token.TokenKind.{TokenKind}
use Rattle.stapl_lexer.specs.declared.token.TokenKind.TheVariants as kinds
use Rattle.stapl_lexer.specs.Names.{is_name_byte}
use Rattle.stapl_lexer.specs.Pieces.{is_blank, is_semicolon, is_white, pieces_from, IsCut}
use Rattle.stapl_lexer.specs.Runs.{StartsWithout, IsSolid, IsDigits}
use Rattle.stapl_lexer.specs.Marks.{is_mark_spelling}
use Rattle.stapl_lexer.specs.ReservedWords.{spells_word}
use Rattle.stapl_lexer.specs.Segments.{Segment, Plain, Closed, Open, Comment, spelled, IsSegment, Divides}
use Rattle.stapl_lexer.specs.PieceTokens.{AreBlanks, is_exponent_mark, begins_exponent, IsExponent, is_literal_digit, SpacedDigits, IsLiteral, is_closed, Spells, kind_at, first_word, value_of, terminal_of, Lexeme, HasLexemes}
use Rattle.stapl_lexer.proofs.Dividing.{divided}
use Rattle.stapl_lexer.proofs.LexemeLemmas.{range_first}
use Rattle.stapl_lexer.proofs.PieceTokenLemmas.{clash, same_blanks, same_spaced, range_after, range_front, range_length}
use Rattle.stapl_lexer.proofs.RunLemmas.{both_true}
use Rattle.stapl_lexer.proofs.SpellingLemmas.{no_zero_mark}
use Rattle.stapl_lexer.proofs.CutLemmas.{head_is, blank_by_head}
use Rattle.stapl_lexer.proofs.NameLemmas.{letter_name}

-- each text has pieces
pub cut_exists : (text : List ℕ) → (pieces : List Piece) × IsCut text pieces
cut_exists text =
    let d = divided text in
    (pieces_from text 0 (slice_split is_semicolon d.0), record { segments = d.0; divides = d.1; pieces_are = refl })

-- the longest run in front of bytes whose bytes pass a test
pub record RunInFront (test : ℕ → Bool) (bytes : List ℕ) : Type 0 where
  pub front : List ℕ
  pub rest : List ℕ
  pub parts : bytes ≡ front ++ rest
  pub passes : list_all test front ≡ true
  pub stops : StartsWithout test rest

pub run_exists : (test : ℕ → Bool) (bytes : List ℕ) → RunInFront test bytes
run_exists test [] = record { front = []; rest = []; parts = refl; passes = refl; stops = tt }
run_exists test (b ∷ bs) = with_first (test b) refl (run_exists test bs)
  where
    with_first : (t : Bool) → test b ≡ t → RunInFront test bs → RunInFront test (b ∷ bs)
    with_first false e more = record { front = []; rest = b ∷ bs; parts = refl; passes = refl; stops = e }
    with_first true e more = record {
      front = b ∷ more.front;
      rest = more.rest;
      parts = ap (λ (v : List ℕ). b ∷ v) more.parts;
      passes = both_true (test b) (list_all test more.front) e more.passes;
      stops = more.stops;
    }

-- it has a byte if the first one passes
run_some : (test : ℕ → Bool) (b : ℕ) (bs front rest : List ℕ) → test b ≡ true → b ∷ bs ≡ front ++ rest → StartsWithout test rest → 0 < length front
run_some test b bs [] rest e parts stops = absurd (clash (test b) e (subst (StartsWithout test) (sym parts) stops))
run_some test b bs (x ∷ xs) rest e parts stops = omega arith

-- white space and comments in front of bytes, and none after them
pub record BlanksInFront (bytes : List ℕ) : Type 0 where
  pub front : List ℕ
  pub rest : List ℕ
  pub parts : bytes ≡ front ++ rest
  pub blank : AreBlanks bytes rest
  pub solid : IsSolid rest

solid_segment : (s : Segment) (rest : List ℕ) → IsSegment s rest → is_blank s ≡ false → IsSolid (spelled s ++ rest)
solid_segment (Plain b) rest valid e =
    ap (λ (k : ℕ). is_white k || k == 39) (head_is (Plain b) rest) ∙ sym (blank_by_head (Plain b) rest valid) ∙ e
solid_segment (Closed bytes) rest valid e = refl
solid_segment (Open bytes) rest valid e = refl
solid_segment (Comment bytes) rest valid e = absurd cc

no_blanks : (bytes : List ℕ) → IsSolid bytes → BlanksInFront bytes
no_blanks bytes solid = record {
  front = [];
  rest = bytes;
  parts = refl;
  blank = record { blanks = []; divides = refl; blank = refl };
  solid = solid;
}

blanks_of : (segments : List Segment) (bytes : List ℕ) → Divides segments bytes [] → BlanksInFront bytes
blanks_of [] bytes d = no_blanks bytes (subst IsSolid (sym d) tt)
blanks_of (s ∷ ss) bytes d = with_first (is_blank s) refl (blanks_of ss d.0 d.3)
  where
    with_first : (t : Bool) → is_blank s ≡ t → BlanksInFront d.0 → BlanksInFront bytes
    with_first false e more = no_blanks bytes (subst IsSolid (sym d.1) (solid_segment s d.0 d.2 e))
    with_first true e more = record {
      front = spelled s ++ more.front;
      rest = more.rest;
      parts = d.1 ∙ ap (λ (v : List ℕ). spelled s ++ v) more.parts ∙ sym (append_assoc (spelled s) more.front more.rest);
      blank = record {
        blanks = s ∷ more.blank.blanks;
        divides = (d.0, d.1, d.2, more.blank.divides);
        blank = both_true (is_blank s) (list_all is_blank more.blank.blanks) e more.blank.blank;
      };
      solid = more.solid;
    }

pub blanks_exist : (bytes : List ℕ) → BlanksInFront bytes
blanks_exist bytes = let d = divided bytes in blanks_of d.0 bytes d.1

-- a token of a kind in front of bytes
pub record TokenInFront (kind : TokenKind) (bytes : List ℕ) : Type 0 where
  pub good : Bool
  pub own : List ℕ
  pub beyond : List ℕ
  pub parts : bytes ≡ own ++ beyond
  pub some : 0 < length own
  pub spells : Spells kind good own beyond

-- words
word_with : (bytes name rest : List ℕ) (dollar : Bool) → bytes ≡ name ++ rest → 0 < length name → list_all is_name_byte name ≡ true →
    StartsWithout is_name_byte rest → (spells_word (codes "CHR") name && slice_index rest 0 == 36) ≡ dollar → TokenInFront kinds.Word bytes
word_with bytes name rest false parts some passes stops e = record {
  good = true;
  own = name;
  beyond = rest;
  parts = parts;
  some = some;
  spells = (record { name = name; tail = []; parts = sym (append-nil name); name_bytes = passes; ends = (stops, e) }, refl);
}
word_with bytes name [] true parts some passes stops e = absurd (clash (0 == 36) (and_parts (spells_word (codes "CHR") name) (0 == 36) e).1 refl)
word_with bytes name (c ∷ cs) true parts some passes stops e =
    let both = and_parts (spells_word (codes "CHR") name) (c == 36) e in
    let is : c ≡ 36 = eqb-true c 36 both.1 in
    record {
      good = true;
      own = name ++ 36 ∷ [];
      beyond = cs;
      parts = parts ∙ ap (λ (k : ℕ). name ++ k ∷ cs) is ∙ sym (append_assoc name (36 ∷ []) cs);
      some = omega (arith, length-append name (36 ∷ []));
      spells = (record { name = name; tail = 36 ∷ []; parts = refl; name_bytes = passes; ends = (refl, both.0) }, refl);
    }

pub word_exists : (b : ℕ) (bs : List ℕ) → is_name_byte b ≡ true → TokenInFront kinds.Word (b ∷ bs)
word_exists b bs e =
    let run = run_exists is_name_byte (b ∷ bs) in
    word_with (b ∷ bs) run.front run.rest (spells_word (codes "CHR") run.front && slice_index run.rest 0 == 36) run.parts
    (run_some is_name_byte b bs run.front run.rest e run.parts run.stops) run.passes run.stops refl

-- numbers
are_digits : (bytes : List ℕ) → 0 < length bytes → list_all is_ascii_digit bytes ≡ true → IsDigits bytes
are_digits bytes some passes = (λ none. omega (arith, ap length none), passes)

number_of : (bytes digits exponent beyond : List ℕ) → bytes ≡ digits ++ (exponent ++ beyond) → IsDigits digits → 0 < length digits → IsExponent exponent beyond →
    TokenInFront kinds.Number bytes
number_of bytes digits exponent beyond parts are some ends = record {
  good = not (is_name_byte (slice_index beyond 0));
  own = digits ++ exponent;
  beyond = beyond;
  parts = parts ∙ sym (append_assoc digits exponent beyond);
  some = omega (arith, length-append digits exponent);
  spells = (record { digits = digits; exponent = exponent; parts = refl; are_digits = are; ends = ends }, refl);
}

number_with : (bytes digits rest : List ℕ) (more : Bool) → bytes ≡ digits ++ rest → IsDigits digits → 0 < length digits →
    StartsWithout is_ascii_digit rest → begins_exponent rest ≡ more → TokenInFront kinds.Number bytes
number_with bytes digits rest false parts are some stops e = number_of bytes digits [] rest parts are some (stops, e)
number_with bytes digits [] true parts are some stops e = absurd cc
number_with bytes digits (mark ∷ []) true parts are some stops e =
    absurd (clash (is_ascii_digit 0) (and_parts (is_exponent_mark mark) (is_ascii_digit 0) e).1 refl)
number_with bytes digits (mark ∷ d ∷ ds) true parts are some stops e =
    let both = and_parts (is_exponent_mark mark) (is_ascii_digit d) e in
    let run = run_exists is_ascii_digit (d ∷ ds) in
    number_of bytes digits (mark ∷ run.front) run.rest (parts ∙ ap (λ (v : List ℕ). digits ++ mark ∷ v) run.parts) are some
    (both.0, are_digits run.front (run_some is_ascii_digit d ds run.front run.rest both.1 run.parts run.stops) run.passes, run.stops)

pub number_exists : (b : ℕ) (bs : List ℕ) → is_ascii_digit b ≡ true → TokenInFront kinds.Number (b ∷ bs)
number_exists b bs e =
    let run = run_exists is_ascii_digit (b ∷ bs) in
    let some = run_some is_ascii_digit b bs run.front run.rest e run.parts run.stops in
    number_with (b ∷ bs) run.front run.rest (begins_exponent run.rest) run.parts (are_digits run.front some run.passes) some run.stops refl

-- strings
spelled_some : (s : Segment) → 0 < length (spelled s)
spelled_some (Plain b) = omega arith
spelled_some (Closed bytes) = omega arith
spelled_some (Open bytes) = omega arith
spelled_some (Comment bytes) = omega arith

text_with : (segments : List Segment) (b : ℕ) (bs : List ℕ) → Divides segments (b ∷ bs) [] → TokenInFront kinds.Text (b ∷ bs)
text_with [] b bs d = absurd cc
text_with (s ∷ ss) b bs d = record {
  good = is_closed s;
  own = spelled s;
  beyond = d.0;
  parts = d.1;
  some = spelled_some s;
  spells = (s, refl, d.2, refl);
}

pub text_exists : (b : ℕ) (bs : List ℕ) → TokenInFront kinds.Text (b ∷ bs)
text_exists b bs = let d = divided (b ∷ bs) in text_with d.0 b bs d.1

-- digits with white space and comments before each of them, as many as can be
pub record DigitsInFront (kind : TokenKind) (bytes : List ℕ) : Type 0 where
  pub digits : List ℕ
  pub own : List ℕ
  pub beyond : List ℕ
  pub parts : bytes ≡ own ++ beyond
  pub some : length digits ≤ length own
  pub spaced : SpacedDigits kind bytes digits beyond

no_digits : (kind : TokenKind) (bytes : List ℕ) (blanks : BlanksInFront bytes) → StartsWithout (is_literal_digit kind) blanks.rest → DigitsInFront kind bytes
no_digits kind bytes blanks stops = record {
  digits = [];
  own = [];
  beyond = bytes;
  parts = refl;
  some = omega arith;
  spaced = (refl, record { rest = blanks.rest; blank = blanks.blank; solid = blanks.solid; stops = stops });
}

one_digit : (kind : TokenKind) (bytes front : List ℕ) (d : ℕ) (rest : List ℕ) → bytes ≡ front ++ d ∷ rest → AreBlanks bytes (d ∷ rest) →
    is_literal_digit kind d ≡ true → DigitsInFront kind rest → DigitsInFront kind bytes
one_digit kind bytes front d rest parts blank e more =
    let some = more.some in
    record {
      digits = d ∷ more.digits;
      own = front ++ d ∷ more.own;
      beyond = more.beyond;
      parts = parts ∙ ap (λ (v : List ℕ). front ++ d ∷ v) more.parts ∙ sym (append_assoc front (d ∷ more.own) more.beyond);
      some = omega (arith, some, length-append front (d ∷ more.own));
      spaced = (rest, blank, e, more.spaced);
    }

-- the first digit, where what is left after it has its digits
digits_with : (kind : TokenKind) (bytes : List ℕ) (blanks : BlanksInFront bytes) → ((d : ℕ) (rest : List ℕ) → blanks.rest ≡ d ∷ rest → DigitsInFront kind rest) →
    (left : List ℕ) → blanks.rest ≡ left → DigitsInFront kind bytes
digits_with kind bytes blanks after [] e = no_digits kind bytes blanks (subst (StartsWithout (is_literal_digit kind)) (sym e) tt)
digits_with kind bytes blanks after (d ∷ rest) e = decided (is_literal_digit kind d) refl
  where
    decided : (t : Bool) → is_literal_digit kind d ≡ t → DigitsInFront kind bytes
    decided false other = no_digits kind bytes blanks (subst (StartsWithout (is_literal_digit kind)) (sym e) other)
    decided true is =
        one_digit kind bytes blanks.front d rest (blanks.parts ∙ ap (λ (v : List ℕ). blanks.front ++ v) e)
        (subst (AreBlanks bytes) e blanks.blank) is (after d rest e)

shorter : (bytes front rest : List ℕ) (d : ℕ) → bytes ≡ front ++ d ∷ rest → length rest < length bytes
shorter bytes front rest d e = omega (arith, ap length e, length-append front (d ∷ rest))

digits_within : (n : ℕ) (kind : TokenKind) (bytes : List ℕ) → length bytes ≤ n → DigitsInFront kind bytes
digits_within zero kind bytes le =
    let blanks = blanks_exist bytes in
    digits_with kind bytes blanks (λ d rest e. absurd (omega (arith, shorter bytes blanks.front rest d (blanks.parts ∙ ap (λ (v : List ℕ). blanks.front ++ v) e)))) blanks.rest refl
digits_within (suc n) kind bytes le =
    let blanks = blanks_exist bytes in
    digits_with kind bytes blanks
    (λ d rest e. digits_within n kind rest (omega (arith, shorter bytes blanks.front rest d (blanks.parts ∙ ap (λ (v : List ℕ). blanks.front ++ v) e)))) blanks.rest refl

pub digits_exist : (kind : TokenKind) (bytes : List ℕ) → DigitsInFront kind bytes
digits_exist kind bytes = digits_within (length bytes) kind bytes (omega arith)

-- literals
literal_exists : (kind : TokenKind) (b : ℕ) (bs : List ℕ) → ((good : Bool) (own beyond : List ℕ) → IsLiteral kind good own beyond → Spells kind good own beyond) →
    TokenInFront kind (b ∷ bs)
literal_exists kind b bs spells_by =
    let found = digits_exist kind bs in
    record {
      good = nat_le 1 (length found.digits);
      own = b ∷ found.own;
      beyond = found.beyond;
      parts = ap (λ (v : List ℕ). b ∷ v) found.parts;
      some = omega arith;
      spells = spells_by (nat_le 1 (length found.digits)) (b ∷ found.own) found.beyond
          (found.digits, subst (λ (v : List ℕ). SpacedDigits kind v found.digits found.beyond) found.parts found.spaced, refl);
    }

pub binary_exists : (b : ℕ) (bs : List ℕ) → TokenInFront kinds.Binary (b ∷ bs)
binary_exists b bs = literal_exists kinds.Binary b bs (λ good own beyond h. h)

pub hexadecimal_exists : (b : ℕ) (bs : List ℕ) → TokenInFront kinds.Hexadecimal (b ∷ bs)
hexadecimal_exists b bs = literal_exists kinds.Hexadecimal b bs (λ good own beyond h. h)

-- after the word CRC
bad_check : (b : ℕ) (bs : List ℕ) (found : DigitsInFront kinds.Hex4 (b ∷ bs)) → (length found.digits ≡ 4 → AreBlanks found.beyond [] → ⊥) →
    TokenInFront kinds.Hex4 (b ∷ bs)
bad_check b bs found bad = record {
  good = false;
  own = b ∷ bs;
  beyond = [];
  parts = sym (append-nil (b ∷ bs));
  some = omega arith;
  spells = (
    refl,
    λ front rest e four.
        let m = same_spaced kinds.Hex4 (b ∷ bs) four.digits rest found.digits found.beyond
        (subst (λ (v : List ℕ). SpacedDigits kinds.Hex4 v four.digits rest) (sym e) four.spaced) found.spaced in
        bad (sym (ap length m.0) ∙ four.four) (subst (λ (v : List ℕ). AreBlanks v []) m.1 four.ends),
  );
}

good_check : (b : ℕ) (bs : List ℕ) (found : DigitsInFront kinds.Hex4 (b ∷ bs)) → length found.digits ≡ 4 → AreBlanks found.beyond [] →
    TokenInFront kinds.Hex4 (b ∷ bs)
good_check b bs found four blank =
    let some = found.some in
    record {
      good = true;
      own = found.own;
      beyond = found.beyond;
      parts = found.parts;
      some = omega arith;
      spells = record {
        digits = found.digits;
        spaced = subst (λ (v : List ℕ). SpacedDigits kinds.Hex4 v found.digits found.beyond) found.parts found.spaced;
        four = four;
        ends = blank;
      };
    }

-- bytes are white space and comments, or not
pub blanks_or_not : (bytes : List ℕ) → AreBlanks bytes [] ⊎ (AreBlanks bytes [] → ⊥)
blanks_or_not bytes = let blanks = blanks_exist bytes in decided blanks blanks.rest refl
  where
    decided : (blanks : BlanksInFront bytes) (left : List ℕ) → blanks.rest ≡ left → AreBlanks bytes [] ⊎ (AreBlanks bytes [] → ⊥)
    decided blanks [] e = inl (subst (AreBlanks bytes) e blanks.blank)
    decided blanks (b ∷ bs) e = inr (λ h. let none : blanks.rest ≡ [] = same_blanks bytes blanks.rest [] blanks.blank h blanks.solid tt in absurd cc)

pub check_exists : (b : ℕ) (bs : List ℕ) → TokenInFront kinds.Hex4 (b ∷ bs)
check_exists b bs =
    let found = digits_exist kinds.Hex4 (b ∷ bs) in
    elim (cases_eq (length found.digits) 4) [
      | inl four ↦ elim (blanks_or_not found.beyond) [
        | inl blank ↦ good_check b bs found four blank
        | inr other ↦ bad_check b bs found (λ _ blank. other blank)
      ]
      | inr other ↦ bad_check b bs found (λ four _. other four)
    ]

-- marks
mark_with : (a : ℕ) (bs : List ℕ) (two : Bool) → is_mark_spelling (a ∷ slice_index bs 0 ∷ []) ≡ two → TokenInFront kinds.Mark (a ∷ bs)
mark_with a bs false e =
    record { good = is_mark_spelling (a ∷ []); own = a ∷ []; beyond = bs; parts = refl; some = omega arith; spells = (e, refl) }
mark_with a [] true e = absurd (clash (is_mark_spelling (a ∷ 0 ∷ [])) e (no_zero_mark a))
mark_with a (b ∷ bs) true e =
    record { good = is_mark_spelling (a ∷ b ∷ []); own = a ∷ b ∷ []; beyond = bs; parts = refl; some = omega arith; spells = (e, refl) }

pub mark_exists : (a : ℕ) (bs : List ℕ) → TokenInFront kinds.Mark (a ∷ bs)
mark_exists a bs = mark_with a bs (is_mark_spelling (a ∷ slice_index bs 0 ∷ [])) refl

-- any token
of_kind : (b : ℕ) (bs : List ℕ) (letter digit quote hash dollar : Bool) → is_ascii_alphabetic b ≡ letter → is_ascii_digit b ≡ digit →
    TokenInFront (if letter then kinds.Word else if digit then kinds.Number else if quote then kinds.Text
    else if hash then kinds.Binary else if dollar then kinds.Hexadecimal else kinds.Mark) (b ∷ bs)
of_kind b bs true digit quote hash dollar e f = word_exists b bs (letter_name b e)
of_kind b bs false true quote hash dollar e f = number_exists b bs f
of_kind b bs false false true hash dollar e f = text_exists b bs
of_kind b bs false false false true dollar e f = binary_exists b bs
of_kind b bs false false false false true e f = hexadecimal_exists b bs
of_kind b bs false false false false false e f = mark_exists b bs

pub token_exists : (first : Option Bool) (b : ℕ) (bs : List ℕ) → TokenInFront (kind_at first b) (b ∷ bs)
token_exists (Some true) b bs = check_exists b bs
token_exists (Some false) b bs = of_kind b bs (is_ascii_alphabetic b) (is_ascii_digit b) (b == 34) (b == 35) (b == 36) refl refl
token_exists None b bs = of_kind b bs (is_ascii_alphabetic b) (is_ascii_digit b) (b == 34) (b == 35) (b == 36) refl refl

-- a front of a range, and what is left of it
record RangeParts (text : List ℕ) (at limit : ℕ) (front rest : List ℕ) : Type 0 where
  within : at + length front ≤ limit
  count : at + length front + length rest ≡ limit
  front_is : slice_range text at (at + length front) ≡ front
  rest_is : slice_range text (at + length front) limit ≡ rest

range_divided : (text : List ℕ) (at limit : ℕ) (front rest : List ℕ) → at ≤ limit → limit ≤ length text → slice_range text at limit ≡ front ++ rest →
    RangeParts text at limit front rest
range_divided text at limit front rest le within e =
    let count : at + length front + length rest ≡ limit =
    omega (arith, ap length e, length-append front rest, range_length text at limit le within) in
    let fits : at + length front ≤ limit = omega arith in
    record {
      within = fits;
      count = count;
      front_is = sym (range_front text at limit (length front) fits) ∙ ap (take (length front)) e ∙ take-append_seam front rest;
      rest_is = sym (range_after text at limit (length front) fits) ∙ ap (drop (length front)) e ∙ drop-append_seam front rest;
    }

-- the tokens from each later place on
abbrev LaterLexemes : List ℕ → ℕ → ℕ → Type 0
LaterLexemes text at limit = (first : Option Bool) (from : ℕ) → at < from → from ≤ limit → (lexemes : List Lexeme) × HasLexemes text first from limit lexemes

one_lexeme : (text : List ℕ) (first : Option Bool) (at limit : ℕ) (blanks : BlanksInFront (slice_range text at limit)) (b : ℕ) (bs : List ℕ) → at ≤ limit →
    limit ≤ length text → blanks.rest ≡ b ∷ bs → LaterLexemes text at limit → (lexemes : List Lexeme) × HasLexemes text first at limit lexemes
one_lexeme text first at limit blanks b bs le within e later =
    let start : ℕ = at + length blanks.front in
    let outer : RangeParts text at limit blanks.front blanks.rest = range_divided text at limit blanks.front blanks.rest le within blanks.parts in
    let rest_is : slice_range text start limit ≡ b ∷ bs = outer.rest_is ∙ e in
    let found : TokenInFront (kind_at first b) (b ∷ bs) = token_exists first b bs in
    let end : ℕ = start + length found.own in
    let inner : RangeParts text start limit found.own found.beyond = range_divided text start limit found.own found.beyond outer.within within (rest_is ∙ found.parts) in
    let some : 0 < length found.own = found.some in
    let inside : end ≤ limit = inner.within in
    let byte_is : slice_index text start ≡ b =
    sym (range_first text start limit (omega arith)) ∙ ap (λ (v : List ℕ). get_or v 0 0) rest_is in
    let token : Token = record {
      kind = kind_at first b;
      start = start;
      end = end;
      value = value_of (kind_at first b) (slice_range text start end);
      terminal = terminal_of (kind_at first b) (slice_range text start end);
    } in
    let more : (lexemes : List Lexeme) × HasLexemes text (first_word first token.kind (slice_range text start end)) end limit lexemes =
    later (first_word first token.kind (slice_range text start end)) end (omega arith) inside in (
      record { token = token; good = found.good } ∷ more.0,
      (
        record {
          after = omega arith;
          some = omega arith;
          within = inside;
          blank = subst (AreBlanks (slice_range text at limit)) (sym outer.rest_is) blanks.blank;
          solid = subst IsSolid (sym outer.rest_is) blanks.solid;
          kind = ap (kind_at first) (sym byte_is);
          spelled = subst (λ (v : List ℕ). Spells (kind_at first b) found.good v (slice_range text end limit)) (sym inner.front_is)
              (subst (λ (v : List ℕ). Spells (kind_at first b) found.good found.own v) (sym inner.rest_is) found.spells);
          value = refl;
          terminal = refl;
        },
        more.1,
      ),
    )

lexemes_with : (text : List ℕ) (first : Option Bool) (at limit : ℕ) (blanks : BlanksInFront (slice_range text at limit)) (left : List ℕ) → at ≤ limit →
    limit ≤ length text → blanks.rest ≡ left → LaterLexemes text at limit → (lexemes : List Lexeme) × HasLexemes text first at limit lexemes
lexemes_with text first at limit blanks [] le within e later = ([], subst (AreBlanks (slice_range text at limit)) e blanks.blank)
lexemes_with text first at limit blanks (b ∷ bs) le within e later = one_lexeme text first at limit blanks b bs le within e later

lexemes_within : (n : ℕ) (text : List ℕ) (first : Option Bool) (at limit : ℕ) → limit ≤ at + n → at ≤ limit → limit ≤ length text →
    (lexemes : List Lexeme) × HasLexemes text first at limit lexemes
lexemes_within zero text first at limit few le within =
    let blanks = blanks_exist (slice_range text at limit) in
    lexemes_with text first at limit blanks blanks.rest le within refl (λ next from lt inside. absurd (omega arith))
lexemes_within (suc n) text first at limit few le within =
    let blanks = blanks_exist (slice_range text at limit) in
    lexemes_with text first at limit blanks blanks.rest le within refl
    (λ next from lt inside. lexemes_within n text next from limit (omega arith) inside within)

-- the bytes between two places have tokens
pub lexemes_exist : (text : List ℕ) (first : Option Bool) (at limit : ℕ) → at ≤ limit → limit ≤ length text →
    (lexemes : List Lexeme) × HasLexemes text first at limit lexemes
lexemes_exist text first at limit le within = lexemes_within limit text first at limit (omega arith) le within
