-- On the digits of literals.
use Rattle.std.proofs.Common.{◌≡◌, ◌≤◌, ◌+◌, ℕ, List, [], ◌∷◌, ◌++◌, length, refl, sym, ap, ◌∙◌, Bool, true, false, ◌||◌, ◌==◌, not, cond, arith, subst, append_assoc, append-nil, drop}
use Rattle.std.proofs.Math.ListN.{drop_of_length-le}
use Rattle.std.proofs.lemmas.Bool.{and_parts}
use Rattle.std.proofs.lemmas.Bool.Decides.{nat_tests}
use Rattle.std.proofs.lemmas.List.{append_cancel_right}
use Rattle.std.specs.List.{list_all}
use Rattle.stapl_lexer.specs.declared.token.TokenKind.{TokenKind}
use Rattle.stapl_lexer.specs.Pieces.{is_white, is_blank}
use Rattle.stapl_lexer.specs.PieceTokens.{is_literal_digit, SpacedDigits, digits_in}
use Rattle.stapl_lexer.specs.Segments.{Segment, Plain, Closed, Open, Comment, spelled, spelling, HasNone, EndsLine, ends_comment, Divides}
use Rattle.stapl_lexer.proofs.RunLemmas.{both_true}
use Rattle.stapl_lexer.proofs.PieceTokenLemmas.{clash, digit_solid}

-- a digit is neither white space nor an apostrophe
no_white : (kind : TokenKind) (b : ℕ) → is_white b ≡ true → is_literal_digit kind b ≡ false
no_white kind b white = by (is_literal_digit kind b) refl
  where
    or_true : (a c : Bool) → a ≡ true → (a || c) ≡ true
    or_true true c e = refl
    or_true false c e = absurd cc

    by : (digit : Bool) → is_literal_digit kind b ≡ digit → digit ≡ false
    by true e = absurd (clash (is_white b || b == 39) (or_true (is_white b) (b == 39) white) (digit_solid kind b e))
    by false e = refl

white_is : (b : ℕ) → is_white b ≡ true → (b == 39) ≡ false
white_is b e = grind (arith, nat_tests, e)

digit_is : (kind : TokenKind) (d : ℕ) → is_literal_digit kind d ≡ true → (d == 39) ≡ false
digit_is kind d e = last (is_white d) (d == 39) (digit_solid kind d e)
  where
    last : (a c : Bool) → (a || c) ≡ false → c ≡ false
    last true c e = absurd cc
    last false c e = e

digit_no_feed : (kind : TokenKind) (d : ℕ) → is_literal_digit kind d ≡ true → d ≡ 10 → ⊥
digit_no_feed kind d digit e =
    clash (is_literal_digit kind d) digit (no_white kind d (ap is_white e))

-- white space outside a comment
past_white : (kind : TokenKind) (b : ℕ) (bs : List ℕ) → is_white b ≡ true → digits_in kind false (b ∷ bs) ≡ digits_in kind false bs
past_white kind b bs white =
    ap (λ (t : Bool). cond t (digits_in kind true bs) (cond (is_literal_digit kind b) (b ∷ digits_in kind false bs) (digits_in kind false bs))) (white_is b white)
    ∙ ap (λ (t : Bool). cond t (b ∷ digits_in kind false bs) (digits_in kind false bs)) (no_white kind b white)

-- a digit outside a comment
one_digit : (kind : TokenKind) (d : ℕ) (bs : List ℕ) → is_literal_digit kind d ≡ true → digits_in kind false (d ∷ bs) ≡ d ∷ digits_in kind false bs
one_digit kind d bs digit =
    ap (λ (t : Bool). cond t (digits_in kind true bs) (cond (is_literal_digit kind d) (d ∷ digits_in kind false bs) (digits_in kind false bs))) (digit_is kind d digit)
    ∙ ap (λ (t : Bool). cond t (d ∷ digits_in kind false bs) (digits_in kind false bs)) digit

-- the bytes of a comment hold no digit
past_comment : (kind : TokenKind) (bytes more : List ℕ) → HasNone ends_comment bytes → digits_in kind true (bytes ++ more) ≡ digits_in kind true more
past_comment kind [] more none = refl
past_comment kind (b ∷ bytes) more none =
    let parts = and_parts (not (b == 10)) (list_all (λ c. not (ends_comment c)) bytes) none in
    ap (λ (t : Bool). digits_in kind t (bytes ++ more)) parts.0 ∙ past_comment kind bytes more parts.1

-- what is read from inside a comment, whose line ends
record IsRead (kind : TokenKind) (bytes text digits : List ℕ) : Type 0 where
  outside : digits_in kind false text ≡ digits
  inside : EndsLine bytes → digits_in kind true text ≡ digits

feed_ends : (b : ℕ) → b ≡ 10 → not (b == 10) ≡ false
feed_ends b e = ap (λ (k : ℕ). not (k == 10)) e

-- white space and comments before a digit are passed
past_blanks : (kind : TokenKind) (blanks : List Segment) (bytes : List ℕ) (d : ℕ) (rest own : List ℕ) → Divides blanks bytes (d ∷ rest) →
    list_all is_blank blanks ≡ true → is_literal_digit kind d ≡ true → IsRead kind bytes (spelling blanks ++ d ∷ own) (d ∷ digits_in kind false own)
past_blanks kind [] bytes d rest own divides blank digit = record {
  outside = one_digit kind d own digit;
  inside = λ ends. absurd (digit_no_feed kind d digit (subst EndsLine divides ends));
}
past_blanks kind (Plain b ∷ blanks) bytes d rest own divides blank digit =
    let parts = and_parts (is_white b) (list_all is_blank blanks) blank in
    let more = past_blanks kind blanks divides.0 d rest own divides.3 parts.1 digit in record {
      outside = past_white kind b (spelling blanks ++ d ∷ own) parts.0 ∙ more.outside;
      inside = λ ends.
          ap (λ (t : Bool). digits_in kind t (spelling blanks ++ d ∷ own)) (feed_ends b (subst EndsLine divides.1 ends)) ∙ more.outside;
    }
past_blanks kind (Closed cs ∷ blanks) bytes d rest own divides blank digit = absurd cc
past_blanks kind (Open cs ∷ blanks) bytes d rest own divides blank digit = absurd cc
past_blanks kind (Comment cs ∷ blanks) bytes d rest own divides blank digit =
    let more = past_blanks kind blanks divides.0 d rest own divides.3 blank digit in record {
      outside = ap (digits_in kind true) (append_assoc cs (spelling blanks) (d ∷ own))
          ∙ past_comment kind cs (spelling blanks ++ d ∷ own) divides.2.0 ∙ more.inside divides.2.1;
      inside = λ ends. absurd (apostrophe 39 refl (subst EndsLine divides.1 ends));
    }
  where
    apostrophe : (b : ℕ) → b ≡ 39 → b ≡ 10 → ⊥
    apostrophe b e f = omega arith

divided_bytes : (segments : List Segment) (bytes rest : List ℕ) → Divides segments bytes rest → bytes ≡ spelling segments ++ rest
divided_bytes [] bytes rest divides = divides
divided_bytes (s ∷ ss) bytes rest divides =
    divides.1 ∙ ap (λ (v : List ℕ). spelled s ++ v) (divided_bytes ss divides.0 rest divides.3) ∙ sym (append_assoc (spelled s) (spelling ss) rest)

-- the bytes of the digits of a literal and of the blanks before them
record OwnDigits (kind : TokenKind) (bytes digits after : List ℕ) : Type 0 where
  own : List ℕ
  parts : bytes ≡ own ++ after
  digits_are : digits ≡ digits_in kind false own

own_digits : (kind : TokenKind) (bytes digits after : List ℕ) → SpacedDigits kind bytes digits after → OwnDigits kind bytes digits after
own_digits kind bytes [] after spaced = record { own = []; parts = spaced.0; digits_are = refl }
own_digits kind bytes (d ∷ digits) after spaced =
    let more = own_digits kind spaced.0 digits after spaced.3 in
    let blanks = spaced.1.blanks in record {
      own = spelling blanks ++ d ∷ more.own;
      parts = divided_bytes blanks bytes (d ∷ spaced.0) spaced.1.divides ∙ ap (λ (v : List ℕ). spelling blanks ++ d ∷ v) more.parts
          ∙ sym (append_assoc (spelling blanks) (d ∷ more.own) after);
      digits_are = ap (λ (v : List ℕ). d ∷ v) more.digits_are
          ∙ sym (past_blanks kind blanks bytes d spaced.0 more.own spaced.1.divides spaced.1.blank spaced.2).outside;
    }

-- the digits of a literal are those in its bytes
pub digits_are_spaced : (kind : TokenKind) (own after digits : List ℕ) → SpacedDigits kind (own ++ after) digits after → digits ≡ digits_in kind false own
digits_are_spaced kind own after digits spaced =
    let o = own_digits kind (own ++ after) digits after spaced in
    o.digits_are ∙ ap (digits_in kind false) (sym (append_cancel_right own o.own after o.parts))

all_cond : (kind : TokenKind) (b : ℕ) (rest : List ℕ) (test : Bool) → is_literal_digit kind b ≡ test → list_all (is_literal_digit kind) rest ≡ true →
    list_all (is_literal_digit kind) (cond test (b ∷ rest) rest) ≡ true
all_cond kind b rest true e all = both_true (is_literal_digit kind b) (list_all (is_literal_digit kind) rest) e all
all_cond kind b rest false e all = all

-- each of them is a digit
pub each_digit : (kind : TokenKind) (in_comment : Bool) (bytes : List ℕ) → list_all (is_literal_digit kind) (digits_in kind in_comment bytes) ≡ true
each_digit kind true [] = refl
each_digit kind false [] = refl
each_digit kind true (b ∷ bs) = each_digit kind (not (b == 10)) bs
each_digit kind false (b ∷ bs) =
    elim (b == 39) as (λ z. list_all (is_literal_digit kind) (cond z (digits_in kind true bs) (cond (is_literal_digit kind b) (b ∷ digits_in kind false bs) (digits_in kind false bs))) ≡ true) [
      | true ↦ each_digit kind true bs
      | false ↦ all_cond kind b (digits_in kind false bs) (is_literal_digit kind b) refl (each_digit kind false bs)
    ]

few_cond : (b : ℕ) (rest : List ℕ) (test : Bool) (n : ℕ) → length rest ≤ n → length (cond test (b ∷ rest) rest) ≤ n + 1
few_cond b rest true n le = omega arith
few_cond b rest false n le = omega arith

-- there are at most as many digits as bytes
pub few_digits : (kind : TokenKind) (in_comment : Bool) (bytes : List ℕ) → length (digits_in kind in_comment bytes) ≤ length bytes
few_digits kind true [] = omega arith
few_digits kind false [] = omega arith
few_digits kind true (b ∷ bs) = omega (arith, few_digits kind (not (b == 10)) bs)
few_digits kind false (b ∷ bs) =
    elim (b == 39) as (λ z. length (cond z (digits_in kind true bs) (cond (is_literal_digit kind b) (b ∷ digits_in kind false bs) (digits_in kind false bs))) ≤ length (b ∷ bs)) [
      | true ↦ omega (arith, few_digits kind true bs)
      | false ↦ omega (arith, few_cond b (digits_in kind false bs) (is_literal_digit kind b) (length bs) (few_digits kind false bs))
    ]

-- the digits are read to the end
pub digits_read : (kind : TokenKind) (own digits : List ℕ) (in_comment : Bool) (i : ℕ) → digits ++ digits_in kind in_comment (drop i own) ≡ digits_in kind false own →
    length own ≤ i → digits ≡ digits_in kind false own
digits_read kind own digits in_comment i e end =
    sym (append-nil digits) ∙ ap (λ (v : List ℕ). digits ++ v) (sym (none in_comment) ∙ ap (digits_in kind in_comment) (sym (drop_of_length-le own end))) ∙ e
  where
    none : (inside : Bool) → digits_in kind inside [] ≡ []
    none true = refl
    none false = refl
