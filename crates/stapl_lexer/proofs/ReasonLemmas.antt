-- The smallest of the reasons that lie in the bytes and the tokens of a piece.
use Rattle.std.proofs.Common.{◌≡◌, ◌≤◌, ◌+◌, ◌-◌, ℕ, List, [], ◌∷◌, get_or, refl, sym, ap, ◌∙◌, Bool, true, false, arith, subst, None, inl, inr, slice_range, lit≤}
use Rattle.std.proofs.lemmas.Bool.{cases_order}
use Rattle.std.specs.List.{list_all, list_any}
use Rattle.stapl_lexer.specs.declared.piece.Piece.{Piece}
use Rattle.stapl_lexer.specs.declared.reason.Reason.{Reason}
use Rattle.stapl_lexer.specs.declared.reason.Reason.TheVariants as reasons
use Rattle.stapl_lexer.specs.declared.token.Token.{Token}
use Rattle.stapl_lexer.specs.Depth.{IsTooDeep}
use Rattle.stapl_lexer.specs.PieceTokens.{Lexeme}
use Rattle.stapl_lexer.specs.PieceFaults.{is_foreign, is_open_string, is_compressed, is_long_word, is_large_number, tokens_of, HasSegments, HasPieceLexemes, HasTokenReason, NoSemicolon, ForeignByte, UnclosedString, AtSign, LongWord, LargeNumber, Deep, BadToken, IsSmallestTokenReason, AreGoodTokens, AreTokens}
use Rattle.stapl_lexer.specs.Reasons.{reason_number}
use Rattle.stapl_lexer.specs.Segments.{Segment}
use Rattle.stapl_lexer.specs.TokenReading.{AreSearched, HasNoReasonBelow, IsReadPiece, IsTokenAnswer}
use Rattle.stapl_lexer.proofs.PieceTokenLemmas.{clash, same_lexemes}
use Rattle.stapl_lexer.proofs.Unique.{one_way}

-- the reasons by their numbers, from 1 on
abbrev all_reasons : List Reason
all_reasons =
    reasons.TooManyPieces ∷ reasons.Unterminated ∷ reasons.BadByte ∷ reasons.OpenString ∷ reasons.Compressed ∷
    reasons.NameTooLong ∷ reasons.NumberTooLarge ∷ reasons.TooDeep ∷ reasons.UnknownStatement ∷ reasons.Unsupported ∷
    reasons.Syntax ∷ reasons.Order ∷ reasons.Duplicate ∷ reasons.Undefined ∷ reasons.NotVisible ∷ reasons.TypeMismatch ∷
    reasons.NotStable ∷ reasons.SizeLimit ∷ reasons.NotClosed ∷ reasons.NothingToDo ∷ reasons.TooLong ∷ []

abbrev numbered : ℕ → Reason
numbered n = get_or all_reasons (n - 1) reasons.TooLong

by_number : (reason : Reason) → numbered (reason_number reason) ≡ reason
by_number reasons.TooManyPieces = refl
by_number reasons.Unterminated = refl
by_number reasons.BadByte = refl
by_number reasons.OpenString = refl
by_number reasons.Compressed = refl
by_number reasons.NameTooLong = refl
by_number reasons.NumberTooLarge = refl
by_number reasons.TooDeep = refl
by_number reasons.UnknownStatement = refl
by_number reasons.Unsupported = refl
by_number reasons.Syntax = refl
by_number reasons.Order = refl
by_number reasons.Duplicate = refl
by_number reasons.Undefined = refl
by_number reasons.NotVisible = refl
by_number reasons.TypeMismatch = refl
by_number reasons.NotStable = refl
by_number reasons.SizeLimit = refl
by_number reasons.NotClosed = refl
by_number reasons.NothingToDo = refl
by_number reasons.TooLong = refl

-- reasons with one number are one reason
pub same_number : (a b : Reason) → reason_number a ≡ reason_number b → a ≡ b
same_number a b e = sym (by_number a) ∙ ap numbered e ∙ by_number b

-- each reason that holds has a number of at least 2
pub from_two : (text : List ℕ) (piece : Piece) → HasNoReasonBelow text piece 2
from_two text piece reason (NoSemicolon is) = lit≤ tt
from_two text piece reason (ForeignByte segments has is) = lit≤ tt
from_two text piece reason (UnclosedString segments has is) = lit≤ tt
from_two text piece reason (AtSign segments has is) = lit≤ tt
from_two text piece reason (LongWord lexemes has is) = lit≤ tt
from_two text piece reason (LargeNumber lexemes has is) = lit≤ tt
from_two text piece reason (Deep lexemes has is) = lit≤ tt
from_two text piece reason (BadToken lexemes has is) = lit≤ tt

-- a reason that does not hold is passed
next : (text : List ℕ) (piece : Piece) (reason : Reason) (n : ℕ) → HasNoReasonBelow text piece n → reason_number reason ≡ n →
    (HasTokenReason text piece reason → ⊥) → HasNoReasonBelow text piece (n + 1)
next text piece reason n below is not other holds =
    let least : n ≤ reason_number other = below other holds in
    elim (cases_order n (reason_number other)) [
      | inl same ↦ absurd (not (subst (HasTokenReason text piece) (same_number other reason (sym same ∙ sym is)) holds))
      | inr (inl lt) ↦ omega arith
      | inr (inr gt) ↦ absurd (omega arith)
    ]

-- the reason that holds, and that no smaller one does
smallest_at : (text : List ℕ) (piece : Piece) (reason : Reason) → HasTokenReason text piece reason → HasNoReasonBelow text piece (reason_number reason) →
    IsSmallestTokenReason text piece reason
smallest_at text piece reason holds below = record { holds = holds; smallest = below }

pub one_smallest : (text : List ℕ) (piece : Piece) (a b : Reason) → IsSmallestTokenReason text piece a → IsSmallestTokenReason text piece b → a ≡ b
one_smallest text piece a b p q =
    let up = p.smallest b q.holds in
    let down = q.smallest a p.holds in
    same_number a b (omega arith)

-- what does not hold of the bytes
module _ (text : List ℕ) (piece : Piece) where
  not_unterminated : piece.closed ≡ true → HasTokenReason text piece reasons.Unterminated → ⊥
  not_unterminated closed (NoSemicolon is) = clash piece.closed closed is

  -- a test of the segments
  none_such : (test : Segment → Bool) (a b : List Segment) → HasSegments text piece a → HasSegments text piece b → list_any test a ≡ false →
      list_any test b ≡ true → ⊥
  none_such test a b p q none is =
      clash (list_any test b) is (ap (list_any test) (one_way b a (slice_range text piece.start piece.end) q p) ∙ none)

  not_foreign : (segments : List Segment) → HasSegments text piece segments → list_any is_foreign segments ≡ false →
      HasTokenReason text piece reasons.BadByte → ⊥
  not_foreign segments has none (ForeignByte others other is) = none_such is_foreign segments others has other none is

  not_unclosed : (segments : List Segment) → HasSegments text piece segments → list_any is_open_string segments ≡ false →
      HasTokenReason text piece reasons.OpenString → ⊥
  not_unclosed segments has none (UnclosedString others other is) = none_such is_open_string segments others has other none is

  not_compressed : (segments : List Segment) → HasSegments text piece segments → list_any is_compressed segments ≡ false →
      HasTokenReason text piece reasons.Compressed → ⊥
  not_compressed segments has none (AtSign others other is) = none_such is_compressed segments others has other none is

  from_three : piece.closed ≡ true → HasNoReasonBelow text piece 3
  from_three closed = next text piece reasons.Unterminated 2 (from_two text piece) refl (not_unterminated closed)

module _ (text : List ℕ) (piece : Piece) (foreign unclosed compressed : Bool) (r : AreSearched (slice_range text piece.start piece.end) foreign unclosed compressed) where
  from_four : piece.closed ≡ true → foreign ≡ false → HasNoReasonBelow text piece 4
  from_four closed f =
      next text piece reasons.BadByte 3 (from_three text piece closed) refl (not_foreign text piece r.segments r.divides (sym r.foreign_is ∙ f))

  from_five : piece.closed ≡ true → foreign ≡ false → unclosed ≡ false → HasNoReasonBelow text piece 5
  from_five closed f u =
      next text piece reasons.OpenString 4 (from_four closed f) refl (not_unclosed text piece r.segments r.divides (sym r.unclosed_is ∙ u))

-- the tests of the bytes in their order
pub unterminated_first : (text : List ℕ) (piece : Piece) → piece.closed ≡ false → IsSmallestTokenReason text piece reasons.Unterminated
unterminated_first text piece none = smallest_at text piece reasons.Unterminated (NoSemicolon none) (from_two text piece)

pub bad_byte_first : (text : List ℕ) (piece : Piece) (foreign unclosed compressed : Bool) → AreSearched (slice_range text piece.start piece.end) foreign unclosed compressed →
    piece.closed ≡ true → foreign ≡ true → IsSmallestTokenReason text piece reasons.BadByte
bad_byte_first text piece foreign unclosed compressed r closed f =
    smallest_at text piece reasons.BadByte (ForeignByte r.segments r.divides (sym r.foreign_is ∙ f)) (from_three text piece closed)

pub open_string_first : (text : List ℕ) (piece : Piece) (foreign unclosed compressed : Bool) → AreSearched (slice_range text piece.start piece.end) foreign unclosed compressed →
    piece.closed ≡ true → foreign ≡ false → unclosed ≡ true → IsSmallestTokenReason text piece reasons.OpenString
open_string_first text piece foreign unclosed compressed r closed f u =
    smallest_at text piece reasons.OpenString (UnclosedString r.segments r.divides (sym r.unclosed_is ∙ u)) (from_four text piece foreign unclosed compressed r closed f)

pub compressed_first : (text : List ℕ) (piece : Piece) (foreign unclosed compressed : Bool) → AreSearched (slice_range text piece.start piece.end) foreign unclosed compressed →
    piece.closed ≡ true → foreign ≡ false → unclosed ≡ false → compressed ≡ true → IsSmallestTokenReason text piece reasons.Compressed
compressed_first text piece foreign unclosed compressed r closed f u c =
    smallest_at text piece reasons.Compressed (AtSign r.segments r.divides (sym r.compressed_is ∙ c)) (from_five text piece foreign unclosed compressed r closed f u)

pub good_bytes : (text : List ℕ) (piece : Piece) (foreign unclosed compressed : Bool) → AreSearched (slice_range text piece.start piece.end) foreign unclosed compressed →
    piece.closed ≡ true → foreign ≡ false → unclosed ≡ false → compressed ≡ false → HasNoReasonBelow text piece 6
good_bytes text piece foreign unclosed compressed r closed f u c =
    next text piece reasons.Compressed 5 (from_five text piece foreign unclosed compressed r closed f u) refl
    (not_compressed text piece r.segments r.divides (sym r.compressed_is ∙ c))

-- what does not hold of the tokens
module _ (text : List ℕ) (piece : Piece) (tokens : List Token) (good large : Bool) (r : IsReadPiece text piece tokens good large) where
  -- the tokens of a reason are those that are read
  same_read : (lexemes : List Lexeme) → HasPieceLexemes text piece lexemes → lexemes ≡ r.read.lexemes
  same_read lexemes has = same_lexemes text None piece.start piece.end lexemes r.read.lexemes r.within has r.read.has

  same_tokens : (lexemes : List Lexeme) → HasPieceLexemes text piece lexemes → tokens_of lexemes ≡ tokens
  same_tokens lexemes has = ap tokens_of (same_read lexemes has) ∙ sym r.read.tokens_are

  from_seven : list_any is_long_word tokens ≡ false → HasNoReasonBelow text piece 7
  from_seven l = next text piece reasons.NameTooLong 6 r.below refl not
    where
      not : HasTokenReason text piece reasons.NameTooLong → ⊥
      not (LongWord lexemes has is) = clash (list_any is_long_word (tokens_of lexemes)) is (ap (list_any is_long_word) (same_tokens lexemes has) ∙ l)

  from_eight : list_any is_long_word tokens ≡ false → large ≡ false → HasNoReasonBelow text piece 8
  from_eight l n = next text piece reasons.NumberTooLarge 7 (from_seven l) refl not
    where
      not : HasTokenReason text piece reasons.NumberTooLarge → ⊥
      not (LargeNumber lexemes has is) =
          clash (list_any (is_large_number text) (tokens_of lexemes)) is
          (ap (list_any (is_large_number text)) (same_tokens lexemes has) ∙ sym r.read.large_is ∙ n)

  from_nine : list_any is_long_word tokens ≡ false → large ≡ false → (IsTooDeep tokens → ⊥) → HasNoReasonBelow text piece 9
  from_nine l n d = next text piece reasons.TooDeep 8 (from_eight l n) refl not
    where
      not : HasTokenReason text piece reasons.TooDeep → ⊥
      not (Deep lexemes has is) = d (subst IsTooDeep (same_tokens lexemes has) is)

  -- no reason of the tables of words and statements lies in the tokens
  from_eleven : list_any is_long_word tokens ≡ false → large ≡ false → (IsTooDeep tokens → ⊥) → HasNoReasonBelow text piece 11
  from_eleven l n d =
      next text piece reasons.Unsupported 10 (next text piece reasons.UnknownStatement 9 (from_nine l n d) refl unknown) refl unsupported
    where
      unknown : HasTokenReason text piece reasons.UnknownStatement → ⊥
      unknown h = elim h [ ]

      unsupported : HasTokenReason text piece reasons.Unsupported → ⊥
      unsupported h = elim h [ ]

  -- the tests of the tokens in their order
  pub long_word_first : list_any is_long_word tokens ≡ true → IsSmallestTokenReason text piece reasons.NameTooLong
  long_word_first l =
      smallest_at text piece reasons.NameTooLong (LongWord r.read.lexemes r.read.has (ap (list_any is_long_word) (sym r.read.tokens_are) ∙ l)) r.below

  pub large_number_first : list_any is_long_word tokens ≡ false → large ≡ true → IsSmallestTokenReason text piece reasons.NumberTooLarge
  large_number_first l n =
      smallest_at text piece reasons.NumberTooLarge
      (LargeNumber r.read.lexemes r.read.has (ap (list_any (is_large_number text)) (sym r.read.tokens_are) ∙ sym r.read.large_is ∙ n)) (from_seven l)

  pub deep_first : list_any is_long_word tokens ≡ false → large ≡ false → IsTooDeep tokens → IsSmallestTokenReason text piece reasons.TooDeep
  deep_first l n d = smallest_at text piece reasons.TooDeep (Deep r.read.lexemes r.read.has (subst IsTooDeep r.read.tokens_are d)) (from_eight l n)

  pub bad_token_first : list_any is_long_word tokens ≡ false → large ≡ false → (IsTooDeep tokens → ⊥) → good ≡ false →
      IsSmallestTokenReason text piece reasons.Syntax
  bad_token_first l n d g =
      smallest_at text piece reasons.Syntax (BadToken r.read.lexemes r.read.has (sym r.read.good_is ∙ g)) (from_eleven l n d)

  pub good_tokens : list_any is_long_word tokens ≡ false → large ≡ false → (IsTooDeep tokens → ⊥) → good ≡ true →
      IsTokenAnswer text piece good None
  good_tokens l n d g = (g, none)
    where
      not : HasTokenReason text piece reasons.Syntax → ⊥
      not (BadToken lexemes has is) =
          clash good g (r.read.good_is ∙ ap (list_all (λ (lexeme : Lexeme). lexeme.good)) (sym (same_read lexemes has)) ∙ is)

      from_twelve : HasNoReasonBelow text piece 12
      from_twelve = next text piece reasons.Syntax 11 (from_eleven l n d) refl not

      at_most : (reason : Reason) → HasTokenReason text piece reason → reason_number reason ≤ 11
      at_most reason (NoSemicolon is) = lit≤ tt
      at_most reason (ForeignByte segments has is) = lit≤ tt
      at_most reason (UnclosedString segments has is) = lit≤ tt
      at_most reason (AtSign segments has is) = lit≤ tt
      at_most reason (LongWord lexemes has is) = lit≤ tt
      at_most reason (LargeNumber lexemes has is) = lit≤ tt
      at_most reason (Deep lexemes has is) = lit≤ tt
      at_most reason (BadToken lexemes has is) = lit≤ tt

      none : (reason : Reason) → HasTokenReason text piece reason → ⊥
      none reason holds =
          let least : 12 ≤ reason_number reason = from_twelve reason holds in
          let most : reason_number reason ≤ 11 = at_most reason holds in
          omega arith

-- the tokens of a piece that is read, and that no reason holds of
pub are_tokens : (text : List ℕ) (piece : Piece) (tokens : List Token) (good large : Bool) → IsReadPiece text piece tokens good large →
    IsTokenAnswer text piece good None → AreTokens text piece tokens
are_tokens text piece tokens good large r answer = record {
  good = record {
    within = r.within;
    lexemes = r.read.lexemes;
    has = r.read.has;
    good = sym r.read.good_is ∙ answer.0;
    tokens_are = r.read.tokens_are;
  };
  faultless = answer.1;
}

pub one_list : (text : List ℕ) (piece : Piece) (a b : List Token) → AreGoodTokens text piece a → AreGoodTokens text piece b → a ≡ b
one_list text piece a b p q =
    p.tokens_are ∙ ap tokens_of (same_lexemes text None piece.start piece.end p.lexemes q.lexemes p.within p.has q.has) ∙ sym q.tokens_are
