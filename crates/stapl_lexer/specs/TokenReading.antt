-- What the reader of tokens finds in front of some bytes.
use Rattle.std.specs.Prelude.{◌≡◌, ℕ, ℤ, ◌-◌, ◌&&◌, ◌==◌, not, nat_le, Option, None, Some, pos, nat_lt, if◌then◌else◌, All, ◌<◌, ◌≤◌, List, [], ◌++◌, Bool, true, length, take, drop, slice_index, min, map}
use Rattle.std.specs.Int.{cast_signed, w32}
use Rattle.std.specs.List.{list_all, list_any}
use Rattle.stapl_lexer.specs.declared.front.Front.{Front}
use Rattle.stapl_lexer.specs.declared.piece.Piece.{Piece}
use Rattle.stapl_lexer.specs.declared.token.Token.{Token}
use Rattle.stapl_lexer.specs.declared.token.TokenKind.{TokenKind}
use Rattle.stapl_lexer.specs.declared.token.TokenKind.TheVariants as kinds
use Rattle.stapl_lexer.specs.Runs.{StartsWithout, IsSolid}
use Rattle.stapl_lexer.specs.PieceTokens.{AreBlanks, IsNumber, number_value, is_literal_digit, SpacedDigits, Spells, Lexeme, HasLexemes, LiesBetween}
use Rattle.stapl_lexer.specs.declared.reason.Reason.{Reason}
use Rattle.stapl_lexer.specs.PieceFaults.{is_foreign, is_open_string, is_compressed, is_large_number, HasTokenReason, IsSmallestTokenReason}
use Rattle.stapl_lexer.specs.Reasons.{reason_number}
use Rattle.stapl_lexer.specs.Segments.{Segment, Divides}

-- the first n bytes are white space and comments, and after them no such stands
pub record IsBlankFront (bytes : List ℕ) (n : ℕ) : Type 0 where
  pub blank : AreBlanks bytes (drop n bytes)
  pub solid : IsSolid (drop n bytes)

-- the first n bytes pass a test, and the byte after them, where there is one, fails it
pub record IsRun (test : ℕ → Bool) (bytes : List ℕ) (n : ℕ) : Type 0 where
  pub within : n ≤ length bytes
  pub passes : list_all test (take n bytes) ≡ true
  pub stops : StartsWithout test (drop n bytes)

-- one above the greatest number
abbrev pub cap : ℕ
cap = 2147483649

-- the first n bytes are a number, and this is its value, or `cap` where it is greater
pub record IsNumberFront (bytes : List ℕ) (n value : ℕ) : Type 0 where
  pub within : n ≤ length bytes
  pub some : 0 < n
  pub number : IsNumber (take n bytes) (drop n bytes)
  pub value_is : value ≡ min (number_value (take n bytes)) cap

-- a digit of a literal stands after n bytes of white space and comments
pub record IsNextDigit (kind : TokenKind) (bytes : List ℕ) (n : ℕ) : Type 0 where
  pub within : n < length bytes
  pub blank : AreBlanks bytes (drop n bytes)
  pub digit : is_literal_digit kind (slice_index bytes n) ≡ true

-- the first digits of a literal are read: so many, up to a place
pub record IsSpacedUpTo (kind : TokenKind) (bytes : List ℕ) (end count : ℕ) : Type 0 where
  pub within : end ≤ length bytes
  pub few : count ≤ end
  pub digits : List ℕ
  pub count_is : count ≡ length digits
  pub forward : (more after : List ℕ) → SpacedDigits kind (drop end bytes) more after →
      SpacedDigits kind bytes (digits ++ more) after

-- all digits of a literal are read
pub record IsSpacedFront (kind : TokenKind) (bytes : List ℕ) (end count : ℕ) : Type 0 where
  pub within : end ≤ length bytes
  pub few : count ≤ end
  pub digits : List ℕ
  pub count_is : count ≡ length digits
  pub spaced : SpacedDigits kind bytes digits (drop end bytes)

-- the value of a token that is a number, or `cap` where it is greater
abbrev pub capped_value : TokenKind → List ℕ → ℕ
capped_value kinds.Number own = min (number_value own) cap
capped_value _ own = 0

-- this token stands in front of the bytes
pub record IsFront (kind : TokenKind) (bytes : List ℕ) (front : Front) : Type 0 where
  pub within : front.len ≤ length bytes
  pub some : 0 < front.len
  pub spelled : Spells kind front.good (take front.len bytes) (drop front.len bytes)
  pub value_is : front.value ≡ capped_value kind (take front.len bytes)

-- the value that is held: 0 for a greater number
abbrev pub held_value : ℕ → ℤ
held_value value = if nat_lt 2147483648 value then pos 0 else cast_signed w32 value

-- The text is read from one place up to another: these are the tokens so far, and it is known whether all of them are
-- good, and whether one is a number that is too large. What the rest has, the whole has after these tokens.
pub record IsReadUpTo (text : List ℕ) (start limit : ℕ) (tokens : List Token) (good large : Bool)
    (is_crc : Option Bool) (at : ℕ) : Type 0 where
  pub within : at ≤ limit
  pub from : start ≤ at
  pub done : List Lexeme
  pub tokens_are : tokens ≡ map (λ lexeme. lexeme.token) done
  pub good_is : good ≡ list_all (λ lexeme. lexeme.good) done
  pub large_is : large ≡ list_any (is_large_number text) tokens
  pub lie : All (LiesBetween start limit) tokens
  pub forward : (more : List Lexeme) → HasLexemes text is_crc at limit more →
      HasLexemes text None start limit (done ++ more)

-- all tokens between two places are read
pub record AreRead (text : List ℕ) (start limit : ℕ) (tokens : List Token) (good large : Bool) : Type 0 where
  pub lexemes : List Lexeme
  pub tokens_are : tokens ≡ map (λ lexeme. lexeme.token) lexemes
  pub good_is : good ≡ list_all (λ lexeme. lexeme.good) lexemes
  pub large_is : large ≡ list_any (is_large_number text) tokens
  pub has : HasLexemes text None start limit lexemes

-- The bytes of a segment are an open string: they begin with a quote and do not end in another one.
abbrev pub is_open_spelling : List ℕ → Bool
is_open_spelling own =
    (slice_index own 0 == 34) && not (nat_le 2 (length own) && slice_index own (length own - 1) == 34)

-- the bytes up to a place are read segment by segment, and it is known what is wrong with them
pub record IsSearchedUpTo (bytes : List ℕ) (foreign unclosed compressed : Bool) (at : ℕ) : Type 0 where
  pub within : at ≤ length bytes
  pub segments : List Segment
  pub divides : Divides segments bytes (drop at bytes)
  pub foreign_is : foreign ≡ list_any is_foreign segments
  pub unclosed_is : unclosed ≡ list_any is_open_string segments
  pub compressed_is : compressed ≡ list_any is_compressed segments

-- all bytes are read segment by segment, and it is known what is wrong with them
pub record AreSearched (bytes : List ℕ) (foreign unclosed compressed : Bool) : Type 0 where
  pub segments : List Segment
  pub divides : Divides segments bytes []
  pub foreign_is : foreign ≡ list_any is_foreign segments
  pub unclosed_is : unclosed ≡ list_any is_open_string segments
  pub compressed_is : compressed ≡ list_any is_compressed segments

-- each reason against the piece has at least this number
abbrev pub HasNoReasonBelow : List ℕ → Piece → ℕ → Type 0
HasNoReasonBelow text piece least = (reason : Reason) → HasTokenReason text piece reason → least ≤ reason_number reason

-- no reason lies in the bytes of the piece, and its tokens are read
pub record IsReadPiece (text : List ℕ) (piece : Piece) (tokens : List Token) (good large : Bool) : Type 0 where
  pub within : piece.end ≤ length text
  pub read : AreRead text piece.start piece.end tokens good large
  pub below : HasNoReasonBelow text piece 6

-- the smallest reason against the piece, or none if none holds
abbrev pub IsTokenAnswer : List ℕ → Piece → Bool → Option Reason → Type 0
IsTokenAnswer text piece good (Some reason) = IsSmallestTokenReason text piece reason
IsTokenAnswer text piece good None = (good ≡ true) × ((reason : Reason) → HasTokenReason text piece reason → ⊥)
