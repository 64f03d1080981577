-- The tokens of a piece, and the reasons against it that lie in its bytes and its tokens. The reasons and their order
-- are this profile's.
use Rattle.std.specs.Prelude.{◌≡◌, ℕ, ◌-◌, ◌≤◌, List, [], Bool, true, false, ◌&&◌, ◌||◌, ◌==◌, not, codes, length, nat_lt, slice_range, None, map}
use Rattle.std.specs.List.{list_all, list_any}
use Rattle.stapl_lexer.specs.declared.piece.Piece.{Piece}
use Rattle.stapl_lexer.specs.declared.reason.Reason.{Reason}
use Rattle.stapl_lexer.specs.declared.reason.Reason.TheVariants as reasons
use Rattle.stapl_lexer.specs.declared.token.Token.{Token}
use Rattle.stapl_lexer.specs.declared.token.TokenKind.{TokenKind}
use Rattle.stapl_lexer.specs.declared.token.TokenKind.TheVariants as kinds
use Rattle.stapl_lexer.specs.Names.{is_name_byte}
use Rattle.stapl_lexer.specs.Pieces.{is_white}
use Rattle.stapl_lexer.specs.Reasons.{reason_number}
use Rattle.stapl_lexer.specs.Segments.{Segment, Plain, Open, Divides}
use Rattle.stapl_lexer.specs.PieceTokens.{number_value, token_bytes, Lexeme, HasLexemes}
use Rattle.stapl_lexer.specs.Depth.{is_word, IsTooDeep}

-- the marks of the language, each a byte, and the bytes that begin strings, comments and literals
abbrev pub is_mark_byte : ℕ → Bool
is_mark_byte b = list_any (λ mark. mark == b) (codes ";:,=[]()+-*/%&|^~<>!.#$@\"'")

-- a byte of the language: a letter, a digit, an underscore, white space or a mark
abbrev pub is_language_byte : ℕ → Bool
is_language_byte b = is_name_byte b || is_white b || is_mark_byte b

-- a byte outside strings and comments that is none of the language
abbrev pub is_foreign : Segment → Bool
is_foreign (Plain b) = not (is_language_byte b)
is_foreign _ = false

-- a string that its line or the text ends
abbrev pub is_open_string : Segment → Bool
is_open_string (Open bytes) = true
is_open_string _ = false

-- an `@` (64), with which a compressed array begins
abbrev pub is_compressed : Segment → Bool
is_compressed (Plain b) = b == 64
is_compressed _ = false

-- a word of more than 32 characters
abbrev pub is_long_word : Token → Bool
is_long_word token = is_word token.kind && nat_lt 32 (token.end - token.start)

abbrev pub is_number : TokenKind → Bool
is_number kinds.Number = true
is_number _ = false

-- a number above 2,147,483,648, also one that a letter follows
abbrev pub is_large_number : List ℕ → Token → Bool
is_large_number text token = is_number token.kind && nat_lt 2147483648 (number_value (token_bytes text token))

-- the tokens of some lexemes
abbrev pub tokens_of : List Lexeme → List Token
tokens_of lexemes = map (λ lexeme. lexeme.token) lexemes

-- The bytes of the piece are these segments.
abbrev pub HasSegments : List ℕ → Piece → List Segment → Type 0
HasSegments text piece segments = Divides segments (slice_range text piece.start piece.end) []

-- The bytes of the piece have these tokens, good and bad ones.
abbrev pub HasPieceLexemes : List ℕ → Piece → List Lexeme → Type 0
HasPieceLexemes text piece lexemes = HasLexemes text None piece.start piece.end lexemes

-- The reasons against a piece that lie in its bytes and its tokens, each by its own fact.
pub data HasTokenReason (text : List ℕ) (piece : Piece) : Reason → Type 0 where
  -- no semicolon ends it
  NoSemicolon : piece.closed ≡ false → HasTokenReason text piece reasons.Unterminated
  -- a byte stands outside strings and comments that is none of the language
  ForeignByte : (segments : List Segment) → HasSegments text piece segments → list_any is_foreign segments ≡ true →
      HasTokenReason text piece reasons.BadByte
  -- its line or the text ends a string
  UnclosedString : (segments : List Segment) → HasSegments text piece segments →
      list_any is_open_string segments ≡ true → HasTokenReason text piece reasons.OpenString
  -- an `@` stands outside strings and comments
  AtSign : (segments : List Segment) → HasSegments text piece segments → list_any is_compressed segments ≡ true →
      HasTokenReason text piece reasons.Compressed
  -- a word has more than 32 characters
  LongWord : (lexemes : List Lexeme) → HasPieceLexemes text piece lexemes →
      list_any is_long_word (tokens_of lexemes) ≡ true → HasTokenReason text piece reasons.NameTooLong
  -- a number is above 2,147,483,648
  LargeNumber : (lexemes : List Lexeme) → HasPieceLexemes text piece lexemes →
      list_any (is_large_number text) (tokens_of lexemes) ≡ true → HasTokenReason text piece reasons.NumberTooLarge
  -- the tokens pass the limits of the depth rule
  Deep : (lexemes : List Lexeme) → HasPieceLexemes text piece lexemes → IsTooDeep (tokens_of lexemes) →
      HasTokenReason text piece reasons.TooDeep
  -- a token is bad
  BadToken : (lexemes : List Lexeme) → HasPieceLexemes text piece lexemes →
      list_all (λ lexeme. lexeme.good) lexemes ≡ false → HasTokenReason text piece reasons.Syntax

-- the smallest of these reasons against the piece, by its number
pub record IsSmallestTokenReason (text : List ℕ) (piece : Piece) (reason : Reason) : Type 0 where
  pub holds : HasTokenReason text piece reason
  pub smallest : (other : Reason) → HasTokenReason text piece other → reason_number reason ≤ reason_number other

-- The piece has these tokens, and all of them are good.
pub record AreGoodTokens (text : List ℕ) (piece : Piece) (tokens : List Token) : Type 0 where
  pub within : piece.end ≤ length text
  pub lexemes : List Lexeme
  pub has : HasPieceLexemes text piece lexemes
  pub good : list_all (λ lexeme. lexeme.good) lexemes ≡ true
  pub tokens_are : tokens ≡ tokens_of lexemes

-- The piece has these tokens, all of them are good, and none of these reasons holds of it.
pub record AreTokens (text : List ℕ) (piece : Piece) (tokens : List Token) : Type 0 where
  pub good : AreGoodTokens text piece tokens
  pub faultless : (reason : Reason) → HasTokenReason text piece reason → ⊥
