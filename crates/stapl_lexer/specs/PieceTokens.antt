-- The tokens of a piece, good and bad ones (JESD71, statements). That `E` and digits may follow the digits of a number,
-- that white space may stand between the digits of a literal, and how bad tokens are read, are this profile's rules.
use Rattle.std.specs.Prelude.{◌≡◌, ℕ, ℤ, pos, ◌<◌, ◌≤◌, ◌+◌, ◌-◌, ◌*◌, ◌^◌, List, [], ◌∷◌, ◌++◌, Bool, true, false, ◌&&◌, ◌||◌, ◌==◌, not, if◌then◌else◌, codes, take, drop, length, slice_index, slice_range, Option, None, Some, nat_le, take_while}
use Rattle.std.specs.Char.{is_ascii_alphabetic, is_ascii_digit, is_ascii_hexdigit}
use Rattle.std.specs.Int.{cast_signed, w32}
use Rattle.std.specs.List.{list_all}
use Rattle.std.specs.Str.Parse.{digits_value}
use Rattle.stapl_lexer.specs.declared.terminal.Terminal.{Terminal}
use Rattle.stapl_lexer.specs.declared.token.Token.{Token}
use Rattle.stapl_lexer.specs.declared.token.TokenKind.{TokenKind}
use Rattle.stapl_lexer.specs.declared.token.TokenKind.TheVariants as kinds
use Rattle.stapl_lexer.specs.Names.{is_name_byte}
use Rattle.stapl_lexer.specs.Pieces.{is_blank}
use Rattle.stapl_lexer.specs.Marks.{mark_terminal, is_mark_spelling}
use Rattle.stapl_lexer.specs.ReservedWords.{spells_word, word_terminal}
use Rattle.stapl_lexer.specs.Segments.{Segment, Closed, spelled, IsSegment, Divides}
use Rattle.stapl_lexer.specs.Runs.{StartsWithout, IsSolid, IsDigits}

-- white space and comments, and then the rest
pub record AreBlanks (bytes rest : List ℕ) : Type 0 where
  pub blanks : List Segment
  pub divides : Divides blanks bytes rest
  pub blank : list_all is_blank blanks ≡ true

-- What stands between the letters of a word and those bytes: nothing, or the `$` (36) of the word CHR$. That `$`
-- belongs to the word where it stands directly after CHR.
abbrev pub IsWordTail : List ℕ → List ℕ → List ℕ → Type 0
IsWordTail name [] after =
    StartsWithout is_name_byte after × ((spells_word (codes "CHR") name && slice_index after 0 == 36) ≡ false)
IsWordTail name (b ∷ bs) after = (b ∷ bs ≡ 36 ∷ []) × (spells_word (codes "CHR") name ≡ true)

-- a word, as long as it can be: letters, digits and underscores, of any number
pub record IsWord (own after : List ℕ) : Type 0 where
  pub name : List ℕ
  pub tail : List ℕ
  pub parts : own ≡ name ++ tail
  pub name_bytes : list_all is_name_byte name ≡ true
  pub ends : IsWordTail name tail after

-- `E` or `e`
abbrev pub is_exponent_mark : ℕ → Bool
is_exponent_mark b = (b == 69) || (b == 101)

-- the bytes begin with `E` and a decimal digit
abbrev pub begins_exponent : List ℕ → Bool
begins_exponent bytes = is_exponent_mark (slice_index bytes 0) && is_ascii_digit (slice_index bytes 1)

-- What stands between the first digits of a number and those bytes: nothing, or `E` and the digits of its exponent.
abbrev pub IsExponent : List ℕ → List ℕ → Type 0
IsExponent [] after = StartsWithout is_ascii_digit after × (begins_exponent after ≡ false)
IsExponent (mark ∷ power) after = (is_exponent_mark mark ≡ true) × IsDigits power × StartsWithout is_ascii_digit after

-- a number, as long as it can be
pub record IsNumber (own after : List ℕ) : Type 0 where
  pub digits : List ℕ
  pub exponent : List ℕ
  pub parts : own ≡ digits ++ exponent
  pub are_digits : IsDigits digits
  pub ends : IsExponent exponent after

-- the digits in front
abbrev pub front_digits : List ℕ → List ℕ
front_digits own = take_while is_ascii_digit own

-- the value of a number: its first digits, times 10 to the power of the digits after `E`
abbrev pub number_value : List ℕ → ℕ
number_value own = digits_value 10 (front_digits own) * 10 ^ digits_value 10 (drop (length (front_digits own) + 1) own)

-- the digits of a literal: `0` and `1`, or the hexadecimal ones
abbrev pub is_literal_digit : TokenKind → ℕ → Bool
is_literal_digit kinds.Binary b = (b == 48) || (b == 49)
is_literal_digit _ b = is_ascii_hexdigit b

-- no digit stands in front of the bytes, nor after white space and comments in front of them
pub record HasNoDigit (kind : TokenKind) (bytes : List ℕ) : Type 0 where
  pub rest : List ℕ
  pub blank : AreBlanks bytes rest
  pub solid : IsSolid rest
  pub stops : StartsWithout (is_literal_digit kind) rest

-- These digits, as many as can be, with white space and comments before each of them, and then those bytes.
abbrev pub SpacedDigits : TokenKind → List ℕ → List ℕ → List ℕ → Type 0
SpacedDigits kind bytes [] after = (bytes ≡ after) × HasNoDigit kind bytes
SpacedDigits kind bytes (d ∷ digits) after =
    (rest : List ℕ) × AreBlanks bytes (d ∷ rest) × (is_literal_digit kind d ≡ true)
    × SpacedDigits kind rest digits after

-- A literal: its mark, and the digits after that. It is good where it has a digit.
abbrev pub IsLiteral : TokenKind → Bool → List ℕ → List ℕ → Type 0
IsLiteral kind good own after =
    (digits : List ℕ) × SpacedDigits kind (drop 1 own ++ after) digits after × (good ≡ nat_le 1 (length digits))

-- The digits of a literal: those of its bytes that are digits, but for those in comments (JESD71, program text), which
-- go from an apostrophe (39) up to a line feed (10). The flag says whether the bytes begin inside a comment.
abbrev pub digits_in : TokenKind → Bool → List ℕ → List ℕ
digits_in kind in_comment [] = []
digits_in kind true (b ∷ bs) = digits_in kind (not (b == 10)) bs
digits_in kind false (b ∷ bs) =
    if b == 39 then digits_in kind true bs
    else if is_literal_digit kind b then b ∷ digits_in kind false bs
    else digits_in kind false bs

-- four hexadecimal digits, and nothing but white space and comments after them
pub record AreFourDigits (own after : List ℕ) : Type 0 where
  pub digits : List ℕ
  pub spaced : SpacedDigits kinds.Hex4 (own ++ after) digits after
  pub four : length digits ≡ 4
  pub ends : AreBlanks after []

-- What stands after the word CRC: four hexadecimal digits, or else it is all bytes there, and bad.
abbrev pub IsCheckWord : Bool → List ℕ → List ℕ → Type 0
IsCheckWord true own after = AreFourDigits own after
IsCheckWord false own after =
    (after ≡ []) × ((front rest : List ℕ) → own ≡ front ++ rest → AreFourDigits front rest → ⊥)

-- a mark, as long as it can be, or a single byte that begins no token
abbrev pub IsMark : List ℕ → List ℕ → Type 0
IsMark [] after = ⊥
IsMark (a ∷ []) after = is_mark_spelling (a ∷ slice_index after 0 ∷ []) ≡ false
IsMark (a ∷ b ∷ []) after = is_mark_spelling (a ∷ b ∷ []) ≡ true
IsMark (a ∷ b ∷ _ ∷ _) after = ⊥

-- a string that is closed
abbrev pub is_closed : Segment → Bool
is_closed (Closed bytes) = true
is_closed _ = false

-- These bytes are a token of this kind where those stand after. It is good or bad: a number that a letter or an
-- underscore follows is bad, and so is a string that is open, a literal without a digit, and a single byte that is no
-- mark, as a single `.`, an underscore that stands in no word, or a byte that is none of the language.
abbrev pub Spells : TokenKind → Bool → List ℕ → List ℕ → Type 0
Spells kinds.Word good own after = IsWord own after × (good ≡ true)
Spells kinds.Number good own after = IsNumber own after × (good ≡ not (is_name_byte (slice_index after 0)))
Spells kinds.Text good own after = (s : Segment) × (own ≡ spelled s) × IsSegment s after × (good ≡ is_closed s)
Spells kinds.Binary good own after = IsLiteral kinds.Binary good own after
Spells kinds.Hexadecimal good own after = IsLiteral kinds.Hexadecimal good own after
Spells kinds.Mark good own after = IsMark own after × (good ≡ is_mark_spelling own)
Spells kinds.Hex4 good own after = IsCheckWord good own after

-- The kind of the token that begins with this byte. What is none of the other tokens is a mark, good or bad.
abbrev pub kind_of : ℕ → TokenKind
kind_of b =
    if is_ascii_alphabetic b then kinds.Word
    else if is_ascii_digit b then kinds.Number
    else if b == 34 then kinds.Text
    else if b == 35 then kinds.Binary
    else if b == 36 then kinds.Hexadecimal
    else kinds.Mark

-- The kind of the token that begins with this byte, where it is known whether the first word of the piece is CRC, or
-- that no word has been before.
abbrev pub kind_at : Option Bool → ℕ → TokenKind
kind_at (Some true) b = kinds.Hex4
kind_at (Some false) b = kind_of b
kind_at None b = kind_of b

-- whether the first word is CRC, after one more token
abbrev pub first_word : Option Bool → TokenKind → List ℕ → Option Bool
first_word None kinds.Word own = Some (spells_word (codes "CRC") own)
first_word first _ own = first

-- The value of a token: of a number its own, where 2147483648 stands for -2147483648; 0 for a greater number, and for
-- every other token.
abbrev pub value_of : TokenKind → List ℕ → ℤ
value_of kinds.Number own = if nat_le (number_value own) 2147483648 then cast_signed w32 (number_value own) else pos 0
value_of _ own = pos 0

-- the reserved word or the mark that a token is, if it is one
abbrev pub terminal_of : TokenKind → List ℕ → Option Terminal
terminal_of kinds.Word own = word_terminal own
terminal_of kinds.Mark own = mark_terminal own
terminal_of _ own = None

-- the bytes of a token
abbrev pub token_bytes : List ℕ → Token → List ℕ
token_bytes text token = slice_range text token.start token.end

-- what stands between the first byte of a string and its last one, which are its quotes
abbrev pub string_inside : List ℕ → List ℕ
string_inside own = take (length own - 2) (drop 1 own)

-- a token that is good or bad
pub record Lexeme : Type 0 where
  pub token : Token
  pub good : Bool

-- Between two places of the text stand white space and comments, and then this token.
pub record BeginsWith (text : List ℕ) (first : Option Bool) (at limit : ℕ) (lexeme : Lexeme) : Type 0 where
  pub after : at ≤ lexeme.token.start
  pub some : lexeme.token.start < lexeme.token.end
  pub within : lexeme.token.end ≤ limit
  pub blank : AreBlanks (slice_range text at limit) (slice_range text lexeme.token.start limit)
  pub solid : IsSolid (slice_range text lexeme.token.start limit)
  pub kind : lexeme.token.kind ≡ kind_at first (slice_index text lexeme.token.start)
  pub spelled : Spells lexeme.token.kind lexeme.good (token_bytes text lexeme.token)
      (slice_range text lexeme.token.end limit)
  pub value : lexeme.token.value ≡ value_of lexeme.token.kind (token_bytes text lexeme.token)
  pub terminal : lexeme.token.terminal ≡ terminal_of lexeme.token.kind (token_bytes text lexeme.token)

-- The bytes of the text from one place up to another have these tokens. White space and comments separate tokens and
-- mean nothing else. Reading goes on after a bad token.
abbrev pub HasLexemes : List ℕ → Option Bool → ℕ → ℕ → List Lexeme → Type 0
HasLexemes text first at limit [] = AreBlanks (slice_range text at limit) []
HasLexemes text first at limit (lexeme ∷ lexemes) =
    BeginsWith text first at limit lexeme
    × HasLexemes text (first_word first lexeme.token.kind (token_bytes text lexeme.token)) lexeme.token.end limit
    lexemes

-- a token lies between two places
pub record LiesBetween (start limit : ℕ) (token : Token) : Type 0 where
  pub from : start ≤ token.start
  pub some : token.start < token.end
  pub within : token.end ≤ limit
