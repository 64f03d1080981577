-- What the grammar sees of tokens (JESD71, statements).
use Rattle.std.specs.Prelude.{ℕ, ℤ, List, Bool, false, ◌%◌, if◌then◌else◌, drop, map, Option, Some, None}
use Rattle.std.specs.Str.{str_to_ascii_uppercase}
use Rattle.std.specs.Str.Parse.{digits_value}
use Rattle.bit_list.specs.Digits.{bits_of_binary, bits_of_hex}
use Rattle.stapl_lexer.specs.declared.terminal.Terminal.{Terminal}
use Rattle.stapl_lexer.specs.declared.terminal.Terminal.TheVariants as terminals
use Rattle.stapl_lexer.specs.declared.token.Token.{Token}
use Rattle.stapl_lexer.specs.declared.token.TokenKind.{TokenKind}
use Rattle.stapl_lexer.specs.declared.token.TokenKind.TheVariants as kinds
use Rattle.stapl_lexer.specs.Names.{is_name}
use Rattle.stapl_lexer.specs.PieceTokens.{token_bytes, string_inside, digits_in}
use Rattle.stapl_syntax.specs.declared.signs.Sign.{Sign}
use Rattle.stapl_syntax.specs.declared.signs.Sign.TheVariants as signs

-- what the grammar sees of a token
pub data Symbol : Type 0 where
  -- a number, a word or a mark
  Plain : Sign → Symbol
  -- a string, by the bytes between its quotes
  Text : List ℕ → Symbol
  -- a literal, by its bits, the lowest index first
  Literal : List Bool → Symbol
  -- the number of the four digits after CRC
  CheckWord : ℕ → Symbol

-- what is seen of it beside what it holds
abbrev pub sign_of : Symbol → Sign
sign_of (Plain sign) = sign
sign_of (Text bytes) = signs.Other
sign_of (Literal bits) = signs.Other
sign_of (CheckWord n) = signs.Other

-- a reserved word or a mark
unfoldable pub terminal_sign : Terminal → Sign
terminal_sign (terminals.Operator op) = signs.Operator op
terminal_sign (terminals.Mark m) = signs.Mark m
terminal_sign (terminals.Outer w) = signs.Outer w
terminal_sign (terminals.Inner w) = signs.Inner w
terminal_sign (terminals.Simple w) = signs.Simple w
terminal_sign terminals.If = signs.If
terminal_sign (terminals.Port w) = signs.Port w
terminal_sign (terminals.Join w) = signs.Join w
terminal_sign (terminals.Function f) = signs.Function f
terminal_sign (terminals.State k) = signs.State k
terminal_sign terminals.LeftOutStatement = signs.LeftOutStatement
terminal_sign terminals.LeftOutWord = signs.LeftOutWord

-- a word that is not reserved, by its bytes in upper case
abbrev pub name_sign : List ℕ → Sign
name_sign bytes = if is_name bytes then signs.Name bytes else signs.Other

-- a word, by the reserved word that it is, if it is one, and by its bytes: letter case is ignored
abbrev pub word_sign : Option Terminal → List ℕ → Sign
word_sign (Some terminal) own = terminal_sign terminal
word_sign None own = name_sign (str_to_ascii_uppercase own)

abbrev pub mark_sign : Option Terminal → Sign
mark_sign (Some terminal) = terminal_sign terminal
mark_sign None = signs.Other

-- the number of the digits after CRC, which are four
abbrev pub check_number : List ℕ → ℕ
check_number own = digits_value 16 (digits_in kinds.Hex4 false own) % 65536

-- what the grammar sees of a token of this kind and value that is this terminal, if it is one, and has these bytes
abbrev pub symbol_as : TokenKind → ℤ → Option Terminal → List ℕ → Symbol
symbol_as kinds.Word value terminal own = Plain (word_sign terminal own)
symbol_as kinds.Number value terminal own = Plain (signs.Number value)
symbol_as kinds.Text value terminal own = Text (string_inside own)
symbol_as kinds.Mark value terminal own = Plain (mark_sign terminal)
symbol_as kinds.Binary value terminal own = Literal (bits_of_binary (digits_in kinds.Binary false (drop 1 own)))
symbol_as kinds.Hexadecimal value terminal own = Literal (bits_of_hex (digits_in kinds.Hexadecimal false (drop 1 own)))
symbol_as kinds.Hex4 value terminal own = CheckWord (check_number own)

-- what it sees of a token of the text
abbrev pub symbol_of : List ℕ → Token → Symbol
symbol_of text token = symbol_as token.kind token.value token.terminal (token_bytes text token)

abbrev pub symbols_of : List ℕ → List Token → List Symbol
symbols_of text tokens = map (symbol_of text) tokens
