-- How many bytes a symbol takes, and that its token has them.
use Rattle.std.proofs.Common.{◌≡◌, ℕ, ℤ, suc, ◌+◌, ◌-◌, ◌/◌, ◌≤◌, Bool, true, false, List, [], ◌∷◌, ◌++◌, length, length-drop, drop, Option, Some, None, if◌then◌else◌, refl, arith}
use Rattle.std.specs.Str.{str_to_ascii_uppercase}
use Rattle.std.specs.Char.{to_ascii_uppercase}
use Rattle.std.proofs.lemmas.List.{length-map, length-take}
use Rattle.bit_list.proofs.DigitBits.{length-bits_of_digits}
use Rattle.stapl_lexer.specs.declared.terminal.Terminal.{Terminal}
use Rattle.stapl_lexer.specs.declared.terminal.Terminal.TheVariants as terminals
use Rattle.stapl_lexer.specs.declared.token.TokenKind.{TokenKind}
use Rattle.stapl_lexer.specs.declared.token.TokenKind.TheVariants as kinds
use Rattle.stapl_lexer.specs.Names.{is_name}
use Rattle.stapl_lexer.specs.PieceTokens.{digits_in}
use Rattle.stapl_lexer.proofs.DigitLemmas.{few_digits}
use Rattle.stapl_syntax.specs.declared.signs.Sign.{Sign}
use Rattle.stapl_syntax.specs.declared.signs.Sign.TheVariants as signs
use Rattle.stapl_syntax.specs.Symbols.{Symbol, Plain, Text, Literal, CheckWord, terminal_sign, word_sign, mark_sign, symbol_as}

-- what a sign takes beside its first byte
abbrev pub sign_more : Sign → ℕ
sign_more (signs.Name v) = length (drop 1 v)
sign_more _ = 0

-- what a symbol takes beside its first byte
abbrev pub symbol_more : Symbol → ℕ
symbol_more (Plain sign) = sign_more sign
symbol_more (Text bytes) = length bytes
symbol_more (Literal bits) = length bits / 4
symbol_more (CheckWord n) = 0

-- how many bytes symbols take at least
abbrev pub bytes_of : List Symbol → ℕ
bytes_of [] = 0
bytes_of (t ∷ s) = suc (symbol_more t + bytes_of s)

pub bytes_both : (a b : List Symbol) → bytes_of (a ++ b) ≡ bytes_of a + bytes_of b
bytes_both [] b = omega arith
bytes_both (t ∷ a) b = omega (arith, bytes_both a b)

-- ---- tokens

no_more : (t : Terminal) → sign_more (terminal_sign t) ≡ 0
unfolding terminal_sign
no_more (terminals.Operator op) = refl
no_more (terminals.Mark m) = refl
no_more (terminals.Outer w) = refl
no_more (terminals.Inner w) = refl
no_more (terminals.Simple w) = refl
no_more terminals.If = refl
no_more (terminals.Port w) = refl
no_more (terminals.Join w) = refl
no_more (terminals.Function f) = refl
no_more (terminals.State k) = refl
no_more terminals.LeftOutStatement = refl
no_more terminals.LeftOutWord = refl

-- a token of so many bytes, at most
module _ (own : List ℕ) (n : ℕ) (some : 1 ≤ n) (short : length own ≤ n) where
  word_fits : (terminal : Option Terminal) → suc (sign_more (word_sign terminal own)) ≤ n
  word_fits (Some t) = omega (arith, some, no_more t)
  word_fits None = by (is_name (str_to_ascii_uppercase own))
    where
      by : (b : Bool) → suc (sign_more (if b then signs.Name (str_to_ascii_uppercase own) else signs.Other)) ≤ n
      by true =
          omega (arith, some, short, length-drop 1 (str_to_ascii_uppercase own), length-map own to_ascii_uppercase)
      by false = omega (arith, some)

  mark_fits : (terminal : Option Terminal) → suc (sign_more (mark_sign terminal)) ≤ n
  mark_fits (Some t) = omega (arith, some, no_more t)
  mark_fits None = omega (arith, some)

  -- a token has at least as many bytes as its symbol takes
  pub symbol_fits : (kind : TokenKind) (value : ℤ) (terminal : Option Terminal) →
      suc (symbol_more (symbol_as kind value terminal own)) ≤ n
  symbol_fits kinds.Word value terminal = word_fits terminal
  symbol_fits kinds.Number value terminal = omega (arith, some)
  symbol_fits kinds.Text value terminal =
      omega (arith, some, short, length-take (length own - 2) (drop 1 own), length-drop 1 own)
  symbol_fits kinds.Mark value terminal = mark_fits terminal
  symbol_fits kinds.Binary value terminal =
      let digits : List ℕ = digits_in kinds.Binary false (drop 1 own) in
      let few = few_digits kinds.Binary false (drop 1 own) in
      omega (arith, some, short, few, length-bits_of_digits 1 digits, length-drop 1 own)
  symbol_fits kinds.Hexadecimal value terminal =
      let digits : List ℕ = digits_in kinds.Hexadecimal false (drop 1 own) in
      let few = few_digits kinds.Hexadecimal false (drop 1 own) in
      omega (arith, some, short, few, length-bits_of_digits 4 digits, length-drop 1 own)
  symbol_fits kinds.Hex4 value terminal = omega (arith, some)
