-- The depth rule, which is this profile's: a piece must not nest brackets or conditions too deep, nor hold too many
-- operator marks. Only tokens count, good and bad ones.
use Rattle.std.specs.Prelude.{◌≡◌, ℕ, ◌+◌, ◌-◌, ◌<◌, List, [], ◌∷◌, ◌++◌, Bool, true, false, ◌&&◌, if◌then◌else◌, Option, Some, is_none, nat_le, count_by}
use Rattle.stapl_lexer.specs.declared.terminal.InnerWord.TheVariants as inners
use Rattle.stapl_lexer.specs.declared.terminal.Mark.TheVariants as marks
use Rattle.stapl_lexer.specs.declared.terminal.Terminal.{Terminal}
use Rattle.stapl_lexer.specs.declared.terminal.Terminal.TheVariants as terminals
use Rattle.stapl_lexer.specs.declared.token.Token.{Token}
use Rattle.stapl_lexer.specs.declared.token.TokenKind.{TokenKind}
use Rattle.stapl_lexer.specs.declared.token.TokenKind.TheVariants as kinds

abbrev pub is_word : TokenKind → Bool
is_word kinds.Word = true
is_word _ = false

-- a round or a square bracket that opens
unfoldable pub is_opening : Option Terminal → Bool
is_opening (Some (terminals.Mark marks.LeftRound)) = true
is_opening (Some (terminals.Mark marks.LeftSquare)) = true
is_opening _ = false

-- a round or a square bracket that closes
unfoldable pub is_closing : Option Terminal → Bool
is_closing (Some (terminals.Mark marks.RightRound)) = true
is_closing (Some (terminals.Mark marks.RightSquare)) = true
is_closing _ = false

-- the word IF
unfoldable pub is_condition : Option Terminal → Bool
is_condition (Some terminals.If) = true
is_condition _ = false

-- an operator mark, with one operand or with two (JESD71, expressions)
unfoldable pub is_operator : Option Terminal → Bool
is_operator (Some (terminals.Operator _)) = true
is_operator (Some (terminals.Mark marks.Tilde)) = true
is_operator (Some (terminals.Mark marks.Exclamation)) = true
is_operator _ = false

unfoldable pub is_colon : Option Terminal → Bool
is_colon (Some (terminals.Mark marks.Colon)) = true
is_colon _ = false

-- the word INTEGER
unfoldable pub is_integer : Option Terminal → Bool
is_integer (Some (terminals.Inner inners.Integer)) = true
is_integer _ = false

-- how many of some tokens are such a word or mark
abbrev pub count_of : (Option Terminal → Bool) → List Token → ℕ
count_of test tokens = count_by (λ token. test token.terminal) tokens

-- At some place more than 32 brackets are open: some run of tokens has over 32 more opening brackets than closing ones.
-- A closing bracket closes the last open one, of whichever kind, and nothing if none is open.
pub record HasOpenBrackets (tokens : List Token) : Type 0 where
  pub front : List Token
  pub run : List Token
  pub rest : List Token
  pub parts : tokens ≡ front ++ (run ++ rest)
  pub deep : count_of is_closing run + 32 < count_of is_opening run

-- a word that may be a label: a name that is not reserved
abbrev pub is_label_word : Token → Bool
is_label_word token = is_word token.kind && is_none token.terminal && nat_le (token.end - token.start) 32

-- the tokens after the label, if there is one
abbrev pub after_label : List Token → List Token
after_label (label ∷ colon ∷ tokens) =
    if is_label_word label && is_colon colon.terminal then tokens else (label ∷ colon ∷ tokens)
after_label (token ∷ []) = token ∷ []
after_label [] = []

-- the first token is the word INTEGER
abbrev pub begins_with_integer : List Token → Bool
begins_with_integer (token ∷ tokens) = is_integer token.terminal
begins_with_integer [] = false

-- The piece is too deep. The number of operator marks is not tested in a declaration of an INTEGER, in which a sign may
-- stand before each initial value.
pub data IsTooDeep (tokens : List Token) : Type 0 where
  -- more than 32 brackets are open at once
  Brackets : HasOpenBrackets tokens → IsTooDeep tokens
  -- the word IF stands more than 32 times
  Conditions : 32 < count_of is_condition tokens → IsTooDeep tokens
  -- more than 256 operator marks stand there
  Operators : begins_with_integer (after_label tokens) ≡ false → 256 < count_of is_operator tokens → IsTooDeep tokens
