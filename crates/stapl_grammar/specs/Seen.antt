-- What the grammar sees of the tokens of a text.
use Rattle.std.specs.Prelude.{ℕ, List, [], ◌∷◌, Option, Some, None}
use Rattle.stapl_lexer.specs.declared.token.Token.{Token}
use Rattle.stapl_syntax.specs.declared.signs.Sign.{Sign}
use Rattle.stapl_syntax.specs.Symbols.{Symbol, sign_of, symbol_of}

-- the symbol of a token
unfoldable pub seen_as : List ℕ → Token → Symbol
seen_as text token = symbol_of text token

-- the symbols of tokens
unfoldable pub seen : List ℕ → List Token → List Symbol
seen text [] = []
seen text (token ∷ tokens) = seen_as text token ∷ seen text tokens

-- the sign of the first symbol
abbrev pub first_seen : List Symbol → Option Sign
first_seen [] = None
first_seen (t ∷ s) = Some (sign_of t)
