-- Why a piece is no statement. The reasons, and their numbers, are this profile's.
use Rattle.std.specs.Prelude.{◌≡◌, ℕ, ◌≤◌, List, [], ◌∷◌, Bool, true, false, not}
use Rattle.std.specs.List.{list_any}
use Rattle.stapl_lexer.specs.declared.piece.Piece.{Piece}
use Rattle.stapl_lexer.specs.declared.reason.Reason.{Reason}
use Rattle.stapl_lexer.specs.declared.reason.Reason.TheVariants as reasons
use Rattle.stapl_lexer.specs.declared.token.Token.{Token}
use Rattle.stapl_lexer.specs.PieceFaults.{HasTokenReason, AreGoodTokens}
use Rattle.stapl_lexer.specs.Reasons.{reason_number}
use Rattle.stapl_lexer.specs.declared.terminal.Mark.TheVariants as marks
use Rattle.stapl_syntax.specs.declared.signs.Sign.{Sign}
use Rattle.stapl_syntax.specs.declared.signs.Sign.TheVariants as signs
use Rattle.stapl_syntax.specs.Symbols.{Symbol, Plain, sign_of, symbols_of}
use Rattle.stapl_syntax.specs.Trees.{StmtTree}
use Rattle.stapl_syntax.specs.Statements.{Means}

-- the symbols after the label, if there is one
unfoldable pub after_label : List Symbol → List Symbol
after_label (Plain (signs.Name v) ∷ Plain (signs.Mark marks.Colon) ∷ s) = s
after_label s = s

-- a sign that may stand after the first name of an assignment
unfoldable pub is_assign_sign : Sign → Bool
is_assign_sign (signs.Mark marks.Equals) = true
is_assign_sign (signs.Mark marks.LeftSquare) = true
is_assign_sign _ = false

-- the first sign of the symbols
abbrev pub first_sign : List Symbol → Sign
first_sign [] = signs.Other
first_sign (t ∷ s) = sign_of t

-- a statement begins with this sign, if those symbols stand after it
unfoldable pub begins_statement : Sign → List Symbol → Bool
begins_statement (signs.Outer w) s = true
begins_statement (signs.Inner w) s = true
begins_statement (signs.Simple w) s = true
begins_statement signs.If s = true
begins_statement (signs.Port w) s = true
begins_statement signs.LeftOutStatement s = true
begins_statement (signs.Name v) s = is_assign_sign (first_sign s)
begins_statement _ s = false

-- Something stands there, and the first of it is no statement word, and no name that `=` or `[` follows.
unfoldable pub is_unknown : List Symbol → Bool
is_unknown [] = false
is_unknown (t ∷ s) = not (begins_statement (sign_of t) s)

-- a word that this profile leaves out
unfoldable pub is_left_out : Sign → Bool
is_left_out signs.LeftOutStatement = true
is_left_out signs.LeftOutWord = true
is_left_out _ = false

abbrev pub holds_left_out : List Symbol → Bool
holds_left_out s = list_any (λ t. is_left_out (sign_of t)) s

-- A reason why the piece is no statement, one case for each row of the table of reasons. What is said of the grammar is
-- said of pieces whose tokens are good.
pub data HasReason (text : List ℕ) (piece : Piece) : Reason → Type 0 where
  -- a reason that lies in the bytes or in single tokens, or a bad token
  in_tokens : {reason : Reason} → HasTokenReason text piece reason → HasReason text piece reason
  -- after the label stands no statement
  unknown : (tokens : List Token) → AreGoodTokens text piece tokens → is_unknown (after_label (symbols_of text tokens)) ≡ true →
      HasReason text piece reasons.UnknownStatement
  -- a word stands in it that this profile leaves out
  left_out : (tokens : List Token) → AreGoodTokens text piece tokens → holds_left_out (symbols_of text tokens) ≡ true →
      HasReason text piece reasons.Unsupported
  -- the tokens are no statement
  not_in_grammar : (tokens : List Token) → AreGoodTokens text piece tokens → ((st : StmtTree) → Means (symbols_of text tokens) st → ⊥) →
      HasReason text piece reasons.Syntax

-- Of the reasons that hold, the one with the smallest number.
pub record SmallestReason (text : List ℕ) (piece : Piece) (reason : Reason) : Type 0 where
  pub holds : HasReason text piece reason
  pub least : (other : Reason) → HasReason text piece other → reason_number reason ≤ reason_number other
