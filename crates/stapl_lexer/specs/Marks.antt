-- The marks of the language: operators with two operands and other marks (JESD71, statements and expressions).
use Rattle.std.specs.Prelude.{ℕ, List, [], ◌∷◌, Bool, codes, Option, is_some}
use Rattle.std.specs.Str.{bytes_eq}
use Rattle.stapl_lexer.specs.declared.terminal.BinOp.TheVariants as operators
use Rattle.stapl_lexer.specs.declared.terminal.Mark.TheVariants as marks
use Rattle.stapl_lexer.specs.declared.terminal.Terminal.{Terminal}
use Rattle.stapl_lexer.specs.declared.terminal.Terminal.TheVariants as terminals
use Rattle.stapl_lexer.specs.Terminals.{terminal_in}

-- the marks, each with what it is, those of one byte first
abbrev pub mark_table : List (List ℕ × Terminal)
mark_table =
    (codes "*", terminals.Operator operators.Multiply) ∷
    (codes "/", terminals.Operator operators.Divide) ∷
    (codes "%", terminals.Operator operators.Remainder) ∷
    (codes "+", terminals.Operator operators.Add) ∷
    (codes "-", terminals.Operator operators.Subtract) ∷
    (codes "<", terminals.Operator operators.Less) ∷
    (codes ">", terminals.Operator operators.Greater) ∷
    (codes "&", terminals.Operator operators.BitAnd) ∷
    (codes "^", terminals.Operator operators.BitXor) ∷
    (codes "|", terminals.Operator operators.BitOr) ∷
    (codes "~", terminals.Mark marks.Tilde) ∷
    (codes "!", terminals.Mark marks.Exclamation) ∷
    (codes "(", terminals.Mark marks.LeftRound) ∷
    (codes ")", terminals.Mark marks.RightRound) ∷
    (codes "[", terminals.Mark marks.LeftSquare) ∷
    (codes "]", terminals.Mark marks.RightSquare) ∷
    (codes ",", terminals.Mark marks.Comma) ∷
    (codes "=", terminals.Mark marks.Equals) ∷
    (codes ":", terminals.Mark marks.Colon) ∷
    (codes "<<", terminals.Operator operators.ShiftLeft) ∷
    (codes ">>", terminals.Operator operators.ShiftRight) ∷
    (codes "<=", terminals.Operator operators.AtMost) ∷
    (codes ">=", terminals.Operator operators.AtLeast) ∷
    (codes "==", terminals.Operator operators.Equal) ∷
    (codes "!=", terminals.Operator operators.NotEqual) ∷
    (codes "&&", terminals.Operator operators.And) ∷
    (codes "||", terminals.Operator operators.Or) ∷
    (codes "..", terminals.Mark marks.Dots) ∷
    []

-- what mark the bytes are, if any
unfoldable pub mark_terminal : List ℕ → Option Terminal
mark_terminal bytes = terminal_in (λ mark. bytes_eq mark bytes) mark_table

-- the bytes are a mark
abbrev pub is_mark_spelling : List ℕ → Bool
is_mark_spelling bytes = is_some (mark_terminal bytes)
