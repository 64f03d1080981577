-- Which brackets are needed, by the grammar alone. Source: JESD71, expressions. That canonical text has no others is
-- this profile's rule.
use Rattle.std.specs.Prelude.{◌≡◌, List, [], ◌∷◌, ◌++◌, map}
use Rattle.stapl_syntax.specs.Symbols.{Symbol}
use Rattle.stapl_syntax.specs.Trees.{ExprTree, ArrayTree, StmtTree}
use Rattle.stapl_syntax.specs.Expressions.{IsExpr, left_round, right_round}
use Rattle.canonical_text.specs.PrintedTokens.{seen}
use Rattle.canonical_text.specs.PrintedStatements.{expr_tokens, array_tokens, stmt_tokens}

-- what the grammar sees of an expression that is printed alone
abbrev pub printed : ExprTree → List Symbol
printed e = map seen (expr_tokens 10 e)

-- what it sees of an array that is printed
abbrev pub printed_array : ArrayTree → List Symbol
printed_array a = map seen (array_tokens a)

-- what it sees of a statement, which is a line of canonical text
abbrev pub printed_statement : StmtTree → List Symbol
printed_statement st = map seen (stmt_tokens st)

abbrev pub in_brackets : List Symbol → List Symbol
in_brackets s = left_round ∷ (s ++ right_round ∷ [])

-- What is printed for an expression holds what is printed for an operand of it alone, after these symbols and before
-- those. The operand stands in brackets only if the symbols without them are not the expression.
pub data HoldsOperand (e : ExprTree) (before own after : List Symbol) : Type 0 where
  bare : printed e ≡ before ++ (own ++ after) → HoldsOperand e before own after
  bracketed : printed e ≡ before ++ (in_brackets own ++ after) → (IsExpr 10 (before ++ (own ++ after)) e → ⊥) →
      HoldsOperand e before own after
