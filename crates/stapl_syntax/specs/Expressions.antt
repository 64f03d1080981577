-- How expressions and arrays are written (JESD71, expressions, Boolean arrays): one case for each production, and one
-- for each level of operators. A list of symbols may be split anywhere.
use Rattle.std.specs.Prelude.{◌≡◌, ℕ, suc, ℤ, Bool, List, [], ◌∷◌, ◌++◌}
use Rattle.stapl_lexer.specs.declared.terminal.BinOp.{BinOp}
use Rattle.stapl_lexer.specs.declared.terminal.BinOp.TheVariants.{Multiply, Divide, Remainder, Add, Subtract, ShiftLeft, ShiftRight, Less, AtMost, Greater, AtLeast, Equal, NotEqual, BitAnd, BitXor, BitOr, And, Or}
use Rattle.stapl_syntax.specs.declared.signs.UnOp.TheVariants.{Negate, Complement, Not}
use Rattle.stapl_lexer.specs.declared.terminal.Mark.{Mark as MarkKind}
use Rattle.stapl_lexer.specs.declared.terminal.Mark.TheVariants as marks
use Rattle.stapl_lexer.specs.declared.terminal.Function.{Function as FunctionKind}
use Rattle.stapl_lexer.specs.declared.terminal.Function.TheVariants as functions
use Rattle.stapl_syntax.specs.declared.signs.Sign.TheVariants as signs
use Rattle.stapl_syntax.specs.Symbols.{Symbol, Plain, Literal}
use Rattle.stapl_syntax.specs.Trees.{ExprTree, ArrayTree, number, scalar, element, unary, binary, abs, int, literal, whole, range, of_int}

-- the level of an operator: 1 binds tightest, 10 loosest
unfoldable pub level_of : BinOp → ℕ
level_of Multiply = 1
level_of Divide = 1
level_of Remainder = 1
level_of Add = 2
level_of Subtract = 2
level_of ShiftLeft = 3
level_of ShiftRight = 3
level_of Less = 4
level_of AtMost = 4
level_of Greater = 4
level_of AtLeast = 4
level_of Equal = 5
level_of NotEqual = 5
level_of BitAnd = 6
level_of BitXor = 7
level_of BitOr = 8
level_of And = 9
level_of Or = 10

abbrev pub operator : BinOp → Symbol
operator op = Plain (signs.Operator op)

abbrev pub mark : MarkKind → Symbol
mark m = Plain (signs.Mark m)

abbrev pub function : FunctionKind → Symbol
function f = Plain (signs.Function f)

abbrev pub name : List ℕ → Symbol
name v = Plain (signs.Name v)

abbrev pub left_round : Symbol
left_round = mark marks.LeftRound

abbrev pub right_round : Symbol
right_round = mark marks.RightRound

abbrev pub left_square : Symbol
left_square = mark marks.LeftSquare

abbrev pub right_square : Symbol
right_square = mark marks.RightSquare

abbrev pub dots : Symbol
dots = mark marks.Dots

mutual
  -- IsExpr n s e: the symbols s are the expression e, whose operators outside brackets are of levels up to n. Operators
  -- of one level group from the left.
  pub data IsExpr : ℕ → List Symbol → ExprTree → Type 0 where
    of_unary : {s : List Symbol} {e : ExprTree} → IsUnary s e → IsExpr 0 s e
    tighter : {n : ℕ} {s : List Symbol} {e : ExprTree} → IsExpr n s e → IsExpr (suc n) s e
    of_binary : {n : ℕ} {a b : List Symbol} {x y : ExprTree} (op : BinOp) → level_of op ≡ suc n → IsExpr (suc n) a x → IsExpr n b y → IsExpr (suc n) (a ++ (operator op ∷ b)) (binary op x y)

  -- an operand: a primary, with operators of one operand before it
  pub data IsUnary : List Symbol → ExprTree → Type 0 where
    negation : {s : List Symbol} {e : ExprTree} → IsUnary s e → IsUnary (operator Subtract ∷ s) (unary Negate e)
    complement : {s : List Symbol} {e : ExprTree} → IsUnary s e → IsUnary (mark marks.Tilde ∷ s) (unary Complement e)
    negated : {s : List Symbol} {e : ExprTree} → IsUnary s e → IsUnary (mark marks.Exclamation ∷ s) (unary Not e)
    of_primary : {s : List Symbol} {e : ExprTree} → IsPrimary s e → IsUnary s e

  pub data IsPrimary : List Symbol → ExprTree → Type 0 where
    of_number : {z : ℤ} → IsPrimary (Plain (signs.Number z) ∷ []) (number z)
    of_cell : {s : List Symbol} {e : ExprTree} → IsCell s e → IsPrimary s e
    of_brackets : {s : List Symbol} {e : ExprTree} → IsExpr 10 s e → IsPrimary (left_round ∷ (s ++ right_round ∷ [])) e
    of_abs : {s : List Symbol} {e : ExprTree} → IsExpr 10 s e → IsPrimary (function functions.Abs ∷ left_round ∷ (s ++ right_round ∷ [])) (abs e)
    of_array : {s : List Symbol} {a : ArrayTree} → IsArray s a → IsPrimary (function functions.Int ∷ left_round ∷ (s ++ right_round ∷ [])) (int a)

  -- a scalar, or an element of an array
  pub data IsCell : List Symbol → ExprTree → Type 0 where
    of_scalar : {v : List ℕ} → IsCell (name v ∷ []) (scalar v)
    of_element : {v : List ℕ} {s : List Symbol} {e : ExprTree} → IsExpr 10 s e → IsCell (name v ∷ left_square ∷ (s ++ right_square ∷ [])) (element v e)

  -- a whole array, or a range of it
  pub data IsTarget : List Symbol → ArrayTree → Type 0 where
    of_whole : {v : List ℕ} → IsTarget (name v ∷ left_square ∷ right_square ∷ []) (whole v)
    of_range : {v : List ℕ} {a b : List Symbol} {x y : ExprTree} → IsExpr 10 a x → IsExpr 10 b y → IsTarget (name v ∷ left_square ∷ (a ++ (dots ∷ (b ++ right_square ∷ [])))) (range v x y)

  pub data IsArray : List Symbol → ArrayTree → Type 0 where
    of_literal : {bits : List Bool} → IsArray (Literal bits ∷ []) (literal bits)
    of_target : {s : List Symbol} {a : ArrayTree} → IsTarget s a → IsArray s a
    of_expr : {s : List Symbol} {e : ExprTree} → IsExpr 10 s e → IsArray (function functions.Bool ∷ left_round ∷ (s ++ right_round ∷ [])) (of_int e)
