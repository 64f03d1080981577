-- Reading expressions and arrays from left to right: what was read and the symbols after it, or nothing.
use Rattle.std.specs.Prelude.{ℕ, zero, suc, ◌-◌, List, [], ◌∷◌, length, Bool, Option, Some, None, option_and_then, is_some, nat_le, if◌then◌else◌}
use Rattle.std.specs.Option.{option_map_or}
use Rattle.stapl_lexer.specs.declared.terminal.BinOp.{BinOp}
use Rattle.stapl_lexer.specs.declared.terminal.BinOp.TheVariants.{Subtract}
use Rattle.stapl_syntax.specs.declared.signs.UnOp.{UnOp}
use Rattle.stapl_syntax.specs.declared.signs.UnOp.TheVariants.{Negate, Complement, Not}
use Rattle.stapl_lexer.specs.declared.terminal.Mark.{Mark}
use Rattle.stapl_lexer.specs.declared.terminal.Mark.TheVariants as marks
use Rattle.stapl_lexer.specs.declared.terminal.Function.{Function}
use Rattle.stapl_lexer.specs.declared.terminal.Function.TheVariants as functions
use Rattle.stapl_syntax.specs.declared.signs.Sign.{Sign}
use Rattle.stapl_syntax.specs.declared.signs.Sign.TheVariants as signs
use Rattle.stapl_syntax.specs.Symbols.{Symbol, Literal, sign_of}
use Rattle.stapl_syntax.specs.Trees.{ExprTree, ArrayTree, number, scalar, element, unary, binary, abs, int, literal, whole, range, of_int}
use Rattle.stapl_syntax.specs.Expressions.{level_of}
use Rattle.stapl_grammar.specs.Looks.{after_mark}

infixl 10 ◌>>=◌
abbrev pub ◌>>=◌ : {A B : Type 0} → Option A → (A → Option B) → Option B
o >>= f = option_and_then f o

abbrev pub Reader : Type 0 → Type 0
Reader A = List Symbol → Option (A × List Symbol)

-- the sign of the first symbol
unfoldable pub next_sign : Reader Sign
next_sign [] = None
next_sign (t ∷ s) = Some (sign_of t, s)

-- the operator with two operands that a sign is
unfoldable pub operator_of : Sign → Option BinOp
operator_of (signs.Operator op) = Some op
operator_of _ = None

-- the operator of a level up to n that the symbols begin with
unfoldable pub next_operator : ℕ → Reader BinOp
next_operator n [] = None
next_operator n (t ∷ s) = do
  op ← operator_of (sign_of t)
  if nat_le (level_of op) n then Some (op, s) else None

-- a name
unfoldable pub name_of : Sign → Option (List ℕ)
name_of (signs.Name v) = Some v
name_of _ = None

unfoldable pub name_at : Reader (List ℕ)
name_at s = do
  g ← next_sign s
  v ← name_of g.0
  Some (v, g.1)

-- a literal
unfoldable pub literal_at : Reader (List Bool)
literal_at (Literal bits ∷ s) = Some (bits, s)
literal_at _ = None

-- what a reader reads, and then a mark
unfoldable pub closed_by : {A : Type 0} → Mark → Reader A → Reader A
closed_by m read s = do
  x ← read s
  rest ← after_mark m x.1
  Some (x.0, rest)

-- in round brackets
unfoldable pub bracketed_by : {A : Type 0} → Reader A → Reader A
bracketed_by read s = do
  inner ← after_mark marks.LeftRound s
  closed_by marks.RightRound read inner

-- after a name: the scalar of this name, or an element
unfoldable pub named_by : Reader ExprTree → List ℕ → Reader ExprTree
named_by read v s =
    option_map_or
    (λ inner. closed_by marks.RightSquare read inner >>= λ x. Some (element v x.0, x.1))
    (after_mark marks.LeftSquare s)
    (Some (scalar v, s))

-- after a name and its bracket: a range
unfoldable pub range_by : Reader ExprTree → List ℕ → Reader ArrayTree
range_by read v s = do
  high ← read s
  rest ← after_mark marks.Dots high.1
  low ← closed_by marks.RightSquare read rest
  Some (range v high.0 low.0, low.1)

-- after a name and its bracket: the whole array, or a range
unfoldable pub target_from : Reader ExprTree → List ℕ → Reader ArrayTree
target_from read v s = option_map_or (λ rest. Some (whole v, rest)) (after_mark marks.RightSquare s) (range_by read v s)

-- after a name: a target
unfoldable pub target_by : Reader ExprTree → List ℕ → Reader ArrayTree
target_by read v s = after_mark marks.LeftSquare s >>= target_from read v

-- after a function that gives an array
unfoldable pub bool_from : Reader ExprTree → Function → Reader ArrayTree
bool_from read functions.Bool s = bracketed_by read s >>= λ x. Some (of_int x.0, x.1)
bool_from read _ s = None

-- after the first sign: an array that is no literal
unfoldable pub array_from : Reader ExprTree → Sign → Reader ArrayTree
array_from read (signs.Name v) s = target_by read v s
array_from read (signs.Function f) s = bool_from read f s
array_from read _ s = None

unfoldable pub array_by : Reader ExprTree → Reader ArrayTree
array_by read s =
    if is_some (literal_at s) then (literal_at s >>= λ x. Some (literal x.0, x.1))
    else (next_sign s >>= λ g. array_from read g.0 g.1)

-- after an opening bracket
unfoldable pub brackets_from : Reader ExprTree → Mark → Reader ExprTree
brackets_from read marks.LeftRound s = closed_by marks.RightRound read s
brackets_from read _ s = None

-- after a function that gives an integer
unfoldable pub function_from : Reader ExprTree → Function → Reader ExprTree
function_from read functions.Abs s = bracketed_by read s >>= λ x. Some (abs x.0, x.1)
function_from read functions.Int s = bracketed_by (array_by read) s >>= λ x. Some (int x.0, x.1)
function_from read _ s = None

-- after the first sign: an operand without an operator before it
unfoldable pub primary_from : Reader ExprTree → Sign → Reader ExprTree
primary_from read (signs.Number z) s = Some (number z, s)
primary_from read (signs.Name v) s = named_by read v s
primary_from read (signs.Mark m) s = brackets_from read m s
primary_from read (signs.Function f) s = function_from read f s
primary_from read _ s = None

-- the operator with one operand that a sign is
unfoldable pub unary_of : Sign → Option UnOp
unary_of (signs.Operator Subtract) = Some Negate
unary_of (signs.Mark marks.Tilde) = Some Complement
unary_of (signs.Mark marks.Exclamation) = Some Not
unary_of _ = None

unfoldable pub unary_by : Reader ExprTree → Reader ExprTree
unary_by read [] = None
unary_by read (t ∷ s) =
    option_map_or (λ op. unary_by read s >>= λ x. Some (unary op x.0, x.1)) (unary_of (sign_of t)) (primary_from read (sign_of t) s)

-- with at most so many steps
unfoldable mutual
  pub expr_in : ℕ → ℕ → Reader ExprTree
  expr_in zero n s = None
  expr_in (suc f) n s = unary_by (expr_in f 10) s >>= λ x. climb_in f n x.0 x.1

  pub climb_in : ℕ → ℕ → ExprTree → Reader ExprTree
  climb_in zero n e s = None
  climb_in (suc f) n e s =
      option_map_or
      (λ o. expr_in f (level_of o.0 - 1) o.1 >>= λ y. climb_in f n (binary o.0 e y.0) y.1)
      (next_operator n s)
      (Some (e, s))

-- an expression whose operators are of levels up to n
unfoldable pub expr : ℕ → Reader ExprTree
expr n s = expr_in (suc (length s)) n s

-- the operators of levels up to n after an operand, and their other operands
unfoldable pub climb : ℕ → ExprTree → Reader ExprTree
climb n e s = climb_in (suc (length s)) n e s
