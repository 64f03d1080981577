-- How large a statement is, whatever its writing: its operators, its conditions, and how deep indexes and functions are
-- nested in it. Source: JESD71, expressions and statements.
use Rattle.std.specs.Prelude.{ℕ, ◌+◌, max, List, [], ◌∷◌, ◌++◌, Option, None, Some}
use Rattle.stapl_syntax.specs.Trees.{ExprTree, number, scalar, element, unary, binary, abs, int, ArrayTree, literal, whole, range, of_int}
use Rattle.stapl_syntax.specs.Trees.{PartTree, string, value, character, ExportTree, exported_value, exported_array, CompareTree}
use Rattle.stapl_syntax.specs.Trees.{BodyTree, assign, assign_element, assign_array, assign_range, if_then, for_loop, push, pop, print, export, exit}
use Rattle.stapl_syntax.specs.Trees.{scan, pad, wait_cycles, wait_usec, frequency}

abbrev mutual
  -- how many operators an expression has, with one operand and with two
  pub operators_of : ExprTree → ℕ
  operators_of (number z) = 0
  operators_of (scalar v) = 0
  operators_of (element v i) = operators_of i
  operators_of (unary op x) = 1 + operators_of x
  operators_of (binary op x y) = 1 + operators_of x + operators_of y
  operators_of (abs x) = operators_of x
  operators_of (int a) = operators_of_array a

  pub operators_of_array : ArrayTree → ℕ
  operators_of_array (literal bits) = 0
  operators_of_array (whole v) = 0
  operators_of_array (range v h l) = operators_of h + operators_of l
  operators_of_array (of_int x) = operators_of x

abbrev mutual
  -- how many indexes and functions stand in each other
  pub nesting_of : ExprTree → ℕ
  nesting_of (number z) = 0
  nesting_of (scalar v) = 0
  nesting_of (element v i) = 1 + nesting_of i
  nesting_of (unary op x) = nesting_of x
  nesting_of (binary op x y) = max (nesting_of x) (nesting_of y)
  nesting_of (abs x) = 1 + nesting_of x
  nesting_of (int a) = 1 + nesting_of_array a

  pub nesting_of_array : ArrayTree → ℕ
  nesting_of_array (literal bits) = 0
  nesting_of_array (whole v) = 1
  nesting_of_array (range v h l) = 1 + max (nesting_of h) (nesting_of l)
  nesting_of_array (of_int x) = 1 + nesting_of x

-- an expression of a statement, one that a function of PRINT takes, or an array
pub data Operand : Type 0 where
  expression : ExprTree → Operand
  of_function : ExprTree → Operand
  array : ArrayTree → Operand

abbrev pub operand_operators : Operand → ℕ
operand_operators (expression e) = operators_of e
operand_operators (of_function e) = operators_of e
operand_operators (array a) = operators_of_array a

abbrev pub operand_nesting : Operand → ℕ
operand_nesting (expression e) = nesting_of e
operand_nesting (of_function e) = 1 + nesting_of e
operand_nesting (array a) = nesting_of_array a

abbrev pub print_operands : List PartTree → List Operand
print_operands [] = []
print_operands (string bytes ∷ parts) = print_operands parts
print_operands (value e ∷ parts) = expression e ∷ print_operands parts
print_operands (character e ∷ parts) = of_function e ∷ print_operands parts

abbrev pub export_operands : ExportTree → List Operand
export_operands (exported_value e) = expression e ∷ []
export_operands (exported_array a) = array a ∷ []

-- an expression that may be left out
abbrev pub maybe_expression : Option ExprTree → List Operand
maybe_expression None = []
maybe_expression (Some e) = expression e ∷ []

abbrev pub maybe_array : Option ArrayTree → List Operand
maybe_array None = []
maybe_array (Some a) = array a ∷ []

abbrev pub maybe_compared : Option CompareTree → List Operand
maybe_compared None = []
maybe_compared (Some c) = array c.0 ∷ array c.1.0 ∷ expression c.1.1 ∷ []

-- The expressions and arrays of a statement, in the written order. What is assigned to is one of them.
abbrev pub operands_in : BodyTree → List Operand
operands_in (assign v e) = expression e ∷ []
operands_in (assign_element v i e) = expression (element v i) ∷ expression e ∷ []
operands_in (assign_array v a) = array (whole v) ∷ array a ∷ []
operands_in (assign_range v h l a) = array (range v h l) ∷ array a ∷ []
operands_in (if_then e body) = expression e ∷ operands_in body
operands_in (for_loop v first last step) = expression first ∷ expression last ∷ maybe_expression step
operands_in (push e) = expression e ∷ []
operands_in (pop cell) = expression cell ∷ []
operands_in (print parts) = print_operands parts
operands_in (export key x) = export_operands x
operands_in (exit e) = expression e ∷ []
operands_in (scan register count source target compared) =
    expression count ∷ array source ∷ (maybe_array target ++ maybe_compared compared)
operands_in (pad padding count bits) = expression count ∷ maybe_array bits
operands_in (wait_cycles state cycles usec last) = expression cycles ∷ maybe_expression usec
operands_in (wait_usec state usec last) = expression usec ∷ []
operands_in (frequency hertz) = maybe_expression hertz
operands_in _ = []

abbrev pub total : (Operand → ℕ) → List Operand → ℕ
total size [] = 0
total size (x ∷ xs) = size x + total size xs

abbrev pub largest : (Operand → ℕ) → List Operand → ℕ
largest size [] = 0
largest size (x ∷ xs) = max (size x) (largest size xs)

abbrev pub operators_in : BodyTree → ℕ
operators_in body = total operand_operators (operands_in body)

abbrev pub nesting_in : BodyTree → ℕ
nesting_in body = largest operand_nesting (operands_in body)

-- how many IF stand in each other
abbrev pub conditions_in : BodyTree → ℕ
conditions_in (if_then e body) = 1 + conditions_in body
conditions_in _ = 0
