-- The kinds of expressions, and which statements have operands of the kinds that they want (JESD71, expressions and
-- Boolean arrays). That the literals 0 and 1 are accepted for both kinds, by their value, is this profile's.
use Rattle.std.specs.Prelude.{ℕ, ℤ, pos, List, Bool, true, false, ◌&&◌, ◌||◌, Option, None, Some, is_some, if◌then◌else◌, int_le}
use Rattle.std.specs.List.{list_all}
use Rattle.stapl_lexer.specs.declared.terminal.BinOp.{BinOp}
use Rattle.stapl_lexer.specs.declared.terminal.BinOp.TheVariants as operators
use Rattle.stapl_syntax.specs.declared.signs.UnOp.{UnOp}
use Rattle.stapl_syntax.specs.declared.signs.UnOp.TheVariants as signs
use Rattle.stapl_syntax.specs.declared.names.VarKind.{VarKind}
use Rattle.stapl_syntax.specs.declared.names.VarKind.TheVariants as variables
use Rattle.stapl_syntax.specs.declared.names.Kind.{Kind}
use Rattle.stapl_syntax.specs.declared.names.Kind.TheVariants.{Int, Bool as Bit, Either}
use Rattle.stapl_syntax.specs.Trees.{ExprTree, number, scalar, element, unary, binary, abs, int, ArrayTree, literal, whole, range, of_int, PartTree, string, value, character, ExportTree, exported_value, exported_array, CompareTree, BodyTree, assign, assign_element, assign_array, assign_range, if_then, for_loop, next, push, pop, print, export, exit, scan, pad, wait_cycles, wait_usec, frequency}

-- an expression of this kind, if it has one, may stand where an integer is wanted
abbrev pub is_int : Option Kind → Bool
is_int (Some Int) = true
is_int (Some Either) = true
is_int _ = false

-- where a bit is wanted
abbrev pub is_bit : Option Kind → Bool
is_bit (Some Bit) = true
is_bit (Some Either) = true
is_bit _ = false

-- it is a bit, and no literal
abbrev pub is_bit_alone : Option Kind → Bool
is_bit_alone (Some Bit) = true
is_bit_alone _ = false

-- the kind of a variable without brackets, of an element, and whether a variable is an array of bits
abbrev pub scalar_kind : Option VarKind → Option Kind
scalar_kind (Some variables.Integer) = Some Int
scalar_kind (Some variables.Boolean) = Some Bit
scalar_kind _ = None

abbrev pub element_kind : Option VarKind → Option Kind
element_kind (Some variables.IntegerArray) = Some Int
element_kind (Some variables.BooleanArray) = Some Bit
element_kind _ = None

abbrev pub is_bit_array : Option VarKind → Bool
is_bit_array (Some variables.BooleanArray) = true
is_bit_array _ = false

abbrev pub is_integer : Option VarKind → Bool
is_integer (Some variables.Integer) = true
is_integer _ = false

-- the kind of what two operands of these kinds give, if they are integers, or bits
abbrev pub if_ints : Kind → Option Kind → Option Kind → Option Kind
if_ints result a b = if is_int a && is_int b then Some result else None

abbrev pub if_bits : Option Kind → Option Kind → Option Kind
if_bits a b = if is_bit a && is_bit b then Some Bit else None

-- bits if one of them is a bit, else integers
abbrev pub if_alike : Option Kind → Option Kind → Option Kind
if_alike a b = if is_bit_alone a || is_bit_alone b then if_bits a b else if_ints Int a b

-- two integers or two bits
abbrev pub if_equal : Option Kind → Option Kind → Option Kind
if_equal a b = if (is_int a && is_int b) || (is_bit a && is_bit b) then Some Bit else None

-- the kind of an expression with an operator, by the kinds of its operands
abbrev pub binary_kind : BinOp → Option Kind → Option Kind → Option Kind
binary_kind operators.Multiply = if_ints Int
binary_kind operators.Divide = if_ints Int
binary_kind operators.Remainder = if_ints Int
binary_kind operators.Add = if_ints Int
binary_kind operators.Subtract = if_ints Int
binary_kind operators.ShiftLeft = if_ints Int
binary_kind operators.ShiftRight = if_ints Int
binary_kind operators.Less = if_ints Bit
binary_kind operators.AtMost = if_ints Bit
binary_kind operators.Greater = if_ints Bit
binary_kind operators.AtLeast = if_ints Bit
binary_kind operators.Equal = if_equal
binary_kind operators.NotEqual = if_equal
binary_kind operators.BitAnd = if_alike
binary_kind operators.BitXor = if_alike
binary_kind operators.BitOr = if_alike
binary_kind operators.And = if_bits
binary_kind operators.Or = if_bits

abbrev pub unary_kind : UnOp → Option Kind → Option Kind
unary_kind signs.Negate a = if is_int a then Some Int else None
unary_kind signs.Complement a = if is_int a then Some Int else None
unary_kind signs.Not a = if is_bit a then Some Bit else None

-- the kind of a number
abbrev pub number_kind : ℤ → Kind
number_kind z = if int_le (pos 0) z && int_le z (pos 1) then Either else Int

-- the kind of an element, if its index is an integer
abbrev pub indexed_kind : Option VarKind → Option Kind → Option Kind
indexed_kind array index = if is_int index then element_kind array else None

-- the kinds of the variables that names stand for
abbrev pub VarKinds : Type 0
VarKinds = List ℕ → Option VarKind

abbrev mutual
  -- the kind of an expression, if no rule of kinds is broken in it
  pub expr_kind : VarKinds → ExprTree → Option Kind
  expr_kind kind (number z) = Some (number_kind z)
  expr_kind kind (scalar v) = scalar_kind (kind v)
  expr_kind kind (element v i) = indexed_kind (kind v) (expr_kind kind i)
  expr_kind kind (unary op e) = unary_kind op (expr_kind kind e)
  expr_kind kind (binary op a b) = binary_kind op (expr_kind kind a) (expr_kind kind b)
  expr_kind kind (abs e) = if is_int (expr_kind kind e) then Some Int else None
  expr_kind kind (int a) = if is_array kind a then Some Int else None

  -- it is a list of bits, and no rule of kinds is broken in it
  pub is_array : VarKinds → ArrayTree → Bool
  is_array kind (literal bits) = true
  is_array kind (whole v) = is_bit_array (kind v)
  is_array kind (range v high low) = is_bit_array (kind v) && is_int (expr_kind kind high) && is_int (expr_kind kind low)
  is_array kind (of_int e) = is_int (expr_kind kind e)

-- an expression is an integer, or a bit, or either
abbrev pub wants_int : VarKinds → ExprTree → Bool
wants_int kind e = is_int (expr_kind kind e)

abbrev pub wants_bit : VarKinds → ExprTree → Bool
wants_bit kind e = is_bit (expr_kind kind e)

abbrev pub has_kind : VarKinds → ExprTree → Bool
has_kind kind e = is_some (expr_kind kind e)

-- it may be given to a scalar or an element of this kind
abbrev pub suits : Option Kind → Option Kind → Bool
suits (Some Int) e = is_int e
suits (Some Bit) e = is_bit e
suits _ e = false

abbrev pub part_suits : VarKinds → PartTree → Bool
part_suits kind (string bytes) = true
part_suits kind (value e) = has_kind kind e
part_suits kind (character e) = wants_int kind e

abbrev pub export_suits : VarKinds → ExportTree → Bool
export_suits kind (exported_value e) = has_kind kind e
export_suits kind (exported_array a) = is_array kind a

abbrev pub compare_suits : VarKinds → CompareTree → Bool
compare_suits kind c = is_array kind c.0 && is_array kind c.1.0 && wants_bit kind c.1.1

-- what may be missing passes a test if it is missing
abbrev pub if_given : {A : Type 0} → (A → Bool) → Option A → Bool
if_given test None = true
if_given test (Some x) = test x

-- no rule of kinds is broken in the expressions and variables of a statement
abbrev pub operands_suit : VarKinds → BodyTree → Bool
operands_suit kind (assign v e) = suits (scalar_kind (kind v)) (expr_kind kind e)
operands_suit kind (assign_element v i e) = wants_int kind i && suits (element_kind (kind v)) (expr_kind kind e)
operands_suit kind (assign_array v a) = is_bit_array (kind v) && is_array kind a
operands_suit kind (assign_range v high low a) = is_bit_array (kind v) && wants_int kind high && wants_int kind low && is_array kind a
operands_suit kind (if_then e body) = wants_bit kind e && operands_suit kind body
operands_suit kind (for_loop v from to step) =
    is_integer (kind v) && wants_int kind from && wants_int kind to && if_given (wants_int kind) step
operands_suit kind (next v) = is_integer (kind v)
operands_suit kind (push e) = has_kind kind e
operands_suit kind (pop cell) = has_kind kind cell
operands_suit kind (print parts) = list_all (part_suits kind) parts
operands_suit kind (export key x) = export_suits kind x
operands_suit kind (exit e) = wants_int kind e
operands_suit kind (scan register count source target compare) =
    wants_int kind count && is_array kind source && if_given (is_array kind) target && if_given (compare_suits kind) compare
operands_suit kind (pad which count bits) = wants_int kind count && if_given (is_array kind) bits
operands_suit kind (wait_cycles state cycles usec last) = wants_int kind cycles && if_given (wants_int kind) usec
operands_suit kind (wait_usec state usec last) = wants_int kind usec
operands_suit kind (frequency hertz) = if_given (wants_int kind) hertz
operands_suit kind _ = true
