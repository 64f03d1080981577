-- How large a statement is, which is no more than the count of its symbols: brackets and some other symbols are not
-- counted. This measure is this profile's.
use Rattle.std.specs.Prelude.{ℕ, ◌+◌, List, Option, None, Some}
use Rattle.std.specs.List.{sum_by}
use Rattle.stapl_syntax.specs.Trees.{ExprTree, number, scalar, element, unary, binary, abs, int, ArrayTree, literal, whole, range, of_int, PartTree, string, value, character, CompareTree, BodyTree, boolean, integer, assign, assign_element, assign_array, assign_range, if_then, for_loop, push, pop, print, ExportTree, exported_value, exported_array, export, exit, scan, pad, wait_cycles, wait_usec, frequency, StmtTree}

abbrev mutual
  -- an expression, without brackets around it
  pub expr_size : ExprTree → ℕ
  expr_size (number z) = 1
  expr_size (scalar name) = 1
  expr_size (element name index) = 2 + expr_size index
  expr_size (unary op x) = 1 + expr_size x
  expr_size (binary op x y) = expr_size x + expr_size y + 1
  expr_size (abs x) = 1 + expr_size x
  expr_size (int a) = 1 + array_size a

  -- an expression that stands for a list of bits
  pub array_size : ArrayTree → ℕ
  array_size (literal bits) = 1
  array_size (whole name) = 1
  array_size (range name high low) = 2 + expr_size high + expr_size low
  array_size (of_int x) = 1 + expr_size x

-- a part of what PRINT prints
abbrev pub part_size : PartTree → ℕ
part_size (string bytes) = 1
part_size (value x) = expr_size x
part_size (character x) = 2 + expr_size x

-- what EXPORT exports
abbrev pub export_size : ExportTree → ℕ
export_size (exported_value x) = expr_size x
export_size (exported_array a) = array_size a

-- an expression that may be left out, as the step of a FOR
abbrev pub given_size : Option ExprTree → ℕ
given_size None = 0
given_size (Some x) = expr_size x

-- the CAPTURE of a scan, with the comma before it
abbrev pub capture_size : Option ArrayTree → ℕ
capture_size None = 0
capture_size (Some target) = 2 + array_size target

-- the COMPARE of a scan, with the comma before it: the expected bits, the mask and the cell
abbrev pub compare_size : Option CompareTree → ℕ
compare_size None = 0
compare_size (Some compare) = 4 + array_size compare.0 + array_size compare.1.0 + expr_size compare.1.1

-- the array of a padding, with the comma before it
abbrev pub padding_size : Option ArrayTree → ℕ
padding_size None = 0
padding_size (Some a) = 1 + array_size a

-- a statement without its label; each form that is not named here counts as one symbol
abbrev pub body_size : BodyTree → ℕ
body_size (boolean name (Some b)) = 2
body_size (integer name (Some z)) = 2
body_size (assign name x) = 2 + expr_size x
body_size (assign_element name index x) = 2 + expr_size index + expr_size x
body_size (assign_array name a) = 2 + array_size a
body_size (assign_range name high low a) = 2 + expr_size high + expr_size low + array_size a
body_size (if_then x body) = 2 + expr_size x + body_size body
body_size (for_loop name from to step) = 3 + expr_size from + expr_size to + given_size step
body_size (push x) = 1 + expr_size x
body_size (pop cell) = 1 + expr_size cell
body_size (print parts) = 1 + sum_by part_size parts
body_size (export key x) = 2 + export_size x
body_size (exit x) = 1 + expr_size x
body_size (scan register count source target compare) =
    2 + expr_size count + array_size source + capture_size target + compare_size compare
body_size (pad padding count a) = 1 + expr_size count + padding_size a
body_size (wait_cycles state x usec last) = 1 + expr_size x + given_size usec
body_size (wait_usec state x last) = 1 + expr_size x
body_size (frequency hertz) = 1 + given_size hertz
body_size _ = 1

-- the statements together
abbrev pub statements_size : List StmtTree → ℕ
statements_size statements = sum_by (λ st. body_size st.body) statements
