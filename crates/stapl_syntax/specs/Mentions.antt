-- Which variables, blocks and labels statements name (JESD71, expressions, CALL, USES, ACTION, GOTO).
use Rattle.std.specs.Prelude.{ℕ, List, [], ◌∷◌, ◌++◌, Option, None, Some, map, flat_map, unwrap_or}
use Rattle.stapl_syntax.specs.Trees.{ExprTree, number, scalar, element, unary, binary, abs, int, ArrayTree, literal, whole, range, of_int, PartTree, string, value, character, ExportTree, exported_value, exported_array, CompareTree, ItemTree, BodyTree, action, procedure, assign, assign_element, assign_array, assign_range, call, goto, if_then, for_loop, next, push, pop, print, export, exit, scan, pad, wait_cycles, wait_usec, frequency}

-- a list of names
abbrev pub NameList : Type 0
NameList = List (List ℕ)

abbrev mutual
  -- the variables that an expression names, in order
  pub expr_variables : ExprTree → NameList
  expr_variables (number z) = []
  expr_variables (scalar v) = v ∷ []
  expr_variables (element v i) = v ∷ expr_variables i
  expr_variables (unary op e) = expr_variables e
  expr_variables (binary op a b) = expr_variables a ++ expr_variables b
  expr_variables (abs e) = expr_variables e
  expr_variables (int a) = array_variables a

  pub array_variables : ArrayTree → NameList
  array_variables (literal bits) = []
  array_variables (whole v) = v ∷ []
  array_variables (range v high low) = v ∷ expr_variables high ++ expr_variables low
  array_variables (of_int e) = expr_variables e

abbrev pub part_variables : PartTree → NameList
part_variables (string bytes) = []
part_variables (value e) = expr_variables e
part_variables (character e) = expr_variables e

abbrev pub export_variables : ExportTree → NameList
export_variables (exported_value e) = expr_variables e
export_variables (exported_array a) = array_variables a

abbrev pub compare_variables : CompareTree → NameList
compare_variables c = array_variables c.0 ++ array_variables c.1.0 ++ expr_variables c.1.1

-- those of what may be missing
abbrev pub given_variables : {A : Type 0} → (A → NameList) → Option A → NameList
given_variables names None = []
given_variables names (Some x) = names x

-- the variables that a statement reads or sets, in order; a declaration reads none
abbrev pub variables_named : BodyTree → NameList
variables_named (assign v e) = v ∷ expr_variables e
variables_named (assign_element v i e) = v ∷ expr_variables i ++ expr_variables e
variables_named (assign_array v a) = v ∷ array_variables a
variables_named (assign_range v high low a) = v ∷ expr_variables high ++ expr_variables low ++ array_variables a
variables_named (if_then e body) = expr_variables e ++ variables_named body
variables_named (for_loop v from to step) = v ∷ expr_variables from ++ expr_variables to ++ given_variables expr_variables step
variables_named (next v) = v ∷ []
variables_named (push e) = expr_variables e
variables_named (pop cell) = expr_variables cell
variables_named (print parts) = flat_map part_variables parts
variables_named (export key x) = export_variables x
variables_named (exit e) = expr_variables e
variables_named (scan register count source target compare) =
    expr_variables count ++ array_variables source ++ given_variables array_variables target ++ given_variables compare_variables compare
variables_named (pad which count bits) = expr_variables count ++ given_variables array_variables bits
variables_named (wait_cycles state cycles usec last) = expr_variables cycles ++ given_variables expr_variables usec
variables_named (wait_usec state usec last) = expr_variables usec
variables_named (frequency hertz) = given_variables expr_variables hertz
variables_named _ = []

abbrev pub item_name : ItemTree → List ℕ
item_name item = item.0

-- the procedures that a statement names
abbrev pub procedures_named : BodyTree → NameList
procedures_named (action name text items) = map item_name items
procedures_named (call name) = name ∷ []
procedures_named (if_then e body) = procedures_named body
procedures_named _ = []

-- the blocks of either kind that it names
abbrev pub blocks_used : BodyTree → NameList
blocks_used (procedure name uses) = unwrap_or uses []
blocks_used _ = []

-- the labels that it names
abbrev pub labels_named : BodyTree → NameList
labels_named (goto label) = label ∷ []
labels_named (if_then e body) = labels_named body
labels_named _ = []
