-- Which shapes the statements of a program have. The grammar gives more than the type of trees allows: a PRINT has a
-- part, a STATE has a state, a POP has a cell, the third part of a COMPARE is a cell, an INTEGER array with initial
-- values has one of them, and what stands after THEN is neither ENDPROC, nor a declaration, nor a statement outside
-- procedures (JESD71, statements).
use Rattle.std.specs.Prelude.{◌≡◌, nat_lt, length, Bool, true, false, ◌||◌, Option, None, Some}
use Rattle.stapl_syntax.specs.Trees.{ExprTree, CompareTree, BodyTree, note, action, procedure, data_block, end_data, crc, end_procedure, boolean, boolean_array, integer, integer_array, assign, assign_element, assign_array, assign_range, call, goto, if_then, for_loop, next, push, scalar, element, pop, print, export, exit, scan, stop, pad, state_list, wait_cycles, wait_usec, frequency, StmtTree}

-- a variable or an element of an array: what a POP or a COMPARE writes to
abbrev pub is_cell : ExprTree → Bool
is_cell (scalar name) = true
is_cell (element name index) = true
is_cell _ = false

-- a COMPARE that is left out, or one whose third part is a cell
abbrev pub has_compare_shape : Option CompareTree → Bool
has_compare_shape None = true
has_compare_shape (Some compare) = is_cell compare.1.1

-- a statement that may stand after THEN
abbrev pub is_simple_shape : BodyTree → Bool
is_simple_shape (assign name e) = true
is_simple_shape (assign_element name index e) = true
is_simple_shape (assign_array name a) = true
is_simple_shape (assign_range name high low a) = true
is_simple_shape (call name) = true
is_simple_shape (goto name) = true
is_simple_shape (if_then e body) = is_simple_shape body
is_simple_shape (for_loop name from to step) = true
is_simple_shape (next name) = true
is_simple_shape (push e) = true
is_simple_shape (pop cell) = is_cell cell
is_simple_shape (print parts) = nat_lt 0 (length parts)
is_simple_shape (export key x) = true
is_simple_shape (exit e) = true
is_simple_shape (scan register count source target compare) = has_compare_shape compare
is_simple_shape (stop register state) = true
is_simple_shape (pad padding count a) = true
is_simple_shape (state_list states) = nat_lt 0 (length states)
is_simple_shape (wait_cycles state cycles usec last) = true
is_simple_shape (wait_usec state usec last) = true
is_simple_shape (frequency hertz) = true
is_simple_shape _ = false

-- a statement of a procedure, or a declaration of a DATA block
abbrev pub is_inner_shape : BodyTree → Bool
is_inner_shape end_procedure = true
is_inner_shape (boolean name start) = true
is_inner_shape (boolean_array name size bits) = true
is_inner_shape (integer name start) = true
is_inner_shape (integer_array name size None) = true
is_inner_shape (integer_array name size (Some zs)) = nat_lt 0 (length zs)
is_inner_shape body = is_simple_shape body

-- a statement outside procedures
abbrev pub is_outer_shape : BodyTree → Bool
is_outer_shape (note key text) = true
is_outer_shape (action name text items) = true
is_outer_shape (procedure name uses) = true
is_outer_shape (data_block name) = true
is_outer_shape end_data = true
is_outer_shape (crc n) = true
is_outer_shape _ = false

-- the statement has one of the shapes
abbrev pub has_shape : StmtTree → Bool
has_shape st = is_outer_shape st.body || is_inner_shape st.body

abbrev pub HasShape : StmtTree → Type 0
HasShape st = has_shape st ≡ true
