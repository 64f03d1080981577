-- How many bytes of text a statement takes at least: one, and what its strings, its literals, the items of its lists
-- and the name of its block or action take. Expressions are not counted. This measure is this profile's.
use Rattle.std.specs.Prelude.{ℕ, ◌+◌, ◌/◌, Bool, List, Option, None, Some, length}
use Rattle.std.specs.List.{sum_by}
use Rattle.stapl_syntax.specs.Trees.{ArrayTree, literal, PartTree, string, CompareTree, ExportTree, exported_array, BodyTree, action, procedure, boolean_array, integer_array, assign_array, assign_range, if_then, print, export, scan, pad, state_list, StmtTree}

-- a literal: its mark, and its digits, each of which has at most four bits
abbrev pub literal_bytes : List Bool → ℕ
literal_bytes bits = 1 + length bits / 4

-- a string, and one of its quotes
abbrev pub string_bytes : List ℕ → ℕ
string_bytes bytes = 1 + length bytes

-- an array, if it is a literal
abbrev pub array_bytes : ArrayTree → ℕ
array_bytes (literal bits) = literal_bytes bits
array_bytes _ = 0

-- the array of a padding
abbrev pub given_bytes : Option ArrayTree → ℕ
given_bytes None = 0
given_bytes (Some a) = array_bytes a

-- the arrays that a scan compares with
abbrev pub compare_bytes : Option CompareTree → ℕ
compare_bytes None = 0
compare_bytes (Some compare) = array_bytes compare.0 + array_bytes compare.1.0

-- a part of what PRINT prints, if it is a string
abbrev pub part_bytes : PartTree → ℕ
part_bytes (string bytes) = string_bytes bytes
part_bytes _ = 0

-- what EXPORT exports
abbrev pub export_bytes : ExportTree → ℕ
export_bytes (exported_array a) = array_bytes a
export_bytes _ = 0

-- what a statement holds
abbrev pub body_bytes : BodyTree → ℕ
body_bytes (action name text items) = length name + length items
body_bytes (procedure name uses) = length name
body_bytes (boolean_array name size (Some bits)) = literal_bytes bits
body_bytes (integer_array name size (Some zs)) = 1 + length zs
body_bytes (assign_array name a) = array_bytes a
body_bytes (assign_range name high low a) = array_bytes a
body_bytes (if_then x body) = body_bytes body
body_bytes (print parts) = sum_by part_bytes parts
body_bytes (export key x) = string_bytes key + export_bytes x
body_bytes (scan register count source target compare) = array_bytes source + compare_bytes compare
body_bytes (pad padding count a) = given_bytes a
body_bytes (state_list states) = length states
body_bytes _ = 0

-- a statement
abbrev pub statement_bytes : StmtTree → ℕ
statement_bytes st = 1 + body_bytes st.body

-- the statements together
abbrev pub statements_bytes : List StmtTree → ℕ
statements_bytes statements = sum_by statement_bytes statements
