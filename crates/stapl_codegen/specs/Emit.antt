-- The code of a program. How statements are written as instructions is this profile's.
use Rattle.std.specs.Prelude.{ℕ, zero, suc, ℤ, pos, ◌+◌, ◌-◌, Bool, List, [], ◌∷◌, ◌++◌, length, take, drop, map, Option, Some, None, is_some, if◌then◌else◌, slice_get}
use Rattle.std.specs.Option.{option_map}
use Rattle.bit_list.specs.Integers.{int_of}
use Rattle.stapl_lexer.specs.declared.terminal.BinOp.{BinOp}
use Rattle.stapl_lexer.specs.declared.terminal.BinOp.TheVariants as operators
use Rattle.stapl_lexer.specs.declared.terminal.Register.{Register}
use Rattle.stapl_syntax.specs.Trees.{ExprTree, number, scalar, element, unary, binary, abs, int, ArrayTree, literal, whole, range, of_int, PartTree, string, value, character, CompareTree, ItemTree, BodyTree, action, procedure, end_procedure, boolean, boolean_array, integer, integer_array, assign, assign_element, assign_array, assign_range, call, goto, if_then, for_loop, next, push, pop, print, exported_value, exported_array, export, exit, scan, stop, pad, state_list, wait_cycles, wait_usec, frequency, StmtTree}
use Rattle.stapl_syntax.specs.declared.statement.ItemChoice.{ItemChoice}
use Rattle.stapl_syntax.specs.declared.statement.ItemChoice.TheVariants as choices
use Rattle.stapl_syntax.specs.declared.signs.UnOp.{UnOp}
use Rattle.stapl_syntax.specs.declared.signs.UnOp.TheVariants as signs
use Rattle.stapl_syntax.specs.Kinds.{expr_kind}
use Rattle.stapl_syntax.specs.Statements.{is_outer}
use Rattle.stapl_meaning.specs.declared.values.ValueKind.{ValueKind}
use Rattle.stapl_meaning.specs.declared.values.ValueKind.TheVariants as kinds
use Rattle.stapl_meaning.specs.Values.{Lookup, of_programs, unary_side, sides}
use Rattle.stapl_meaning.specs.Operands.{Test, Plain, Character, Index, Range, Operand, printed_kind, given_kind}
use Rattle.stapl_meaning.specs.Scopes.{Scope, Preset, Played, scope_at, preset_scope, procedure_number}
use Rattle.stapl_meaning.specs.declared.waits.WaitKind.TheVariants as waits
use Rattle.stapl_meaning.specs.Turns.{tap_of, tap_or_idle, kind_of_wait, operands, rows}
use Rattle.stapl_code.specs.declared.instr.PrintPart.{PrintPart}
use Rattle.stapl_code.specs.declared.instr.PrintPart.TheVariants as parts
use Rattle.stapl_code.specs.declared.instr.ExportPart.{ExportPart}
use Rattle.stapl_code.specs.declared.instr.ExportPart.TheVariants as exports
use Rattle.stapl_code.specs.declared.instr.Source.{Source}
use Rattle.stapl_code.specs.declared.instr.Source.TheVariants as sources
use Rattle.stapl_code.specs.declared.instr.Dest.{Dest}
use Rattle.stapl_code.specs.declared.instr.Dest.TheVariants as dests
use Rattle.stapl_code.specs.declared.instr.Cell.TheVariants as cells
use Rattle.stapl_code.specs.declared.instr.Compare.{Compare}
use Rattle.stapl_code.specs.declared.instr.Scan.{Scan}
use Rattle.stapl_code.specs.declared.instr.Instr.{Instr}
use Rattle.stapl_code.specs.declared.instr.Instr.TheVariants.{Turn, Push, PushBit, Load, LoadAt, CheckIndex, CheckRange, Store, StoreAt, Unary, Binary, ToInt, CopyBits, SetBits, SetInts, For, Next, PushRecord, PopRecord, Call, Jump, JumpIfZero, EndProc, Print, Export, CheckChar, Exit, Scan as Scans, Stop, Pad, State as GoThrough, Wait, Frequency}
use Rattle.stapl_code.specs.declared.raw.ProcDef.{ProcDef}
use Rattle.stapl_code.specs.declared.raw.ItemDef.{ItemDef}
use Rattle.stapl_code.specs.declared.raw.ActionDef.{ActionDef}
use Rattle.stapl_code.specs.Machine.{Constants, nowhere}
use Rattle.stapl_code.specs.Safe.{entries_of}

-- The number of no operator. No machine carries out a Binary with it, so it stands for what no program has.
abbrev pub no_operator : ℕ
no_operator = 255

-- the number of an operator whose sides are of a kind
abbrev pub by_kind : ValueKind → ℕ → ℕ → ℕ
by_kind kinds.Int integers booleans = integers
by_kind kinds.Bit integers booleans = booleans

abbrev pub operator_number : BinOp → ValueKind → ℕ
operator_number operators.Add side = 0
operator_number operators.Subtract side = 1
operator_number operators.Multiply side = 2
operator_number operators.Divide side = 3
operator_number operators.Remainder side = 4
operator_number operators.BitAnd side = by_kind side 5 16
operator_number operators.BitOr side = by_kind side 6 17
operator_number operators.BitXor side = by_kind side 7 18
operator_number operators.ShiftLeft side = 8
operator_number operators.ShiftRight side = 9
operator_number operators.Equal side = by_kind side 10 21
operator_number operators.NotEqual side = by_kind side 11 22
operator_number operators.Less side = 12
operator_number operators.AtMost side = 13
operator_number operators.Greater side = 14
operator_number operators.AtLeast side = 15
operator_number operators.And side = 19
operator_number operators.Or side = 20

abbrev pub sign_number : UnOp → ℕ
sign_number signs.Negate = 0
sign_number signs.Complement = 1
sign_number signs.Not = 3

abbrev pub absolute_number : ℕ
absolute_number = 2

-- a number where a value of a kind is wanted
abbrev pub literal_code : ValueKind → ℤ → Instr
literal_code kinds.Int z = Push z
literal_code kinds.Bit (pos zero) = PushBit 0
literal_code kinds.Bit (pos (suc zero)) = PushBit 1
literal_code kinds.Bit _ = Binary no_operator

-- the test of an operand, before the rest
abbrev pub test_code : Test → List Instr → List Instr
test_code Plain rest = rest
test_code Character rest = CheckChar ∷ rest
test_code (Index n) rest = CheckIndex n ∷ rest
test_code (Range n) rest = CheckRange n ∷ rest

-- how a value of a kind is printed
abbrev pub shown_part : ValueKind → PrintPart
shown_part kinds.Int = parts.Int
shown_part kinds.Bit = parts.Bit

-- how a value of a kind is exported
abbrev pub export_part : ValueKind → ExportPart
export_part kinds.Int = exports.Int
export_part kinds.Bit = exports.Bit

-- the number after these items
abbrev pub past : {A : Type 0} → ℕ → List A → ℕ
past n [] = n
past n (x ∷ xs) = past (suc n) xs

-- the literal that an array is, if it is one
abbrev pub array_literals : ArrayTree → List (List Bool)
array_literals (literal bits) = bits ∷ []
array_literals _ = []

-- those of an array that may be left out, and of what a scan compares with
abbrev pub given_literals : Option ArrayTree → List (List Bool)
given_literals None = []
given_literals (Some a) = array_literals a

abbrev pub compare_literals : Option CompareTree → List (List Bool)
compare_literals (Some (expected, (mask, scalar name))) = array_literals expected ++ array_literals mask
compare_literals (Some (expected, (mask, element name index))) = array_literals expected ++ array_literals mask
compare_literals _ = []

module _ (look : Lookup) where
  abbrev mutual
    -- the code of an expression where a value of a kind is wanted, before the rest
    pub expr_code : ValueKind → ExprTree → List Instr → List Instr
    expr_code kind (number z) rest = literal_code kind z ∷ rest
    expr_code kind (scalar name) rest = Load (look.variable name) ∷ rest
    expr_code kind (element name index) rest = expr_code kinds.Int index (LoadAt (look.variable name) ∷ rest)
    expr_code kind (unary op e) rest = expr_code (unary_side op) e (Unary (sign_number op) ∷ rest)
    expr_code kind (binary op a b) rest =
        expr_code (sides look op a b) a (expr_code (sides look op a b) b (Binary (operator_number op (sides look op a b)) ∷ rest))
    expr_code kind (abs e) rest = expr_code kinds.Int e (Unary absolute_number ∷ rest)
    expr_code kind (int a) rest = int_code a rest

    -- the code of INT of an array; that of a literal is its number
    pub int_code : ArrayTree → List Instr → List Instr
    int_code (literal bits) rest = Push (int_of (take 32 bits)) ∷ rest
    int_code (whole name) rest = ToInt (sources.Whole (look.variable name)) ∷ rest
    int_code (range name high low) rest =
        expr_code kinds.Int high (expr_code kinds.Int low (ToInt (sources.Range (look.variable name)) ∷ rest))
    int_code (of_int e) rest = expr_code kinds.Int e (ToInt sources.FromInt ∷ rest)

  -- the code of operands, before the rest
  abbrev pub operands_code : List Operand → List Instr → List Instr
  operands_code [] rest = rest
  operands_code (o ∷ os) rest = expr_code o.kind o.expr (test_code o.test (operands_code os rest))

  -- where an instruction takes the bits of an array from, whose literal has this number
  abbrev pub source_code : ℕ → ArrayTree → Source
  source_code first (literal bits) = sources.Literal first
  source_code first (whole name) = sources.Whole (look.variable name)
  source_code first (range name high low) = sources.Range (look.variable name)
  source_code first (of_int e) = sources.FromInt

  -- the same of an array that may be left out
  abbrev pub given_code : ℕ → Option ArrayTree → Option Source
  given_code first a = option_map (source_code first) a

  -- where captured bits go, which is an array or a range of one
  abbrev pub target_code : Option ArrayTree → Option Dest
  target_code (Some (whole name)) = Some (dests.Whole (look.variable name))
  target_code (Some (range name high low)) = Some (dests.Range (look.variable name))
  target_code _ = None

  -- what a scan compares with, whose first literal has a number
  abbrev pub compare_code : ℕ → Option CompareTree → Option Compare
  compare_code first (Some (expected, (mask, scalar name))) = Some (record {
    expected = source_code first expected;
    mask = source_code (past first (array_literals expected)) mask;
    cell = cells.Scalar (look.variable name);
  })
  compare_code first (Some (expected, (mask, element name index))) = Some (record {
    expected = source_code first expected;
    mask = source_code (past first (array_literals expected)) mask;
    cell = cells.Element (look.variable name);
  })
  compare_code first _ = None

  -- a scan whose first literal has a number
  abbrev pub scan_code : ℕ → Register → ArrayTree → Option ArrayTree → Option CompareTree → Scan
  scan_code first register source target compare = record {
    register = register;
    source = source_code first source;
    target = target_code target;
    compare = compare_code (past first (array_literals source)) compare;
  }

  -- the parts of a PRINT whose first text has a number
  abbrev pub print_parts : ℕ → List PartTree → List PrintPart
  print_parts first [] = []
  print_parts first (string bytes ∷ list) = parts.Text first ∷ print_parts (suc first) list
  print_parts first (value e ∷ list) = shown_part (printed_kind (expr_kind look.kind e)) ∷ print_parts first list
  print_parts first (character e ∷ list) = parts.Char ∷ print_parts first list

-- the strings among the parts of a PRINT
abbrev pub part_texts : List PartTree → List (List ℕ)
part_texts [] = []
part_texts (string bytes ∷ list) = bytes ∷ part_texts list
part_texts (value e ∷ list) = part_texts list
part_texts (character e ∷ list) = part_texts list

-- The table of statements, for the compiler: the last instruction of a row, after its operands, what stands between
-- both, its texts, and its literals. Its first text and its first literal have numbers; place says where the code of a
-- piece begins. A tree that has no row here is never carried out.

pub record Firsts : Type 0 where
  pub text : ℕ
  pub literal : ℕ

abbrev pub last : Scope → (ℕ → ℕ) → Firsts → BodyTree → Instr
last scope place first end_procedure = EndProc
last scope place first (boolean name (Some b)) = Store (scope.look.variable name)
last scope place first (boolean_array name size (Some bits)) = SetBits (scope.look.variable name) first.literal
last scope place first (integer name (Some z)) = Store (scope.look.variable name)
last scope place first (integer_array name size (Some zs)) = SetInts (scope.look.variable name) zs
last scope place first (assign name e) = Store (scope.look.variable name)
last scope place first (assign_element name index e) = StoreAt (scope.look.variable name)
last scope place first (assign_array name a) =
    CopyBits (dests.Whole (scope.look.variable name)) (source_code scope.look first.literal a)
last scope place first (assign_range name high low a) =
    CopyBits (dests.Range (scope.look.variable name)) (source_code scope.look first.literal a)
last scope place first (call name) = Call (scope.procedure name)
last scope place first (goto name) = Jump (place (scope.label name))
last scope place first (if_then e body) = JumpIfZero (place scope.follow)
last scope place first (for_loop name from to step) = For (scope.look.variable name) (place scope.follow)
last scope place first (next name) = Next (scope.look.variable name)
last scope place first (push e) = PushRecord (printed_kind (expr_kind scope.look.kind e))
last scope place first (pop (scalar name)) = Store (scope.look.variable name)
last scope place first (pop (element name index)) = StoreAt (scope.look.variable name)
last scope place first (print list) = Print (print_parts scope.look first.text list)
last scope place first (export key (exported_value e)) = Export first.text (export_part (printed_kind (expr_kind scope.look.kind e)))
last scope place first (export key (exported_array a)) =
    Export first.text (exports.Array (source_code scope.look first.literal a))
last scope place first (exit e) = Exit
last scope place first (scan register count source target compare) =
    Scans (scan_code scope.look first.literal register source target compare)
last scope place first (stop register state) = Stop register (tap_of state)
last scope place first (pad which count a) = Pad which (given_code scope.look first.literal a)
last scope place first (state_list states) = GoThrough (map tap_of states)
last scope place first (wait_cycles state cycles usec end) = Wait (tap_or_idle state) (kind_of_wait usec) (tap_or_idle end)
last scope place first (wait_usec state usec end) = Wait (tap_or_idle state) waits.Usec (tap_or_idle end)
last scope place first (frequency hertz) = Frequency (is_some hertz)
last scope place first _ = Binary no_operator

-- what stands between the operands of a row and its last instruction: a POP takes its record off after its index
abbrev pub between : Scope → BodyTree → List Instr → List Instr
between scope (pop (scalar name)) rest = PopRecord (given_kind (scope.look.kind name)) ∷ rest
between scope (pop (element name index)) rest = PopRecord (given_kind (scope.look.kind name)) ∷ rest
between scope _ rest = rest

abbrev pub row_texts : BodyTree → List (List ℕ)
row_texts (print list) = part_texts list
row_texts (export key x) = key ∷ []
row_texts _ = []

abbrev pub row_literals : BodyTree → List (List Bool)
row_literals (boolean_array name size (Some bits)) = bits ∷ []
row_literals (assign_array name a) = array_literals a
row_literals (assign_range name high low a) = array_literals a
row_literals (export key (exported_array a)) = array_literals a
row_literals (scan register count source target compare) = array_literals source ++ compare_literals compare
row_literals (pad which count a) = given_literals a
row_literals _ = []

-- the numbers after the texts and the literals of a row
abbrev pub after_row : Firsts → BodyTree → Firsts
after_row first b = record { text = past first.text (row_texts b); literal = past first.literal (row_literals b) }

-- the code of a row, of rows one after the other, and of a statement, before the rest
abbrev pub row_code : Scope → (ℕ → ℕ) → Firsts → BodyTree → List Instr → List Instr
row_code scope place first b rest =
    operands_code scope.look (operands scope b) (between scope b (last scope place first b ∷ rest))

abbrev pub rows_code : Scope → (ℕ → ℕ) → Firsts → List BodyTree → List Instr → List Instr
rows_code scope place first [] rest = rest
rows_code scope place first (b ∷ bs) rest = row_code scope place first b (rows_code scope place (after_row first b) bs rest)

abbrev pub body_code : Scope → (ℕ → ℕ) → Firsts → BodyTree → List Instr → List Instr
body_code scope place first b rest = rows_code scope place first (rows b) rest

-- what each row has: from rows one after the other, from an initial value of a DATA block, if there is one, and from
-- statements
module _ {A : Type 0} (of : BodyTree → List A) where
  abbrev pub rows_items : List BodyTree → List A
  rows_items [] = []
  rows_items (b ∷ bs) = of b ++ rows_items bs

  abbrev pub preset_items : Option Preset → List A
  preset_items None = []
  preset_items (Some preset) = of preset.body

  abbrev pub statements_items : List StmtTree → List A
  statements_items [] = []
  statements_items (st ∷ rest) = rows_items (rows st.body) ++ statements_items rest

  -- from the first of some statements
  abbrev pub first_items : List StmtTree → List A
  first_items [] = []
  first_items (st ∷ rest) = rows_items (rows st.body)

  -- from pieces in their order, each with its initial value of a DATA block
  abbrev pub pieces_items : List (Option Preset) → List StmtTree → List A
  pieces_items [] pieces = statements_items pieces
  pieces_items (preset ∷ presets) pieces = first_items pieces ++ (preset_items preset ++ pieces_items presets (drop 1 pieces))

-- the texts and the literals of a statement
abbrev pub body_texts : BodyTree → List (List ℕ)
body_texts b = rows_items row_texts (rows b)

abbrev pub body_literals : BodyTree → List (List Bool)
body_literals b = rows_items row_literals (rows b)

-- The texts and the literals of a program, in the order of their places in it. DATA blocks have literals alone.
abbrev pub texts_of : Played → List (List ℕ)
texts_of program = statements_items row_texts program.pieces

abbrev pub literals_of : Played → List (List Bool)
literals_of program = pieces_items row_literals program.presets program.pieces

-- what the code of a program with these texts and literals names by number
abbrev pub program_constants : List (List ℕ) → List (List Bool) → Constants
program_constants texts literals = record { profile = of_programs; texts = texts; literals = literals }

abbrev pub constants_in : Played → Constants
constants_in program = program_constants (texts_of program) (literals_of program)

-- those before a place
abbrev pub texts_before : Played → ℕ → List (List ℕ)
texts_before program i = statements_items row_texts (take i program.pieces)

abbrev pub literals_before : Played → ℕ → List (List Bool)
literals_before program i = pieces_items row_literals (take i program.presets) (take i program.pieces)

-- the numbers of the first text and the first literal of the piece at a place
abbrev pub firsts_at : Played → ℕ → Firsts
firsts_at program i = record { text = length (texts_before program i); literal = length (literals_before program i) }

-- the same of the initial value of a DATA block at a place, which has no text, and comes after what its piece has
abbrev pub preset_firsts : Played → ℕ → Firsts
preset_firsts program i =
    record { text = 0; literal = length (literals_before program i ++ first_items row_literals (drop i program.pieces)) }

module _ (program : Played) (place : ℕ → ℕ) where
  -- the code that sets an initial value of a DATA block at a place, if there is one, before the rest
  abbrev pub preset_code : ℕ → Option Preset → List Instr → List Instr
  preset_code i None rest = rest
  preset_code i (Some preset) rest = row_code (preset_scope program preset) place (preset_firsts program i) preset.body rest

  -- the same of those from a place on
  abbrev pub presets_code : ℕ → List (Option Preset) → List Instr → List Instr
  presets_code i [] rest = rest
  presets_code i (preset ∷ presets) rest = preset_code i preset (presets_code (i + 1) presets rest)

  -- the code of the piece at a place: its turn, and its statement; a statement outside procedures has no code
  abbrev pub piece_code : ℕ → StmtTree → List Instr → List Instr
  piece_code i st rest =
      if is_outer st.body then rest
      else Turn (i + 1) ∷ body_code (scope_at program i) place (firsts_at program i) st.body rest

  -- the code of the pieces from a place on
  abbrev pub pieces_code : ℕ → List StmtTree → List Instr
  pieces_code i [] = []
  pieces_code i (st ∷ rest) = piece_code i st (pieces_code (i + 1) rest)

  -- the code of the program: its prologue sets DATA blocks
  abbrev pub code_to : List Instr
  code_to = presets_code 0 program.presets (pieces_code 0 program.pieces)

-- How long the code is, and where the code of a piece begins. Neither depends on the targets of jumps.
abbrev pub total_of : Played → ℕ
total_of program = length (code_to program (λ i. i))

abbrev pub start_in : Played → ℕ → Option StmtTree → ℕ
start_in program i None = nowhere
start_in program i (Some st) =
    if is_outer st.body then nowhere else total_of program - length (pieces_code program (λ j. j) i (drop i program.pieces))

abbrev pub start_of : Played → ℕ → ℕ
start_of program i = start_in program i (slice_get program.pieces i)

abbrev pub program_code : Played → List Instr
program_code program = code_to program (start_of program)

-- the procedure that a statement begins, if its code begins at this place, and then others
abbrev pub procedure_def : ℕ → BodyTree → List ProcDef → List ProcDef
procedure_def entry (procedure name uses) others = record { name = name; entry = entry } ∷ others
procedure_def entry _ others = others

-- the procedures of the pieces from a place on
abbrev pub procedures_from : (ℕ → ℕ) → ℕ → List StmtTree → List ProcDef
procedures_from place i [] = []
procedures_from place i (st ∷ rest) = procedure_def (place (i + 1)) st.body (procedures_from place (i + 1) rest)

abbrev pub procedures_of : Played → List ProcDef
procedures_of program = procedures_from (start_of program) 0 program.pieces

-- where the procedures begin
abbrev pub program_entries : Played → List ℕ
program_entries program = entries_of (procedures_of program)

-- the flag of an item: it always runs, it runs only if it is asked for, or it runs unless it is left out
abbrev pub choice_flag : Option ItemChoice → ℕ
choice_flag None = 0
choice_flag (Some choices.Optional) = 1
choice_flag (Some choices.Recommended) = 2

-- an item of an action
abbrev pub item_def : Played → ItemTree → ItemDef
item_def program item = record { procedure = procedure_number program.pieces item.0; flag = choice_flag item.1 }

-- the action that a statement is, and then others
abbrev pub action_def : Played → BodyTree → List ActionDef → List ActionDef
action_def program (action name text items) others = record { name = name; items = map (item_def program) items } ∷ others
action_def program _ others = others

-- the actions among some pieces of a program
abbrev pub actions_from : Played → List StmtTree → List ActionDef
actions_from program [] = []
actions_from program (st ∷ rest) = action_def program st.body (actions_from program rest)

abbrev pub actions_of : Played → List ActionDef
actions_of program = actions_from program program.pieces

-- an instruction with another target
abbrev pub retarget : (ℕ → ℕ) → Instr → Instr
retarget place (Jump to) = Jump (place to)
retarget place (JumpIfZero to) = JumpIfZero (place to)
retarget place (For n body) = For n (place body)
retarget place i = i
