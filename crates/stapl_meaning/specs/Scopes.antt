-- What of a program plays, and what its names stand for. Source: JESD71, procedures, DATA blocks and variables. Places
-- are those of pieces, counted from 0.
use Rattle.std.specs.Prelude.{ℕ, zero, suc, pos, ◌+◌, ◌-◌, List, [], ◌∷◌, take, length, Bool, true, false, Option, Some, None, if◌then◌else◌, map, replicate, nat_abs}
use Rattle.std.specs.Option.{option_map_or}
use Rattle.std.specs.Map.{lookup}
use Rattle.std.specs.Str.{bytes_eq}
use Rattle.stapl_syntax.specs.declared.names.Found.{Found}
use Rattle.stapl_syntax.specs.declared.names.Found.TheVariants as found
use Rattle.stapl_syntax.specs.declared.names.Key.{Key}
use Rattle.stapl_syntax.specs.declared.names.VarKind.{VarKind}
use Rattle.stapl_syntax.specs.declared.names.VarKind.TheVariants as kinds
use Rattle.stapl_syntax.specs.declared.names.Variable.{Variable}
use Rattle.stapl_syntax.specs.Trees.{BodyTree, procedure, data_block, end_data, boolean, boolean_array, integer, integer_array, StmtTree}
use Rattle.stapl_syntax.specs.Statements.{begins_procedure}
use Rattle.stapl_syntax.specs.Names.{Names, numbered, names_of, inside_after, key_in, key_eq, found_from, kind_of_found}
use Rattle.stapl_meaning.specs.declared.values.Held.{Held}
use Rattle.stapl_meaning.specs.declared.values.Held.TheVariants as held
use Rattle.stapl_meaning.specs.Values.{Lookup}

-- What a statement finds: variables by their names, the place of a label by its name, the place where the procedure of
-- a number begins, the number of a procedure by its name, and the place after the statement.
pub record Scope : Type 0 where
  pub look : Lookup
  pub label : List ℕ → ℕ
  pub entry : ℕ → ℕ
  pub procedure : List ℕ → ℕ
  pub follow : ℕ

-- A program as it plays.

-- the DATA block that is open after a statement, if this one was open before it
abbrev pub data_after : Option (List ℕ) → BodyTree → Option (List ℕ)
data_after now (data_block name) = Some name
data_after now end_data = None
data_after now _ = now

-- the statement is no part of a DATA block, which begins with DATA
abbrev pub plays : Option (List ℕ) → BodyTree → Bool
plays None (data_block name) = false
plays None _ = true
plays (Some block) _ = false

-- the statement that stands for each one of a DATA block: it does nothing
abbrev pub idle : StmtTree
idle = record { label = None; body = end_data }

-- the pieces of a program, of which those of DATA blocks do nothing
abbrev pub pieces_from : Option (List ℕ) → List StmtTree → List StmtTree
pieces_from now [] = []
pieces_from now (st ∷ rest) = (if plays now st.body then st else idle) ∷ pieces_from (data_after now st.body) rest

-- the declaration has an initial value
abbrev pub has_initial_value : BodyTree → Bool
has_initial_value (boolean name (Some b)) = true
has_initial_value (boolean_array name size (Some bits)) = true
has_initial_value (integer name (Some z)) = true
has_initial_value (integer_array name size (Some zs)) = true
has_initial_value _ = false

-- a declaration of a DATA block that has an initial value, and the name of the block
pub record Preset : Type 0 where
  pub block : List ℕ
  pub body : BodyTree

abbrev pub preset_of : Option (List ℕ) → BodyTree → Option Preset
preset_of None body = None
preset_of (Some block) body = if has_initial_value body then Some (record { block = block; body = body }) else None

-- what each piece of a program presets, if it does
abbrev pub presets_from : Option (List ℕ) → List StmtTree → List (Option Preset)
presets_from now [] = []
presets_from now (st ∷ rest) = preset_of now st.body ∷ presets_from (data_after now st.body) rest

-- What of a program plays: the names of all of it, the initial values of its DATA blocks, each at the place of its
-- piece, and its pieces.
pub record Played : Type 0 where
  pub names : Names
  pub presets : List (Option Preset)
  pub pieces : List StmtTree

-- the names of a program
abbrev pub program_names : List StmtTree → Names
program_names program = names_of (numbered (map Some program))

abbrev pub as_played : List StmtTree → Played
as_played program =
    record { names = program_names program; presets = presets_from None program; pieces = pieces_from None program }

-- the block that is open before the piece at a place
abbrev pub block_at : List StmtTree → ℕ → Option (List ℕ)
block_at program i = inside_after (numbered (take i (map Some program)))

-- the number of the variable that was found: the count of variables if none was
abbrev pub number_found : Names → Found → ℕ
number_found names (found.Variable n) = n
number_found names _ = length names.variables

-- the number of the variable that a name stands for inside a block
abbrev pub variable_from : Names → Option (List ℕ) → List ℕ → ℕ
variable_from names inside name = number_found names (found_from names inside name)

-- the variables that names stand for inside a block
abbrev pub lookup_from : Names → Option (List ℕ) → Lookup
lookup_from names inside = record {
  kind = λ name. kind_of_found names (found_from names inside name);
  variable = variable_from names inside;
}

-- the place of a label of a block, or this one if the block has no such label
abbrev pub label_from : Names → ℕ → Option (List ℕ) → List ℕ → ℕ
label_from names none None name = none
label_from names none (Some block) name = option_map_or (λ piece. piece - 1) (lookup (key_eq (key_in block name)) names.labels) none

-- how many procedures begin in these pieces
abbrev pub procedures_in : List StmtTree → ℕ
procedures_in [] = 0
procedures_in (st ∷ rest) = if begins_procedure st.body then suc (procedures_in rest) else procedures_in rest

-- the number of a procedure by its name; procedures are counted from 0
abbrev pub procedure_before : BodyTree → List ℕ → ℕ → ℕ
procedure_before (procedure p uses) name others = if bytes_eq name p then 0 else suc others
procedure_before _ name others = others

abbrev pub procedure_number : List StmtTree → List ℕ → ℕ
procedure_number [] name = 0
procedure_number (st ∷ rest) name = procedure_before st.body name (procedure_number rest name)

-- the place after the beginning of the procedure of a number
abbrev pub entry_from : List StmtTree → ℕ → ℕ
entry_from [] p = 0
entry_from (st ∷ rest) zero = suc (if begins_procedure st.body then 0 else entry_from rest zero)
entry_from (st ∷ rest) (suc p) = suc (if begins_procedure st.body then entry_from rest p else entry_from rest (suc p))

-- what a statement finds, from the names of a program of so many pieces and from its procedures, if this block is open
abbrev pub scope_of : Names → (ℕ → ℕ) → (List ℕ → ℕ) → ℕ → Option (List ℕ) → ℕ → Scope
scope_of names entry number count inside i = record {
  look = lookup_from names inside;
  label = label_from names count inside;
  entry = entry;
  procedure = number;
  follow = i + 1;
}

-- what a statement of these pieces finds
abbrev pub scope_in : Names → List StmtTree → Option (List ℕ) → ℕ → Scope
scope_in names pieces inside i = scope_of names (entry_from pieces) (procedure_number pieces) (length pieces) inside i

-- what the statement at a place finds
abbrev pub scope_at : Played → ℕ → Scope
scope_at program i =
    scope_in program.names program.pieces (block_at program.pieces i) i

-- what a declaration of a DATA block finds
abbrev pub preset_scope : Played → Preset → Scope
preset_scope program preset =
    scope_in program.names program.pieces (Some preset.block) 0

-- what the variables hold when a play starts
abbrev pub zero_by : VarKind → ℕ → Held
zero_by kinds.Integer n = held.Int (pos 0)
zero_by kinds.Boolean n = held.Bit false
zero_by kinds.IntegerArray n = held.Ints (replicate n (pos 0))
zero_by kinds.BooleanArray n = held.Bits (replicate n false)

abbrev pub zero_of : Key × Variable → Held
zero_of v = zero_by v.1.kind (nat_abs v.1.size)

abbrev pub zeros_of : Played → List Held
zeros_of program = map zero_of program.names.variables
