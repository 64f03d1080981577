-- What the statements of a program declare: its blocks, actions, variables and labels, each by the first piece that
-- declares it (JESD71, PROCEDURE, DATA, ACTION, INTEGER, BOOLEAN, labels); and what a name of a variable stands for.
-- That pieces which are no statements declare nothing, and that the own block is searched before those after USES, is
-- this profile's.
use Rattle.std.specs.Prelude.{ℕ, pos, ◌+◌, List, [], ◌∷◌, ◌++◌, Bool, true, false, ◌&&◌, Option, None, Some, is_some, if◌then◌else◌, unwrap_or, slice_get, position}
use Rattle.std.specs.List.{list_any, cons_option}
use Rattle.std.specs.Option.{option_map, option_map_or}
use Rattle.std.specs.Map.{lookup, keys_of}
use Rattle.std.specs.Str.{bytes_eq}
use Rattle.stapl_syntax.specs.declared.names.VarKind.{VarKind}
use Rattle.stapl_syntax.specs.declared.names.VarKind.TheVariants as kinds
use Rattle.stapl_syntax.specs.declared.names.Declaration.{Declaration}
use Rattle.stapl_syntax.specs.declared.names.Block.{Block}
use Rattle.stapl_syntax.specs.declared.names.Key.{Key}
use Rattle.stapl_syntax.specs.declared.names.Variable.{Variable}
use Rattle.stapl_syntax.specs.declared.names.Found.{Found}
use Rattle.stapl_syntax.specs.declared.names.Found.TheVariants as found
use Rattle.stapl_syntax.specs.Trees.{BodyTree, action, procedure, data_block, end_data, end_procedure, boolean, boolean_array, integer, integer_array, StmtTree}

-- a statement with the number of its piece, counted from 1
pub record Numbered : Type 0 where
  pub piece : ℕ
  pub statement : StmtTree

-- the pieces from this number on that have a statement
abbrev pub numbered_from : ℕ → List (Option StmtTree) → List Numbered
numbered_from n [] = []
numbered_from n (None ∷ read) = numbered_from (n + 1) read
numbered_from n (Some st ∷ read) = record { piece = n; statement = st } ∷ numbered_from (n + 1) read

-- the pieces of a text that have a statement
abbrev pub numbered : List (Option StmtTree) → List Numbered
numbered read = numbered_from 1 read

-- statements with the numbers of their pieces, from two lists
abbrev pub with_numbers : List ℕ → List StmtTree → List Numbered
with_numbers (n ∷ ns) (st ∷ sts) = record { piece = n; statement = st } ∷ with_numbers ns sts
with_numbers _ _ = []

-- the block that is open after a statement, if this one was open before it
abbrev pub inside_next : Option (List ℕ) → BodyTree → Option (List ℕ)
inside_next now (procedure name uses) = Some name
inside_next now (data_block name) = Some name
inside_next now end_procedure = None
inside_next now end_data = None
inside_next now _ = now

-- the block that is open after these statements
abbrev pub inside_from : Option (List ℕ) → List Numbered → Option (List ℕ)
inside_from now [] = now
inside_from now (s ∷ rest) = inside_from (inside_next now s.statement.body) rest

abbrev pub inside_after : List Numbered → Option (List ℕ)
inside_after statements = inside_from None statements

-- what a statement says of the variable that it declares, if it declares one
abbrev pub declaration : BodyTree → Option Declaration
declaration (boolean name start) = Some (record { name = name; kind = kinds.Boolean; size = pos 1 })
declaration (boolean_array name size bits) = Some (record { name = name; kind = kinds.BooleanArray; size = size })
declaration (integer name start) = Some (record { name = name; kind = kinds.Integer; size = pos 1 })
declaration (integer_array name size values) = Some (record { name = name; kind = kinds.IntegerArray; size = size })
declaration _ = None

-- What the statement of the piece with this number declares, if this block is open: a key and a value.

abbrev pub block_of_body : ℕ → BodyTree → Option (List ℕ × Block)
block_of_body n (procedure name uses) = Some (name, record { name = name; piece = n; is_data = false; uses = unwrap_or uses [] })
block_of_body n (data_block name) = Some (name, record { name = name; piece = n; is_data = true; uses = [] })
block_of_body n _ = None

-- a block
abbrev pub block_of : Option (List ℕ) → ℕ → StmtTree → Option (List ℕ × Block)
block_of now n st = block_of_body n st.body

abbrev pub action_of_body : ℕ → BodyTree → Option (List ℕ × ℕ)
action_of_body n (action name text items) = Some (name, n)
action_of_body n _ = None

-- an action, by its piece
abbrev pub action_of : Option (List ℕ) → ℕ → StmtTree → Option (List ℕ × ℕ)
action_of now n st = action_of_body n st.body

abbrev pub key_in : List ℕ → List ℕ → Key
key_in block name = record { block = block; name = name }

abbrev pub variable_entry : List ℕ → ℕ → Declaration → Key × Variable
variable_entry block n d = (key_in block d.name, record { key = key_in block d.name; piece = n; kind = d.kind; size = d.size })

abbrev pub variable_in : Option (List ℕ) → ℕ → Option Declaration → Option (Key × Variable)
variable_in (Some block) n (Some d) = Some (variable_entry block n d)
variable_in now n d = None

-- a variable of the open block
abbrev pub variable_of : Option (List ℕ) → ℕ → StmtTree → Option (Key × Variable)
variable_of now n st = variable_in now n (declaration st.body)

abbrev pub label_in : Option (List ℕ) → ℕ → Option (List ℕ) → Option (Key × ℕ)
label_in (Some block) n (Some name) = Some (key_in block name, n)
label_in now n label = None

-- a label of the open block, by its piece
abbrev pub label_of : Option (List ℕ) → ℕ → StmtTree → Option (Key × ℕ)
label_of now n st = label_in now n st.label

module _ {K V : Type 0} (declares : Option (List ℕ) → ℕ → StmtTree → Option (K × V)) where
  -- what statements declare, in order
  abbrev pub declared_from : Option (List ℕ) → List Numbered → List (K × V)
  declared_from now [] = []
  declared_from now (s ∷ rest) = cons_option (declares now s.piece s.statement) (declared_from (inside_next now s.statement.body) rest)

  abbrev pub declared : List Numbered → List (K × V)
  declared statements = declared_from None statements

module _ {K V : Type 0} (eq : K → K → Bool) where
  -- the entries, and after them this one if none of them has its key
  abbrev pub put_first : List (K × V) → K × V → List (K × V)
  put_first entries e = if is_some (lookup (eq e.0) entries) then entries else entries ++ (e ∷ [])

  abbrev pub put_option : List (K × V) → Option (K × V) → List (K × V)
  put_option entries None = entries
  put_option entries (Some e) = put_first entries e

  abbrev pub firsts_after : List (K × V) → List (K × V) → List (K × V)
  firsts_after entries [] = entries
  firsts_after entries (e ∷ es) = firsts_after (put_first entries e) es

  -- of the entries with one key the first, in order
  abbrev pub firsts : List (K × V) → List (K × V)
  firsts es = firsts_after [] es

abbrev pub key_eq : Key → Key → Bool
key_eq a b = bytes_eq a.block b.block && bytes_eq a.name b.name

-- The names of a program: its blocks and actions by name, its variables and labels by block and name, each by the first
-- piece that declares it, in the order of these pieces. Actions and labels are numbers of pieces.
pub record Names : Type 0 where
  pub blocks : List (List ℕ × Block)
  pub actions : List (List ℕ × ℕ)
  pub variables : List (Key × Variable)
  pub labels : List (Key × ℕ)

-- the names of these statements
abbrev pub names_of : List Numbered → Names
names_of statements = record {
  blocks = firsts bytes_eq (declared block_of statements);
  actions = firsts bytes_eq (declared action_of statements);
  variables = firsts key_eq (declared variable_of statements);
  labels = firsts key_eq (declared label_of statements);
}

-- the block of this name
abbrev pub block_named : Names → List ℕ → Option Block
block_named names name = lookup (bytes_eq name) names.blocks

-- some block declares a variable of this name
abbrev pub is_declared : Names → List ℕ → Bool
is_declared names name = list_any (λ e. bytes_eq name e.0.name) names.variables

-- the number of the variable of a block
abbrev pub variable_number : Names → List ℕ → List ℕ → Option ℕ
variable_number names block name = position (key_eq (key_in block name)) (keys_of names.variables)

-- what a name of a variable stands for, if these blocks are searched in this order
abbrev pub found_in : Names → List (List ℕ) → List ℕ → Found
found_in names [] name = if is_declared names name then found.Hidden else found.Absent
found_in names (block ∷ blocks) name = option_map_or found.Variable (variable_number names block name) (found_in names blocks name)

-- the blocks that are searched from a block: itself, and those that it uses
abbrev pub blocks_seen : Names → Option (List ℕ) → List (List ℕ)
blocks_seen names None = []
blocks_seen names (Some own) = own ∷ option_map_or (λ b. b.uses) (block_named names own) []

-- what a name of a variable stands for inside a block, or outside blocks
abbrev pub found_from : Names → Option (List ℕ) → List ℕ → Found
found_from names inside name = found_in names (blocks_seen names inside) name

-- the kind of the variable that a name stands for, if it stands for one
abbrev pub kind_of_found : Names → Found → Option VarKind
kind_of_found names (found.Variable n) = option_map (λ e. e.1.kind) (slice_get names.variables n)
kind_of_found names _ = None

-- the procedure that is open has a label of this name
abbrev pub has_label : Names → Option (List ℕ) → List ℕ → Bool
has_label names None name = false
has_label names (Some block) name = is_some (lookup (key_eq (key_in block name)) names.labels)
