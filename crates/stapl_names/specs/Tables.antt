-- What the tables of a program's names hold.
use Rattle.std.specs.Prelude.{◌≡◌, ℕ, ◌+◌, ◌<◌, ◌^◌, Bool, if◌then◌else◌, List, [], ◌∷◌, ◌++◌, All, length, position, slice_get, Option, unwrap_or}
use Rattle.std.specs.Map.{lookup, keys_of}
use Rattle.std.specs.Option.{option_and_then, option_map_or}
use Rattle.std.specs.Str.{bytes_eq}
use Rattle.indexmap.specs.IndexMap.{IndexMap}
use Rattle.stapl_syntax.specs.declared.names.Block.{Block}
use Rattle.stapl_syntax.specs.declared.names.Found.{Found}
use Rattle.stapl_syntax.specs.declared.names.Found.TheVariants as found
use Rattle.stapl_syntax.specs.declared.names.Key.{Key}
use Rattle.stapl_syntax.specs.declared.names.Variable.{Variable}
use Rattle.stapl_syntax.specs.Trees.{StmtTree}
use Rattle.stapl_syntax.specs.Names.{Names, block_named, key_eq, key_in, put_option, variable_number, block_of, action_of, variable_of, label_of}
use Rattle.stapl_names.specs.declared.blocks.Blocks.{Blocks}
use Rattle.stapl_names.specs.declared.tables.Tables.{Tables}
use Rattle.stapl_names.specs.declared.variables.Variables.{Variables}

-- the name of the block with this number
abbrev pub block_name : Names → ℕ → Option (List ℕ)
block_name names number = slice_get (keys_of names.blocks) number

-- the blocks that the block of this name uses
abbrev pub blocks_used : Names → List ℕ → List (List ℕ)
blocks_used names own = option_map_or (λ (b : Block). b.uses) (block_named names own) []

-- the number of the variable of this name that the block with this number declares
abbrev pub variable_of_block : Names → ℕ → List ℕ → Option ℕ
variable_of_block names number name =
    option_and_then (λ block. variable_number names block name) (block_name names number)

-- the piece that declares the label of this name first in the block with this number
abbrev pub label_of_block : Names → ℕ → List ℕ → Option ℕ
label_of_block names number name =
    option_and_then (λ block. lookup (key_eq (key_in block name)) names.labels) (block_name names number)

-- what is found is no variable, or one that stands in the table
abbrev pub StandsIn : Names → Found → Type 0
StandsIn names (found.Variable number) = number < length names.variables
StandsIn names _ = Unit {0}

-- the names in tables
abbrev pub names_in : Tables → Names
names_in t = record {
  blocks = t.blocks.table.entries;
  actions = t.actions.entries;
  variables = t.variables.table.entries;
  labels = t.labels.entries;
}

-- the places of names, from a place on, in the USES of a block
abbrev pub places_from : List ℕ → ℕ → List (List ℕ) → List (Key × ℕ)
places_from block place [] = []
places_from block place (name ∷ uses) = (key_in block name, place) ∷ places_from block (place + 1) uses

-- the table of places has the first place of each name in the USES of each block
abbrev pub AreUsed : Blocks → Type 0
AreUsed bs =
    (block name : List ℕ)
    → lookup (key_eq (key_in block name)) bs.used.entries
    ≡ option_and_then (λ b. position (bytes_eq name) b.uses) (lookup (bytes_eq block) bs.table.entries)

-- the numbers, from a number on, of the variables of a name
abbrev pub numbers_from : List ℕ → ℕ → List (Key × Variable) → List ℕ
numbers_from name number [] = []
numbers_from name number (e ∷ es) =
    if bytes_eq name e.0.name then number ∷ numbers_from name (number + 1) es else numbers_from name (number + 1) es

-- the numbers that stand at a name
abbrev pub spelled_as : {S : Type 0} → IndexMap (List ℕ) (List ℕ) S → List ℕ → List ℕ
spelled_as spelled name = unwrap_or (lookup (bytes_eq name) spelled.entries) []

-- the numbers at names after one more was added to those of a name
abbrev pub HasNumber : {S : Type 0} → IndexMap (List ℕ) (List ℕ) S → List ℕ → ℕ → IndexMap (List ℕ) (List ℕ) S → Type 0
HasNumber old name number new =
    (other : List ℕ) → spelled_as new other ≡ spelled_as old other ++ (if bytes_eq other name then number ∷ [] else [])

-- the numbers of all variables stand at their names
abbrev pub AreSpelled : Variables → Type 0
AreSpelled vs = (name : List ℕ) → spelled_as vs.spelled name ≡ numbers_from name 0 vs.table.entries

-- a table after an entry was put into it, if there is one
abbrev pub HasPutEntry : {K V S : Type 0} → (K → K → Bool) → IndexMap K V S → Option (K × V) → IndexMap K V S → Type 0
HasPutEntry eq old entry new = new.entries ≡ put_option eq old.entries entry

-- the same of the table of blocks, and of the table of variables
abbrev pub HasBlock : Blocks → Option (List ℕ × Block) → Blocks → Type 0
HasBlock old entry new = HasPutEntry bytes_eq old.table entry new.table

abbrev pub HasVariable : Variables → Option (Key × Variable) → Variables → Type 0
HasVariable old entry new = HasPutEntry key_eq old.table entry new.table

-- the tables after the statement of the piece with this number, before which this block is open
pub record PutsNames (inside : Option (List ℕ)) (number : ℕ) (st : StmtTree) (old new : Tables) : Type 0 where
  pub blocks : HasBlock old.blocks (block_of inside number st) new.blocks
  pub actions : HasPutEntry bytes_eq old.actions (action_of inside number st) new.actions
  pub variables : HasVariable old.variables (variable_of inside number st) new.variables
  pub labels : HasPutEntry key_eq old.labels (label_of inside number st) new.labels
  pub used : AreUsed new.blocks
  pub spelled : AreSpelled new.variables

-- the key of a block is its name
abbrev pub BearsName : List ℕ × Block → Type 0
BearsName e = e.0 ≡ e.1.name

-- the key of a variable is its own
abbrev pub BearsKey : Key × Variable → Type 0
BearsKey e = e.0 ≡ e.1.key

-- finished tables: the numbers of entries fit 32 bits, each key is that of its value, and the places in USES and the
-- numbers by name are right
pub record AreFinished (t : Tables) : Type 0 where
  pub few_blocks : length t.blocks.table.entries < 2 ^ 32
  pub few_variables : length t.variables.table.entries < 2 ^ 32
  pub blocks : All BearsName t.blocks.table.entries
  pub variables : All BearsKey t.variables.table.entries
  pub used : AreUsed t.blocks
  pub spelled : AreSpelled t.variables
