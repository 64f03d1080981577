-- Programs whose names are resolved, whose statements are typed, and whose variables keep the limits. Source: JESD71,
-- program structure, variables, labels and expressions. The limits are this profile's.
use Rattle.std.specs.Prelude.{◌≡◌, ◌≢◌, ℕ, ◌+◌, ◌<◌, ◌≤◌, Bool, true, false, not, if◌then◌else◌, List, [], ◌∷◌, All, AllPairs, None, Some, IfSome, length, slice_get, sum_by, nat_abs}
use Rattle.std.specs.List.{AllByRecursion}
use Rattle.std.specs.Map.{keys_of}
use Rattle.stapl_syntax.specs.declared.names.Block.{Block}
use Rattle.stapl_syntax.specs.declared.names.Declaration.{Declaration}
use Rattle.stapl_syntax.specs.declared.names.Key.{Key}
use Rattle.stapl_syntax.specs.declared.names.VarKind.{VarKind}
use Rattle.stapl_syntax.specs.declared.names.VarKind.TheVariants as kinds
use Rattle.stapl_syntax.specs.declared.names.Variable.{Variable}
use Rattle.stapl_syntax.specs.Trees.{ItemTree, BodyTree, action, procedure, call, if_then, StmtTree}
use Rattle.stapl_syntax.specs.Statements.{is_outer, begins_procedure, ends_procedure}
use Rattle.stapl_syntax.specs.Names.{declaration, variable_entry}
use Rattle.stapl_meaning.specs.Values.{Lookup}
use Rattle.stapl_syntax.specs.Rules.{is_boolean, boolean_limit, booleans_limit, integers_limit, stops_unstable, has_too_many_values}
use Rattle.stapl_syntax.specs.Programs.{piece_limit}
use Rattle.stapl_syntax.specs.Kinds.{operands_suit}
use Rattle.stapl_syntax.specs.Mentions.{labels_named}
use Rattle.stapl_meaning.specs.Scopes.{plays, has_initial_value, Preset, Played, block_at, procedures_in, procedure_number, scope_at, preset_scope}

-- Statements stand in order: those outside procedures, and procedures, each from its PROCEDURE to the first ENDPROC. It
-- is told whether a procedure is open in front of them.
abbrev pub IsOrdered : Bool → List StmtTree → Type 0
IsOrdered inside [] = inside ≡ false
IsOrdered false (st ∷ rest) = (is_outer st.body ≡ true) × IsOrdered (begins_procedure st.body) rest
IsOrdered true (st ∷ rest) = (is_outer st.body ≡ false) × IsOrdered (not (ends_procedure st.body)) rest

-- the names of procedures and of actions, in order
abbrev pub procedure_name : BodyTree → List (List ℕ) → List (List ℕ)
procedure_name (procedure name uses) names = name ∷ names
procedure_name _ names = names

abbrev pub procedure_names : List StmtTree → List (List ℕ)
procedure_names [] = []
procedure_names (st ∷ rest) = procedure_name st.body (procedure_names rest)

-- the names of the blocks that are no DATA blocks, in order
abbrev pub plain_blocks : List (List ℕ × Block) → List (List ℕ)
plain_blocks [] = []
plain_blocks (e ∷ es) = if e.1.is_data then plain_blocks es else e.0 ∷ plain_blocks es

abbrev pub action_name : BodyTree → List (List ℕ) → List (List ℕ)
action_name (action name text items) names = name ∷ names
action_name _ names = names

abbrev pub action_names : List StmtTree → List (List ℕ)
action_names [] = []
action_names (st ∷ rest) = action_name st.body (action_names rest)

-- how many elements a variable of this kind may have; a scalar has one
abbrev pub HasSize : VarKind → ℕ → Type 0
HasSize kinds.Integer n = n ≡ 1
HasSize kinds.Boolean n = n ≡ 1
HasSize kinds.IntegerArray n = n ≤ integers_limit
HasSize kinds.BooleanArray n = n ≤ boolean_limit

-- A variable has elements, and not more than its kind may have.
pub record IsSized (v : Key × Variable) : Type 0 where
  pub some : 1 ≤ nat_abs v.1.size
  pub fits : HasSize v.1.kind (nat_abs v.1.size)

-- how many elements a variable has among those of INTEGER variables, and of BOOLEAN ones
abbrev pub integers_of : Key × Variable → ℕ
integers_of v = if is_boolean v.1.kind then 0 else nat_abs v.1.size

abbrev pub booleans_of : Key × Variable → ℕ
booleans_of v = if is_boolean v.1.kind then nat_abs v.1.size else 0

-- Variables keep the limits: each alone, and all of one kind together.
pub record AreSized (variables : List (Key × Variable)) : Type 0 where
  pub each : All IsSized variables
  pub integers : sum_by integers_of variables ≤ integers_limit
  pub booleans : sum_by booleans_of variables ≤ booleans_limit

module _ (program : Played) where
  -- the place is that of a statement before which this block is open
  pub record IsInBlock (block : List ℕ) (place : ℕ) : Type 0 where
    pub within : place < length program.pieces
    pub inside : block_at program.pieces place ≡ Some block

  -- The name that the declaration of a piece in a block declares stands there for this very variable.
  pub record IsDeclared (look : Lookup) (piece : ℕ) (block : List ℕ) (d : Declaration) : Type 0 where
    pub kind : look.kind d.name ≡ Some d.kind
    pub entry : slice_get program.names.variables (look.variable d.name) ≡ Some (variable_entry block piece d)

  -- The statement at a place of a procedure is typed: its operands have the kinds that it wants, a label that it names
  -- stands in the same procedure, the name that it declares stands for its variable, an INTEGER array has no more
  -- initial values than elements, and the test logic stays in stable states alone.
  pub record IsTypedAt (i : ℕ) (body : BodyTree) : Type 0 where
    pub block : List ℕ
    pub inside : block_at program.pieces i ≡ Some block
    pub suits : operands_suit (scope_at program i).look.kind body ≡ true
    pub leads : AllByRecursion (λ name. IsInBlock block ((scope_at program i).label name)) (labels_named body)
    pub declares : IfSome (declaration body) (IsDeclared (scope_at program i).look (1 + i) block)
    pub few_values : has_too_many_values body ≡ false
    pub stable : stops_unstable body ≡ false

  -- The same of a declaration of a DATA block, which has an initial value.
  pub record IsTypedPreset (preset : Preset) : Type 0 where
    pub piece : ℕ
    pub starts : has_initial_value preset.body ≡ true
    pub declares : IfSome (declaration preset.body) (IsDeclared (preset_scope program preset).look piece preset.block)
    pub few_values : has_too_many_values preset.body ≡ false

  -- the name is that of a procedure
  abbrev pub IsProcedure : List ℕ → Type 0
  IsProcedure name = procedure_number program.pieces name < procedures_in program.pieces

  -- an item of an action names a procedure
  abbrev pub NamesProcedure : ItemTree → Type 0
  NamesProcedure item = IsProcedure item.0

  abbrev pub NamesProcedures : BodyTree → Type 0
  NamesProcedures (action name text items) = All NamesProcedure items
  NamesProcedures (call name) = IsProcedure name
  NamesProcedures (if_then e body) = NamesProcedures body
  NamesProcedures _ = Unit {0}

-- A program is typed. Of no DATA block any piece is left.
pub record IsTyped (program : Played) : Type 0 where
  pub few : length program.pieces ≤ piece_limit
  pub play : All (λ (st : StmtTree). plays None st.body ≡ true) program.pieces
  pub ordered : IsOrdered false program.pieces
  pub statements : (i : ℕ) (st : StmtTree) → slice_get program.pieces i ≡ Some st → is_outer st.body ≡ false → IsTypedAt program i st.body
  pub presets : All (λ o. IfSome o (IsTypedPreset program)) program.presets
  pub items : All (λ (st : StmtTree). NamesProcedures program st.body) program.pieces
  pub blocks_apart : AllPairs (λ a b. a ≢ b) (keys_of program.names.blocks)
  pub procedures_are : plain_blocks program.names.blocks ≡ procedure_names program.pieces
  pub procedures_apart : AllPairs (λ a b. a ≢ b) (procedure_names program.pieces)
  pub actions_apart : AllPairs (λ a b. a ≢ b) (action_names program.pieces)
  pub some_action : 1 ≤ length (action_names program.pieces)
  pub sized : AreSized program.names.variables
