-- Which rules a statement breaks that may not stand at its place (JESD71, program structure, variables, stop states).
-- That each name is judged by all pieces, the order of some statements, and the limits are this profile's.
use Rattle.std.specs.Prelude.{ℕ, ◌+◌, nat_lt, nat_eq, nat_abs, List, [], ◌∷◌, ◌++◌, length, Bool, true, false, not, ◌&&◌, ◌||◌, if◌then◌else◌, Option, None, Some, is_some, is_none, sum_by, unwrap_or}
use Rattle.std.specs.List.{list_any, list_all}
use Rattle.std.specs.Option.{option_map_or, option_to_list}
use Rattle.std.specs.Map.{lookup}
use Rattle.std.specs.Str.{bytes_eq}
use Rattle.stapl_lexer.specs.declared.reason.Reason.{Reason}
use Rattle.stapl_lexer.specs.declared.reason.Reason.TheVariants as reasons
use Rattle.stapl_syntax.specs.declared.names.VarKind.{VarKind}
use Rattle.stapl_syntax.specs.declared.names.VarKind.TheVariants as kinds
use Rattle.stapl_syntax.specs.declared.names.Declaration.{Declaration}
use Rattle.stapl_syntax.specs.declared.names.Block.{Block}
use Rattle.stapl_syntax.specs.declared.names.Key.{Key}
use Rattle.stapl_syntax.specs.declared.names.Found.{Found}
use Rattle.stapl_syntax.specs.declared.names.Found.TheVariants as found
use Rattle.stapl_syntax.specs.Trees.{BodyTree, note, action, procedure, data_block, crc, end_data, end_procedure, integer_array, if_then, stop, state_list, wait_cycles, wait_usec, StmtTree}
use Rattle.stapl_syntax.specs.Names.{Numbered, declaration, inside_after, block_of, action_of, variable_of, label_of, key_eq, Names, names_of, block_named, found_from, kind_of_found, has_label}
use Rattle.stapl_syntax.specs.Mentions.{variables_named, procedures_named, blocks_used, labels_named}
use Rattle.stapl_syntax.specs.Kinds.{VarKinds, operands_suit}

-- Order.

abbrev pub is_action : BodyTree → Bool
is_action (action name text items) = true
is_action _ = false

abbrev pub is_block : BodyTree → Bool
is_block (procedure name uses) = true
is_block (data_block name) = true
is_block _ = false

abbrev pub is_crc : BodyTree → Bool
is_crc (crc n) = true
is_crc _ = false

-- What stood before a piece: the block that is open, and whether an ACTION, a PROCEDURE or DATA, and a CRC stood there.
pub record Place : Type 0 where
  pub in_procedure : Bool
  pub in_data : Bool
  pub after_action : Bool
  pub after_block : Bool
  pub after_crc : Bool

-- it stands outside blocks
abbrev pub is_outside : Place → Bool
is_outside p = not (p.in_procedure || p.in_data)

-- a declaration stands in a DATA block only without a label; all other statements of procedures stand in a procedure
abbrev pub may_stand_inside : Place → Option (List ℕ) → Bool → Bool
may_stand_inside p None true = p.in_procedure || p.in_data
may_stand_inside p label is_declaration = p.in_procedure

-- the statement may stand there
abbrev pub may_stand : Place → Option (List ℕ) → BodyTree → Bool
may_stand p label (note key text) = is_outside p && not (p.after_action || p.after_block || p.after_crc)
may_stand p label (action name text items) = is_outside p && not (p.after_block || p.after_crc)
may_stand p label (procedure name uses) = is_outside p && not p.after_crc
may_stand p label (data_block name) = is_outside p && not p.after_crc
may_stand p label (crc n) = is_outside p && not p.after_crc
may_stand p label end_procedure = p.in_procedure
may_stand p label end_data = p.in_data
may_stand p label body = may_stand_inside p label (is_some (declaration body))

abbrev pub is_data_block : Option Block → Bool
is_data_block None = false
is_data_block (Some block) = block.is_data

-- the kind of a block is that of the first piece that declares it
abbrev pub in_data_block : Names → Option (List ℕ) → Bool
in_data_block names None = false
in_data_block names (Some name) = is_data_block (block_named names name)

abbrev pub any_body : (BodyTree → Bool) → List Numbered → Bool
any_body test statements = list_any (λ s. test s.statement.body) statements

-- the place after these statements
abbrev pub place_after : Names → List Numbered → Place
place_after names before = record {
  in_procedure = is_some (inside_after before) && not (in_data_block names (inside_after before));
  in_data = in_data_block names (inside_after before);
  after_action = any_body is_action before;
  after_block = any_body is_block before;
  after_crc = any_body is_crc before;
}

-- Names.

-- a key of this entry, if there is one, is among those that are declared
abbrev pub is_again : {K V : Type 0} → (K → Bool) → Option (K × V) → Bool
is_again known None = false
is_again known (Some e) = known e.0

-- what some statements declare
pub record Declared : Type 0 where
  pub block : List ℕ → Bool
  pub action : List ℕ → Bool
  pub variable : Key → Bool
  pub label : Key → Bool

abbrev pub declared_in : Names → Declared
declared_in names = record {
  block = λ name. is_some (lookup (bytes_eq name) names.blocks);
  action = λ name. is_some (lookup (bytes_eq name) names.actions);
  variable = λ key. is_some (lookup (key_eq key) names.variables);
  label = λ key. is_some (lookup (key_eq key) names.labels);
}

-- the statement declares again what is declared, if this block is open
abbrev pub declares_again : Declared → Option (List ℕ) → StmtTree → Bool
declares_again earlier now st =
    is_again earlier.block (block_of now 0 st) || is_again earlier.action (action_of now 0 st)
    || is_again earlier.variable (variable_of now 0 st) || is_again earlier.label (label_of now 0 st)

-- What is known of names at a piece: what those of variables stand for, the blocks, and the labels of the procedure.
pub record Known : Type 0 where
  pub found : List ℕ → Found
  pub kind : VarKinds
  pub block : List ℕ → Option Block
  pub label : List ℕ → Bool

-- the same from all names of a program, if this block is open
abbrev pub known_from : Names → Option (List ℕ) → Known
known_from names inside = record {
  found = found_from names inside;
  kind = λ name. kind_of_found names (found_from names inside name);
  block = block_named names;
  label = has_label names inside;
}

abbrev pub is_absent : Found → Bool
is_absent found.Absent = true
is_absent _ = false

abbrev pub is_hidden : Found → Bool
is_hidden found.Hidden = true
is_hidden _ = false

-- it names a variable, block or label that no piece declares; a label counts only in its own procedure
abbrev pub names_undefined : Known → BodyTree → Bool
names_undefined known body =
    list_any (λ name. is_absent (known.found name)) (variables_named body)
    || list_any (λ name. is_none (known.block name)) (procedures_named body ++ blocks_used body)
    || list_any (λ name. not (known.label name)) (labels_named body)

-- it names a variable that only other blocks declare
abbrev pub names_hidden : Known → BodyTree → Bool
names_hidden known body = list_any (λ name. is_hidden (known.found name)) (variables_named body)

-- Each procedure that it names is one, and its operands have the kinds that it wants.
abbrev pub is_well_kinded : Known → BodyTree → Bool
is_well_kinded known body =
    list_all (λ name. not (is_data_block (known.block name))) (procedures_named body) && operands_suit known.kind body

-- Stop states.

-- RESET, IDLE, DRPAUSE and IRPAUSE, by their numbers
abbrev pub is_stable : ℕ → Bool
is_stable state = nat_eq state 0 || nat_eq state 1 || nat_eq state 6 || nat_eq state 13

abbrev pub last_of : List ℕ → List ℕ
last_of [] = []
last_of (x ∷ []) = x ∷ []
last_of (x ∷ y ∷ xs) = last_of (y ∷ xs)

-- the states of a statement in which the test logic stays: a stop state, those of WAIT, the last of STATE
abbrev pub stop_states : BodyTree → List ℕ
stop_states (stop register state) = state ∷ []
stop_states (state_list states) = last_of states
stop_states (wait_cycles state cycles usec last) = option_to_list state ++ option_to_list last
stop_states (wait_usec state usec last) = option_to_list state ++ option_to_list last
stop_states (if_then e body) = stop_states body
stop_states _ = []

abbrev pub stops_unstable : BodyTree → Bool
stops_unstable body = list_any (λ state. not (is_stable state)) (stop_states body)

-- Sizes.

abbrev pub is_boolean : VarKind → Bool
is_boolean kinds.Boolean = true
is_boolean kinds.BooleanArray = true
is_boolean _ = false

-- how many elements of BOOLEAN variables a statement declares, and of INTEGER ones; a scalar is one
abbrev pub boolean_elements : BodyTree → ℕ
boolean_elements body = option_map_or (λ d. if is_boolean d.kind then nat_abs d.size else 0) (declaration body) 0

abbrev pub integer_elements : BodyTree → ℕ
integer_elements body = option_map_or (λ d. if is_boolean d.kind then 0 else nat_abs d.size) (declaration body) 0

-- how many elements some statements declare
pub record Totals : Type 0 where
  pub booleans : ℕ
  pub integers : ℕ

abbrev pub totals_of : List Numbered → Totals
totals_of statements = record {
  booleans = sum_by (λ s. boolean_elements s.statement.body) statements;
  integers = sum_by (λ s. integer_elements s.statement.body) statements;
}

-- the most elements of one BOOLEAN array, of all BOOLEAN variables, and of all INTEGER variables
abbrev pub boolean_limit : ℕ
boolean_limit = 4194304

abbrev pub booleans_limit : ℕ
booleans_limit = 16777216

abbrev pub integers_limit : ℕ
integers_limit = 1048576

-- a declaration has no element, or passes a limit alone or with those before it
abbrev pub is_too_large : Totals → Declaration → Bool
is_too_large before d =
    nat_eq (nat_abs d.size) 0
    || (if is_boolean d.kind then nat_lt boolean_limit (nat_abs d.size) || nat_lt booleans_limit (before.booleans + nat_abs d.size)
    else nat_lt integers_limit (before.integers + nat_abs d.size))

-- an INTEGER array has more initial values than elements
abbrev pub has_too_many_values : BodyTree → Bool
has_too_many_values (integer_array name size values) = nat_lt (nat_abs size) (length (unwrap_or values []))
has_too_many_values _ = false

abbrev pub passes_a_limit : Totals → BodyTree → Bool
passes_a_limit before body = option_map_or (is_too_large before) (declaration body) false || has_too_many_values body

-- The table of reasons.

-- what a statement is judged by: where it stands, the open block, what earlier pieces declare, what all pieces declare,
-- and how many elements stand before it
pub record Facts : Type 0 where
  pub place : Place
  pub inside : Option (List ℕ)
  pub earlier : Declared
  pub known : Known
  pub before : Totals

-- the facts after these statements of a program with these names
abbrev pub facts_after : Names → List Numbered → Facts
facts_after all before = record {
  place = place_after all before;
  inside = inside_after before;
  earlier = declared_in (names_of before);
  known = known_from all (inside_after before);
  before = totals_of before;
}

-- a rule that this reason names is broken; one case for each row of the table of reasons that speaks of statements
abbrev pub breaks : Facts → StmtTree → Reason → Bool
breaks facts st reasons.Order = not (may_stand facts.place st.label st.body)
breaks facts st reasons.Duplicate = declares_again facts.earlier facts.inside st
breaks facts st reasons.Undefined = names_undefined facts.known st.body
breaks facts st reasons.NotVisible = names_hidden facts.known st.body
breaks facts st reasons.TypeMismatch = not (is_well_kinded facts.known st.body)
breaks facts st reasons.NotStable = stops_unstable st.body
breaks facts st reasons.SizeLimit = passes_a_limit facts.before st.body
breaks facts st _ = false
