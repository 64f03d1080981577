-- Which procedures of an action run. Source: JESD71, ACTION: an OPTIONAL procedure runs only if it is asked for, and a
-- RECOMMENDED one unless it is left out. That a name has to be that of such a procedure is this profile's rule.
use Rattle.std.specs.Prelude.{ℕ, List, [], ◌∷◌, Bool, true, false, not, ◌&&◌, Option, Some, None, if◌then◌else◌, map}
use Rattle.std.specs.List.{filter, list_any, list_all}
use Rattle.std.specs.Str.{bytes_eq}
use Rattle.stapl_syntax.specs.declared.statement.ItemChoice.{ItemChoice}
use Rattle.stapl_syntax.specs.declared.statement.ItemChoice.TheVariants.{Optional, Recommended}
use Rattle.stapl_syntax.specs.Trees.{ItemTree, BodyTree, action, StmtTree}
use Rattle.stapl_meaning.specs.Scopes.{Played, procedure_number}

-- the name is one of these
abbrev pub is_one_of : List (List ℕ) → List ℕ → Bool
is_one_of names name = list_any (λ other. bytes_eq other name) names

-- an item of this name runs, if these names are asked for and these are left out; one without a choice always does
abbrev pub runs_by : Option ItemChoice → List ℕ → List (List ℕ) → List (List ℕ) → Bool
runs_by None name asked skipped = true
runs_by (Some Optional) name asked skipped = is_one_of asked name
runs_by (Some Recommended) name asked skipped = not (is_one_of skipped name)

abbrev pub item_runs : List (List ℕ) → List (List ℕ) → ItemTree → Bool
item_runs asked skipped item = runs_by item.1 item.0 asked skipped

-- the procedure that an item of an action names, by number
abbrev pub item_procedure : Played → ItemTree → ℕ
item_procedure program item = procedure_number program.pieces item.0

-- the procedures that run, by number, in the order of their items
abbrev pub procedures_run : Played → List (List ℕ) → List (List ℕ) → List ItemTree → List ℕ
procedures_run program asked skipped items = map (item_procedure program) (filter (item_runs asked skipped) items)

-- an item has this choice
abbrev pub is_choice : ItemChoice → Option ItemChoice → Bool
is_choice Optional (Some Optional) = true
is_choice Recommended (Some Recommended) = true
is_choice _ _ = false

-- each of these names is that of an item with this choice
abbrev pub are_choices : ItemChoice → List ItemTree → List (List ℕ) → Bool
are_choices choice items names =
    list_all (λ name. list_any (λ (item : ItemTree). is_choice choice item.1 && bytes_eq name item.0) items) names

-- What a choice comes to: there is no such action, a name cannot be chosen, or these procedures run.
pub data Choice : Type 0 where
  no_action : Choice
  bad_choice : Choice
  chosen : (procedures : List ℕ) → Choice

-- the items of the action of this name: of this statement, or of others
abbrev pub items_before : BodyTree → List ℕ → Option (List ItemTree) → Option (List ItemTree)
items_before (action own text items) name others = if bytes_eq name own then Some items else others
items_before _ name others = others

abbrev pub items_from : List StmtTree → List ℕ → Option (List ItemTree)
items_from [] name = None
items_from (st ∷ rest) name = items_before st.body name (items_from rest name)

-- the choice among these items, if there are any
abbrev pub choice_among : Played → Option (List ItemTree) → List (List ℕ) → List (List ℕ) → Choice
choice_among program None asked skipped = no_action
choice_among program (Some items) asked skipped =
    if are_choices Optional items asked && are_choices Recommended items skipped
    then chosen (procedures_run program asked skipped items) else bad_choice

-- the choice in the action of this name, if these names are asked for and these are left out
abbrev pub choice_of : Played → List ℕ → List (List ℕ) → List (List ℕ) → Choice
choice_of program name asked skipped = choice_among program (items_from program.pieces name) asked skipped
