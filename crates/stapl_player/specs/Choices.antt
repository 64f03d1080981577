-- Which procedures of an action of a code run. Source: JESD71, ACTION: an OPTIONAL procedure runs only if it is asked
-- for, and a RECOMMENDED one unless it is left out. That a name has to be that of such a procedure is this profile's
-- rule.
use Rattle.std.specs.Prelude.{ℕ, ◌==◌, ◌&&◌, ◌||◌, not, Bool, false, List, map, Option, None, Some, slice_get, if◌then◌else◌}
use Rattle.std.specs.List.{find, filter, list_any, list_all}
use Rattle.std.specs.Option.{option_map_or}
use Rattle.std.specs.Str.{bytes_eq}
use Rattle.stapl_meaning.specs.Choices.{Choice, no_action, bad_choice, chosen}
use Rattle.stapl_code.specs.declared.raw.ProcDef.{ProcDef}
use Rattle.stapl_code.specs.declared.raw.ItemDef.{ItemDef}
use Rattle.stapl_code.specs.declared.raw.ActionDef.{ActionDef}
use Rattle.stapl_code.specs.declared.raw.CodeLists.{CodeLists}

-- the flags of items: those that run only if they are asked for, and those that may be left out
abbrev pub optional : ℕ
optional = 1

abbrev pub recommended : ℕ
recommended = 2

-- whether the procedure of an item bears this name
abbrev pub bears : List ProcDef → List ℕ → ItemDef → Bool
bears procedures name item = option_map_or (λ (p : ProcDef). bytes_eq name p.name) (slice_get procedures item.procedure) false

-- whether it bears one of these names
abbrev pub bears_one : List ProcDef → List (List ℕ) → ItemDef → Bool
bears_one procedures names item = list_any (λ name. bears procedures name item) names

-- whether an item runs, if these names are asked for and these are left out
abbrev pub runs : List ProcDef → List (List ℕ) → List (List ℕ) → ItemDef → Bool
runs procedures asked skipped item =
    (not (item.flag == optional) || bears_one procedures asked item)
    && (not (item.flag == recommended) || not (bears_one procedures skipped item))

-- the procedures that run, by number, in the order of their items
abbrev pub running : List ProcDef → List (List ℕ) → List (List ℕ) → List ItemDef → List ℕ
running procedures asked skipped items = map (λ item. item.procedure) (filter (runs procedures asked skipped) items)

-- whether each name is that of the procedure of an item with this flag
abbrev pub are_offered : List ProcDef → ℕ → List ItemDef → List (List ℕ) → Bool
are_offered procedures flag items names =
    list_all (λ name. list_any (λ item. (item.flag == flag) && bears procedures name item) items) names

-- the choice of an action that is found, or not
abbrev pub choice_in : List ProcDef → Option ActionDef → List (List ℕ) → List (List ℕ) → Choice
choice_in procedures None asked skipped = no_action
choice_in procedures (Some action) asked skipped =
    if are_offered procedures optional action.items asked && are_offered procedures recommended action.items skipped
    then chosen (running procedures asked skipped action.items) else bad_choice

-- the choice of the action of this name in a code
abbrev pub code_choice : CodeLists → List ℕ → List (List ℕ) → List (List ℕ) → Choice
code_choice code name asked skipped = choice_in code.procedures (find (λ (a : ActionDef). bytes_eq name a.name) code.actions) asked skipped
