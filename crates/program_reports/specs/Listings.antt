-- What `list` says of a program: its notes, and its actions with their procedures (JESD71, NOTE and ACTION). The format
-- is this tool's own.
use Rattle.std.specs.Prelude.{ℕ, List, [], ◌∷◌, ◌++◌, codes, Option, None, Some}
use Rattle.std.specs.List.{flat_map}
use Rattle.tool_io.specs.Texts.{labelled_text}
use Rattle.stapl_syntax.specs.declared.statement.ItemChoice.{ItemChoice}
use Rattle.stapl_syntax.specs.declared.statement.ItemChoice.TheVariants.{Optional, Recommended}
use Rattle.stapl_syntax.specs.Trees.{ItemTree, BodyTree, note, action, StmtTree}

-- the line of a note
abbrev pub note_line : List ℕ → List ℕ → List ℕ
note_line key text = labelled_text (codes "N ") key ++ labelled_text (codes " = ") text ++ 10 ∷ []

-- a text between quotes
abbrev pub quoted : List ℕ → List ℕ
quoted text = labelled_text (codes " \"") text ++ codes "\""

-- a label and a name
abbrev pub labelled_name : List ℕ → List ℕ → List ℕ
labelled_name label name = label ++ name

-- the text of an action, if it has one
abbrev pub action_text : Option (List ℕ) → List ℕ
action_text None = []
action_text (Some text) = quoted text

-- the line of an action
abbrev pub action_line : List ℕ → Option (List ℕ) → List ℕ
action_line name text = labelled_name (codes "A ") name ++ action_text text ++ 10 ∷ []

-- whether the procedure of an item is run
abbrev pub choice_word : Option ItemChoice → List ℕ
choice_word None = codes " required\n"
choice_word (Some Optional) = codes " optional\n"
choice_word (Some Recommended) = codes " recommended\n"

-- the line of an item
abbrev pub item_line : ItemTree → List ℕ
item_line item = labelled_name (codes "I ") item.0 ++ choice_word item.1

-- the line of an action, and those of its items
abbrev pub action_lines : List ℕ → Option (List ℕ) → List ItemTree → List ℕ
action_lines name text items = action_line name text ++ flat_map item_line items

-- the lines of a statement
abbrev pub lines_of : BodyTree → List ℕ
lines_of (note key text) = note_line key text
lines_of (action name text items) = action_lines name text items
lines_of _ = []

-- the lines of a program
abbrev pub list_text : List StmtTree → List ℕ
list_text program = flat_map (λ st. lines_of st.body) program
