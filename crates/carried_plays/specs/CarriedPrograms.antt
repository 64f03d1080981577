-- A program that carries its own padding (JESD71, PREIR, POSTIR, PREDR, POSTDR): a procedure that sets it, which each
-- action runs first. The form is this profile's.
use Rattle.std.specs.Prelude.{◌≡◌, ℕ, pos, true, if◌then◌else◌, List, [], ◌∷◌, ◌++◌, map, None}
use Rattle.stapl_lexer.specs.declared.terminal.Padding.{Padding}
use Rattle.stapl_lexer.specs.declared.terminal.Padding.TheVariants as paddings
use Rattle.stapl_syntax.specs.Trees.{number, BodyTree, action, procedure, end_procedure, pad, StmtTree}
use Rattle.stapl_syntax.specs.Rules.{is_crc}
use Rattle.canonical_text.specs.Examples.{bare_statement}
use Rattle.dev_card.specs.Padding.{BaseLengths}
use Rattle.stapl_meaning.specs.Scopes.{as_played, procedures_in}
use Rattle.stapl_meaning.specs.Choices.{Choice, no_action, bad_choice, chosen}

-- a padding of so many ones
abbrev pub ones_padding : Padding → ℕ → StmtTree
ones_padding which n = bare_statement (pad which (number (pos n)) None)

-- the procedure of this name, which sets the four paddings: six pieces
abbrev pub padding_procedure : List ℕ → BaseLengths → List StmtTree
padding_procedure name base =
    bare_statement (procedure name None)
    ∷ ones_padding paddings.PreInstruction base.ir_pre ∷ ones_padding paddings.PostInstruction base.ir_post
    ∷ ones_padding paddings.PreData base.dr_pre ∷ ones_padding paddings.PostData base.dr_post
    ∷ bare_statement end_procedure ∷ []

-- an action with this procedure as its first item, which has no choice; other statements are as they are
abbrev pub body_with_item : List ℕ → BodyTree → BodyTree
body_with_item name (action own text items) = action own text ((name, None) ∷ items)
body_with_item name body = body

abbrev pub with_item : List ℕ → StmtTree → StmtTree
with_item name st = record { label = st.label; body = body_with_item name st.body }

-- the pieces before the CRC, and the rest from it on
abbrev pub before_crc : List StmtTree → List StmtTree
before_crc [] = []
before_crc (st ∷ rest) = if is_crc st.body then [] else st ∷ before_crc rest

abbrev pub from_crc : List StmtTree → List StmtTree
from_crc [] = []
from_crc (st ∷ rest) = if is_crc st.body then st ∷ rest else from_crc rest

-- the pieces of the program before its CRC, each action with the new item, then the procedure, and then this end
abbrev pub carried_with : List ℕ → BaseLengths → List StmtTree → List StmtTree → List StmtTree
carried_with name base end program = map (with_item name) (before_crc program) ++ (padding_procedure name base ++ end)

-- The program that carries this padding in the procedure of this name. Its own CRC, if it has one, is the end; the
-- canonical text of these statements has the right value there.
abbrev pub carried_program : List ℕ → BaseLengths → List StmtTree → List StmtTree
carried_program name base program = carried_with name base (from_crc program) program

-- what a program may end with: nothing, or a CRC
abbrev pub IsEnd : List StmtTree → Type 0
IsEnd [] = Unit {0}
IsEnd (st ∷ []) = is_crc st.body ≡ true
IsEnd (st ∷ x ∷ rest) = ⊥

-- the number of the new procedure: it is the last one
abbrev pub padding_number : List StmtTree → ℕ
padding_number program = procedures_in (as_played program).pieces

-- what a choice comes to if the procedure of this number runs first
abbrev pub choice_with : ℕ → Choice → Choice
choice_with p no_action = no_action
choice_with p bad_choice = bad_choice
choice_with p (chosen procedures) = chosen (p ∷ procedures)
