-- The line of a board: the shift registers of its cards, joined between TDI and TDO (IEEE 1149.1, clause 6,
-- controller states Shift-DR and Shift-IR). Shifting bits into it
-- is one equation of lists. One Bool chooses the line: true for the instruction registers, false for the data
-- registers.
use Rattle.std.specs.Prelude.{◌≡◌, ◌<◌, Bool, true, false, List, [], ◌∷◌, ◌++◌, length, take, drop}
use Rattle.tap_states.specs.declared.Tap.{Tap}
use Rattle.tap_states.specs.declared.Tap.TheVariants.{DrShift, DrExit1, DrPause, IrShift, IrExit1, IrPause}
use Rattle.dev_card.specs.Card.{Card}
use Rattle.dev_card.specs.Board.{EachCard}

-- the list that is shifted: of the instruction, or of the selected data register
abbrev pub list_of : Bool → Card → List Bool
list_of true c = c.ir_list
list_of false c = c.dr_list

abbrev pub with_list : Bool → Card → List Bool → Card
with_list true c bits = record c { ir_list = bits }
with_list false c bits = record c { dr_list = bits }

-- the states of a scan in which the line is shifted, is left, and rests
abbrev pub shift_state : Bool → Tap
shift_state true = IrShift
shift_state false = DrShift

abbrev pub exit_state : Bool → Tap
exit_state true = IrExit1
exit_state false = DrExit1

abbrev pub pause_state : Bool → Tap
pause_state true = IrPause
pause_state false = DrPause

-- the lists of a board, joined in its order
abbrev pub line_of : Bool → List Card → List Bool
line_of ir [] = []
line_of ir (c ∷ cs) = list_of ir c ++ line_of ir cs

-- a line cut back into the cards, by the lengths of their old lists
abbrev pub cut_back : Bool → List Card → List Bool → List Card
cut_back ir [] line = []
cut_back ir (c ∷ cs) line =
    with_list ir c (take (length (list_of ir c)) line) ∷ cut_back ir cs (drop (length (list_of ir c)) line)

-- what comes out of a line when bits are shifted in, as many as there are bits, and what stays in it
abbrev pub shifted_out : List Bool → List Bool → List Bool
shifted_out line bits = take (length bits) (line ++ bits)

abbrev pub left_in : List Bool → List Bool → List Bool
left_in line bits = drop (length bits) (line ++ bits)

-- a card shifts, and has a list to shift
pub record IsShifting (ir : Bool) (c : Card) : Type 0 where
  pub state : c.tap ≡ shift_state ir
  pub some : 0 < length (list_of ir c)

abbrev pub AllShift : Bool → List Card → Type 0
AllShift ir cs = EachCard (IsShifting ir) cs
