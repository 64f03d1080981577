-- What answers the clocks of a cable, at its far end: a board that is told, or TDO bits that are still to be heard. So
-- what is said of clocks is said of any cable (IEEE 1149.1, test access port).
use Rattle.std.specs.Prelude.{Bool, false, List, [], ◌∷◌, Option, None, Some}
use Rattle.dev_card.specs.Card.{Card}
use Rattle.dev_card.specs.Board.{Input, Clock, clock_with, clocks_of, board_after}

pub data FarEnd : Type 0 where
  Told : (cards : List Card) → FarEnd
  Heard : (answers : List Bool) → FarEnd

-- the next of the TDO bits that are still to be heard, and those after it; where none is left it is 0
abbrev pub next_heard : List Bool → Bool
next_heard [] = false
next_heard (b ∷ bs) = b

abbrev pub then_heard : List Bool → List Bool
then_heard [] = []
then_heard (b ∷ bs) = bs

-- the clocks under a list of inputs, and the TDO bits that are left
abbrev pub heard_clocks : List Bool → List Input → List Clock
heard_clocks bs [] = []
heard_clocks bs (i ∷ is) = clock_with i (next_heard bs) ∷ heard_clocks (then_heard bs) is

abbrev pub heard_after : List Bool → List Input → List Bool
heard_after bs [] = bs
heard_after bs (i ∷ is) = heard_after (then_heard bs) is

-- the same of a far end: a board that is told is clocked
abbrev pub far_clocks : FarEnd → List Input → List Clock
far_clocks (Told cs) is = clocks_of cs is
far_clocks (Heard bs) is = heard_clocks bs is

abbrev pub far_after : FarEnd → List Input → FarEnd
far_after (Told cs) is = Told (board_after cs is)
far_after (Heard bs) is = Heard (heard_after bs is)

-- the far end of a cable: its board, where that is told, or these TDO bits
abbrev pub far_end : Option (List Card) → List Bool → FarEnd
far_end (Some cs) heard = Told cs
far_end None heard = Heard heard
