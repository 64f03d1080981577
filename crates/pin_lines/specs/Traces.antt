-- Texts with lines of clocks that a board answers so (IEEE 1149.1, test access port).
use Rattle.std.specs.Prelude.{◌≡◌, ℕ, Bool, true, false, List, [], take, drop}
use Rattle.dev_card.specs.Card.{Card}
use Rattle.dev_card.specs.Board.{clocks_of, board_after}
use Rattle.dev_card.specs.FarEnds.{FarEnd, Told, Heard}
use Rattle.dev_card.specs.Reports.{report_of}
use Rattle.pin_lines.specs.PinLines.{has_bad_line, pins_in, inputs_of_pins, clocks_of_pins}

-- From this board on, TDO of each clock is the board's TDO before the clock with this TMS and TDI.
abbrev pub Agrees : List Card → List ℕ → Type 0
Agrees board digits = clocks_of board (inputs_of_pins digits) ≡ clocks_of_pins digits

-- the board after these clocks
abbrev pub board_led_to : List Card → List ℕ → List Card
board_led_to board digits = board_after board (inputs_of_pins digits)

-- The text has no bad line, and the board answers its clocks so.
pub record IsGoodTrace (board : List Card) (text : List ℕ) : Type 0 where
  pub good : has_bad_line text ≡ false
  pub agrees : Agrees board (pins_in text)

-- The text has no bad line. A board answers its clocks so, and they lead to what stands at this far end.
pub record IsTraceOf (board : List Card) (text : List ℕ) (far : FarEnd) : Type 0 where
  pub good : has_bad_line text ≡ false
  pub agrees : Agrees board (pins_in text)
  pub leads : far ≡ Told (board_led_to board (pins_in text))

-- the report of so many devices after so many others, if it is asked for
abbrev pub reported_cards : ℕ → ℕ → FarEnd → List Card
reported_cards first count (Told cards) = take count (drop first cards)
reported_cards first count (Heard answers) = []

abbrev pub asked_lines : Bool → ℕ → ℕ → FarEnd → List ℕ
asked_lines false first count far = []
asked_lines true first count far = report_of (reported_cards first count far)
