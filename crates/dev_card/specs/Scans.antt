-- A scan as a whole (JESD71, IRSCAN and DRSCAN), from a stable state in which all controllers are: what goes in, its
-- clocks, the board after it, and what it captures, of a board, and of the clocks alone if nobody knows the board.
use Rattle.std.specs.Prelude.{◌≡◌, ◌≤◌, Bool, false, List, ◌++◌, length, drop}
use Rattle.tap_states.specs.declared.Tap.{Tap}
use Rattle.dev_card.specs.Card.{Card}
use Rattle.dev_card.specs.Board.{Input, Clock, tdos}
use Rattle.dev_card.specs.Line.{line_of, shifted_out}
use Rattle.dev_card.specs.Padding.{Paddings, program_bits, padded, at_data, base_pre_of, base_post_of}
use Rattle.dev_card.specs.Clocks.{entry_tms, scan_inputs, scan_clocks, board_scanned, at_shift}
use Rattle.dev_card.specs.Sound.{AllBypass}
use Rattle.dev_card.specs.PaddedScan.{IsOneScan, without_base, base_of_cards}

-- a scan of a board: true for the instruction registers, the paddings, the bits of the data, and the stop state
pub record BoardScan : Type 0 where
  pub ir : Bool
  pub paddings : Paddings
  pub bits : List Bool
  pub stop : Tap

-- all its bits, in the order of shifting
abbrev pub scan_bits : BoardScan → List Bool
scan_bits s = padded s.paddings s.bits

-- what goes in at its clocks
abbrev pub inputs_of_scan : Tap → BoardScan → List Input
inputs_of_scan at s = scan_inputs at s.ir s.stop (scan_bits s)

-- its clocks on a board, and the board after them
abbrev pub clocks_of_scan : Tap → BoardScan → List Card → List Clock
clocks_of_scan at s cs = scan_clocks at s.ir s.stop cs (scan_bits s)

abbrev pub board_after_scan : Tap → BoardScan → List Card → List Card
board_after_scan at s cs = board_scanned at s.ir s.stop cs (scan_bits s)

-- What it captures, as many bits as its data: of what comes out of the board's line the part at the data's places.
abbrev pub captured_bits : Tap → BoardScan → List Card → List Bool
captured_bits at s cs =
    at_data s.paddings (length s.bits) (shifted_out (line_of s.ir (at_shift at s.ir cs)) (scan_bits s))

-- The same by the clocks of the scan, whatever answered them: TDO at those shift clocks at which the data went in.
abbrev pub captured_from : Tap → BoardScan → List Clock → List Bool
captured_from at s clocks = at_data s.paddings (length s.bits) (drop (length (entry_tms at s.ir)) (tdos clocks))

-- the same scan without base padding
abbrev pub scan_alone : BoardScan → BoardScan
scan_alone s = record s { paddings = without_base s.paddings }

-- a scan with base padding for the cards before and after a run of neighbours
pub record HasBaseAround (before after : List Card) (s : BoardScan) : Type 0 where
  pub pre : s.paddings.base_pre ≡ base_pre_of s.ir (base_of_cards before after)
  pub post : s.paddings.base_post ≡ base_post_of s.ir (base_of_cards before after)

-- These bits were captured by a scan of a run of neighbours in a board. It is the scan of the run alone, if the other
-- cards have BYPASS selected or it is a scan of the instruction registers. If it is short enough, the bits are those
-- that it captures of the run alone.
pub record IsScanOfRun (at : Tap) (before run after : List Card) (s : BoardScan) (captured : List Bool) : Type 0 where
  pub one : IsOneScan at s.ir before run after s.paddings s.bits
  pub same_captured : (s.ir ≡ false → AllBypass one.front × AllBypass one.back) →
      length (program_bits s.paddings s.bits) ≤ length (line_of s.ir (at_shift at s.ir run)) →
      captured ≡ captured_bits at (scan_alone s) run

-- the same of each run of a board around which this is the base padding
abbrev pub IsScanOfEachRun : Tap → BoardScan → List Bool → List Card → Type 0
IsScanOfEachRun at s captured cs =
    (before run after : List Card) → cs ≡ before ++ (run ++ after) → HasBaseAround before after s →
    IsScanOfRun at before run after s captured
