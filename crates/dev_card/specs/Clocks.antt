-- The clocks of moves, stays and scans (JESD71, STATE, WAIT, IRSCAN and DRSCAN), and the board after them. TDI is 0
-- outside the shift clocks of a scan. The ways between states are this profile's.
use Rattle.std.specs.Prelude.{◌≡◌, ◌&&◌, ℕ, Bool, true, false, List, [], ◌∷◌, ◌++◌, map, replicate}
use Rattle.tap_states.specs.declared.Tap.{Tap}
use Rattle.tap_states.specs.declared.Tap.TheVariants.{Reset, Idle}
use Rattle.tap_states.specs.Path.{path_of}
use Rattle.dev_card.specs.Card.{Card, in_state}
use Rattle.dev_card.specs.Board.{Input, Clock, clock_with, clocks_of, board_after}
use Rattle.dev_card.specs.Line.{exit_state, pause_state, line_of, cut_back, shifted_out, left_in}

-- TMS values with TDI 0
abbrev pub with_zero : List Bool → List Input
with_zero ms = map (λ m. record { tms = m; tdi = false }) ms

-- a move: the path between the two states, which `tap_states` holds in a table (its law: what the table holds are the
-- paths)
abbrev pub move_inputs : Tap → Tap → List Input
move_inputs at to = with_zero (path_of at to)

-- TMS while the controllers rest: 1 in Test-Logic-Reset, 0 elsewhere
abbrev pub rest_tms : Tap → Bool
rest_tms Reset = true
rest_tms _ = false

-- a stay of n clocks in a stable state
abbrev pub stay_inputs : Tap → ℕ → List Input
stay_inputs at n = with_zero (replicate n (rest_tms at))

-- the entry list of a scan: TMS from a stable state through the capture to the shift, true for a scan of the
-- instruction registers
abbrev pub entry_tms : Tap → Bool → List Bool
entry_tms Reset false = false ∷ true ∷ false ∷ false ∷ []
entry_tms Reset true = false ∷ true ∷ true ∷ false ∷ false ∷ []
entry_tms Idle false = true ∷ false ∷ false ∷ []
entry_tms Idle true = true ∷ true ∷ false ∷ false ∷ []
entry_tms _ false = true ∷ true ∷ true ∷ false ∷ false ∷ []
entry_tms _ true = true ∷ true ∷ true ∷ true ∷ false ∷ false ∷ []

abbrev pub entry_inputs : Tap → Bool → List Input
entry_inputs at ir = with_zero (entry_tms at ir)

-- bits with TMS 0, which keeps the controllers shifting
abbrev pub still_inputs : List Bool → List Input
still_inputs bits = map (λ b. record { tms = false; tdi = b }) bits

-- what goes in at the shift clocks of a scan: the bits with TMS 0, the last one with TMS 1
abbrev pub shift_inputs : List Bool → List Input
shift_inputs [] = []
shift_inputs (b ∷ []) = record { tms = true; tdi = b } ∷ []
shift_inputs (b ∷ c ∷ bs) = record { tms = false; tdi = b } ∷ shift_inputs (c ∷ bs)

-- whether no bit is left
abbrev pub is_nil : List Bool → Bool
is_nil [] = true
is_nil (b ∷ bs) = false

-- what goes in at the shift clocks of one part of a scan, true if the scan ends with it: at its last bit TMS is 1 then
abbrev pub part_inputs : Bool → List Bool → List Input
part_inputs last [] = []
part_inputs last (b ∷ bs) = record { tms = last && is_nil bs; tdi = b } ∷ part_inputs last bs

-- the clock to the pause state, and the move from there to the stop state
abbrev pub pause_inputs : List Input
pause_inputs = with_zero (false ∷ [])

abbrev pub stop_inputs : Bool → Tap → List Input
stop_inputs ir stop = move_inputs (pause_state ir) stop

-- all that goes in at a scan of these bits, paddings included
abbrev pub scan_inputs : Tap → Bool → Tap → List Bool → List Input
scan_inputs at ir stop bits = entry_inputs at ir ++ (shift_inputs bits ++ (pause_inputs ++ stop_inputs ir stop))

-- inputs with the TDO bits that are seen at them
abbrev pub clocks_with : List Input → List Bool → List Clock
clocks_with [] out = []
clocks_with (i ∷ is) [] = []
clocks_with (i ∷ is) (b ∷ out) = clock_with i b ∷ clocks_with is out

-- the board at the first shift clock of a scan
abbrev pub at_shift : Tap → Bool → List Card → List Card
at_shift at ir cs = board_after cs (entry_inputs at ir)

-- The shift clocks of a scan by the board's line, with no step of a device: TDI are the bits, TDO is what comes out of
-- the line, and in the end every card has its part of what stays in it, and its controller in the exit state.
abbrev pub shift_clocks : Bool → List Card → List Bool → List Clock
shift_clocks ir cs bits = clocks_with (shift_inputs bits) (shifted_out (line_of ir cs) bits)

abbrev pub board_shifted : Bool → List Card → List Bool → List Card
board_shifted ir cs bits = map (in_state (exit_state ir)) (cut_back ir cs (left_in (line_of ir cs) bits))

-- the board from the shift clocks of a scan on to the pause state
abbrev pub at_pause : Bool → List Card → List Bool → List Card
at_pause ir cs bits = board_after (board_shifted ir cs bits) pause_inputs

-- the clocks of a scan of these bits
abbrev pub scan_clocks : Tap → Bool → Tap → List Card → List Bool → List Clock
scan_clocks at ir stop cs bits =
    clocks_of cs (entry_inputs at ir) ++ (shift_clocks ir (at_shift at ir cs) bits
    ++ (clocks_of (board_shifted ir (at_shift at ir cs) bits) pause_inputs ++ clocks_of (at_pause ir (at_shift at ir cs) bits) (stop_inputs ir stop)))

-- the board after a scan of these bits
abbrev pub board_scanned : Tap → Bool → Tap → List Card → List Bool → List Card
board_scanned at ir stop cs bits = board_after (at_pause ir (at_shift at ir cs) bits) (stop_inputs ir stop)

-- clocks with TMS 0 on a board that shifts, made one after another, shift its line
pub record StaysShifting (ir : Bool) (cs : List Card) (bits : List Bool) : Type 0 where
  pub clocks : clocks_of cs (still_inputs bits) ≡ clocks_with (still_inputs bits) (shifted_out (line_of ir cs) bits)
  pub board : board_after cs (still_inputs bits) ≡ cut_back ir cs (left_in (line_of ir cs) bits)

-- the shift clocks of a board, made one after another, are those of its line
pub record ShiftsAsLine (ir : Bool) (cs : List Card) (bits : List Bool) : Type 0 where
  pub clocks : clocks_of cs (shift_inputs bits) ≡ shift_clocks ir cs bits
  pub board : board_after cs (shift_inputs bits) ≡ board_shifted ir cs bits

-- so are all clocks of a scan
pub record ScansAsLine (at : Tap) (ir : Bool) (stop : Tap) (cs : List Card) (bits : List Bool) : Type 0 where
  pub clocks : clocks_of cs (scan_inputs at ir stop bits) ≡ scan_clocks at ir stop cs bits
  pub board : board_after cs (scan_inputs at ir stop bits) ≡ board_scanned at ir stop cs bits
