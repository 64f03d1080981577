-- A wave: the wires of a test access port over time (IEEE 1149.1), as a Value Change Dump with four states (IEEE 1364,
-- value change dump files). That a microsecond is one step of time, that a clock takes two, and the names are this
-- profile's.
use Rattle.std.specs.Prelude.{ℕ, pos, ◌+◌, ◌/◌, ◌%◌, ◌==◌, ◌&&◌, Bool, true, false, List, [], ◌∷◌, ◌++◌, codes, Option, None, Some, if◌then◌else◌}
use Rattle.tool_io.specs.Texts.{number_line}
use Rattle.tap_states.specs.declared.Tap.{Tap}
use Rattle.tap_states.specs.Tap.{tap_number}
use Rattle.pin_lines.specs.PinLines.{input_of_pin, clock_of_pin}
use Rattle.wave_tool.specs.declared.wave.Levels.{Levels}
use Rattle.wave_tool.specs.Items.{Item, Clocked, Waited}
use Rattle.wave_tool.specs.States.{all_states, states_after, settled_state}

-- A wave up to a time: the levels of the wires, and the states in which the controllers may be.
pub record Wave : Type 0 where
  pub time : ℕ
  pub levels : Levels
  pub states : List Tap

-- the number that is shown of a state, or 16 if it is not known
abbrev pub shown_number : Option Tap → ℕ
shown_number (Some state) = tap_number state
shown_number None = 16

-- the level of a wire, as the dump has it
abbrev pub level_of : Bool → ℕ
level_of true = 49
level_of false = 48

-- The line of a wire with this identifier, where it changes.
abbrev pub wire_change : ℕ → ℕ → ℕ → List ℕ
wire_change id old new = if old == new then [] else new ∷ id ∷ 10 ∷ []

-- The state is shown by four wires, one for each bit of its number. This is the level of the one for the bit that counts
-- this many; it is unknown (x, 120) if the state is.
abbrev pub state_level : ℕ → ℕ → ℕ
state_level place n = if n == 16 then 120 else 48 + n / place % 2

abbrev pub state_wire : ℕ → ℕ → ℕ → ℕ → List ℕ
state_wire id place old new = wire_change id (state_level place old) (state_level place new)

abbrev pub state_change : ℕ → ℕ → List ℕ
state_change old new = state_wire 37 8 old new ++ state_wire 38 4 old new ++ state_wire 39 2 old new ++ state_wire 40 1 old new

-- the lines of all that changes
abbrev pub changes : Levels → Levels → List ℕ
changes old new =
    wire_change 33 old.tck new.tck ++ wire_change 34 old.tms new.tms ++ wire_change 35 old.tdi new.tdi
    ++ wire_change 36 old.tdo new.tdo
    ++ state_change old.state new.state

abbrev pub are_same : Levels → Levels → Bool
are_same old new =
    (old.tck == new.tck) && ((old.tms == new.tms) && ((old.tdi == new.tdi)
    && ((old.tdo == new.tdo) && (old.state == new.state))))

abbrev pub time_line : ℕ → List ℕ
time_line time = number_line (codes "#") (pos time)

-- what changes at a time, where something does
abbrev pub moment : ℕ → Levels → Levels → List ℕ
moment time old new = if are_same old new then [] else time_line time ++ changes old new

-- A clock: TCK goes to 0 with the clock's TMS, TDI and TDO, and a step later to 1, with the state after the clock. It
-- is known if the controllers can be in one alone.
abbrev pub low_levels : Levels → ℕ → Levels
low_levels old digit = record old {
  tck = 48;
  tms = level_of (input_of_pin digit).tms;
  tdi = level_of (input_of_pin digit).tdi;
  tdo = level_of (clock_of_pin digit).tdo;
}

abbrev pub states_clocked : List Tap → ℕ → List Tap
states_clocked states digit = states_after states (input_of_pin digit).tms

abbrev pub high_levels : Levels → List Tap → ℕ → Levels
high_levels old after digit = record (low_levels old digit) { tck = 49; state = shown_number (settled_state after) }

-- while nothing is clocked TCK is 0
abbrev pub rest_levels : Levels → Levels
rest_levels old = record old { tck = 48 }

-- what an item writes, and the wave after it
abbrev pub item_text : Wave → Item → List ℕ
item_text w (Clocked digit) =
    moment w.time w.levels (low_levels w.levels digit)
    ++ moment (w.time + 1) (low_levels w.levels digit) (high_levels w.levels (states_clocked w.states digit) digit)
item_text w (Waited usec) = moment w.time w.levels (rest_levels w.levels)

abbrev pub after_item : Wave → Item → Wave
after_item w (Clocked digit) =
    let after = states_clocked w.states digit in
    record { time = w.time + 2; levels = high_levels w.levels after digit; states = after }
after_item w (Waited usec) = record w { time = w.time + usec; levels = rest_levels w.levels }

-- the same of items, one after the other
abbrev pub items_text : Wave → List Item → List ℕ
items_text w [] = []
items_text w (item ∷ items) = item_text w item ++ items_text (after_item w item) items

abbrev pub after_items : Wave → List Item → Wave
after_items w [] = w
after_items w (item ∷ items) = after_items (after_item w item) items

-- before the first item TCK is 0, and nothing else is known (x, 120): the controllers may be in each state
abbrev pub first_wave : Wave
first_wave =
    record { time = 0; levels = record { tck = 48; tms = 120; tdi = 120; tdo = 120; state = 16 }; states = all_states }

-- the end of a dump: the time is told, and TCK is 0
abbrev pub end_text : Wave → List ℕ
end_text w = time_line w.time ++ changes w.levels (rest_levels w.levels)

-- the declarations of a dump, and the levels at time 0, before the first item
abbrev pub head_text : List ℕ
head_text =
    codes "$timescale 1 us $end\n$scope module jtag $end\n$var wire 1 ! TCK $end\n$var wire 1 \" TMS $end\n"
    ++ codes "$var wire 1 # TDI $end\n$var wire 1 $ TDO $end\n$var wire 1 % TAP3 $end\n$var wire 1 & TAP2 $end\n"
    ++ codes "$var wire 1 ' TAP1 $end\n$var wire 1 ( TAP0 $end\n$upscope $end\n$enddefinitions $end\n#0\n"
    ++ codes "$dumpvars\n0!\nx\"\nx#\nx$\nx%\nx&\nx'\nx(\n$end\n"

-- the dump of some clocks and waits
abbrev pub wave_text : List Item → List ℕ
wave_text items = head_text ++ items_text first_wave items ++ end_text (after_items first_wave items)
