-- The runs of a text with lines of clocks, as a play with its pins writes it. They are found in the text alone.
use Rattle.std.specs.Prelude.{ℕ, List}
use Rattle.tap_states.specs.declared.Tap.TheVariants.{Reset}
use Rattle.pin_lines.specs.PinLines.{pins_in, clocks_of_pins}
use Rattle.scan_accounts.specs.ShiftRuns.{ShiftRun, shift_runs}

-- the runs of all its clocks, of which the first five bring the controllers to the reset state from any state
abbrev pub runs_of_pins : List ℕ → List ShiftRun
runs_of_pins text = shift_runs Reset (clocks_of_pins (pins_in text))
