-- The states of the controller and their successors (IEEE 1149.1, TAP controller state diagram).
-- Our names stand for the standard's: Reset is Test-Logic-Reset, Idle is Run-Test/Idle, and Dr and Ir stand for its
-- endings -DR and -IR.
use Rattle.std.specs.Prelude.{ℕ, Bool, true, false}
use Rattle.tap_states.specs.declared.Tap.{Tap}
use Rattle.tap_states.specs.declared.Tap.TheVariants.{Reset, Idle, DrSelect, DrCapture, DrShift, DrExit1, DrPause, DrExit2, DrUpdate, IrSelect, IrCapture, IrShift, IrExit1, IrPause, IrExit2, IrUpdate}

-- the table of successors: the state after one clock with this TMS, one line for each arrow of the state diagram
abbrev pub next_of : Tap → Bool → Tap
next_of Reset false = Idle
next_of Reset true = Reset
next_of Idle false = Idle
next_of Idle true = DrSelect
next_of DrSelect false = DrCapture
next_of DrSelect true = IrSelect
next_of DrCapture false = DrShift
next_of DrCapture true = DrExit1
next_of DrShift false = DrShift
next_of DrShift true = DrExit1
next_of DrExit1 false = DrPause
next_of DrExit1 true = DrUpdate
next_of DrPause false = DrPause
next_of DrPause true = DrExit2
next_of DrExit2 false = DrShift
next_of DrExit2 true = DrUpdate
next_of DrUpdate false = Idle
next_of DrUpdate true = DrSelect
next_of IrSelect false = IrCapture
next_of IrSelect true = Reset
next_of IrCapture false = IrShift
next_of IrCapture true = IrExit1
next_of IrShift false = IrShift
next_of IrShift true = IrExit1
next_of IrExit1 false = IrPause
next_of IrExit1 true = IrUpdate
next_of IrPause false = IrPause
next_of IrPause true = IrExit2
next_of IrExit2 false = IrShift
next_of IrExit2 true = IrUpdate
next_of IrUpdate false = Idle
next_of IrUpdate true = DrSelect

-- the number of a state, in the order in which the profile lists its reserved words of states
abbrev pub tap_number : Tap → ℕ
tap_number Reset = 0
tap_number Idle = 1
tap_number DrSelect = 2
tap_number DrCapture = 3
tap_number DrShift = 4
tap_number DrExit1 = 5
tap_number DrPause = 6
tap_number DrExit2 = 7
tap_number DrUpdate = 8
tap_number IrSelect = 9
tap_number IrCapture = 10
tap_number IrShift = 11
tap_number IrExit1 = 12
tap_number IrPause = 13
tap_number IrExit2 = 14
tap_number IrUpdate = 15

-- the four stable states of JESD71, in which a program may leave the chain
abbrev pub is_stable_state : Tap → Bool
is_stable_state Reset = true
is_stable_state Idle = true
is_stable_state IrPause = true
is_stable_state DrPause = true
is_stable_state _ = false
