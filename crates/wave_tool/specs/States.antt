-- In which states controllers may be of which nothing was known before the first clock. Source: IEEE 1149.1, TAP
-- controller state diagram.
use Rattle.std.specs.Prelude.{◌==◌, Bool, List, [], ◌∷◌, map, Option, None, Some, if◌then◌else◌}
use Rattle.std.specs.List.{list_all}
use Rattle.tap_states.specs.declared.Tap.{Tap}
use Rattle.tap_states.specs.declared.Tap.TheVariants.{Reset, Idle, DrSelect, DrCapture, DrShift, DrExit1, DrPause, DrExit2, DrUpdate, IrSelect, IrCapture, IrShift, IrExit1, IrPause, IrExit2, IrUpdate}
use Rattle.tap_states.specs.Tap.{next_of, tap_number}

-- the states of the diagram
abbrev pub all_states : List Tap
all_states =
    Reset ∷ Idle ∷ DrSelect ∷ DrCapture ∷ DrShift ∷ DrExit1 ∷ DrPause ∷ DrExit2 ∷ DrUpdate
    ∷ IrSelect ∷ IrCapture ∷ IrShift ∷ IrExit1 ∷ IrPause ∷ IrExit2 ∷ IrUpdate ∷ []

-- where a clock with this TMS leads from them
abbrev pub states_after : List Tap → Bool → List Tap
states_after states tms = map (λ state. next_of state tms) states

-- each is this state
abbrev pub are_all : List Tap → Tap → Bool
are_all states state = list_all (λ other. tap_number other == tap_number state) states

-- the state, if all are one
abbrev pub settled_state : List Tap → Option Tap
settled_state [] = None
settled_state (first ∷ others) = if are_all (first ∷ others) first then Some first else None
