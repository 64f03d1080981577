-- What WAIT has the chain do: the states that a program names. Source: JESD71, reserved words and WAIT.
use Rattle.std.specs.Prelude.{ℕ, Option, Some, None}
use Rattle.tap_states.specs.declared.Tap.{Tap}
use Rattle.tap_states.specs.declared.Tap.TheVariants.{Reset, Idle, DrPause, IrPause}

-- one of the four stable states, by the number of its word
pub data IsStable : ℕ → Tap → Type 0 where
  reset : IsStable 0 Reset
  idle : IsStable 1 Idle
  dr_pause : IsStable 6 DrPause
  ir_pause : IsStable 13 IrPause

-- a stable state that may be left out, and then is IDLE
pub data StaysIn : Option ℕ → Tap → Type 0 where
  named : {n : ℕ} {tap : Tap} → IsStable n tap → StaysIn (Some n) tap
  left_out : StaysIn None Idle
