-- That no run of an accepted program gets stuck, on whichever chain that is in a stable state when the run begins.
use Rattle.std.specs.Prelude.{◌≡◌, ◌≢◌, ℕ, true, List}
use Rattle.tap_states.specs.Tap.{is_stable_state}
use Rattle.stapl_meaning.specs.Deeds.{Chain}
use Rattle.stapl_meaning.specs.States.{State, Turned}
use Rattle.stapl_meaning.specs.Scopes.{Played, procedures_in}
use Rattle.stapl_meaning.specs.Turns.{IsTurn}
use Rattle.stapl_meaning.specs.Plays.{Stopped, Going, procedures_run}
use Rattle.stapl_code.specs.Safe.{AllBelow}
use Rattle.stapl_codegen.specs.Accepted.{IsAccepted}

-- a program has exactly one turn at a place, in a state
pub record HasOneTurn (program : Played) (place : ℕ) (s : State) : Type 0 where
  pub turned : Turned
  pub is_turn : IsTurn program place s turned
  pub only : (other : Turned) → IsTurn program place s other → other ≡ turned

-- A run has an ending after its turns, or it still goes on, and then there is exactly one turn.
pub record IsNotStuck (program : Played) (chosen : List ℕ) (n : ℕ) (k : Chain) : Type 0 where
  pub stands : (procedures_run program chosen n k).outcome ≢ Stopped
  pub goes_on : (place : ℕ) → (procedures_run program chosen n k).outcome ≡ Going place →
      HasOneTurn program place (procedures_run program chosen n k).state

-- No run of an accepted program gets stuck, whichever of its procedures are chosen, however many turns there are, and
-- whatever answers the clocks of the chain, which is in a stable state when the run begins.
abbrev pub ProgramsAreNotStuck : Type 0
ProgramsAreNotStuck =
    (program : Played) → IsAccepted program → (chosen : List ℕ) → AllBelow (procedures_in program.pieces) chosen →
    (n : ℕ) (k : Chain) → is_stable_state k.tap ≡ true → IsNotStuck program chosen n k
