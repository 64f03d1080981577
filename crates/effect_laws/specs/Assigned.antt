-- What an assignment changes. Source: JESD71, assignments.
use Rattle.std.specs.Prelude.{◌≡◌, ◌≢◌, ◌+◌, ℕ, List, [], length, Some, slice_get}
use Rattle.stapl_meaning.specs.declared.values.Held.{Held}
use Rattle.stapl_meaning.specs.States.{State, Leads}
use Rattle.stapl_meaning.specs.Scopes.{Played}
use Rattle.stapl_meaning.specs.Turns.{turn}
use Rattle.effect_laws.specs.Given.{Holds}

-- after the turn at a place the variable of a number holds something of which this holds
pub record Gives (program : Played) (i n : ℕ) (s : State) (Is : Held → Type 0) : Type 0 where
  pub after : State
  pub leads : turn program i s ≡ Leads [] (i + 1) after
  pub new : Held
  pub holds : Holds after n new
  pub is : Is new

-- the items of a list but one are as they were, and that one is this
pub record HasOneNew {X : Type 0} (k : ℕ) (x : X) (old now : List X) : Type 0 where
  pub size : length now ≡ length old
  pub here : slice_get now k ≡ Some x
  pub elsewhere : (j : ℕ) → j ≢ k → slice_get now j ≡ slice_get old j
