-- What a variable holds after POP, by what was pushed. Source: JESD71, PUSH and POP. That a bit is popped into an
-- integer as 0 or 1, and any integer but 0 into a Boolean as 1, is this profile's rule.
use Rattle.std.specs.Prelude.{◌≡◌, ◌≢◌, ◌+◌, ℕ, ℤ, pos, Bool, true, false, List, [], Option, Some}
use Rattle.stapl_syntax.specs.declared.names.VarKind.{VarKind}
use Rattle.stapl_syntax.specs.declared.names.VarKind.TheVariants.{Integer, Boolean}
use Rattle.stapl_meaning.specs.declared.values.Value.{Value}
use Rattle.stapl_meaning.specs.declared.values.Value.TheVariants.{Int, Bit}
use Rattle.stapl_meaning.specs.declared.values.Held.{Held}
use Rattle.stapl_meaning.specs.declared.values.Held.TheVariants as held
use Rattle.stapl_meaning.specs.States.{State, Leads}
use Rattle.stapl_meaning.specs.Scopes.{Played}
use Rattle.stapl_meaning.specs.Turns.{turn}
use Rattle.effect_laws.specs.Given.{Holds, number_at}

-- a variable of a kind, which holds something, holds the last one after a value that was pushed is popped into it
pub data Receives : Option VarKind → Held → Value → Held → Type 0 where
  integer : {old z : ℤ} → Receives (Some Integer) (held.Int old) (Int z) (held.Int z)
  bit : {old b : Bool} → Receives (Some Boolean) (held.Bit old) (Bit b) (held.Bit b)
  zero_of_bit : {old : ℤ} → Receives (Some Integer) (held.Int old) (Bit false) (held.Int (pos 0))
  one_of_bit : {old : ℤ} → Receives (Some Integer) (held.Int old) (Bit true) (held.Int (pos 1))
  bit_of_zero : {old : Bool} → Receives (Some Boolean) (held.Bit old) (Int (pos 0)) (held.Bit false)
  bit_of_other : {old : Bool} {z : ℤ} → z ≢ pos 0 → Receives (Some Boolean) (held.Bit old) (Int z) (held.Bit true)

-- The turn at a place takes off what the records of a state had more than those of an older one: after it the variable
-- of a name holds this, and the records are those of the older state.
pub record TakesBack (program : Played) (j : ℕ) (u older : State) (name : List ℕ) (new : Held) : Type 0 where
  pub after : State
  pub leads : turn program j u ≡ Leads [] (j + 1) after
  pub holds : Holds after (number_at program j name) new
  pub records : after.records ≡ older.records
