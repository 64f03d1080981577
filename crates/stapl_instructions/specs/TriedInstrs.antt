-- What came of an instruction that was tried without the general machine.
use Rattle.std.specs.Prelude.{◌≡◌, ℕ, List, [], Bool, true, false, slice_get}
use Rattle.stapl_meaning.specs.declared.values.Value.{Value}
use Rattle.stapl_meaning.specs.declared.values.Value.TheVariants.{Int, Bit}
use Rattle.stapl_meaning.specs.declared.values.Held.{Held}
use Rattle.stapl_meaning.specs.Values.{Got, Known, Stuck}
use Rattle.stapl_meaning.specs.States.{Did, Leads, Resumes}
use Rattle.stapl_meaning.specs.States as did
use Rattle.stapl_meaning.specs.Effects.{element_written}
use Rattle.stapl_code.specs.Machine.{Step, Falls, Stops}
use Rattle.machine_memory.specs.declared.memory.Memory.{Memory}
use Rattle.machine_memory.specs.declared.memory.Workspace.{Workspace}
use Rattle.stapl_instructions.specs.declared.fast_path.Tried.{Tried}
use Rattle.stapl_instructions.specs.declared.fast_path.Tried.TheVariants as tried
use Rattle.machine_memory.specs.Acts.{state_in, state_of, operands_of}

-- The step goes on, or it leads to the turn at a place with no operand left; or it is not done, and nothing changed.
abbrev pub IsTried : Tried → List ℕ → Workspace → Workspace → Step → Type 0
IsTried tried.On chosen old new st = st ≡ Falls (operands_of new) (state_of chosen new)
IsTried (tried.To place) chosen old new st =
    (st ≡ Stops [] (Leads [] place (state_of chosen new))) × (new.operands.items ≡ [])
IsTried tried.Not chosen old new st = (operands_of new ≡ operands_of old) × (state_of chosen new ≡ state_of chosen old)

-- The loop is over, or it goes round from a place; or nothing changed.
abbrev pub IsRound : Tried → List ℕ → Memory → Memory → Got Did → Type 0
IsRound tried.On chosen old new g = g ≡ Known (did.Falls [] (state_in chosen new))
IsRound (tried.To place) chosen old new g = g ≡ Known (Resumes place (state_in chosen new))
IsRound tried.Not chosen old new g = state_in chosen new ≡ state_in chosen old

-- the variables were written so, or not at all
abbrev pub IsWritten : Bool → Got (List Held) → List Held → List Held → Type 0
IsWritten true g old new = g ≡ Known new
IsWritten false g old new = new ≡ old

-- the variables with a value in the element at an index of the array of a number
abbrev pub element_put : List Held → ℕ → Value → Value → Got (List Held)
element_put variables n (Int i) v = element_written variables n (slice_get variables n) i v
element_put variables n (Bit b) v = Stuck
