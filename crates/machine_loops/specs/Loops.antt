-- Loops on the record stack, as the machine has it: a list with the topmost record last.
use Rattle.std.specs.Prelude.{◌≡◌, ◌<◌, ℕ, ℤ, pos, if◌then◌else◌, List, [], length, reverse, take, Option, Some, None, slice_get}
use Rattle.std.specs.Ordering.{int_eq}
use Rattle.stapl_meaning.specs.declared.events.RunFault.TheVariants.{ZeroStep, NoRecord}
use Rattle.stapl_meaning.specs.declared.records.Loop.{Loop}
use Rattle.stapl_meaning.specs.declared.records.Record.{Record}
use Rattle.stapl_meaning.specs.declared.records.Record.TheVariants.{Looped}
use Rattle.stapl_meaning.specs.Values.{Got, Known, Faults, then_get}
use Rattle.stapl_meaning.specs.States.{State, Did, Falls}
use Rattle.stapl_meaning.specs.Effects.{nearest_loop, with_room, with_loop}
use Rattle.machine_loops.specs.declared.loops.Nearest.{Nearest}

-- a loop begins from a first value
abbrev pub begun_loop : Loop → ℤ → State → Got Did
begun_loop l first s =
    if int_eq l.step (pos 0) then Faults ZeroStep
    else with_room s (then_get (with_loop l s.records first s) (λ t. Known (Falls [] t)))

-- the nearest loop of the variable of number n was found, at this place
pub record IsNearest (records : List Record) (n : ℕ) (found : Nearest) : Type 0 where
  pub there : found.at < length records
  pub is : slice_get records found.at ≡ Some (Looped found.for_loop)
  pub of_variable : found.for_loop.variable ≡ n
  pub nearest : nearest_loop n (reverse records) ≡ Known (found.for_loop, reverse (take found.at records))

abbrev pub IsSearched : List Record → ℕ → Option Nearest → Type 0
IsSearched records n (Some found) = IsNearest records n found
IsSearched records n None = nearest_loop n (reverse records) ≡ Faults NoRecord
