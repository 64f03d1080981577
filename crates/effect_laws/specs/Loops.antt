-- How often a loop goes round. Source: JESD71, FOR and NEXT. That the limit is tested after the body, by NEXT alone, is
-- this profile's rule.
use Rattle.std.specs.Prelude.{◌≡◌, ◌≢◌, ◌<◌, ◌+◌, ℕ, zero, suc, ℤ, pos, negsuc, ◌+ℤ◌, ◌<ℤ◌, ◌≤ℤ◌, List, [], ◌∷◌, ◌++◌, Option, Some, None}
use Rattle.stapl_syntax.specs.Trees.{ExprTree}
use Rattle.stapl_meaning.specs.declared.records.Loop.{Loop}
use Rattle.stapl_meaning.specs.declared.records.Record.{Record}
use Rattle.stapl_meaning.specs.declared.records.Record.TheVariants.{Looped}
use Rattle.stapl_meaning.specs.declared.values.Held.TheVariants as held
use Rattle.stapl_meaning.specs.Values.{Lookup}
use Rattle.stapl_meaning.specs.States.{State, Leads}
use Rattle.stapl_meaning.specs.Scopes.{Played}
use Rattle.stapl_meaning.specs.Turns.{turn}
use Rattle.effect_laws.specs.Given.{HasInteger, Holds}

-- the step of a FOR is this integer; it is 1 if none is written
pub data StepIs (look : Lookup) (s : State) : Option ExprTree → ℤ → Type 0 where
  written : {e : ExprTree} {z : ℤ} → HasInteger look s e z → StepIs look s (Some e) z
  left_out : StepIs look s None (pos 1)

-- these records are loops, and none is of the variable of this number
pub data AreOtherLoops (n : ℕ) : List Record → Type 0 where
  none : AreOtherLoops n []
  other : {l : Loop} {records : List Record} → l.variable ≢ n → AreOtherLoops n records → AreOtherLoops n (Looped l ∷ records)

-- an integer is short of the limit of a loop with this step
pub data IsShort (limit step z : ℤ) : Type 0 where
  below : pos 0 <ℤ step → z <ℤ limit → IsShort limit step z
  above : step <ℤ pos 0 → limit <ℤ z → IsShort limit step z

-- it has come to the limit, or past it
pub data IsThere (limit step z : ℤ) : Type 0 where
  upwards : pos 0 <ℤ step → limit ≤ℤ z → IsThere limit step z
  downwards : step <ℤ pos 0 → z ≤ℤ limit → IsThere limit step z

-- an integer of the language, which has 32 bits and a sign
pub record FitsInteger (z : ℤ) : Type 0 where
  pub low : negsuc 2147483647 ≤ℤ z
  pub high : z ≤ℤ pos 2147483647

-- so many steps from an integer on
abbrev pub steps_from : ℤ → ℤ → ℕ → ℤ
steps_from first step zero = first
steps_from first step (suc m) = steps_from first step m +ℤ step

-- the loop that FOR put on the records is the next one of its variable, which holds this integer
pub record MeetsLoop (n : ℕ) (records : List Record) (u : State) (z : ℤ) : Type 0 where
  pub above : List Record
  pub others : AreOtherLoops n above
  pub stand : u.records ≡ above ++ records
  pub holds : Holds u n (held.Int z)

-- the turn at the place of NEXT goes back after FOR at place i: the variable holds this integer, and the records are
-- those that FOR left
pub record GoesBack (program : Played) (i j n : ℕ) (records : List Record) (u : State) (z : ℤ) : Type 0 where
  pub after : State
  pub leads : turn program j u ≡ Leads [] (i + 1) after
  pub holds : Holds after n (held.Int z)
  pub stand : after.records ≡ records

-- These states are those in which NEXT is met, one round after the other: the body keeps the variable and the loop.
pub record AreRounds (program : Played) (i j n : ℕ) (records : List Record) (first : ℤ) (met : ℕ → State) : Type 0 where
  pub begins : MeetsLoop n records (met 0) first
  pub goes_on : (m : ℕ) (z : ℤ) → GoesBack program i j n records (met m) z → MeetsLoop n records (met (suc m)) z

-- FOR at place i and NEXT at place j of the variable of a number, from a state on, whose records are these before FOR:
-- which value the variable has first, whether NEXT goes back, and how often
pub record GoesRound (program : Played) (i j n : ℕ) (s : State) (first limit step : ℤ) : Type 0 where
  pub begun : State
  pub begins : turn program i s ≡ Leads [] (i + 1) begun
  pub holds : Holds begun n (held.Int first)
  -- a variable that is short of the limit gets a step more, and the body follows again
  pub again : (u : State) (z : ℤ) → MeetsLoop n begun.records u z → IsShort limit step z → FitsInteger (z +ℤ step) →
      GoesBack program i j n begun.records u (z +ℤ step)
  -- else the loop is over: its record is dropped
  pub over : (u : State) (z : ℤ) → MeetsLoop n begun.records u z → IsThere limit step z →
      turn program j u ≡ Leads [] (j + 1) (record u { records = s.records })
  -- So if k steps from the first value come to the limit, and no fewer do, NEXT goes back k times, and then no more.
  pub times : (k : ℕ) (met : ℕ → State) → AreRounds program i j n begun.records first met →
      IsThere limit step (steps_from first step k) →
      ((m : ℕ) → m < k → IsShort limit step (steps_from first step m) × FitsInteger (steps_from first step (suc m))) →
      ((m : ℕ) → m < k → GoesBack program i j n begun.records (met m) (steps_from first step (suc m))) ×
      (turn program j (met k) ≡ Leads [] (j + 1) (record (met k) { records = s.records }))
