-- What a scan shifts in, captures and compares, bit by bit. Source: JESD71, IRSCAN and DRSCAN with CAPTURE and COMPARE.
use Rattle.std.specs.Prelude.{◌≡◌, ◌<◌, ◌≤◌, ◌+◌, ◌↔◌, ℕ, Bool, true, List, [], length, Some, slice_get}
use Rattle.dev_card.specs.Scans.{BoardScan}
use Rattle.stapl_meaning.specs.declared.values.Held.TheVariants as held
use Rattle.stapl_meaning.specs.States.{State, Leads, Scanning}
use Rattle.stapl_meaning.specs.Scopes.{Played}
use Rattle.stapl_meaning.specs.Turns.{turn}
use Rattle.effect_laws.specs.Given.{Holds}
use Rattle.effect_laws.specs.Scans.{AreFirst}
use Rattle.effect_laws.specs.Assigned.{HasOneNew}

-- the first n bits of an array are those of a list, and all others are as they were
pub record IsFilled (n : ℕ) (captured old now : List Bool) : Type 0 where
  pub size : length now ≡ length old
  pub new : (k : ℕ) → k < n → slice_get now k ≡ slice_get captured k
  pub others : (k : ℕ) → n ≤ k → slice_get now k ≡ slice_get old k

-- each of the first n captured bits that stands under a mask bit 1 is the expected one
abbrev pub Agree : ℕ → (mask expected captured : List Bool) → Type 0
Agree n mask expected captured = (k : ℕ) → k < n → slice_get mask k ≡ Some true → slice_get captured k ≡ slice_get expected k

-- the number of the array that captured bits go to, and of the Boolean that says whether they agree
pub record Takers : Type 0 where
  pub array : ℕ
  pub result : ℕ

-- what a state holds after so many bits were captured: they are in the array, and the Boolean says whether they agree
pub record HoldsCaptured (takers : Takers) (n : ℕ) (mask expected old captured : List Bool) (t : State) : Type 0 where
  pub now : List Bool
  pub holds : Holds t takers.array (held.Bits now)
  pub filled : IsFilled n captured old now
  pub bit : Bool
  pub result : Holds t takers.result (held.Bit bit)
  pub agrees : (bit ≡ true) ↔ Agree n mask expected captured

-- the turn at a place scans the first n of these bits, and after it, whatever it captured, the state is so
pub record Scans (program : Played) (i n : ℕ) (s : State) (bits : List Bool) (After : List Bool → State → Type 0) : Type 0 where
  pub job : BoardScan
  pub lands : List Bool → State
  pub is : turn program i s ≡ Scanning [] job (λ captured. Leads [] (i + 1) (lands captured))
  pub shifted : AreFirst n bits job.bits
  pub after : (captured : List Bool) → length captured ≡ n → After captured (lands captured)

-- The same if the result goes to an element of the array that took the captured bits: these are there first, and then
-- the result is at its index.
pub record HoldsResultInside (array n k : ℕ) (mask expected old captured : List Bool) (t : State) : Type 0 where
  pub filled : List Bool
  pub is_filled : IsFilled n captured old filled
  pub bit : Bool
  pub agrees : (bit ≡ true) ↔ Agree n mask expected captured
  pub now : List Bool
  pub one_new : HasOneNew k bit filled now
  pub holds : Holds t array (held.Bits now)
