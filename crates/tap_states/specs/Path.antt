-- Lists of TMS values and the path between two states. That there is one path for two states is this profile's rule,
-- over the state diagram of IEEE 1149.1.
use Rattle.std.specs.Prelude.{◌≡◌, ◌≤◌, ◌==◌, ℕ, suc, zero, Bool, true, false, if◌then◌else◌, List, [], ◌∷◌, ◌++◌, length, Option, Some, None}
use Rattle.base.specs.Bits.{low_bits}
use Rattle.tap_states.specs.declared.Tap.{Tap}
use Rattle.tap_states.specs.declared.Tap.TheVariants.{Reset}
use Rattle.tap_states.specs.declared.Path.{Path}
use Rattle.tap_states.specs.Tap.{next_of, tap_number}

-- the state after clocks with these TMS values, in the order of the list
abbrev pub walk : Tap → List Bool → Tap
walk from [] = from
walk from (tms ∷ rest) = walk (next_of from tms) rest

-- the list leads from one state to the other
abbrev pub Leads : Tap → List Bool → Tap → Type 0
Leads from bits to = walk from bits ≡ to

-- the order of lists of equal length: they begin alike, and at the first place where they differ the earlier list has 0
pub record ComesBefore (earlier later : List Bool) : Type 0 where
  pub common : List Bool
  pub earlier_rest : List Bool
  pub later_rest : List Bool
  pub earlier_is : earlier ≡ common ++ false ∷ earlier_rest
  pub later_is : later ≡ common ++ true ∷ later_rest

-- the list leads from one state to the other, none that does so is shorter, and none of equal length that does so comes
-- before it
pub record IsShortestPath (from to : Tap) (bits : List Bool) : Type 0 where
  pub leads : Leads from bits to
  pub shortest : (other : List Bool) → Leads from other to → length bits ≤ length other
  pub first : (other : List Bool) → Leads from other to → length other ≡ length bits → ¬ ComesBefore other bits

-- five times 1
abbrev pub five_ones : List Bool
five_ones = true ∷ true ∷ true ∷ true ∷ true ∷ []

-- The list is the path from one state to another. To reset that is always five times 1, which lead there also from a
-- state that nobody knows; to any other state it is the shortest path, so from a state to itself it is empty.
pub record IsPath (from to : Tap) (bits : List Bool) : Type 0 where
  pub to_reset : to ≡ Reset → bits ≡ five_ones
  pub elsewhere : ¬ (to ≡ Reset) → IsShortestPath from to bits

-- The same as a function, by the state diagram alone. Of the lists of n values that lead from one state to the other,
-- the first in their order: one that begins with 0, if there is one, and else one that begins with 1.
abbrev pub earlier_of : Option (List Bool) → Option (List Bool) → Option (List Bool)
earlier_of (Some bits) others = Some (false ∷ bits)
earlier_of None (Some bits) = Some (true ∷ bits)
earlier_of None None = None

abbrev pub first_of_length : ℕ → Tap → Tap → Option (List Bool)
first_of_length zero from to = if tap_number from == tap_number to then Some [] else None
first_of_length (suc n) from to =
    earlier_of (first_of_length n (next_of from false) to) (first_of_length n (next_of from true) to)

-- the first of them all, where shorter ones come before longer ones: those of n values, and of so many lengths above n
abbrev pub or_longer : Option (List Bool) → List Bool → List Bool
or_longer (Some bits) longer = bits
or_longer None longer = longer

abbrev pub first_from_length : ℕ → ℕ → Tap → Tap → List Bool
first_from_length zero n from to = []
first_from_length (suc more) n from to =
    or_longer (first_of_length n from to) (first_from_length more (suc n) from to)

-- the path from one state to another: between any two states one of at most 8 values leads
abbrev pub path_of : Tap → Tap → List Bool
path_of from Reset = five_ones
path_of from to = first_from_length 9 0 from to

-- the TMS values that a `Path` stands for, the first in bit 0
abbrev pub path_bits : Path → List Bool
path_bits p = low_bits p.len p.bits
