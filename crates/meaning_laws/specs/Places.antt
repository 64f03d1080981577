-- The places of a range of a BOOLEAN array: the indexes of its elements, in its order. Source: JESD71, Boolean array
-- ranges. That the order holds wherever a range may stand is this profile's rule.
use Rattle.std.specs.Prelude.{◌≡◌, ◌≢◌, ◌<◌, ◌≤◌, ◌⊎◌, ◌<ℤ◌, ◌≤ℤ◌, ℕ, suc, ℤ, pos, Bool, List, [], ◌∷◌, length}
use Rattle.std.specs.Prelude.{Some, slice_get}

-- The places of a range of two indexes. They begin with the second index, go by steps of one, upwards or downwards, and
-- end with the first index.
pub data ArePlaces (first : ℕ) : ℕ → List ℕ → Type 0 where
  last : ArePlaces first first (first ∷ [])
  upwards : {second : ℕ} {places : List ℕ} → second < first → ArePlaces first (suc second) places →
      ArePlaces first second (second ∷ places)
  downwards : {second : ℕ} {places : List ℕ} → first ≤ second → ArePlaces first second places →
      ArePlaces first (suc second) (suc second ∷ places)

-- An array has new bits at the first places of a list, in the order of the places. At each other index it is as it was.
pub record IsWrittenAt (places : List ℕ) (new old now : List Bool) : Type 0 where
  pub size : length now ≡ length old
  pub here : (k place : ℕ) → k < length new → slice_get places k ≡ Some place → slice_get now place ≡ slice_get new k
  pub elsewhere : (j : ℕ) → ((k : ℕ) → k < length new → slice_get places k ≢ Some j) →
      slice_get now j ≡ slice_get old j

-- an integer that is no index of an array of so many elements
abbrev pub IsNoIndex : ℕ → ℤ → Type 0
IsNoIndex n z = (z <ℤ pos 0) ⊎ (pos n ≤ℤ z)
