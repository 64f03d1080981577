-- A shift register of a device, and the ring in which its bits stand. The rings are this profile's.
use Rattle.std.specs.Prelude.{ℕ, Bool, List, ◌+◌, ◌<◌, ◌≤◌, ◌++◌, ◌==◌, take, drop, if◌then◌else◌}

-- the bits of a shift register, the one nearest TDO first, and how many it has room for
pub record ShiftRegister : Type 0 where
  pub room : ℕ
  pub bits : List Bool

-- the bits of a ring, from the place of the first on
abbrev pub rotated : ℕ → List Bool → List Bool
rotated head ring = drop head ring ++ take head ring

-- the place after this one in a ring of so many places
abbrev pub next_in_ring : ℕ → ℕ → ℕ
next_in_ring place len = if place + 1 == len then 0 else place + 1

-- the first bit stands in the ring, for which there is room
pub record IsRing (head len room : ℕ) : Type 0 where
  pub inside : head < len
  pub within : len ≤ room
