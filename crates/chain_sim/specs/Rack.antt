-- The rack that a board is fitted into, and the places of its devices there. Both are this profile's.
use Rattle.std.specs.Prelude.{◌≡◌, ◌+◌, ◌*◌, ℕ, suc, zero, List, [], ◌∷◌}
use Rattle.dev_card.specs.Board.{most_devices}
use Rattle.dev_card.specs.declared.desc.Kind.{Kind}
use Rattle.dev_card.specs.declared.desc.Kind.TheVariants.{Plain, Regs, Flash}
use Rattle.dev_card.specs.declared.desc.Desc.{Desc}

-- A rack has a device of each kind for each device of so many: these are their kinds. It is unfolded by name alone,
-- since a rack has many.
unfoldable pub rack_kinds : ℕ → List Kind
rack_kinds zero = []
rack_kinds (suc n) = Plain ∷ Regs ∷ Flash ∷ rack_kinds n

-- the kinds of the devices of a rack that takes each board
abbrev pub IsRack : List Kind → Type 0
IsRack kinds = kinds ≡ rack_kinds most_devices

-- the number of a kind among the three
abbrev pub kind_number : Kind → ℕ
kind_number Plain = 0
kind_number Regs = 1
kind_number Flash = 2

-- the place of device i of a board, counted from 0
abbrev pub place_of : ℕ → Desc → ℕ
place_of i d = 3 * i + kind_number d.kind

-- the places of devices with these descriptions, of which the first is number i of its board
abbrev pub places_from : ℕ → List Desc → List ℕ
places_from i [] = []
places_from i (d ∷ ds) = place_of i d ∷ places_from (i + 1) ds

abbrev pub places_of : List Desc → List ℕ
places_of ds = places_from 0 ds
