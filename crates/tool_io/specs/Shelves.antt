-- A store of files in memory, whose calls with listed numbers fail. The rules are the tool's own.
use Rattle.std.specs.Prelude.{◌≡◌, ℕ, ◌+◌, ◌-◌, ◌^◌, ◌<◌, ◌≤◌, ◌⊎◌, ◌↔◌, min, List, [], ◌∷◌, drop, length, Contains, Result, Option, None, Some, IsErr, IfOk, IfSome, OnOk, OnErr, slice_index, slice_index_or, slice_set, if◌then◌else◌}
use Rattle.std.specs.List.{zip}
use Rattle.std.specs.Str.{bytes_eq}
use Rattle.tool_io.specs.Causes.{IsSaturated, raised_count}

-- the names and their files, how often calls on each name and, at the end, on all others have failed, the numbers of
-- the calls that fail, the number of the last call, from 1, or 0, the place of the file that is read, and how many of
-- its bytes were read
pub record ShelfState : Type 0 where
  pub names : List (List ℕ)
  pub files : List (List ℕ)
  pub counts : List ℕ
  pub failing : List ℕ
  pub number : ℕ
  pub picked : Option ℕ
  pub at : ℕ

-- the place of a name, and their number where it is not held
abbrev pub place_of : List (List ℕ) → List ℕ → ℕ
place_of [] name = 0
place_of (n ∷ ns) name = if bytes_eq n name then 0 else place_of ns name + 1

-- what is left of the file that is read
abbrev pub rest_of : Option ℕ → List (List ℕ) → ℕ → List ℕ
rest_of None files at = []
rest_of (Some i) files at = drop at (slice_index_or files i [])

-- the counts after one more fault at a place
abbrev pub raised : List ℕ → ℕ → List ℕ
raised counts place = slice_set counts place (raised_count (slice_index counts place))

-- how often calls on the file of a name have failed
abbrev pub count_at : ShelfState → List ℕ → ℕ
count_at shelf name = slice_index shelf.counts (place_of shelf.names name)

-- that count stands at its last value
abbrev pub IsCountLastAt : ShelfState → List ℕ → Type 0
IsCountLastAt shelf name = IsSaturated (count_at shelf name)

-- the names with their bytes
abbrev pub files_of : ShelfState → List (List ℕ × List ℕ)
files_of shelf = zip shelf.names shelf.files

-- the file of this name is the one that is read
abbrev pub IsPicked : ShelfState → List ℕ → Type 0
IsPicked shelf name = shelf.picked ≡ Some (place_of shelf.names name)

-- what is left of it
abbrev pub left_of : ShelfState → List ℕ
left_of shelf = rest_of shelf.picked shelf.files shelf.at

-- the fields fit each other
pub record Fits (names : ℕ) (files : List (List ℕ)) (counts : List ℕ) (picked : Option ℕ) (at : ℕ) : Type 0 where
  pub paired : names ≡ length files
  pub counted : length counts ≡ names + 1
  pub inside : IfSome picked (λ i. (i < names) × (at ≤ length (slice_index_or files i [])))

-- One pick. It fails if it is listed or the name is not held; then no file is read.
pub record Picks {E : Type 0} (old : ShelfState) (name : List ℕ) (result : Result (Unit {0}) E) (new : ShelfState) : Type 0 where
  pub number : new.number ≡ min (old.number + 1) (2 ^ 32 - 1)
  pub fails : IsErr result ↔ (Contains old.failing new.number ⊎ (place_of old.names name ≡ length old.names))
  pub fault : OnErr result (new ≡ record old { number = new.number; counts = raised old.counts (place_of old.names name); picked = None })
  pub ok : OnOk result (new ≡ record old { number = new.number; picked = Some (place_of old.names name); at = 0 })

-- One read of the file at a place into a slice with this room. It fails if it is listed.
pub record ReadsAt {E : Type 0} (place : ℕ) (old : ShelfState) (room : ℕ) (result : Result ℕ E) (new : ShelfState) : Type 0 where
  pub number : new.number ≡ min (old.number + 1) (2 ^ 32 - 1)
  pub fails : IsErr result ↔ Contains old.failing new.number
  pub fault : OnErr result (new ≡ record old { number = new.number; counts = raised old.counts place })
  pub ok : IfOk result (λ n. new ≡ record old { number = new.number; at = old.at + n })
  pub fills : IfOk result (λ n. n ≡ min (min (length (rest_of old.picked old.files old.at)) room) (2 ^ 32 - 1))
