-- Counts of faults. An object counts its calls that failed. A count never falls, and a call that fails has raised it,
-- or it stands at its last value: a count that is kept in a number of the machine ends there, and which value is the
-- last is said by the object. All of this is the tool's own.
--
-- The records speak of the counts alone, so that an object that stands on another, or whose count is a sum of two,
-- meets them by what the objects under it say. The words below them speak of an object before and after a call.
use Rattle.std.specs.Prelude.{◌≡◌, ℕ, ◌+◌, ◌-◌, ◌^◌, ◌<◌, ◌≤◌, ◌⊎◌, min, List, Result, OnErr}

-- the count rose, or stands at its last value now
pub record CountRose (before now : ℕ) (last_now : Type 0) : Type 0 where
  pub risen : (before < now) ⊎ last_now

-- the count did not fall, and stands at its last value if it did before
pub record CountKept (before now : ℕ) (last_before last_now : Type 0) : Type 0 where
  pub later : before ≤ now
  pub stays : last_before → last_now

-- the count was kept, and a call that failed has its cause in it
pub record CountCause {T E : Type 0} (before now : ℕ) (last_before last_now : Type 0) (result : Result T E) : Type 0 where
  pub kept : CountKept before now last_before last_now
  pub failed : OnErr result (CountRose before now last_now)

-- no count of any name fell, and each stays at its last value
pub record CountsKept (before now : List ℕ → ℕ) (last_before last_now : List ℕ → Type 0) : Type 0 where
  pub later : (name : List ℕ) → before name ≤ now name
  pub stays : (name : List ℕ) → last_before name → last_now name

-- the count of this name rose, or stands at its last value now
pub record CountRoseAt (before now : List ℕ → ℕ) (last_now : List ℕ → Type 0) (name : List ℕ) : Type 0 where
  pub risen : (before name < now name) ⊎ last_now name

-- all counts were kept, and a call that failed has its cause in the count of this name
pub record CountsCause {T E : Type 0} (before now : List ℕ → ℕ) (last_before last_now : List ℕ → Type 0) (name : List ℕ) (result : Result T E) : Type 0 where
  pub kept : CountsKept before now last_before last_now
  pub failed : OnErr result (CountRoseAt before now last_now name)

-- The count of an object rose, or stands at its last value.
abbrev pub HasRisen : {K : Type 0} → (K → ℕ) → (K → Type 0) → K → K → Type 0
HasRisen faults is_last before now = CountRose (faults before) (faults now) (is_last now)

-- The count of an object did not fall, and stays at its last value.
abbrev pub NeverFalls : {K : Type 0} → (K → ℕ) → (K → Type 0) → K → K → Type 0
NeverFalls faults is_last before now = CountKept (faults before) (faults now) (is_last before) (is_last now)

-- The cause of a call on an object with one count.
abbrev pub HasCause : {K T E : Type 0} → (K → ℕ) → (K → Type 0) → K → K → Result T E → Type 0
HasCause faults is_last before now result = CountCause (faults before) (faults now) (is_last before) (is_last now) result

-- The count of this name rose, or stands at its last value.
abbrev pub HasRisenAt : {S : Type 0} → (S → List ℕ → ℕ) → (S → List ℕ → Type 0) → List ℕ → S → S → Type 0
HasRisenAt faults is_last name before now = CountRoseAt (faults before) (faults now) (is_last now) name

-- No count of any name fell, and each stays at its last value.
abbrev pub NoneFalls : {S : Type 0} → (S → List ℕ → ℕ) → (S → List ℕ → Type 0) → S → S → Type 0
NoneFalls faults is_last before now = CountsKept (faults before) (faults now) (is_last before) (is_last now)

-- The cause of a call on the file of this name.
abbrev pub HasCauseAt : {S T E : Type 0} → (S → List ℕ → ℕ) → (S → List ℕ → Type 0) → List ℕ → S → S → Result T E → Type 0
HasCauseAt faults is_last name before now result =
    CountsCause (faults before) (faults now) (is_last before) (is_last now) name result

-- a count of 64 bits stands at its last value
abbrev pub IsSaturated : ℕ → Type 0
IsSaturated count = count ≡ 2 ^ 64 - 1

-- a count of 64 bits after one more fault
abbrev pub raised_count : ℕ → ℕ
raised_count count = min (count + 1) (2 ^ 64 - 1)
