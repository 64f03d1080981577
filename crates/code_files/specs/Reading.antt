-- Reading from left to right. The first field that is cut or outside its range is the fault. What is read stands beside
-- the bytes after it. The format is this profile's.
use Rattle.std.specs.Prelude.{◌≡◌, ℕ, zero, suc, Bool, ◌&&◌, List, [], ◌∷◌, ◌++◌, length, take, drop, Result, Ok, Err, nat_lt, nat_le, slice_index_or, ◌^◌, if◌then◌else◌}
use Rattle.std.specs.Int.{w32, from_be_bytes}
use Rattle.stapl_code.specs.declared.reason.CodeReason.{CodeReason}
use Rattle.stapl_code.specs.declared.reason.CodeReason.TheVariants.{Cut, Field}
use Rattle.code_files.specs.declared.fault.Fault.{Fault}
use Rattle.code_files.specs.declared.fault.Stop.{Stop}
use Rattle.code_files.specs.declared.fault.Stop.TheVariants as stops

infixl 10 ◌>>=◌
abbrev pub ◌>>=◌ : {A B : Type 0} → Result A Fault → (A → Result B Fault) → Result B Fault
(Ok x) >>= f = f x
(Err e) >>= f = Err e

-- What a function returned, seen by view, is what reading gives, unless memory ran out.
abbrev pub ReadingFails : {Y : Type 0} → Stop → Result Y Fault → Type 0
ReadingFails stops.Memory read = Unit {0}
ReadingFails (stops.At f) read = read ≡ Err f

abbrev pub ReadingGives : {X Y : Type 0} → (X → Y) → Result X Stop → Result Y Fault → Type 0
ReadingGives view (Ok x) read = read ≡ Ok (view x)
ReadingGives view (Err e) read = ReadingFails e read

-- A fault is told by how many bytes stand from its place to the end.
abbrev pub fault : ℕ → CodeReason → Fault
fault left reason = record { left = left; reason = reason }

-- A field of so many bytes. If the bytes end inside it, the fault is at their end. If the field is outside its range,
-- the fault is at its first byte.
abbrev pub field : ℕ → (List ℕ → Bool) → List ℕ → Result (List ℕ × List ℕ) Fault
field size is_in_range bytes =
    if nat_lt (length bytes) size then Err (fault 0 Cut)
    else (if is_in_range (take size bytes) then Ok (take size bytes, drop size bytes)
    else Err (fault (length bytes) Field))

-- at least the first number, and less than the second one
abbrev pub is_from : ℕ → ℕ → ℕ → Bool
is_from low end n = nat_le low n && nat_lt n end

-- a field of one byte, and one of four, with a number from low on, and below end
unfoldable pub byte_in : ℕ → ℕ → List ℕ → Result (ℕ × List ℕ) Fault
byte_in low end bytes = do
  f ← field 1 (λ b. is_from low end (slice_index_or b 0 0)) bytes
  Ok (slice_index_or f.0 0 0, f.1)

unfoldable pub number_in : ℕ → ℕ → List ℕ → Result (ℕ × List ℕ) Fault
number_in low end bytes = do
  f ← field 4 (λ b. is_from low end (from_be_bytes w32 b)) bytes
  Ok (from_be_bytes w32 f.0, f.1)

-- so many items more, each of which is read after those before it
module _ {A : Type 0} (item : List A → List ℕ → Result (A × List ℕ) Fault) where
  unfoldable pub items_at : List A → ℕ → List ℕ → Result (List A × List ℕ) Fault
  items_at earlier zero bytes = Ok (earlier, bytes)
  items_at earlier (suc n) bytes = do
    x ← item earlier bytes
    items_at (earlier ++ x.0 ∷ []) n x.1

  -- a count from low on and below end, and so many items
  unfoldable pub listed_in : ℕ → ℕ → List ℕ → Result (List A × List ℕ) Fault
  listed_in low end bytes = do
    n ← number_in low end bytes
    items_at [] n.0 n.1

-- any number of four bytes
abbrev pub any_end : ℕ
any_end = 2 ^ 32
