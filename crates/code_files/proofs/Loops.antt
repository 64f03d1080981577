-- Reading items one after the other, as a loop does.
use Rattle.std.proofs.Common.{◌≡◌, ◌≤◌, ◌<◌, ◌+◌, ◌-◌, ℕ, suc, List, [], ◌∷◌, ◌++◌, Result, Ok, Err, refl, sym, ◌∙◌, arith}
use Rattle.code_files.specs.declared.fault.Fault.{Fault}
use Rattle.code_files.specs.declared.fault.Stop.{Stop}
use Rattle.code_files.specs.declared.fault.Stop.TheVariants as stops
use Rattle.code_files.specs.Reading.{ReadingFails, items_at}
use Rattle.code_files.specs.ReadInstrs.{Reads}

pub goes_on : {A : Type 0} (item : List A → Reads A) (earlier : List A) (count i : ℕ) (bytes : List ℕ) (x : A) (after : List ℕ) (total : Result (List A × List ℕ) Fault)
    → i < count → item earlier bytes ≡ Ok (x, after) → items_at item earlier (count - i) bytes ≡ total → items_at item (earlier ++ x ∷ []) (count - (i + 1)) after ≡ total
unfolding items_at
goes_on item earlier count i bytes x after total lt read so_far =
    let k : count - i ≡ suc (count - (i + 1)) = omega arith in
    let one : items_at item earlier (count - i) bytes ≡ items_at item (earlier ++ x ∷ []) (count - (i + 1)) after = rw (k, read) refl in
    sym one ∙ so_far

pub ends : {A : Type 0} (item : List A → Reads A) (e : Stop) (earlier : List A) (count i : ℕ) (bytes : List ℕ) (total : Result (List A × List ℕ) Fault)
    → i < count → ReadingFails e (item earlier bytes) → items_at item earlier (count - i) bytes ≡ total → ReadingFails e total
unfolding items_at
ends item stops.Memory earlier count i bytes total lt read so_far = tt
ends item (stops.At f) earlier count i bytes total lt read so_far =
    let k : count - i ≡ suc (count - (i + 1)) = omega arith in
    let one : items_at item earlier (count - i) bytes ≡ Err f = rw (k, read) refl in
    sym so_far ∙ one

pub is_done : {A : Type 0} (item : List A → Reads A) (earlier : List A) (count i : ℕ) (bytes : List ℕ) (total : Result (List A × List ℕ) Fault)
    → count ≤ i → items_at item earlier (count - i) bytes ≡ total → total ≡ Ok (earlier, bytes)
unfolding items_at
is_done item earlier count i bytes total le so_far =
    let k : count - i ≡ 0 = omega arith in
    let one : items_at item earlier (count - i) bytes ≡ Ok (earlier, bytes) = rw k refl in
    sym so_far ∙ one
