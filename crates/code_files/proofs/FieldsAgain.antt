-- A field that was written is read again.
use Rattle.std.proofs.Common.{◌≡◌, ◌≤◌, ◌<◌, ◌^◌, ◌+◌, ◌-◌, ℕ, Bool, true, false, List, [], ◌∷◌, ◌++◌, length, Result, Ok, ltb, refl, sym, ap, ◌∙◌, append_assoc, arith}
use Rattle.std.specs.Prelude.{slice_get, slice_index_or}
use Rattle.std.specs.List.{flat_map}
use Rattle.std.specs.Int.{w32, from_be_bytes}
use Rattle.std.proofs.lemmas.Bool.{le-ltb}
use Rattle.std.proofs.lemmas.Bool.Decides.{nat_tests}
use Rattle.std.proofs.lemmas.List.{take_at, drop_at, length-append, append-nil}
use Rattle.std.proofs.lemmas.Nat.{from_be_bytes-to_be_bytes_4}
use Rattle.code_files.specs.declared.fault.Fault.{Fault}
use Rattle.stapl_code.specs.Fields.{number, counted}
use Rattle.code_files.specs.Reading.{◌>>=◌, field, is_from, byte_in, number_in, items_at, listed_in}
use Rattle.code_files.specs.ReadInstrs.{Reads, with_number_from, with_number, with_byte_from, with_byte, row, tagged}

pub field_again : (size : ℕ) (is_in_range : List ℕ → Bool) (a rest : List ℕ) → length a ≡ size → is_in_range a ≡ true → field size is_in_range (a ++ rest) ≡ Ok (a, rest)
field_again size is_in_range a rest len fits =
    let long : ltb (length (a ++ rest)) size ≡ false = le-ltb _ _ (omega (arith, length-append a rest)) in
    rw (long, take_at a rest size len, drop_at a rest size len, fits) refl

pub from_true : (low end n : ℕ) → low ≤ n → n < end → is_from low end n ≡ true
from_true low end n least most = grind (arith, nat_tests)

pub byte_again : (low end b : ℕ) (rest : List ℕ) → is_from low end b ≡ true → byte_in low end (b ∷ rest) ≡ Ok (b, rest)
unfolding byte_in
byte_again low end b rest inside =
    let read = field_again 1 (λ x. is_from low end (slice_index_or x 0 0)) (b ∷ []) rest refl inside in
    ap (λ (r : Result (List ℕ × List ℕ) Fault). r >>= λ f. Ok (slice_index_or f.0 0 0, f.1)) read

pub number_again : (low end n : ℕ) (rest : List ℕ) → end ≤ 2 ^ 32 → low ≤ n → n < end → number_in low end (number n ++ rest) ≡ Ok (n, rest)
unfolding number_in
number_again low end n rest wide least most =
    let back : from_be_bytes w32 (number n) ≡ n = from_be_bytes-to_be_bytes_4 n (omega arith) in
    let read = field_again 4 (λ x. is_from low end (from_be_bytes w32 x)) (number n) rest refl (ap (is_from low end) back ∙ from_true low end n least most) in
    ap (λ (r : Result (List ℕ × List ℕ) Fault). r >>= λ f. Ok (from_be_bytes w32 f.0, f.1)) read ∙ ap (λ (m : ℕ). Ok (m, rest)) back

-- the items of a list, each of which is read again after those before it
abbrev pub AllAfter : {A : Type 0} → (List A → A → Type 0) → List A → List A → Type 0
AllAfter P earlier [] = Unit {0}
AllAfter P earlier (x ∷ xs) = P earlier x × AllAfter P (earlier ++ x ∷ []) xs

module _ {A : Type 0} (item : List A → Reads A) (spell : A → List ℕ) (P : List A → A → Type 0)
    (each : (earlier : List A) (x : A) (rest : List ℕ) → P earlier x → item earlier (spell x ++ rest) ≡ Ok (x, rest)) where
  pub items_again : (earlier xs : List A) (rest : List ℕ) → AllAfter P earlier xs → items_at item earlier (length xs) (flat_map spell xs ++ rest) ≡ Ok (earlier ++ xs, rest)
  unfolding items_at
  items_again earlier [] rest all = ap (λ (ys : List A). Ok (ys, rest)) (sym (append-nil earlier))
  items_again earlier (x ∷ xs) rest all =
      let regrouped : (spell x ++ flat_map spell xs) ++ rest ≡ spell x ++ (flat_map spell xs ++ rest) = append_assoc (spell x) (flat_map spell xs) rest in
      let first : item earlier ((spell x ++ flat_map spell xs) ++ rest) ≡ Ok (x, flat_map spell xs ++ rest) =
      ap (item earlier) regrouped ∙ each earlier x (flat_map spell xs ++ rest) all.0 in
      ap (λ (r : Result (A × List ℕ) Fault). r >>= λ y. items_at item (earlier ++ y.0 ∷ []) (length xs) y.1) first
      ∙ items_again (earlier ++ x ∷ []) xs rest all.1
      ∙ ap (λ (ys : List A). Ok (ys, rest)) (append_assoc earlier (x ∷ []) xs)

  pub listed_again : (low end : ℕ) (xs : List A) (rest : List ℕ) → end ≤ 2 ^ 32 → low ≤ length xs → length xs < end → AllAfter P [] xs
      → listed_in item low end (counted spell xs ++ rest) ≡ Ok (xs, rest)
  unfolding listed_in
  listed_again low end xs rest wide least most all =
      let count = number_again low end (length xs) (flat_map spell xs ++ rest) wide least most in
      ap (λ (r : Result (ℕ × List ℕ) Fault). r >>= λ n. items_at item [] n.0 n.1) count ∙ items_again [] xs rest all

pub with_number_from_again : {A : Type 0} (low end : ℕ) (made : ℕ → A) (n : ℕ) (rest : List ℕ) → end ≤ 2 ^ 32 → low ≤ n → n < end → with_number_from low end made (number n ++ rest) ≡ Ok (made n, rest)
with_number_from_again low end made n rest wide least most =
    ap (λ (r : Result (ℕ × List ℕ) Fault). r >>= λ x. Ok (made x.0, x.1)) (number_again low end n rest wide least most)

pub with_number_again : {A : Type 0} (end : ℕ) (made : ℕ → A) (n : ℕ) (rest : List ℕ) → end ≤ 2 ^ 32 → n < end → with_number end made (number n ++ rest) ≡ Ok (made n, rest)
with_number_again end made n rest wide most = with_number_from_again 0 end made n rest wide (omega arith) most

pub with_byte_from_again : {A : Type 0} (low end : ℕ) (made : ℕ → A) (b : ℕ) (rest : List ℕ) → low ≤ b → b < end → with_byte_from low end made (b ∷ rest) ≡ Ok (made b, rest)
with_byte_from_again low end made b rest least most =
    ap (λ (r : Result (ℕ × List ℕ) Fault). r >>= λ x. Ok (made x.0, x.1)) (byte_again low end b rest (from_true low end b least most))

pub with_byte_again : {A : Type 0} (end : ℕ) (made : ℕ → A) (b : ℕ) (rest : List ℕ) → b < end → with_byte end made (b ∷ rest) ≡ Ok (made b, rest)
with_byte_again end made b rest most = with_byte_from_again 0 end made b rest (omega arith) most

pub tagged_again : {A : Type 0} (low : ℕ) (table : List (Reads A)) (tag : ℕ) (rest : List ℕ) → is_from low (low + length table) tag ≡ true
    → tagged low table (tag ∷ rest) ≡ row (slice_get table (tag - low)) rest
unfolding tagged
tagged_again {A} low table tag rest inside =
    ap (λ (r : Result (ℕ × List ℕ) Fault). r >>= λ t. row (slice_get table (t.0 - low)) t.1) (byte_again low (low + length table) tag rest inside)
