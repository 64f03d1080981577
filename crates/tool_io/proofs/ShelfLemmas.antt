-- On the store in memory.
use Rattle.std.proofs.Common.{◌≡◌, ◌≤◌, ◌<◌, ◌+◌, ◌-◌, ◌^◌, ℕ, min, List, [], ◌∷◌, ◌++◌, length, take, drop, refl, sym, ap, ◌∙◌, Bool, true, false, Option, Some, Result, arith, String, Vec, Global, map, string_bytes, slice_index, slice_index_or, inl, inr, if◌then◌else◌, add-one}
use Rattle.std.proofs.Math.Seq.{take-append_seam}
use Rattle.std.proofs.lemmas.Bool.{cases_eq}
use Rattle.std.proofs.lemmas.List.{get_or-set_same, get_or-set_other, length-take-le, take-append-drop, drop-drop, length-map, get_or-map}
use Rattle.std.specs.List.{zip}
use Rattle.std.specs.Str.{bytes_eq}
use Rattle.tool_io.specs.Files.{file_of, Gives}
use Rattle.tool_io.specs.Shelves.{place_of, raised}
use Rattle.tool_io.specs.Causes.{CountKept, CountRose, CountsCause, IsSaturated, raised_count}
use Rattle.tool_io.proofs.CauseLemmas.{kept_start, saturated_kept, cause_of_rose_at}

choose : (b : Bool) (f : List ℕ) (fs : List (List ℕ)) (rest : Option (List ℕ)) (place : ℕ) →
    (place < length fs → rest ≡ Some (slice_index_or fs place [])) →
    (if b then 0 else place + 1) < length fs + 1 →
    (if b then Some f else rest) ≡ Some (slice_index_or (f ∷ fs) (if b then 0 else place + 1) [])
choose true f fs rest place h lt = refl
choose false f fs rest place h lt = rw add-one (h (omega arith))

-- the bytes of a name stand at its place
pub file_of_place : (names files : List (List ℕ)) (name : List ℕ) → length names ≡ length files → place_of names name < length names →
    file_of (zip names files) name ≡ Some (slice_index_or files (place_of names name) [])
file_of_place [] files name e lt = absurd (omega arith)
file_of_place (n ∷ ns) [] name e lt = absurd (omega arith)
file_of_place (n ∷ ns) (f ∷ fs) name e lt =
    choose (bytes_eq n name) f fs (file_of (zip ns fs) name) (place_of ns name)
    (λ h. file_of_place ns fs name (omega arith) (omega arith)) (omega arith)

nil_of_length : (xs : List ℕ) → length xs ≡ 0 → xs ≡ []
nil_of_length [] h = refl
nil_of_length (x ∷ xs) h = absurd (omega arith)

-- a read of the front of what is left gives it
pub gives_front : (f into : List ℕ) (at n room : ℕ) → n ≡ min (min (length (drop at f)) room) (2 ^ 32 - 1) → 0 < room →
    Gives (drop at f) (drop (at + n) f) n (take n (drop at f) ++ into)
gives_front f into at n room e pos =
    let fits : n ≤ length (drop at f) = omega arith in
    let front : take n (take n (drop at f) ++ into) ≡ take n (drop at f) =
    ap (λ k. take k (take n (drop at f) ++ into)) (sym (length-take-le n (drop at f) fits)) ∙ take-append_seam (take n (drop at f)) into in
    record {
      next = sym (ap (λ v. v ++ drop (at + n) f) front ∙ ap (λ v. take n (drop at f) ++ v) (sym (drop-drop n at f)) ∙ take-append-drop n (drop at f));
      end = λ h. omega (arith, ap length h);
      only_end = λ h. nil_of_length (drop at f) (omega arith);
    }

pub length_names : (names : List (String Global)) → length (map string_bytes names) ≡ length names
length_names names = length-map names string_bytes

-- the counts after one more fault at a place
pub raised_kept : (counts : List ℕ) (place i : ℕ) → place < length counts → slice_index counts place ≤ 2 ^ 64 - 1 →
    CountKept (slice_index counts i) (slice_index (raised counts place) i) (IsSaturated (slice_index counts i)) (IsSaturated (slice_index (raised counts place) i))
raised_kept counts place i lt bound =
    elim (cases_eq i place) [
      | inl e ↦ rw (e, get_or-set_same counts place (raised_count (slice_index counts place)) 0) (saturated_kept (slice_index counts place) bound)
      | inr ne ↦ rw (get_or-set_other counts place i (raised_count (slice_index counts place)) 0 ne) (kept_start (slice_index counts i) _)
    ]

-- one more fault at the place of a name, counted in the items that were lent
pub counts_raised : {T E : Type 0} (names : List (List ℕ)) (old lent new now : List ℕ) (name : List ℕ) (place : ℕ) (result : Result T E) →
    place_of names name ≡ place → lent ≡ old → now ≡ new →
    ((i : ℕ) → CountKept (slice_index lent i) (slice_index new i) (IsSaturated (slice_index lent i)) (IsSaturated (slice_index new i))) →
    CountRose (slice_index lent place) (slice_index new place) (IsSaturated (slice_index new place)) →
    CountsCause (λ n. slice_index old (place_of names n)) (λ n. slice_index now (place_of names n))
    (λ n. IsSaturated (slice_index old (place_of names n))) (λ n. IsSaturated (slice_index now (place_of names n))) name result
counts_raised names old lent new now name place result e before after kept rose =
    rw (← before, after) (cause_of_rose_at result
    (record { later = λ n. (kept (place_of names n)).later; stays = λ n. (kept (place_of names n)).stays })
    (record { risen = rw e rose.risen }))

-- the bytes of a held file
pub held_bytes : (files : List (Vec ℕ Global)) (place : ℕ) (file : Vec ℕ Global) → place < length files → file ≡ slice_index_or files place file →
    slice_index_or (map (λ f. f.items) files) place [] ≡ file.items
held_bytes files place file lt is = get_or-map (λ f. f.items) files place file [] lt ∙ ap (λ f. f.items) (sym is)
