-- The lists of a code that are read are spelled by the bytes that were read.
use Rattle.std.proofs.Common.{◌≡◌, ◌≢◌, ◌≤◌, ◌<◌, ◌^◌, ◌+◌, ℕ, zero, suc, Bool, true, false, not, ◌&&◌, ◌||◌, List, [], ◌∷◌, ◌++◌, map, length, All, refl, sym, ap, subst, append_assoc, arith}
use Rattle.std.specs.Prelude.{AllPairs, sum_by}
use Rattle.std.specs.List.{list_any}
use Rattle.std.specs.Str.{bytes_eq, str_to_ascii_uppercase}
use Rattle.std.proofs.lemmas.List.{append-nil}
use Rattle.std.proofs.lemmas.List.Elements.{All-nil, All-cons, All-push}
use Rattle.std.proofs.lemmas.List.Quantifiers.{all_pairs_push}
use Rattle.std.proofs.lemmas.List.Sums.{sum_by_push}
use Rattle.std.proofs.lemmas.Slice.Eq.{bytes_eq-Decides}
use Rattle.stapl_lexer.specs.Names.{is_name}
use Rattle.stapl_lexer.specs.ReservedWords.{is_free_name, is_reserved_word}
use Rattle.stapl_syntax.specs.Contents.{IsFreeName}
use Rattle.stapl_code.specs.declared.raw.VarDef.{VarDef}
use Rattle.stapl_code.specs.declared.raw.ProcDef.{ProcDef}
use Rattle.stapl_code.specs.declared.raw.ActionDef.{ActionDef}
use Rattle.stapl_code.specs.Ranges.{IsVariable, elements_of, IsItem, IsAction}
use Rattle.stapl_code.specs.Fields.{number, name, text, counted}
use Rattle.stapl_code.specs.Files.{variable, procedure, item, action}
use Rattle.code_files.specs.Reading.{field, listed_in, any_end}
use Rattle.code_files.specs.ReadInstrs.{with_number, with_byte, with_byte_from}
use Rattle.code_files.specs.ReadFiles.{size_end, variable_at, text_at, is_spelled, name_at, least_entry, procedure_at, item_at, action_at}
use Rattle.code_files.proofs.FieldsAgain.{AllAfter}
use Rattle.code_files.proofs.ListsAgain.{FitsAfter, ends_wide, ComesAfter}
use Rattle.code_files.proofs.Entries.{least_push}
use Rattle.code_files.proofs.FieldsTaken.{Takes, IsFrom, IsField, AreEach, one, field_takes, respelled, followed_takes, made_takes, numbers_take, bytes_take, each_takes}

-- ---- variables

pub variable_takes : (earlier : List VarDef) → Takes [] (variable_at earlier) variable (FitsAfter earlier)
variable_takes earlier =
    followed_takes [] (with_byte 4 (λ kind. kind)) _ one (IsFrom 0 4) variable (FitsAfter earlier) (bytes_take [] 0 4 (λ kind. kind) one (IsFrom 0 4) (λ n. refl) (λ n h. h))
    (λ kind is. numbers_take _ 1 (size_end earlier kind) (λ size. record { kind = kind; size = size }) variable (FitsAfter earlier) (λ n. refl) (λ n h. (is.1, h.0, h.1)))

-- what a variable takes of the limits
pub record HasPlace (earlier : List VarDef) (v : VarDef) : Type 0 where
  pub is : IsVariable v
  pub ints : sum_by (elements_of 0 2) earlier + elements_of 0 2 v ≤ 1048576
  pub bits : sum_by (elements_of 1 3) earlier + elements_of 1 3 v ≤ 16777216

place_of : (earlier : List VarDef) (kind size : ℕ) → sum_by (elements_of 0 2) earlier ≤ 1048576 → sum_by (elements_of 1 3) earlier ≤ 16777216
    → FitsAfter earlier (record { kind = kind; size = size }) → HasPlace earlier (record { kind = kind; size = size })
place_of earlier zero size ints bits fits = record {
  is = record { kind = omega arith; some = fits.1; scalar = λ _. omega (arith, fits.1, fits.2); boolean_array = λ h. absurd (omega (arith, h)) };
  ints = omega (arith, fits.2);
  bits = omega arith;
}
place_of earlier (suc zero) size ints bits fits = record {
  is = record { kind = omega arith; some = fits.1; scalar = λ _. omega (arith, fits.1, fits.2); boolean_array = λ h. absurd (omega (arith, h)) };
  ints = omega arith;
  bits = omega (arith, fits.2);
}
place_of earlier (suc (suc zero)) size ints bits fits = record {
  is = record { kind = omega arith; some = fits.1; scalar = λ h. absurd (omega (arith, h)); boolean_array = λ h. absurd (omega (arith, h)) };
  ints = omega (arith, fits.2);
  bits = omega arith;
}
place_of earlier (suc (suc (suc zero))) size ints bits fits = record {
  is = record { kind = omega arith; some = fits.1; scalar = λ h. absurd (omega (arith, h)); boolean_array = λ _. omega (arith, fits.2) };
  ints = omega arith;
  bits = omega (arith, fits.2);
}
place_of earlier (suc (suc (suc (suc k)))) size ints bits fits = absurd (omega (arith, fits.0))

-- variables that were read keep the limits
pub record KeepLimits (earlier xs : List VarDef) : Type 0 where
  pub each : All IsVariable xs
  pub ints : sum_by (elements_of 0 2) (earlier ++ xs) ≤ 1048576
  pub bits : sum_by (elements_of 1 3) (earlier ++ xs) ≤ 16777216

pub limits_kept : (earlier xs : List VarDef) → sum_by (elements_of 0 2) earlier ≤ 1048576 → sum_by (elements_of 1 3) earlier ≤ 16777216
    → AllAfter FitsAfter earlier xs → KeepLimits earlier xs
limits_kept earlier [] ints bits h = record {
  each = All-nil IsVariable;
  ints = subst (λ (ys : List VarDef). sum_by (elements_of 0 2) ys ≤ 1048576) (sym (append-nil earlier)) ints;
  bits = subst (λ (ys : List VarDef). sum_by (elements_of 1 3) ys ≤ 16777216) (sym (append-nil earlier)) bits;
}
limits_kept earlier (x ∷ xs) ints bits h =
    let place : HasPlace earlier x = place_of earlier x.kind x.size ints bits h.0 in
    let more_ints : sum_by (elements_of 0 2) (earlier ++ x ∷ []) ≤ 1048576 = omega (arith, place.ints, sum_by_push (elements_of 0 2) earlier x) in
    let more_bits : sum_by (elements_of 1 3) (earlier ++ x ∷ []) ≤ 16777216 = omega (arith, place.bits, sum_by_push (elements_of 1 3) earlier x) in
    let rest : KeepLimits (earlier ++ x ∷ []) xs = limits_kept (earlier ++ x ∷ []) xs more_ints more_bits h.1 in
    record {
      each = All-cons IsVariable x xs place.is rest.each;
      ints = subst (λ (ys : List VarDef). sum_by (elements_of 0 2) ys ≤ 1048576) (append_assoc earlier (x ∷ []) xs) rest.ints;
      bits = subst (λ (ys : List VarDef). sum_by (elements_of 1 3) ys ≤ 16777216) (append_assoc earlier (x ∷ []) xs) rest.bits;
    }

pub size_small : (earlier : List VarDef) (v : VarDef) → FitsAfter earlier v → v.size < 2 ^ 32
size_small earlier v h = omega (arith, h.2, ends_wide earlier v.kind)

-- ---- texts

abbrev pub IsText : List ℕ → Type 0
IsText bytes = length bytes ≤ 4194304

pub text_takes : Takes [] text_at text IsText
text_takes =
    followed_takes [] (with_number 4194305 (λ len. len)) _ number (IsFrom 0 4194305) text IsText (numbers_take [] 0 4194305 (λ len. len) number (IsFrom 0 4194305) (λ n. refl) (λ n h. h))
    (λ len few. respelled _ (field len (λ _. true)) (λ x. x) (IsField len (λ _. true)) text IsText (field_takes len (λ _. true))
    (λ x h. ap (λ (n : ℕ). number n ++ x) h.0) (λ x h. omega (arith, h.0, few.1)))

-- ---- names

both_true : (a b : Bool) → a && b ≡ true → (a ≡ true) × (b ≡ true)
both_true true b h = (refl, h)
both_true false b h = absurd (cc)

not_true : (b : Bool) → not b ≡ true → b ≡ false
not_true true h = absurd (cc)
not_true false h = refl

apart : (a b : List ℕ) → bytes_eq a b ≡ false → b ≢ a
apart a b differ = λ same.
    let yes : bytes_eq a b ≡ true = (bytes_eq-Decides a b).1 (sym same) in
    absurd (cc)

no_test : (a b : Bool) → a || b ≡ false → (a ≡ false) × (b ≡ false)
no_test false b h = (refl, h)
no_test true b h = absurd (cc)

all_apart : {A : Type 0} (name_of : A → List ℕ) (bytes : List ℕ) (xs : List A) → list_any (bytes_eq bytes) (map name_of xs) ≡ false → All (λ x. name_of x ≢ bytes) xs
all_apart name_of bytes [] h = All-nil (λ x. name_of x ≢ bytes)
all_apart name_of bytes (x ∷ xs) h =
    let both = no_test (bytes_eq bytes (name_of x)) (list_any (bytes_eq bytes) (map name_of xs)) h in
    All-cons (λ y. name_of y ≢ bytes) x xs (apart bytes (name_of x) both.0) (all_apart name_of bytes xs both.1)

free_name : (bytes : List ℕ) → 1 ≤ length bytes → length bytes < 33 → is_spelled bytes ≡ true → IsFreeName bytes
free_name bytes some few h =
    let both = both_true (is_free_name bytes) (bytes_eq (str_to_ascii_uppercase bytes) bytes) h in
    let free = both_true (is_name bytes) (not (is_reserved_word bytes)) both.0 in
    record {
      spelled = record {
        spelled = free.0;
        some = omega arith;
        short = omega arith;
        upper = (bytes_eq-Decides (str_to_ascii_uppercase bytes) bytes).0 both.1;
      };
      free = not_true (is_reserved_word bytes) free.1;
    }

abbrev pub IsNewName : {A : Type 0} → (A → List ℕ) → List A → List ℕ → Type 0
IsNewName name_of earlier bytes = All (λ x. name_of x ≢ bytes) earlier × IsFreeName bytes

pub name_takes : {A : Type 0} (name_of : A → List ℕ) (earlier : List A) → Takes [] (name_at (map name_of earlier)) name (IsNewName name_of earlier)
name_takes {A} name_of earlier =
    let names : List (List ℕ) = map name_of earlier in
    let test : List ℕ → Bool = λ bytes. is_spelled bytes && not (list_any (bytes_eq bytes) names) in
    followed_takes [] (with_byte_from 1 33 (λ len. len)) _ one (IsFrom 1 33) name (IsNewName name_of earlier)
    (bytes_take [] 1 33 (λ len. len) one (IsFrom 1 33) (λ n. refl) (λ n h. h))
    (λ len few. respelled _ (field len test) (λ x. x) (IsField len test) name (IsNewName name_of earlier) (field_takes len test)
    (λ x h. ap (λ (n : ℕ). n ∷ x) h.0)
    (λ x h.
    let both : (is_spelled x ≡ true) × (not (list_any (bytes_eq x) names) ≡ true) = both_true (is_spelled x) (not (list_any (bytes_eq x) names)) h.1 in
    (all_apart name_of x earlier (not_true (list_any (bytes_eq x) names) both.1), free_name x (omega (arith, h.0, few.0)) (omega (arith, h.0, few.1)) both.0)))

-- what holds of each item and all before it holds of each pair
pub pairs_of : {A : Type 0} (R : A → A → Type 0) (Q : A → Type 0) (earlier xs : List A) → AllPairs R earlier → AllAfter (λ before x. All (λ y. R y x) before × Q x) earlier xs
    → AllPairs R (earlier ++ xs)
pairs_of R Q earlier [] pairs h = subst (AllPairs R) (sym (append-nil earlier)) pairs
pairs_of R Q earlier (x ∷ xs) pairs h =
    subst (AllPairs R) (append_assoc earlier (x ∷ []) xs) (pairs_of R Q (earlier ++ x ∷ []) xs (all_pairs_push R earlier x pairs h.0.0) h.1)

pub no_pairs : {A : Type 0} (R : A → A → Type 0) → AllPairs R []
no_pairs R = λ i j d less below. absurd (omega arith)

-- ---- procedures

abbrev pub StartsAfter : List ProcDef → ProcDef → Type 0
StartsAfter earlier p = IsNewName (λ (q : ProcDef). q.name) earlier p.name × IsFrom (least_entry earlier) any_end p.entry

pub procedure_takes : (earlier : List ProcDef) → Takes [] (procedure_at earlier) procedure (StartsAfter earlier)
procedure_takes earlier =
    followed_takes [] (name_at (map (λ (q : ProcDef). q.name) earlier)) _ name (IsNewName (λ (q : ProcDef). q.name) earlier) procedure (StartsAfter earlier)
    (name_takes (λ (q : ProcDef). q.name) earlier)
    (λ word new. numbers_take _ (least_entry earlier) any_end (λ entry. record { name = word; entry = entry }) procedure (StartsAfter earlier) (λ n. refl) (λ n h. (new, h)))

abbrev StartsBelow : ℕ → ProcDef → Type 0
StartsBelow least q = q.entry < least

comes_after : (earlier : List ProcDef) (p : ProcDef) → All (StartsBelow (least_entry earlier)) earlier → StartsAfter earlier p → ComesAfter earlier p
comes_after earlier p below h = (λ k d lt. (h.0.0 k d lt, omega (arith, below k d lt, h.1.0)), (h.0.1, omega (arith, h.1.1)))

below_next : (earlier : List ProcDef) (p : ProcDef) → All (StartsBelow (least_entry earlier)) earlier → least_entry earlier ≤ p.entry
    → All (StartsBelow (least_entry (earlier ++ p ∷ []))) (earlier ++ p ∷ [])
below_next earlier p below least =
    subst (λ (n : ℕ). All (StartsBelow n) (earlier ++ p ∷ [])) (sym (least_push earlier p))
    (All-push (StartsBelow (p.entry + 1)) earlier p (λ k d lt. omega (arith, below k d lt)) (omega arith))

pub in_order : (earlier xs : List ProcDef) → All (StartsBelow (least_entry earlier)) earlier → AllAfter StartsAfter earlier xs → AllAfter ComesAfter earlier xs
in_order earlier [] below h = tt
in_order earlier (x ∷ xs) below h =
    (comes_after earlier x below h.0, in_order (earlier ++ x ∷ []) xs (below_next earlier x below h.0.1.0) h.1)

pub none_below : All (StartsBelow 0) []
none_below = All-nil (StartsBelow 0)

-- ---- actions

item_takes : (procedures : ℕ) → Takes [] (item_at procedures) item (IsItem procedures)
item_takes procedures =
    followed_takes [] (with_number procedures (λ p. p)) _ number (IsFrom 0 procedures) item (IsItem procedures)
    (numbers_take [] 0 procedures (λ p. p) number (IsFrom 0 procedures) (λ n. refl) (λ n h. h))
    (λ p is. bytes_take _ 0 3 (λ flag. record { procedure = p; flag = flag }) item (IsItem procedures) (λ n. refl) (λ n h. record { there = is.1; flag = omega (arith, h.1) }))

abbrev pub ActsAfterOthers : ℕ → List ActionDef → ActionDef → Type 0
ActsAfterOthers procedures earlier a = All (λ (b : ActionDef). b.name ≢ a.name) earlier × IsAction procedures a

pub action_takes : (procedures : ℕ) (earlier : List ActionDef) → Takes [] (action_at procedures earlier) action (ActsAfterOthers procedures earlier)
action_takes procedures earlier =
    followed_takes [] (name_at (map (λ (b : ActionDef). b.name) earlier)) _ name (IsNewName (λ (b : ActionDef). b.name) earlier) action (ActsAfterOthers procedures earlier)
    (name_takes (λ (b : ActionDef). b.name) earlier)
    (λ word new. made_takes _ (λ items. record { name = word; items = items }) (listed_in (λ _. item_at procedures) 1 any_end) (counted item) (AreEach (IsItem procedures) 1 any_end)
    action (ActsAfterOthers procedures earlier) (each_takes (item_at procedures) item (IsItem procedures) (item_takes procedures) 1 any_end)
    (λ items. refl) (λ items h. (new.0, record { named = new.1; some = h.0.0; each = h.1 })))
