-- The lists of a code that were written are read again.
use Rattle.std.proofs.Common.{◌≡◌, ◌≢◌, ◌≤◌, ◌<◌, ◌^◌, ◌+◌, ℕ, zero, suc, true, false, not, ◌&&◌, List, [], ◌∷◌, ◌++◌, map, length, All, Ok, refl, sym, ap, subst, ◌∙◌, append_assoc, arith, inl, inr}
use Rattle.std.specs.Prelude.{AllPairs, fold, sum_by, slice_index_or}
use Rattle.std.specs.List.{list_any, AllByRecursion}
use Rattle.std.specs.Str.{bytes_eq, str_to_ascii_uppercase}
use Rattle.std.proofs.Math.Seq.{get_or-append_seam}
use Rattle.std.proofs.lemmas.Bool.{cases_Bool}
use Rattle.std.proofs.lemmas.List.{get_or_append_left, length-append}
use Rattle.std.proofs.lemmas.List.Elements.{recursion_from_All}
use Rattle.std.proofs.lemmas.List.Sums.{sum_by-append, sum_by-cons}
use Rattle.std.proofs.lemmas.Slice.Eq.{bytes_eq-Decides}
use Rattle.stapl_lexer.specs.Names.{is_name}
use Rattle.stapl_syntax.specs.Contents.{IsFreeName}
use Rattle.stapl_code.specs.declared.raw.VarDef.{VarDef}
use Rattle.stapl_code.specs.declared.raw.ProcDef.{ProcDef}
use Rattle.stapl_code.specs.declared.raw.ItemDef.{ItemDef}
use Rattle.stapl_code.specs.declared.raw.ActionDef.{ActionDef}
use Rattle.stapl_code.specs.Ranges.{IsVariable, elements_of, IsItem, IsAction}
use Rattle.stapl_code.specs.Fields.{number, name, text, counted}
use Rattle.stapl_code.specs.Files.{variable, procedure, item, action}
use Rattle.code_files.specs.Reading.{listed_in, any_end}
use Rattle.code_files.specs.ReadInstrs.{with_number, with_byte, with_byte_from}
use Rattle.code_files.specs.ReadFiles.{size_end, variable_at, text_at, is_spelled, name_at, least_entry, procedure_at, item_at, action_at}
use Rattle.code_files.proofs.FieldsAgain.{field_again, with_number_again, with_number_from_again, with_byte_again, with_byte_from_again, AllAfter}
use Rattle.code_files.proofs.PartsAgain.{made_again, followed_again, each_again}

-- ---- variables

abbrev pub FitsAfter : List VarDef → VarDef → Type 0
FitsAfter earlier v = (v.kind < 4) × (1 ≤ v.size) × (v.size < size_end earlier v.kind)

pub variable_again : (earlier : List VarDef) (v : VarDef) (rest : List ℕ) → size_end earlier v.kind ≤ 2 ^ 32 → FitsAfter earlier v
    → variable_at earlier (variable v ++ rest) ≡ Ok (v, rest)
variable_again earlier v rest wide fits =
    followed_again (with_byte 4 (λ kind. kind)) _ (v.kind ∷ (number v.size ++ rest)) v.kind (number v.size ++ rest)
    (with_byte_again 4 (λ kind. kind) v.kind (number v.size ++ rest) fits.0)
    ∙ with_number_from_again 1 (size_end earlier v.kind) (λ size. record { kind = v.kind; size = size }) v.size rest wide fits.1 fits.2

pub ends_wide : (earlier : List VarDef) (kind : ℕ) → size_end earlier kind ≤ 2 ^ 32
ends_wide earlier zero = omega arith
ends_wide earlier (suc zero) = omega arith
ends_wide earlier (suc (suc zero)) = omega arith
ends_wide earlier (suc (suc (suc k))) = omega arith

-- what a variable takes of the limits
fits_after : (earlier : List VarDef) (kind size : ℕ) → IsVariable (record { kind = kind; size = size })
    → sum_by (elements_of 0 2) earlier + elements_of 0 2 (record { kind = kind; size = size }) ≤ 1048576
    → sum_by (elements_of 1 3) earlier + elements_of 1 3 (record { kind = kind; size = size }) ≤ 16777216
    → FitsAfter earlier (record { kind = kind; size = size })
fits_after earlier zero size is ints bits = let one = is.scalar (omega arith) in (omega arith, is.some, omega arith)
fits_after earlier (suc zero) size is ints bits = let one = is.scalar (omega arith) in (omega arith, is.some, omega arith)
fits_after earlier (suc (suc zero)) size is ints bits = (omega arith, is.some, omega arith)
fits_after earlier (suc (suc (suc zero))) size is ints bits = let most = is.boolean_array refl in (omega arith, is.some, omega arith)
fits_after earlier (suc (suc (suc (suc k)))) size is ints bits = absurd (omega (arith, is.kind))

taken_of : (scalar array : ℕ) (earlier : List VarDef) (v : VarDef) (xs : List VarDef)
    → sum_by (elements_of scalar array) (earlier ++ v ∷ xs) ≡ sum_by (elements_of scalar array) earlier + (elements_of scalar array v + sum_by (elements_of scalar array) xs)
taken_of scalar array earlier v xs =
    sum_by-append (elements_of scalar array) earlier (v ∷ xs)
    ∙ ap (λ (n : ℕ). sum_by (elements_of scalar array) earlier + n) (sum_by-cons (elements_of scalar array) v xs)

pub variables_after : (earlier xs : List VarDef) → AllByRecursion IsVariable xs → sum_by (elements_of 0 2) (earlier ++ xs) ≤ 1048576
    → sum_by (elements_of 1 3) (earlier ++ xs) ≤ 16777216 → AllAfter FitsAfter earlier xs
variables_after earlier [] each ints bits = tt
variables_after earlier (v ∷ xs) each ints bits = (
  fits_after earlier v.kind v.size each.0 (omega (arith, ints, taken_of 0 2 earlier v xs)) (omega (arith, bits, taken_of 1 3 earlier v xs)),
  variables_after (earlier ++ v ∷ []) xs each.1
      (subst (λ (ys : List VarDef). sum_by (elements_of 0 2) ys ≤ 1048576) (sym (append_assoc earlier (v ∷ []) xs)) ints)
      (subst (λ (ys : List VarDef). sum_by (elements_of 1 3) ys ≤ 16777216) (sym (append_assoc earlier (v ∷ []) xs)) bits),
)

-- ---- texts

pub text_again : (bytes rest : List ℕ) → length bytes ≤ 4194304 → text_at (text bytes ++ rest) ≡ Ok (bytes, rest)
text_again bytes rest short =
    followed_again (with_number 4194305 (λ len. len)) _ (number (length bytes) ++ (bytes ++ rest)) (length bytes) (bytes ++ rest)
    (with_number_again 4194305 (λ len. len) (length bytes) (bytes ++ rest) (omega arith) (omega arith))
    ∙ field_again (length bytes) (λ _. true) bytes rest refl refl

-- ---- names

other_name : (a b : List ℕ) → b ≢ a → bytes_eq a b ≡ false
other_name a b differ = elim (cases_Bool (bytes_eq a b)) [ inl same ↦ absurd (differ (sym ((bytes_eq-Decides a b).0 same))) | inr other ↦ other ]

none_equal : (bytes : List ℕ) (names : List (List ℕ)) → AllByRecursion (λ n. n ≢ bytes) names → list_any (bytes_eq bytes) names ≡ false
none_equal bytes [] each = refl
none_equal bytes (n ∷ names) each = rw (other_name bytes n each.0) (none_equal bytes names each.1)

-- what holds of each name holds of the items that bear them
names_of : {A : Type 0} (name_of : A → List ℕ) (bytes : List ℕ) (xs : List A) → AllByRecursion (λ x. name_of x ≢ bytes) xs → AllByRecursion (λ n. n ≢ bytes) (map name_of xs)
names_of name_of bytes [] each = tt
names_of name_of bytes (x ∷ xs) each = (each.0, names_of name_of bytes xs each.1)

spelled : (bytes : List ℕ) → IsFreeName bytes → is_spelled bytes ≡ true
spelled bytes h =
    let upper : bytes_eq (str_to_ascii_uppercase bytes) bytes ≡ true = (bytes_eq-Decides (str_to_ascii_uppercase bytes) bytes).1 h.spelled.upper in
    let named : is_name bytes ≡ true = h.spelled.spelled in
    rw (named, h.free, upper) refl

pub name_again : (names : List (List ℕ)) (bytes rest : List ℕ) → IsFreeName bytes → AllByRecursion (λ n. n ≢ bytes) names
    → name_at names (name bytes ++ rest) ≡ Ok (bytes, rest)
name_again names bytes rest free new =
    let good : is_spelled bytes && not (list_any (bytes_eq bytes) names) ≡ true = rw (spelled bytes free, none_equal bytes names new) refl in
    followed_again (with_byte_from 1 33 (λ len. len)) _ (length bytes ∷ (bytes ++ rest)) (length bytes) (bytes ++ rest)
    (with_byte_from_again 1 33 (λ len. len) (length bytes) (bytes ++ rest) (omega (arith, free.spelled.some)) (omega (arith, free.spelled.short)))
    ∙ field_again (length bytes) (λ x. is_spelled x && not (list_any (bytes_eq x) names)) bytes rest refl good

-- what holds of each pair holds of an item and all before it
pub pairs_after : {A : Type 0} (R : A → A → Type 0) (Q : A → Type 0) (earlier xs : List A) → AllPairs R (earlier ++ xs) → AllByRecursion Q xs
    → AllAfter (λ before x. All (λ y. R y x) before × Q x) earlier xs
pairs_after R Q earlier [] pairs each = tt
pairs_after R Q earlier (x ∷ xs) pairs each = (
  (
    λ k d lt. subst (λ z. R (slice_index_or earlier k d) z) (get_or-append_seam earlier x xs d)
        (subst (λ z. R z (slice_index_or (earlier ++ x ∷ xs) (length earlier) d)) (get_or_append_left earlier (x ∷ xs) d k lt)
        (pairs k (length earlier) d lt (omega (arith, length-append earlier (x ∷ xs))))),
    each.0,
  ),
  pairs_after R Q (earlier ++ x ∷ []) xs (subst (AllPairs R) (sym (append_assoc earlier (x ∷ []) xs)) pairs) each.1,
)

-- ---- procedures

abbrev pub ComesAfter : List ProcDef → ProcDef → Type 0
ComesAfter earlier p = All (λ q. (q.name ≢ p.name) × (q.entry < p.entry)) earlier × (IsFreeName p.name × (p.entry < 2 ^ 32))

entries_below : (least e : ℕ) (xs : List ProcDef) → least ≤ e → AllByRecursion (λ q. q.entry < e) xs → fold (λ n (p : ProcDef). p.entry + 1) least xs ≤ e
entries_below least e [] start each = start
entries_below least e (x ∷ xs) start each = entries_below (x.entry + 1) e xs (omega (arith, each.0)) each.1

pub procedure_again : (earlier : List ProcDef) (p : ProcDef) (rest : List ℕ) → ComesAfter earlier p → procedure_at earlier (procedure p ++ rest) ≡ Ok (p, rest)
procedure_again earlier p rest h =
    let regrouped : procedure p ++ rest ≡ name p.name ++ (number p.entry ++ rest) = append_assoc (name p.name) (number p.entry) rest in
    let new : AllByRecursion (λ (q : ProcDef). q.name ≢ p.name) earlier = recursion_from_All (λ (q : ProcDef). q.name ≢ p.name) earlier (λ k d lt. (h.0 k d lt).0) in
    let least : least_entry earlier ≤ p.entry =
    entries_below 0 p.entry earlier (omega arith) (recursion_from_All (λ (q : ProcDef). q.entry < p.entry) earlier (λ k d lt. (h.0 k d lt).1)) in
    ap (procedure_at earlier) regrouped
    ∙ followed_again (name_at (map (λ (q : ProcDef). q.name) earlier)) _ (name p.name ++ (number p.entry ++ rest)) p.name (number p.entry ++ rest)
    (name_again (map (λ (q : ProcDef). q.name) earlier) p.name (number p.entry ++ rest) h.1.0 (names_of (λ (q : ProcDef). q.name) p.name earlier new))
    ∙ with_number_from_again (least_entry earlier) any_end (λ entry. record { name = p.name; entry = entry }) p.entry rest (omega arith) least h.1.1

-- ---- actions

item_again : (procedures : ℕ) (i : ItemDef) (rest : List ℕ) → procedures ≤ 2 ^ 32 → IsItem procedures i → item_at procedures (item i ++ rest) ≡ Ok (i, rest)
item_again procedures i rest wide h =
    followed_again (with_number procedures (λ p. p)) _ (number i.procedure ++ (i.flag ∷ rest)) i.procedure (i.flag ∷ rest)
    (with_number_again procedures (λ p. p) i.procedure (i.flag ∷ rest) wide h.there)
    ∙ with_byte_again 3 (λ flag. record { procedure = i.procedure; flag = flag }) i.flag rest (omega (arith, h.flag))

abbrev pub ActsAfter : ℕ → List ActionDef → ActionDef → Type 0
ActsAfter procedures earlier a = All (λ (b : ActionDef). b.name ≢ a.name) earlier × (IsAction procedures a × (length a.items < 2 ^ 32))

pub action_again : (procedures : ℕ) (earlier : List ActionDef) (a : ActionDef) (rest : List ℕ) → procedures ≤ 2 ^ 32 → ActsAfter procedures earlier a
    → action_at procedures earlier (action a ++ rest) ≡ Ok (a, rest)
action_again procedures earlier a rest wide h =
    let items = counted item a.items in
    let regrouped : action a ++ rest ≡ name a.name ++ (items ++ rest) = append_assoc (name a.name) items rest in
    let new : AllByRecursion (λ (b : ActionDef). b.name ≢ a.name) earlier = recursion_from_All (λ (b : ActionDef). b.name ≢ a.name) earlier h.0 in
    ap (action_at procedures earlier) regrouped
    ∙ followed_again (name_at (map (λ (b : ActionDef). b.name) earlier)) _ (name a.name ++ (items ++ rest)) a.name (items ++ rest)
    (name_again (map (λ (b : ActionDef). b.name) earlier) a.name (items ++ rest) h.1.0.named (names_of (λ (b : ActionDef). b.name) a.name earlier new))
    ∙ made_again (λ xs. record { name = a.name; items = xs }) (listed_in (λ _. item_at procedures) 1 any_end) (items ++ rest) a.items rest
    (each_again (item_at procedures) item (IsItem procedures) (λ i r. item_again procedures i r wide) 1 any_end a.items rest (omega arith) h.1.0.some h.1.1 h.1.0.each)
