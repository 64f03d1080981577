-- What is read is spelled by the bytes that were read.
use Rattle.std.proofs.Common.{◌≡◌, ◌≤◌, ◌<◌, ◌+◌, ◌-◌, ℕ, zero, suc, Bool, true, false, cond, List, [], ◌∷◌, ◌++◌, length, take, drop, get_or, Result, Ok, Err, All, ltb, refl, sym, ap, subst, ◌∙◌, append_assoc, arith}
use Rattle.std.specs.Prelude.{slice_get, slice_index_or}
use Rattle.std.specs.List.{flat_map}
use Rattle.std.specs.Int.{w32, from_be_bytes}
use Rattle.std.proofs.lemmas.Bool.{ltb-false}
use Rattle.std.proofs.lemmas.Bool.Decides.{nat_tests}
use Rattle.std.proofs.lemmas.List.{append-nil, take-append-drop, length-take-le}
use Rattle.std.proofs.lemmas.List.Elements.{All-take, All-drop, All-nil, All-cons}
use Rattle.std.proofs.lemmas.Nat.{be_bytes_4}
use Rattle.std.proofs.Math.Seq.{take-append_seam, drop-append_seam}
use Rattle.code_files.specs.declared.fault.Fault.{Fault}
use Rattle.stapl_code.specs.declared.reason.CodeReason.TheVariants.{Field}
use Rattle.stapl_code.specs.Fields.{number, counted}
use Rattle.code_files.specs.Reading.{◌>>=◌, fault, field, is_from, byte_in, number_in, items_at, listed_in}
use Rattle.code_files.specs.ReadInstrs.{Reads, with_number_from, with_byte_from, made_of, followed, nothing, row, tagged}
use Rattle.code_files.proofs.FieldsAgain.{AllAfter}

-- each of them is a byte
pub record AreBytes (bytes : List ℕ) : Type 0 where
  pub each : All (λ b. b < 256) bytes

pub front_bytes : (a b : List ℕ) → AreBytes (a ++ b) → AreBytes a
front_bytes a b h = record { each = subst (All (λ b. b < 256)) (take-append_seam a b) (All-take (λ b. b < 256) (length a) (a ++ b) h.each) }

pub rest_bytes : (a b : List ℕ) → AreBytes (a ++ b) → AreBytes b
rest_bytes a b h = record { each = subst (All (λ b. b < 256)) (drop-append_seam a b) (All-drop (λ b. b < 256) (length a) (a ++ b) h.each) }

at_each : (bytes : List ℕ) (i : ℕ) → AreBytes bytes → get_or bytes i 0 < 256
at_each [] i h = omega arith
at_each (b ∷ bytes) zero h = h.each 0 0 (omega arith)
at_each (b ∷ bytes) (suc i) h = at_each bytes i (rest_bytes (b ∷ []) bytes h)

-- bytes of which the first ones spell a value, which has a property
pub record IsRead {A : Type 0} (spell : A → List ℕ) (P : A → Type 0) (bytes : List ℕ) (x : A) (rest : List ℕ) : Type 0 where
  pub spelled : bytes ≡ spell x ++ rest
  pub has : P x

-- What a reader gives is spelled by these bytes in front and those that it reads.
pub record Takes {A : Type 0} (front : List ℕ) (reads : Reads A) (spell : A → List ℕ) (P : A → Type 0) : Type 0 where
  pub takes : (bytes : List ℕ) (x : A) (rest : List ℕ) → AreBytes bytes → reads bytes ≡ Ok (x, rest) → IsRead spell P (front ++ bytes) x rest

-- ---- reading in steps

pub record Bound {A B : Type 0} (r : Result A Fault) (f : A → Result B Fault) (y : B) : Type 0 where
  pub first : A
  pub read : r ≡ Ok first
  pub next : f first ≡ Ok y

pub bound : {A B : Type 0} (r : Result A Fault) (f : A → Result B Fault) (y : B) → r >>= f ≡ Ok y → Bound r f y
bound (Ok x) f y e = record { first = x; read = refl; next = e }
bound (Err x) f y e = absurd (cc)

abbrev read_of : {A : Type 0} → A → Result A Fault
read_of x = Ok x

whole_is : {A : Type 0} (x y : A) → read_of x ≡ read_of y → x ≡ y
whole_is x y e = cc

pub value_is : {A : Type 0} (x y : A × List ℕ) → read_of x ≡ read_of y → x.0 ≡ y.0
value_is {A} x y e = ap (λ (p : A × List ℕ). p.0) (whole_is x y e)

pub rest_is : {A : Type 0} (x y : A × List ℕ) → read_of x ≡ read_of y → x.1 ≡ y.1
rest_is {A} x y e = ap (λ (p : A × List ℕ). p.1) (whole_is x y e)

spelled_as : (bytes part mid whole rest : List ℕ) → bytes ≡ part ++ mid → part ≡ whole → mid ≡ rest → bytes ≡ whole ++ rest
spelled_as bytes part mid whole rest read is after = cc

pub nothing_takes : {A : Type 0} (front : List ℕ) (x : A) (spell : A → List ℕ) (P : A → Type 0) → spell x ≡ front → P x → Takes front (nothing x) spell P
nothing_takes front x spell P s h = record {
  takes = λ bytes y rest are e.
      let value : x ≡ y = value_is (x, bytes) (y, rest) e in
      let after : bytes ≡ rest = rest_is (x, bytes) (y, rest) e in
      record { spelled = cc; has = subst P value h };
}

spelled_on : (front bytes part mid whole rest : List ℕ) → bytes ≡ part ++ mid → whole ≡ front ++ part → mid ≡ rest → front ++ bytes ≡ whole ++ rest
spelled_on front bytes part mid whole rest read is after =
    ap (λ (z : List ℕ). front ++ z) read ∙ sym (append_assoc front part mid) ∙ ap (λ (z : List ℕ). z ++ mid) (sym is) ∙ ap (λ (z : List ℕ). whole ++ z) after

-- what is made of a value that was read, where its spelling follows from what is known of the value
pub made_takes_if : {A B : Type 0} (front : List ℕ) (made : A → B) (reads : Reads A) (spell_a : A → List ℕ) (Q : A → Type 0) (spell : B → List ℕ) (P : B → Type 0)
    → Takes [] reads spell_a Q → ((x : A) → Q x → spell (made x) ≡ front ++ spell_a x) → ((x : A) → Q x → P (made x)) → Takes front (made_of made reads) spell P
made_takes_if {A} {B} front made reads spell_a Q spell P t is has = record {
  takes = λ bytes y rest are e.
      let b : Bound (reads bytes) (λ (x : A × List ℕ). Ok (made x.0, x.1)) (y, rest) = bound (reads bytes) (λ (x : A × List ℕ). Ok (made x.0, x.1)) (y, rest) e in
      let r : IsRead spell_a Q bytes b.first.0 b.first.1 = t.takes bytes b.first.0 b.first.1 are b.read in
      let value : made b.first.0 ≡ y = value_is (made b.first.0, b.first.1) (y, rest) b.next in
      let after : b.first.1 ≡ rest = rest_is (made b.first.0, b.first.1) (y, rest) b.next in
      record {
        spelled = spelled_on front bytes (spell_a b.first.0) b.first.1 (spell y) rest r.spelled (ap spell (sym value) ∙ is b.first.0 r.has) after;
        has = subst P value (has b.first.0 r.has);
      };
}

pub made_takes : {A B : Type 0} (front : List ℕ) (made : A → B) (reads : Reads A) (spell_a : A → List ℕ) (Q : A → Type 0) (spell : B → List ℕ) (P : B → Type 0)
    → Takes [] reads spell_a Q → ((x : A) → spell (made x) ≡ front ++ spell_a x) → ((x : A) → Q x → P (made x)) → Takes front (made_of made reads) spell P
made_takes front made reads spell_a Q spell P t is has = made_takes_if front made reads spell_a Q spell P t (λ x _. is x) has

-- a value that was read, spelled in another way
pub respelled : {A : Type 0} (front : List ℕ) (reads : Reads A) (spell_a : A → List ℕ) (Q : A → Type 0) (spell : A → List ℕ) (P : A → Type 0)
    → Takes [] reads spell_a Q → ((x : A) → Q x → spell x ≡ front ++ spell_a x) → ((x : A) → Q x → P x) → Takes front reads spell P
respelled front reads spell_a Q spell P t is has = record {
  takes = λ bytes y rest are e.
      let r : IsRead spell_a Q bytes y rest = t.takes bytes y rest are e in
      record { spelled = spelled_on front bytes (spell_a y) rest (spell y) rest r.spelled (is y r.has) refl; has = has y r.has };
}

pub followed_takes : {A B : Type 0} (front : List ℕ) (first : Reads A) (second : A → Reads B) (spell_a : A → List ℕ) (Q : A → Type 0) (spell : B → List ℕ) (P : B → Type 0)
    → Takes [] first spell_a Q → ((x : A) → Q x → Takes (front ++ spell_a x) (second x) spell P) → Takes front (followed first second) spell P
followed_takes {A} {B} front first second spell_a Q spell P t next = record {
  takes = λ bytes y rest are e.
      let b : Bound (first bytes) (λ (x : A × List ℕ). second x.0 x.1) (y, rest) = bound (first bytes) (λ (x : A × List ℕ). second x.0 x.1) (y, rest) e in
      let r : IsRead spell_a Q bytes b.first.0 b.first.1 = t.takes bytes b.first.0 b.first.1 are b.read in
      let others : AreBytes b.first.1 = rest_bytes (spell_a b.first.0) b.first.1 (subst AreBytes r.spelled are) in
      let n : IsRead spell P ((front ++ spell_a b.first.0) ++ b.first.1) y rest = (next b.first.0 r.has).takes b.first.1 y rest others b.next in
      record {
        spelled = ap (λ (z : List ℕ). front ++ z) r.spelled ∙ sym (append_assoc front (spell_a b.first.0) b.first.1) ∙ n.spelled;
        has = n.has;
      };
}

-- ---- fields

past_cut : {A : Type 0} (b : Bool) (e : Fault) (r : Result A Fault) (x : A) → cond b (Err e) r ≡ read_of x → (b ≡ false) × (r ≡ read_of x)
past_cut false e r x h = (refl, h)
past_cut true e r x h = absurd (cc)

past_range : {A : Type 0} (b : Bool) (e : Fault) (x y : A) → cond b (read_of x) (Err e) ≡ read_of y → (b ≡ true) × (x ≡ y)
past_range true e x y h = (refl, whole_is x y h)
past_range false e x y h = absurd (cc)

abbrev pub IsField : ℕ → (List ℕ → Bool) → List ℕ → Type 0
IsField size test x = (length x ≡ size) × (test x ≡ true) × AreBytes x

pub field_takes : (size : ℕ) (test : List ℕ → Bool) → Takes [] (field size test) (λ x. x) (IsField size test)
field_takes size test = record {
  takes = λ bytes y rest are e.
      let whole : (ltb (length bytes) size ≡ false)
      × (cond (test (take size bytes)) (read_of (take size bytes, drop size bytes)) (Err (fault (length bytes) Field)) ≡ read_of (y, rest)) =
      past_cut (ltb (length bytes) size) _ _ (y, rest) e in
      let inside : (test (take size bytes) ≡ true) × ((take size bytes, drop size bytes) ≡ (y, rest)) = past_range (test (take size bytes)) _ _ (y, rest) whole.1 in
      let front : take size bytes ≡ y = ap (λ (p : List ℕ × List ℕ). p.0) inside.1 in
      let after : drop size bytes ≡ rest = ap (λ (p : List ℕ × List ℕ). p.1) inside.1 in
      let long : size ≤ length bytes = ltb-false (length bytes) size whole.0 in
      record {
        spelled = sym (take-append-drop size bytes) ∙ ap (λ (z : List ℕ). z ++ drop size bytes) front ∙ ap (λ (z : List ℕ). y ++ z) after;
        has = (
          ap length (sym front) ∙ length-take-le size bytes long,
          ap test (sym front) ∙ inside.0,
          record { each = subst (All (λ b. b < 256)) front (All-take (λ b. b < 256) size bytes are.each) },
        );
      };
}

abbrev pub IsFrom : ℕ → ℕ → ℕ → Type 0
IsFrom low end n = (low ≤ n) × (n < end)

from_is : (low end n : ℕ) → is_from low end n ≡ true → IsFrom low end n
from_is low end n h = (grind (arith, nat_tests), grind (arith, nat_tests))

one_byte : (x : List ℕ) → length x ≡ 1 → x ≡ slice_index_or x 0 0 ∷ []
one_byte [] h = absurd (omega arith)
one_byte (b ∷ []) h = refl
one_byte (b ∷ (c ∷ x)) h = absurd (omega arith)

abbrev pub one : ℕ → List ℕ
one b = b ∷ []

pub byte_takes : (low end : ℕ) → Takes [] (byte_in low end) one (IsFrom low end)
unfolding byte_in
byte_takes low end = record {
  takes = λ bytes y rest are e.
      let test : List ℕ → Bool = λ x. is_from low end (slice_index_or x 0 0) in
      let b : Bound (field 1 test bytes) (λ (f : List ℕ × List ℕ). Ok (slice_index_or f.0 0 0, f.1)) (y, rest) =
      bound (field 1 test bytes) (λ (f : List ℕ × List ℕ). Ok (slice_index_or f.0 0 0, f.1)) (y, rest) e in
      let r : IsRead (λ x. x) (IsField 1 test) bytes b.first.0 b.first.1 = (field_takes 1 test).takes bytes b.first.0 b.first.1 are b.read in
      let value : slice_index_or b.first.0 0 0 ≡ y = value_is (slice_index_or b.first.0 0 0, b.first.1) (y, rest) b.next in
      let after : b.first.1 ≡ rest = rest_is (slice_index_or b.first.0 0 0, b.first.1) (y, rest) b.next in
      let spelled : b.first.0 ≡ y ∷ [] = one_byte b.first.0 r.has.0 ∙ ap one value in
      record {
        spelled = r.spelled ∙ ap (λ (z : List ℕ). z ++ b.first.1) spelled ∙ ap (λ (z : List ℕ). y ∷ z) after;
        has = from_is low end y (ap (is_from low end) (sym value) ∙ r.has.1);
      };
}

pub number_takes : (low end : ℕ) → Takes [] (number_in low end) number (IsFrom low end)
unfolding number_in
number_takes low end = record {
  takes = λ bytes y rest are e.
      let test : List ℕ → Bool = λ x. is_from low end (from_be_bytes w32 x) in
      let b : Bound (field 4 test bytes) (λ (f : List ℕ × List ℕ). Ok (from_be_bytes w32 f.0, f.1)) (y, rest) =
      bound (field 4 test bytes) (λ (f : List ℕ × List ℕ). Ok (from_be_bytes w32 f.0, f.1)) (y, rest) e in
      let r : IsRead (λ x. x) (IsField 4 test) bytes b.first.0 b.first.1 = (field_takes 4 test).takes bytes b.first.0 b.first.1 are b.read in
      let value : from_be_bytes w32 b.first.0 ≡ y = value_is (from_be_bytes w32 b.first.0, b.first.1) (y, rest) b.next in
      let after : b.first.1 ≡ rest = rest_is (from_be_bytes w32 b.first.0, b.first.1) (y, rest) b.next in
      let bytes_are : AreBytes b.first.0 = front_bytes b.first.0 b.first.1 (subst AreBytes r.spelled are) in
      let spelled : b.first.0 ≡ number y = sym (be_bytes_4 b.first.0 y r.has.0 (λ i. at_each b.first.0 i bytes_are) (sym value)) in
      record {
        spelled = spelled_as bytes b.first.0 b.first.1 (number y) rest r.spelled spelled after;
        has = from_is low end y (ap (is_from low end) (sym value) ∙ r.has.1);
      };
}

pub numbers_take : {A : Type 0} (front : List ℕ) (low end : ℕ) (made : ℕ → A) (spell : A → List ℕ) (P : A → Type 0)
    → ((n : ℕ) → spell (made n) ≡ front ++ number n) → ((n : ℕ) → IsFrom low end n → P (made n)) → Takes front (with_number_from low end made) spell P
numbers_take front low end made spell P is has = made_takes front made (number_in low end) number (IsFrom low end) spell P (number_takes low end) is has

pub bytes_take : {A : Type 0} (front : List ℕ) (low end : ℕ) (made : ℕ → A) (spell : A → List ℕ) (P : A → Type 0)
    → ((n : ℕ) → spell (made n) ≡ front ++ one n) → ((n : ℕ) → IsFrom low end n → P (made n)) → Takes front (with_byte_from low end made) spell P
bytes_take front low end made spell P is has = made_takes front made (byte_in low end) one (IsFrom low end) spell P (byte_takes low end) is has

-- ---- tables

-- Each row of a table, of which the first one has this number, spells its values by its number after the bytes in
-- front.
abbrev pub RowsTake : {A : Type 0} → List ℕ → ℕ → List (Reads A) → (A → List ℕ) → (A → Type 0) → Type 0
RowsTake front low [] spell P = Unit {0}
RowsTake front low (reads ∷ table) spell P = Takes (front ++ low ∷ []) reads spell P × RowsTake front (suc low) table spell P

row_takes : {A : Type 0} (front : List ℕ) (low k : ℕ) (table : List (Reads A)) (spell : A → List ℕ) (P : A → Type 0) → RowsTake front low table spell P
    → (bytes : List ℕ) (x : A) (rest : List ℕ) → AreBytes bytes → row (slice_get table k) bytes ≡ Ok (x, rest) → IsRead spell P ((front ++ (low + k) ∷ []) ++ bytes) x rest
row_takes front low k [] spell P rows bytes x rest are e = absurd (cc)
row_takes front low zero (reads ∷ table) spell P rows bytes x rest are e =
    let same : low + 0 ≡ low = omega arith in
    rw same (rows.0.takes bytes x rest are e)
row_takes front low (suc k) (reads ∷ table) spell P rows bytes x rest are e =
    let same : low + suc k ≡ suc low + k = omega arith in
    rw same (row_takes front (suc low) k table spell P rows.1 bytes x rest are e)

pub tagged_takes : {A : Type 0} (front : List ℕ) (low : ℕ) (table : List (Reads A)) (spell : A → List ℕ) (P : A → Type 0) → RowsTake front low table spell P
    → Takes front (tagged low table) spell P
unfolding tagged
tagged_takes {A} front low table spell P rows = record {
  takes = λ bytes y rest are e.
      let b : Bound (byte_in low (low + length table) bytes) (λ (tag : ℕ × List ℕ). row (slice_get table (tag.0 - low)) tag.1) (y, rest) =
      bound (byte_in low (low + length table) bytes) (λ (tag : ℕ × List ℕ). row (slice_get table (tag.0 - low)) tag.1) (y, rest) e in
      let r : IsRead one (IsFrom low (low + length table)) bytes b.first.0 b.first.1 = (byte_takes low (low + length table)).takes bytes b.first.0 b.first.1 are b.read in
      let others : AreBytes b.first.1 = rest_bytes (one b.first.0) b.first.1 (subst AreBytes r.spelled are) in
      let n : IsRead spell P ((front ++ (low + (b.first.0 - low)) ∷ []) ++ b.first.1) y rest =
      row_takes front low (b.first.0 - low) table spell P rows b.first.1 y rest others b.next in
      let same : low + (b.first.0 - low) ≡ b.first.0 = omega (arith, r.has.0) in
      record {
        spelled = ap (λ (z : List ℕ). front ++ z) r.spelled ∙ sym (append_assoc front (one b.first.0) b.first.1)
            ∙ ap (λ (k : ℕ). (front ++ k ∷ []) ++ b.first.1) (sym same) ∙ n.spelled;
        has = n.has;
      };
}

-- ---- lists

-- items that were read after earlier ones
pub record AreRead {A : Type 0} (spell : A → List ℕ) (P : List A → A → Type 0) (earlier : List A) (n : ℕ) (bytes : List ℕ) (all : List A) (rest : List ℕ) : Type 0 where
  pub items : List A
  pub whole : all ≡ earlier ++ items
  pub many : length items ≡ n
  pub spelled : bytes ≡ flat_map spell items ++ rest
  pub has : AllAfter P earlier items

module _ {A : Type 0} (item : List A → Reads A) (spell : A → List ℕ) (P : List A → A → Type 0)
    (each : (earlier : List A) → Takes [] (item earlier) spell (P earlier)) where
  pub items_take : (earlier : List A) (n : ℕ) (bytes : List ℕ) (all : List A) (rest : List ℕ) → AreBytes bytes → items_at item earlier n bytes ≡ Ok (all, rest)
      → AreRead spell P earlier n bytes all rest
  unfolding items_at
  items_take earlier zero bytes all rest are e = record {
    items = [];
    whole = sym (value_is (earlier, bytes) (all, rest) e) ∙ sym (append-nil earlier);
    many = refl;
    spelled = rest_is (earlier, bytes) (all, rest) e;
    has = tt;
  }
  items_take earlier (suc n) bytes all rest are e =
      let b : Bound (item earlier bytes) (λ (x : A × List ℕ). items_at item (earlier ++ x.0 ∷ []) n x.1) (all, rest) =
      bound (item earlier bytes) (λ (x : A × List ℕ). items_at item (earlier ++ x.0 ∷ []) n x.1) (all, rest) e in
      let r : IsRead spell (P earlier) bytes b.first.0 b.first.1 = (each earlier).takes bytes b.first.0 b.first.1 are b.read in
      let others : AreBytes b.first.1 = rest_bytes (spell b.first.0) b.first.1 (subst AreBytes r.spelled are) in
      let n : AreRead spell P (earlier ++ b.first.0 ∷ []) n b.first.1 all rest = items_take (earlier ++ b.first.0 ∷ []) n b.first.1 all rest others b.next in
      record {
        items = b.first.0 ∷ n.items;
        whole = n.whole ∙ append_assoc earlier (b.first.0 ∷ []) n.items;
        many = ap suc n.many;
        spelled = r.spelled ∙ ap (λ (z : List ℕ). spell b.first.0 ++ z) n.spelled ∙ sym (append_assoc (spell b.first.0) (flat_map spell n.items) rest);
        has = (r.has, n.has);
      }

  abbrev pub AreListed : ℕ → ℕ → List A → Type 0
  AreListed low end xs = IsFrom low end (length xs) × AllAfter P [] xs

  pub listed_takes : (low end : ℕ) → Takes [] (listed_in item low end) (counted spell) (AreListed low end)
  unfolding listed_in
  listed_takes low end = record {
    takes = λ bytes y rest are e.
        let b : Bound (number_in low end bytes) (λ (n : ℕ × List ℕ). items_at item [] n.0 n.1) (y, rest) =
        bound (number_in low end bytes) (λ (n : ℕ × List ℕ). items_at item [] n.0 n.1) (y, rest) e in
        let r : IsRead number (IsFrom low end) bytes b.first.0 b.first.1 = (number_takes low end).takes bytes b.first.0 b.first.1 are b.read in
        let others : AreBytes b.first.1 = rest_bytes (number b.first.0) b.first.1 (subst AreBytes r.spelled are) in
        let n : AreRead spell P [] b.first.0 b.first.1 y rest = items_take [] b.first.0 b.first.1 y rest others b.next in
        let many : b.first.0 ≡ length y = sym n.many ∙ ap length (sym n.whole) in
        record {
          spelled = r.spelled ∙ ap (λ (k : ℕ). number k ++ b.first.1) many ∙ ap (λ (z : List ℕ). number (length y) ++ z) n.spelled
              ∙ ap (λ (z : List A). number (length y) ++ (flat_map spell z ++ rest)) (sym n.whole) ∙ sym (append_assoc (number (length y)) (flat_map spell y) rest);
          has = (subst (IsFrom low end) many r.has, subst (AllAfter P []) (sym n.whole) n.has);
        };
  }

-- what each item has, whatever stands before it
pub all_of : {A : Type 0} (P : List A → A → Type 0) (Q : A → Type 0) → ((earlier : List A) (x : A) → P earlier x → Q x) → (earlier xs : List A) → AllAfter P earlier xs → All Q xs
all_of P Q so earlier [] h = All-nil Q
all_of P Q so earlier (x ∷ xs) h = All-cons Q x xs (so earlier x h.0) (all_of P Q so (earlier ++ x ∷ []) xs h.1)

-- items that do not depend on those before them
abbrev pub AreEach : {A : Type 0} → (A → Type 0) → ℕ → ℕ → List A → Type 0
AreEach P low end xs = IsFrom low end (length xs) × All P xs

pub each_takes : {A : Type 0} (item : Reads A) (spell : A → List ℕ) (P : A → Type 0) → Takes [] item spell P → (low end : ℕ)
    → Takes [] (listed_in (λ _. item) low end) (counted spell) (AreEach P low end)
each_takes {A} item spell P t low end =
    respelled [] (listed_in (λ _. item) low end) (counted spell) (λ (xs : List A). IsFrom low end (length xs) × AllAfter (λ _. P) [] xs) (counted spell) (AreEach P low end)
    (listed_takes (λ _. item) spell (λ _. P) (λ _. t) low end) (λ xs h. refl) (λ xs h. (h.0, all_of (λ _. P) P (λ _ x is. is) [] xs h.1))
