-- Instructions of arrays find their elements and bits, and keep the lengths of arrays.
use Rattle.std.proofs.Common.{◌≡◌, ℕ, zero, suc, ◌+◌, ◌-◌, ◌<◌, ◌≤◌, Bool, true, false, List, [], ◌∷◌, ◌++◌, Option, Some, None, length, take, drop, arith, refl, sym, ap, ◌∙◌, subst}
use Rattle.std.specs.Prelude.{ℤ, pos, negsuc, int_le, nat_abs, nat_lt, nat_le, not, ◌&&◌, ◌==◌, is_some, replicate, slice_get, slice_set, if◌then◌else◌}
use Rattle.std.specs.List.{list_all}
use Rattle.std.proofs.lemmas.Bool.{and_parts, leb-true, leb-false, ltb-true}
use Rattle.std.proofs.lemmas.List.{length-append, length-drop, length-replicate, length-set, length-take-le}
use Rattle.stapl_meaning.specs.declared.events.RunFault.{RunFault}
use Rattle.stapl_meaning.specs.declared.events.RunFault.TheVariants.{IndexOutOfRange, LengthMismatch}
use Rattle.stapl_meaning.specs.declared.values.Held.{Held}
use Rattle.stapl_meaning.specs.declared.values.Held.TheVariants as held
use Rattle.stapl_meaning.specs.declared.values.Value.{Value}
use Rattle.stapl_meaning.specs.declared.values.Value.TheVariants.{Int, Bit}
use Rattle.stapl_meaning.specs.declared.values.ValueKind.{ValueKind}
use Rattle.stapl_meaning.specs.declared.values.ValueKind.TheVariants as kinds
use Rattle.stapl_meaning.specs.Values.{Got, Known, Faults, Stuck, then_get, is_index, passed, item_of, item_at, element_of, index_held, bits_held, Span, whole_span, turned, span_bits}
use Rattle.stapl_meaning.specs.Values.{first_places, span_put, rising_span, span_between, span_of, range_held, bits_between, source_bits, padded, asked, integer_from, source_integer}
use Rattle.stapl_meaning.specs.Values as values
use Rattle.stapl_meaning.specs.States.{State, Did}
use Rattle.stapl_meaning.specs.States as did
use Rattle.stapl_meaning.specs.Effects.{replaced, with_variables, written, with_element, element_written, IntoWhole, IntoRange, span_written, copied, with_integers, integers_set}
use Rattle.bit_list.specs.Ranges.{spliced}
use Rattle.stapl_meaning.specs.declared.profiles.Profile.{Profile}
use Rattle.stapl_meaning.specs.declared.profiles.Profile.TheVariants.{One, Two}
use Rattle.std.proofs.lemmas.List.{length-reverse}
use Rattle.stapl_code.specs.declared.raw.VarDef.{VarDef}
use Rattle.stapl_code.specs.declared.instr.Source.{Source}
use Rattle.stapl_code.specs.declared.instr.Source.TheVariants as sources
use Rattle.stapl_code.specs.declared.instr.Dest.{Dest}
use Rattle.stapl_code.specs.declared.instr.Dest.TheVariants as dests
use Rattle.stapl_code.specs.Machine.{Constants, source_slots, source_wants, dest_slots, dest_want, target_of, known_literal, known_source}
use Rattle.stapl_code.specs.Ranges.{IsSource}
use Rattle.stapl_code.specs.Kinds.{item_kind, element_kind, is_of_kind, is_met}
use Rattle.stapl_code.specs.Safe.{Fits, AllFit}
use Rattle.stapl_code.proofs.Fitting.{FitAt, fit_at, fit_set}
use Rattle.stapl_code.proofs.Operands.{kind_of, Each, each_map}
use Rattle.stapl_code.proofs.OperatorKinds.{GotOf}

-- what is got is so, or a fault
abbrev pub IsGot : {A : Type 0} → (A → Type 0) → Got A → Type 0
IsGot P (Known x) = P x
IsGot P (Faults k) = Unit {0}
IsGot P Stuck = ⊥

-- something is got, or a fault
abbrev pub IsAnswer : {A : Type 0} → Got A → Type 0
IsAnswer g = IsGot (λ _. Unit {0}) g

pub then_good : {A B : Type 0} (P : A → Type 0) (Q : B → Type 0) (g : Got A) (go : A → Got B) → IsGot P g →
    ((x : A) → P x → IsGot Q (go x)) → IsGot Q (then_get g go)
then_good P Q (Known x) go p q = q x p
then_good P Q (Faults k) go p q = tt
then_good P Q Stuck go p q = absurd p

pub passed_good : {A : Type 0} (P : A → Type 0) (b : Bool) (k : RunFault) (x : A) → P x → IsGot P (passed b k x)
passed_good P true k x p = p
passed_good P false k x p = tt

-- ---- elements

item_good : {A : Type 0} (make : A → Value) (o : Option ValueKind) → ((x : A) → o ≡ Some (kind_of (make x))) → (xs : List A) (i : ℤ) →
    GotOf o (item_at make xs i)
item_good {A = A} make o is xs (pos i) = by (slice_get xs i)
  where
    by : (x : Option A) → GotOf o (item_of make x)
    by None = tt
    by (Some x) = is x
item_good make o is xs (negsuc i) = tt

-- an element is of its kind
pub element_good : (ov : Option VarDef) (oh : Option Held) (k : ValueKind) (i : ℤ) → FitAt ov oh → element_kind ov ≡ Some k →
    GotOf (element_kind ov) (element_of oh (Int i))
element_good None oh k i f e = absurd cc
element_good (Some v) None k i f e = absurd f
element_good (Some v) (Some (held.Int z)) k i f e = absurd (let none = ap (λ (n : ℕ). item_kind n) f in cc)
element_good (Some v) (Some (held.Bit b)) k i f e = absurd (let none = ap (λ (n : ℕ). item_kind n) f in cc)
element_good (Some v) (Some (held.Ints zs)) k i f e = item_good Int (item_kind v.kind) (λ z. ap (λ (n : ℕ). item_kind n) f.0) zs i
element_good (Some v) (Some (held.Bits bs)) k i f e = item_good Bit (item_kind v.kind) (λ b. ap (λ (n : ℕ). item_kind n) f.0) bs i

index_passed : (b : Bool) (k : RunFault) (i : ℤ) → GotOf (Some kinds.Int) (passed b k (Int i))
index_passed true k i = refl
index_passed false k i = tt

-- an index of an array is an integer
pub index_good : (ov : Option VarDef) (oh : Option Held) (i : ℤ) → FitAt ov oh → is_some (element_kind ov) ≡ true →
    GotOf (Some kinds.Int) (index_held oh (Int i))
index_good None oh i f e = absurd cc
index_good (Some v) None i f e = absurd f
index_good (Some v) (Some (held.Int z)) i f e = absurd (let none = ap (λ (n : ℕ). is_some (item_kind n)) f in cc)
index_good (Some v) (Some (held.Bit b)) i f e = absurd (let none = ap (λ (n : ℕ). is_some (item_kind n)) f in cc)
index_good (Some v) (Some (held.Ints zs)) i f e = index_passed (is_index i (length zs)) IndexOutOfRange i
index_good (Some v) (Some (held.Bits bs)) i f e = index_passed (is_index i (length bs)) IndexOutOfRange i

-- ---- BOOLEAN arrays

-- a BOOLEAN array and its bits
pub record HoldsBits (ov : Option VarDef) (oh : Option Held) : Type 0 where
  pub variable : VarDef
  pub is : ov ≡ Some variable
  pub bits : List Bool
  pub held : oh ≡ Some (held.Bits bits)
  pub kind : variable.kind ≡ 3
  pub size : length bits ≡ variable.size

pub holds_bits : (ov : Option VarDef) (oh : Option Held) → FitAt ov oh → is_of_kind 3 ov ≡ true → HoldsBits ov oh
holds_bits None oh f e = absurd cc
holds_bits (Some v) None f e = absurd f
holds_bits (Some v) (Some (held.Int z)) f e = absurd (let other = ap (λ (n : ℕ). n == 3) f in cc)
holds_bits (Some v) (Some (held.Bit b)) f e = absurd (let other = ap (λ (n : ℕ). n == 3) f in cc)
holds_bits (Some v) (Some (held.Ints zs)) f e = absurd (let other = ap (λ (n : ℕ). n == 3) f.0 in cc)
holds_bits (Some v) (Some (held.Bits bs)) f e =
    record { variable = v; is = refl; bits = bs; held = refl; kind = f.0; size = f.1 }

-- a part of an array ends in it
abbrev pub EndsWithin : ℕ → Span → Type 0
EndsWithin n span = span.low + span.count ≤ n

pub span_between_good : (profile : Profile) (n : ℕ) (first second : ℤ) → IsGot (EndsWithin n) (span_between profile n first second)
span_between_good profile n (pos h) (pos l) = by (nat_lt h n) refl (nat_lt l n) refl (nat_le l h) refl
  where
    rising : (profile : Profile) → nat_lt l n ≡ true → nat_le l h ≡ false → IsGot (EndsWithin n) (rising_span profile h l)
    rising One inside le = tt
    rising Two inside le = let above = leb-false l h le in omega (arith, ltb-true l n inside, above)

    by : (a : Bool) → nat_lt h n ≡ a → (b : Bool) → nat_lt l n ≡ b → (c : Bool) → nat_le l h ≡ c →
        IsGot (EndsWithin n)
        (if not (a && b) then Faults IndexOutOfRange
        else if c then Known (record { low = l; count = h + 1 - l; falls = false }) else rising_span profile h l)
    by true inside true low true le = omega (arith, ltb-true h n inside, leb-true l h le)
    by true inside true low false le = rising profile low le
    by true inside false low c le = tt
    by false inside b low c le = tt
span_between_good profile n (pos h) (negsuc l) = by (nat_lt h n)
  where
    by : (a : Bool) → IsGot (EndsWithin n)
        (if not (a && false) then Faults IndexOutOfRange
        else if int_le (negsuc l) (pos h) then Known (record { low = nat_abs (negsuc l); count = h + 1 - nat_abs (negsuc l); falls = false }) else rising_span profile h (nat_abs (negsuc l)))
    by true = tt
    by false = tt
span_between_good profile n (negsuc h) second = tt

module _ (ov : Option VarDef) (oh : Option Held) (fit : FitAt ov oh) (kind : is_of_kind 3 ov ≡ true) where
  held_good : IsAnswer (bits_held oh)
  held_good = let h = holds_bits ov oh fit kind in subst (λ o. IsAnswer (bits_held o)) (sym h.held) tt

  -- what is made of the bits and of a part of them
  of_part : {B : Type 0} (profile : Profile) (make : List Bool → Span → B) (high low : ℤ) →
      IsAnswer (then_get (bits_held oh) (λ bits. then_get (span_of profile (length bits) (Int high) (Int low)) (λ span. Known (make bits span))))
  of_part profile make high low =
      then_good (λ _. Unit {0}) (λ _. Unit {0}) (bits_held oh)
      (λ bits. then_get (span_of profile (length bits) (Int high) (Int low)) (λ span. Known (make bits span))) held_good
      (λ bits _.
      then_good (EndsWithin (length bits)) (λ _. Unit {0}) (span_between profile (length bits) high low) (λ span. Known (make bits span))
      (span_between_good profile (length bits) high low) (λ span _. tt))

  pub range_good : (profile : Profile) (high low : ℤ) → IsAnswer (range_held profile oh (Int high) (Int low))
  range_good profile high low = of_part profile (λ bits span. Int low) high low

  between_good : (profile : Profile) (high low : ℤ) → IsAnswer (bits_between profile oh (Int high) (Int low))
  between_good profile high low = of_part profile (λ bits span. span_bits span bits) high low

-- ---- sources

length-padded : {A : Type 0} (missing : A) (n : ℕ) (xs : List A) → length (padded missing n xs) ≡ n
length-padded missing n xs =
    let all : List _ = xs ++ replicate n missing in
    let enough : n ≤ length all = omega (arith, length-append xs (replicate n missing), length-replicate n missing) in
    length-take-le n all enough

-- so many bits
abbrev pub HasLength : ℕ → List Bool → Type 0
HasLength n bits = length bits ≡ n

pub asked_good : (source : values.Source) (n : ℕ) (bits : List Bool) → IsGot (HasLength n) (asked source n bits)
asked_good (values.These own) n bits = length-padded false n bits
asked_good _ n bits = by (nat_le n (length bits)) refl
  where
    by : (b : Bool) → nat_le n (length bits) ≡ b → IsGot (HasLength n) (passed b LengthMismatch (take n bits))
    by true enough = length-take-le n bits (leb-true n (length bits) enough)
    by false enough = tt

-- the first places of a part
pub length-turned : (falls : Bool) (bits : List Bool) → length (turned falls bits) ≡ length bits
length-turned false bits = refl
length-turned true bits = length-reverse bits

pub length-spliced : (low : ℕ) (new old : List Bool) → low + length new ≤ length old → length (spliced low new old) ≡ length old
length-spliced low new old inside =
    let front = length-take-le low old (omega (arith, inside)) in
    let rest : List Bool = drop (low + length new) old in
    let joined = length-append (take low old ++ new) rest in
    omega (arith, inside, front, joined, length-append (take low old) new, length-drop (low + length new) old)

pub length-put : (span : Span) (new old : List Bool) → length new ≤ span.count → EndsWithin (length old) span → length (span_put span new old) ≡ length old
length-put span new old few inside =
    length-spliced (first_places span (length new)) (turned span.falls new) old (omega (arith, few, inside, length-turned span.falls new, by span.falls))
  where
    by : (falls : Bool) → (if falls then span.low + span.count - length new else span.low) + length new ≤ span.low + span.count
    by true = omega (arith, few)
    by false = omega (arith, few)

literal_there : (n : ℕ) (literals : List (List Bool)) → n < length literals → (bits : List Bool) × (slice_get literals n ≡ Some bits)
literal_there n [] h = absurd (omega arith)
literal_there zero (bits ∷ literals) h = (bits, refl)
literal_there (suc n) (bits ∷ literals) h = literal_there n literals (omega arith)

-- a source stands for one of the meaning, of which all values of its slots give bits
pub record Resolves (variables : List VarDef) (constants : Constants) (contents : List Held) (source : Source) : Type 0 where
  pub from : values.Source
  pub known : known_source constants source ≡ Known from
  pub bits : Each variables (source_slots source) (λ vs. IsAnswer (source_bits contents from vs))

module _ (variables : List VarDef) (constants : Constants) (contents : List Held) where
  pub source_good : (source : Source) → AllFit variables contents → IsSource (length variables) (length constants.literals) source →
      list_all (is_met variables) (source_wants source) ≡ true → Resolves variables constants contents source
  source_good (sources.Literal n) fit r met =
      let there = literal_there n constants.literals r in
      record { from = values.These there.0; known = ap known_literal there.1; bits = tt }
  source_good (sources.Whole n) fit r met =
      let kind = (and_parts (is_of_kind 3 (slice_get variables n)) true met).0 in
      record {
        from = values.Whole n;
        known = refl;
        bits = held_good (slice_get variables n) (slice_get contents n) (fit_at variables contents n fit) kind;
      }
  source_good (sources.Range n) fit r met =
      let kind = (and_parts (is_of_kind 3 (slice_get variables n)) true met).0 in
      record {
        from = values.Range constants.profile n;
        known = refl;
        bits = between_good (slice_get variables n) (slice_get contents n) (fit_at variables contents n fit) kind constants.profile;
      }
  source_good sources.FromInt fit r met = record { from = values.OfInt; known = refl; bits = λ z. tt }

  integer_got : (g : Got (List Bool)) → IsAnswer g → GotOf (Some kinds.Int) (then_get g (λ bits. Known (integer_from bits)))
  integer_got (Known bits) answer = refl
  integer_got (Faults k) answer = tt
  integer_got Stuck answer = absurd answer

  -- what a source is as an integer
  pub integer_good : (source : Source) → Resolves variables constants contents source →
      Each variables (source_slots source)
      (λ vs. GotOf (Some kinds.Int) (then_get (known_source constants source) (λ from. source_integer contents from vs)))
  integer_good source is =
      each_map variables (source_slots source) (λ vs. IsAnswer (source_bits contents is.from vs))
      (λ vs. GotOf (Some kinds.Int) (then_get (known_source constants source) (λ from. source_integer contents from vs)))
      (λ vs answer.
      subst (λ g. GotOf (Some kinds.Int) (then_get g (λ from. source_integer contents from vs))) (sym is.known)
      (integer_got (source_bits contents is.from vs) answer)) is.bits

-- ---- writes

-- it goes on, without a deed and with nothing changed but variables, which hold what they have to
abbrev pub Writes : List VarDef → State → Did → Type 0
Writes variables s (did.Falls deeds t) = (deeds ≡ []) × (t ≡ with_variables s t.store.variables) × AllFit variables t.store.variables
Writes variables s _ = ⊥

module _ (variables : List VarDef) (s : State) (fit : AllFit variables s.store.variables) where
  replaced_good : (n : ℕ) (v : VarDef) (g : Got Held) → slice_get variables n ≡ Some v → IsGot (Fits v) g →
      IsGot (Writes variables s) (written s (replaced s.store.variables n g))
  replaced_good n v (Known h) at f = (refl, refl, fit_set variables s.store.variables n v h fit at f)
  replaced_good n v (Faults k) at f = tt
  replaced_good n v Stuck at f = absurd f

  -- an element is written
  pub element_stored : (n : ℕ) (ov : Option VarDef) (oh : Option Held) (i : ℤ) (x : Value) → slice_get variables n ≡ ov → FitAt ov oh →
      element_kind ov ≡ Some (kind_of x) → IsGot (Writes variables s) (written s (element_written s.store.variables n oh i x))
  element_stored n None oh i x at f e = absurd cc
  element_stored n (Some v) None i x at f e = absurd f
  element_stored n (Some v) (Some (held.Int old)) i x at f e = absurd (let none = ap (λ (n : ℕ). item_kind n) f in cc)
  element_stored n (Some v) (Some (held.Bit old)) i x at f e = absurd (let none = ap (λ (n : ℕ). item_kind n) f in cc)
  element_stored n (Some v) (Some (held.Ints zs)) i (Bit b) at f e = absurd (let int = ap (λ (n : ℕ). item_kind n) f.0 in cc)
  element_stored n (Some v) (Some (held.Bits bs)) i (Int z) at f e = absurd (let bit = ap (λ (n : ℕ). item_kind n) f.0 in cc)
  element_stored n (Some v) (Some (held.Ints zs)) i (Int z) at f e =
      let new : Held = held.Ints (slice_set zs (nat_abs i) z) in
      replaced_good n v (with_element (held.Ints zs) i (Int z)) at
      (passed_good (Fits v) (is_index i (length zs)) IndexOutOfRange new (f.0, length-set zs (nat_abs i) z ∙ f.1))
  element_stored n (Some v) (Some (held.Bits bs)) i (Bit b) at f e =
      let new : Held = held.Bits (slice_set bs (nat_abs i) b) in
      replaced_good n v (with_element (held.Bits bs) i (Bit b)) at
      (passed_good (Fits v) (is_index i (length bs)) IndexOutOfRange new (f.0, length-set bs (nat_abs i) b ∙ f.1))

  integers_put : (n : ℕ) (zs : List ℤ) (ov : Option VarDef) (oh : Option Held) → slice_get variables n ≡ ov → FitAt ov oh →
      is_of_kind 2 ov ≡ true → IsGot (Writes variables s) (written s (replaced s.store.variables n (with_integers zs oh)))
  integers_put n zs None oh at f e = absurd cc
  integers_put n zs (Some v) None at f e = absurd f
  integers_put n zs (Some v) (Some (held.Int old)) at f e = absurd (let other = ap (λ (n : ℕ). n == 2) f in cc)
  integers_put n zs (Some v) (Some (held.Bit old)) at f e = absurd (let other = ap (λ (n : ℕ). n == 2) f in cc)
  integers_put n zs (Some v) (Some (held.Bits old)) at f e = absurd (let other = ap (λ (n : ℕ). n == 2) f.0 in cc)
  integers_put n zs (Some v) (Some (held.Ints old)) at f e =
      replaced_good n v (with_integers zs (Some (held.Ints old))) at (f.0, length-padded (pos 0) (length old) zs ∙ f.1)

  -- an INTEGER array is set
  pub integers_good : (n : ℕ) (zs : List ℤ) → is_of_kind 2 (slice_get variables n) ≡ true →
      IsGot (Writes variables s) (integers_set n zs [] s)
  integers_good n zs kind =
      integers_put n zs (slice_get variables n) (slice_get s.store.variables n) refl (fit_at variables s.store.variables n fit) kind

  span_good : (n : ℕ) (v : VarDef) (old : List Bool) → slice_get variables n ≡ Some v → v.kind ≡ 3 → length old ≡ v.size →
      (from : values.Source) (vs : List Value) (span : Span) → EndsWithin (length old) span →
      IsAnswer (source_bits s.store.variables from vs) → IsGot (Writes variables s) (span_written n old from vs s span)
  span_good n v old at kind size from vs span inside answer =
      let array : List Bool → Held = λ new. held.Bits (span_put span new old) in
      let put : List Bool → Got Did = λ new. Known (did.Falls [] (with_variables s (slice_set s.store.variables n (array new)))) in
      let go : List Bool → Got Did = λ bits. then_get (asked from span.count bits) put in
      then_good (λ _. Unit {0}) (Writes variables s) (source_bits s.store.variables from vs) go answer (λ bits _.
      then_good (HasLength span.count) (Writes variables s) (asked from span.count bits) put (asked_good from span.count bits) (λ new count.
      let fits : Fits v (array new) = (kind, length-put span new old (omega (arith, count)) inside ∙ size) in
      (refl, refl, fit_set variables s.store.variables n v (array new) fit at fits)))

  module _
      (n : ℕ) (kind : is_of_kind 3 (slice_get variables n) ≡ true) (from : values.Source) (vs : List Value)
      (answer : IsAnswer (source_bits s.store.variables from vs)) where
    holds : HoldsBits (slice_get variables n) (slice_get s.store.variables n)
    holds = holds_bits (slice_get variables n) (slice_get s.store.variables n) (fit_at variables s.store.variables n fit) kind

    -- bits are copied into a whole array
    whole_copied : IsGot (Writes variables s) (copied (IntoWhole n) from vs s)
    whole_copied =
        let into : List Bool → Got Did = λ old. span_written n old from vs s (whole_span (length old)) in
        let all : Span = whole_span (length holds.bits) in
        let inside : 0 + length holds.bits ≤ length holds.bits = omega arith in
        subst (λ o. IsGot (Writes variables s) (then_get (bits_held o) into)) (sym holds.held)
        (span_good n holds.variable holds.bits holds.is holds.kind holds.size from vs all inside answer)

    -- bits are copied into a range of an array
    range_copied : (profile : Profile) (high low : ℤ) → IsGot (Writes variables s) (copied (IntoRange profile n) from (Int high ∷ Int low ∷ vs) s)
    range_copied profile high low =
        let into : List Bool → Got Did = λ old. then_get (span_of profile (length old) (Int high) (Int low)) (span_written n old from vs s) in
        subst (λ o. IsGot (Writes variables s) (then_get (bits_held o) into)) (sym holds.held)
        (then_good (EndsWithin (length holds.bits)) (Writes variables s) (span_between profile (length holds.bits) high low)
        (span_written n holds.bits from vs s) (span_between_good profile (length holds.bits) high low)
        (λ span inside. span_good n holds.variable holds.bits holds.is holds.kind holds.size from vs span inside answer))

  module _ (constants : Constants) where
    -- a copy writes
    abbrev pub Copies : Dest → Source → List Value → Type 0
    Copies dest source vs = IsGot (Writes variables s) (then_get (known_source constants source) (λ from. copied (target_of constants.profile dest) from vs s))

    pub copy_good : (dest : Dest) (source : Source) → is_met variables (dest_want dest) ≡ true →
        Resolves variables constants s.store.variables source → Each variables (dest_slots dest (source_slots source)) (Copies dest source)
    copy_good (dests.Whole n) source kind is =
        each_map variables (source_slots source) (λ vs. IsAnswer (source_bits s.store.variables is.from vs)) (Copies (dests.Whole n) source)
        (λ vs answer.
        subst (λ g. IsGot (Writes variables s) (then_get g (λ from. copied (IntoWhole n) from vs s))) (sym is.known)
        (whole_copied n kind is.from vs answer)) is.bits
    copy_good (dests.Range n) source kind is = λ high low.
        each_map variables (source_slots source) (λ vs. IsAnswer (source_bits s.store.variables is.from vs))
        (λ vs. Copies (dests.Range n) source (Int high ∷ Int low ∷ vs))
        (λ vs answer.
        subst (λ g. IsGot (Writes variables s) (then_get g (λ from. copied (IntoRange constants.profile n) from (Int high ∷ Int low ∷ vs) s))) (sym is.known)
        (range_copied n kind is.from vs answer constants.profile high low)) is.bits

    -- a BOOLEAN array is set
    pub bits_good : (n literal : ℕ) → is_of_kind 3 (slice_get variables n) ≡ true → literal < length constants.literals →
        IsGot (Writes variables s) (then_get (known_literal (slice_get constants.literals literal)) (λ from. copied (IntoWhole n) from [] s))
    bits_good n literal kind r =
        let there = literal_there literal constants.literals r in
        subst (λ o. IsGot (Writes variables s) (then_get (known_literal o) (λ from. copied (IntoWhole n) from [] s))) (sym there.1)
        (whole_copied n kind (values.These there.0) [] tt)
