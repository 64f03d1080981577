-- The bits of arrays: where they are, how many there are, and that a scan or a statement that asks for too many breaks
use Rattle.std.proofs.Common.{◌≡◌, ℕ, ◌+◌, ◌-◌, ◌<◌, ◌≤◌, Bool, true, false, List, [], ◌∷◌, ◌++◌, length, take, drop, Option, Some, None, pos, refl, sym, ap, ◌∙◌, subst, arith, nat_le}
use Rattle.std.proofs.lemmas.Bool.{leb-true, leb-false, lt-leb}
use Rattle.std.proofs.lemmas.List.{length-take-le, length-drop, length-reverse}
use Rattle.base.proofs.NumberBits.{length-low_bits}
use Rattle.std.specs.Int.{w32, cast_unsigned}
use Rattle.bit_list.specs.Integers.{bits_of_int}
use Rattle.bit_list.specs.Ranges.{taken}
use Rattle.stapl_syntax.specs.Trees.{ArrayTree, literal as bit_literal, whole, range, of_int}
use Rattle.stapl_meaning.specs.declared.events.RunFault.{RunFault}
use Rattle.stapl_meaning.specs.declared.events.RunFault.TheVariants.{LengthMismatch}
use Rattle.stapl_meaning.specs.declared.values.Value.{Value}
use Rattle.stapl_meaning.specs.declared.values.Value.TheVariants.{Int, Bit}
use Rattle.stapl_meaning.specs.declared.values.Held.{Held}
use Rattle.stapl_meaning.specs.declared.values.Held.TheVariants as held
use Rattle.stapl_meaning.specs.Values.{Got, Known, Faults, Stuck, then_get, passed, bits_held, span_bits, Source, These, Whole, Range, OfInt, source_bits, asked, source_of, Lookup}
use Rattle.stapl_meaning.specs.Scans.{source_width}
use Rattle.meaning_laws.specs.ExprFaults.{bit_count, held_by}
use Rattle.meaning_laws.specs.PartFaults.{array_part, ArrayIs, literal_is, whole_is, range_is, integer_is, RangeHas, PartsAre, no_parts, more_parts, array_is, HasBits, whole_has, range_has}
use Rattle.meaning_laws.specs.PartFaults.{integer_has, HasItsBits, literal_there, other_there, IsTooShort}
use Rattle.meaning_laws.proofs.Gets.{Gives, Breaks}
use Rattle.meaning_laws.proofs.LimitLemmas.{part_by, part_of, part_has, part_count}
use Rattle.meaning_laws.proofs.PartLemmas.{HoldsBits, holds_bits, some_same, span_known}

taken_length : (h l : ℕ) (bs : List Bool) → h < length bs → l ≤ h → length (taken l (h + 1 - l) bs) ≡ h + 1 - l
taken_length h l bs inside below = length-take-le (h + 1 - l) (drop l bs) (let d : length (drop l bs) ≡ length bs - l = length-drop l bs in omega (arith, d, inside, below))

-- a part of a list has as many bits as its indexes say
part_length : (first second : ℕ) (bs : List Bool) → first < length bs → second < length bs →
    length (span_bits (part_of first second) bs) ≡ (part_of first second).count
part_length first second bs first_in second_in = by (nat_le second first) refl
  where
    by : (t : Bool) → nat_le second first ≡ t → length (span_bits (part_by t first second) bs) ≡ (part_by t first second).count
    by true e = taken_length first second bs first_in (leb-true second first e)
    by false e =
        let above : first < second = leb-false second first e in
        length-reverse (taken first (second + 1 - first) bs) ∙ taken_length second first bs second_in (omega (arith, above))

-- bits that are asked of a list that may be too short
abbrev pub May : {A : Type 0} → Got A → Type 0
May (Known x) = Unit {0}
May (Faults k) = k ≡ LengthMismatch
May Stuck = ⊥

pub passed_may : {A : Type 0} (b : Bool) (x : A) → May (passed b LengthMismatch x)
passed_may true x = tt
passed_may false x = refl

pub asked_may : (source : Source) (n : ℕ) (bits : List Bool) → May (asked source n bits)
asked_may (These own) n bits = tt
asked_may (Whole v) n bits = passed_may (nat_le n (length bits)) (take n bits)
asked_may (Range profile v) n bits = passed_may (nat_le n (length bits)) (take n bits)
asked_may OfInt n bits = passed_may (nat_le n (length bits)) (take n bits)

pub then_may : {A B : Type 0} (g : Got A) (go : A → Got B) → May g → ((x : A) → go x ≡ Faults LengthMismatch) → then_get g go ≡ Faults LengthMismatch
then_may (Known x) go h e = e x
then_may (Faults k) go h e = ap (λ k. Faults k) h
then_may Stuck go h e = absurd h

module _ (look : Lookup) (variables : List Held) where
  -- an array is a literal, or has as many bits as these
  abbrev pub IsSized : ArrayTree → List Bool → Type 0
  IsSized (bit_literal own) bits = Unit {0}
  IsSized (whole name) bits = HasBits look variables (whole name) (length bits)
  IsSized (range name first second) bits = HasBits look variables (range name first second) (length bits)
  IsSized (of_int e) bits = HasBits look variables (of_int e) (length bits)

  pub there_if : (a : ArrayTree) (bits : List Bool) → IsSized a bits → HasItsBits look variables a
  there_if (bit_literal own) bits h = literal_there
  there_if (whole name) bits h = other_there (length bits) h
  there_if (range name first second) bits h = other_there (length bits) h
  there_if (of_int e) bits h = other_there (length bits) h

  -- the bits of an array whose indexes break nothing never break
  pub source_gives : (P : RunFault → Type 0) {a : ArrayTree} {vs : List Value} → ArrayIs look variables a vs →
      Gives (IsSized a) P (source_bits variables (source_of look a) vs)
  source_gives P literal_is = tt
  source_gives P (whole_is {name = name}) = by (held_by look variables name) refl
    where
      by : (o : Option Held) → held_by look variables name ≡ o → Gives (IsSized (whole name)) P (bits_held o)
      by None e = tt
      by (Some (held.Int z)) e = tt
      by (Some (held.Bit b)) e = tt
      by (Some (held.Ints zs)) e = tt
      by (Some (held.Bits bs)) e = whole_has (ap bit_count e)
  source_gives P (range_is {name = name} {first = first} {second = second} i j size is_i is_j sized first_in second_in) =
      let o : Option Held = held_by look variables name in
      let b : HoldsBits o = holds_bits o size sized in
      let same : size ≡ length b.bits = some_same (sym sized ∙ ap bit_count b.is) in
      let long : length (span_bits (part_of i j) b.bits) ≡ (part_of i j).count =
      part_length i j b.bits (subst (λ n. i < n) same first_in) (subst (λ n. j < n) same second_in) in
      subst (Gives (IsSized (range name first second)) P)
      (sym (span_known look variables o i j size (λ bits span. span_bits span bits) b.bits b.is sized first_in second_in))
      (range_has i j size is_i is_j sized first_in second_in (subst (RangeHas i j) (sym long) (part_has i j)))
  source_gives P (integer_is (Bit b) known) = tt
  source_gives P (integer_is {e = e} (Int z) known) =
      subst (HasBits look variables (of_int e)) (sym (length-low_bits 32 (cast_unsigned w32 z))) (integer_has z known)

  -- an array that gives fewer bits than are asked of it is short
  pub asked_breaks : (P : RunFault → Type 0) (a : ArrayTree) (n : ℕ) (bits : List Bool) → IsSized a bits →
      (IsTooShort look variables a n → P LengthMismatch) → Breaks P (asked (source_of look a) n bits)
  asked_breaks P (bit_literal own) n bits h p = tt
  asked_breaks P (whole name) n bits h p = by (nat_le n (length bits)) refl
    where
      by : (t : Bool) → nat_le n (length bits) ≡ t → Breaks P (passed t LengthMismatch (take n bits))
      by true e = tt
      by false e = p (record { bits = length bits; has = h; fewer = leb-false n (length bits) e })
  asked_breaks P (range name first second) n bits h p = by (nat_le n (length bits)) refl
    where
      by : (t : Bool) → nat_le n (length bits) ≡ t → Breaks P (passed t LengthMismatch (take n bits))
      by true e = tt
      by false e = p (record { bits = length bits; has = h; fewer = leb-false n (length bits) e })
  asked_breaks P (of_int x) n bits h p = by (nat_le n (length bits)) refl
    where
      by : (t : Bool) → nat_le n (length bits) ≡ t → Breaks P (passed t LengthMismatch (take n bits))
      by true e = tt
      by false e = p (record { bits = length bits; has = h; fewer = leb-false n (length bits) e })

  -- ---- the other way round

  -- what an array gives
  pub record Read (a : ArrayTree) : Type 0 where
    pub values : List Value
    pub are : ArrayIs look variables a values
    pub bits : List Bool
    pub is : source_bits variables (source_of look a) values ≡ Known bits

  -- so many bits, if it has so many
  pub record ReadBits (a : ArrayTree) (n : ℕ) : Type 0 where
    pub read : Read a
    pub long : length read.bits ≡ n

  pub bits_read : {a : ArrayTree} {n : ℕ} → HasBits look variables a n → ReadBits a n
  bits_read (whole_has {name = name} {n = n} sized) =
      let o : Option Held = held_by look variables name in
      let b : HoldsBits o = holds_bits o n sized in
      record {
        read = record { values = []; are = whole_is; bits = b.bits; is = ap bits_held b.is };
        long = some_same (sym (ap bit_count b.is) ∙ sized);
      }
  bits_read (range_has {name = name} {n = n} i j size is_i is_j sized first_in second_in count) =
      let o : Option Held = held_by look variables name in
      let b : HoldsBits o = holds_bits o size sized in
      let same : size ≡ length b.bits = some_same (sym sized ∙ ap bit_count b.is) in
      let long : length (span_bits (part_of i j) b.bits) ≡ (part_of i j).count =
      part_length i j b.bits (subst (λ n. i < n) same first_in) (subst (λ n. j < n) same second_in) in
      record {
        read = record {
          values = Int (pos i) ∷ Int (pos j) ∷ [];
          are = range_is i j size is_i is_j sized first_in second_in;
          bits = span_bits (part_of i j) b.bits;
          is = span_known look variables o i j size (λ bits span. span_bits span bits) b.bits b.is sized first_in second_in;
        };
        long = long ∙ part_count count;
      }
  bits_read (integer_has z known) =
      record {
        read = record { values = Int z ∷ []; are = integer_is (Int z) known; bits = bits_of_int z; is = refl };
        long = length-low_bits 32 (cast_unsigned w32 z);
      }

  pub array_read : {a : ArrayTree} → HasItsBits look variables a → Read a
  array_read (literal_there {bits = bits}) = record { values = []; are = literal_is; bits = bits; is = refl }
  array_read (other_there n has) = (bits_read has).read

  short_asked : {a : ArrayTree} {m : ℕ} (n : ℕ) (bits : List Bool) → HasBits look variables a m → length bits ≡ m → m < n →
      asked (source_of look a) n bits ≡ Faults LengthMismatch
  short_asked n bits (whole_has sized) long fewer =
      ap (λ t. passed t LengthMismatch (take n bits)) (lt-leb n (length bits) (omega (arith, long, fewer)))
  short_asked n bits (range_has i j size is_i is_j sized first_in second_in count) long fewer =
      ap (λ t. passed t LengthMismatch (take n bits)) (lt-leb n (length bits) (omega (arith, long, fewer)))
  short_asked n bits (integer_has z known) long fewer =
      ap (λ t. passed t LengthMismatch (take n bits)) (lt-leb n (length bits) (omega (arith, long, fewer)))

  -- a short array gives bits, and they are too few
  pub record ReadShort (a : ArrayTree) (n : ℕ) : Type 0 where
    pub read : Read a
    pub faults : asked (source_of look a) n read.bits ≡ Faults LengthMismatch

  pub short_read : {a : ArrayTree} {n : ℕ} → IsTooShort look variables a n → ReadShort a n
  short_read {n = n} short =
      let r : ReadBits _ short.bits = bits_read short.has in
      record { read = r.read; faults = short_asked n r.read.bits short.has r.long short.fewer }

  -- the array of a statement that has no other part after it
  pub array_alone : {a : ArrayTree} {vs : List Value} → PartsAre look variables (array_part a ∷ []) vs → ArrayIs look variables a vs
  array_alone (more_parts (array_is literal_is) no_parts) = literal_is
  array_alone (more_parts (array_is whole_is) no_parts) = whole_is
  array_alone (more_parts (array_is (range_is i j size is_i is_j sized first_in second_in)) no_parts) = range_is i j size is_i is_j sized first_in second_in
  array_alone (more_parts (array_is (integer_is v known)) no_parts) = integer_is v known

  -- the values of an array stand in front of those after it
  pub array_front : {a : ArrayTree} {us : List Value} → ArrayIs look variables a us → (vs : List Value) →
      take (source_width (source_of look a)) (us ++ vs) ≡ us
  array_front literal_is vs = refl
  array_front whole_is vs = refl
  array_front (range_is i j size is_i is_j sized first_in second_in) vs = refl
  array_front (integer_is v known) vs = refl

  pub array_back : {a : ArrayTree} {us : List Value} → ArrayIs look variables a us → (vs : List Value) →
      drop (source_width (source_of look a)) (us ++ vs) ≡ vs
  array_back literal_is vs = refl
  array_back whole_is vs = refl
  array_back (range_is i j size is_i is_j sized first_in second_in) vs = refl
  array_back (integer_is v known) vs = refl
