-- On elements and parts of arrays.
use Rattle.std.proofs.Common.{◌≡◌, ◌≢◌, get_or, ◌≤◌, ◌<◌, ℕ, ◌+◌, List, [], ◌∷◌, length, take, refl, sym, ap, ◌∙◌, arith, Option, Some, None}
use Rattle.std.specs.Prelude.{ℤ, Bool, true, Result, Ok, Err, slice_get, slice_set, nat_le}
use Rattle.std.specs.Int.{w32, cast_unsigned}
use Rattle.std.specs.Int.RustNames.{FitsSigned}
use Rattle.std.proofs.lemmas.List.{set-set, get_or-set_other, take_all}
use Rattle.base.proofs.NumberBits.{lowest_bits, length-low_bits}
use Rattle.bit_list.specs.Integers.{bits_of_int, int_of}
use Rattle.bit_list.proofs.IntegerBits.{int_of-bits_of_int}
use Rattle.stapl_meaning.specs.declared.profiles.Profile.{Profile}
use Rattle.stapl_meaning.specs.declared.events.RunFault.TheVariants.{LengthMismatch}
use Rattle.stapl_meaning.specs.declared.values.Value.{Value}
use Rattle.stapl_meaning.specs.declared.values.Value.TheVariants.{Int, Bit}
use Rattle.stapl_meaning.specs.declared.values.Held.{Held}
use Rattle.stapl_meaning.specs.declared.values.Held.TheVariants as held
use Rattle.stapl_meaning.specs.Values.{Got, Known, Stuck, then_get, passed, bits_held, source_bits, asked, Whole, Range, OfInt, bits_of, bits_in, span_bits, span_put}
use Rattle.stapl_meaning.specs.Values as values
use Rattle.std.proofs.lemmas.Bool.Decides.{nat_tests}
use Rattle.stapl_meaning.specs.States.{ScanSettings, State, Did, Falls}
use Rattle.stapl_meaning.specs.declared.records.Record.{Record}
use Rattle.machine_memory.specs.Acts.{state_with}
use Rattle.stapl_meaning.specs.Effects.{with_element, element_written, replaced, copied, span_written}
use Rattle.stapl_code.specs.declared.instr.Dest.{Dest}
use Rattle.stapl_code.specs.declared.instr.Dest.TheVariants as dests
use Rattle.stapl_code.specs.Machine.{target_of, Made, Does, does}
use Rattle.machine_memory.specs.declared.operate.Stop.{Stop}
use Rattle.machine_memory.specs.declared.operate.Stop.TheVariants.{Fault, Wrong}
use Rattle.machine_memory.specs.declared.parts.Part.{Part}
use Rattle.machine_memory.specs.declared.parts.Span.{Span}
use Rattle.machine_memory.specs.Found.{IsGot}
use Rattle.machine_memory.proofs.PrintLemmas.{item_at}
use Rattle.machine_memory.specs.Arrays.{with_bits, span_in, HasPart, part_held, whole_span, range_span, IsFoundPart, array_of, dest_span, after_dest, with_part, bits_put, first_bits}
use Rattle.machine_memory.specs.Arrays.{part_asked, integer_asked}
use Rattle.machine_memory.proofs.SpanLemmas.{length_span}

-- an integer of all its bits
pub same_integer : (z : ℤ) → FitsSigned w32 z → int_of (take 32 (bits_of_int z)) ≡ z
same_integer z fits = ap int_of (lowest_bits 32 32 (cast_unsigned w32 z) (omega arith)) ∙ int_of-bits_of_int z fits

-- lists of few items
pub no_item_left : {A : Type 0} (xs : List A) → length xs < 1 → xs ≡ []
no_item_left [] h = refl
no_item_left (x ∷ xs) h = absurd (omega (arith, h))

pub one_item : {A : Type 0} (xs : List A) (d : A) → 1 ≤ length xs → length xs < 2 → xs ≡ get_or xs 0 d ∷ []
one_item [] d h k = absurd (omega (arith, h))
one_item (x ∷ []) d h k = refl
one_item (x ∷ y ∷ xs) d h k = absurd (omega (arith, k))

pub two_items : {A : Type 0} (xs : List A) (d : A) → 2 ≤ length xs → length xs < 3 → xs ≡ get_or xs 0 d ∷ get_or xs 1 d ∷ []
two_items [] d h k = absurd (omega (arith, h))
two_items (x ∷ []) d h k = absurd (omega (arith, h))
two_items (x ∷ y ∷ []) d h k = refl
two_items (x ∷ y ∷ z ∷ xs) d h k = absurd (omega (arith, k))

-- an element is written
pub element_stored : (r : Result (Unit {0}) Stop) (variables : List Held) (n : ℕ) (old new : Held) (i : ℤ) (v : Value) → slice_get variables n ≡ Some old →
    IsGot (λ done g. g ≡ Known new) r (with_element old i v) →
    IsGot (λ done g. g ≡ Known (slice_set variables n new)) r (element_written variables n (slice_get variables n) i v)
element_stored (Ok done) variables n old new i v at h = ap (λ o. element_written variables n o i v) at ∙ ap (replaced variables n) h
element_stored (Err (Fault k)) variables n old new i v at h = ap (λ o. element_written variables n o i v) at ∙ ap (replaced variables n) h
element_stored (Err Wrong) variables n old new i v at h = ap (λ o. element_written variables n o i v) at ∙ ap (replaced variables n) h

-- Copies by their parts.

parts_then : {A : Type 0} (array : Option Held) (spans : ℕ → Got values.Span) (go : List Bool → values.Span → Got A) →
    then_get (bits_held array) (λ bits. then_get (spans (length bits)) (go bits)) ≡ then_get (part_held array spans) (go (bits_in array))
parts_then None spans go = refl
parts_then (Some (held.Int z)) spans go = refl
parts_then (Some (held.Bit b)) spans go = refl
parts_then (Some (held.Ints zs)) spans go = refl
parts_then (Some (held.Bits bs)) spans go = refl

never : (array : Option Held) (go : List Bool → values.Span → Got Did) → Stuck ≡ then_get (part_held array (λ count. Stuck)) (go (bits_in array))
never None go = refl
never (Some (held.Int z)) go = refl
never (Some (held.Bit b)) go = refl
never (Some (held.Ints zs)) go = refl
never (Some (held.Bits bs)) go = refl

pub copied_parts : (profile : Profile) (dest : Dest) (source : values.Source) (vs : List Value) (s : State) →
    copied (target_of profile dest) source vs s
    ≡ then_get (part_held (slice_get s.store.variables (array_of dest)) (dest_span profile dest vs))
    (span_written (array_of dest) (bits_in (slice_get s.store.variables (array_of dest))) source (after_dest dest vs) s)
copied_parts profile (dests.Whole n) source vs s =
    parts_then (slice_get s.store.variables n) whole_span (λ old. span_written n old source vs s)
copied_parts profile (dests.Range n) source (first ∷ second ∷ vs) s =
    parts_then (slice_get s.store.variables n) (range_span profile first second) (λ old. span_written n old source vs s)
copied_parts profile (dests.Range n) source [] s = never (slice_get s.store.variables n) (λ old. span_written n old source [] s)
copied_parts profile (dests.Range n) source (first ∷ []) s = never (slice_get s.store.variables n) (λ old. span_written n old source [] s)

-- the part is known
pub copied_at : (profile : Profile) (dest : Dest) (source : values.Source) (vs rest : List Value) (part : Part) (s : State) →
    IsFoundPart s.store.variables (array_of dest) (dest_span profile dest vs) part → after_dest dest vs ≡ rest →
    copied (target_of profile dest) source vs s
    ≡ span_written part.array (bits_in (slice_get s.store.variables part.array)) source rest s (span_in part.span)
copied_at profile dest source vs rest part s found e =
    copied_parts profile dest source vs s
    ∙ ap (λ g. then_get g (span_written (array_of dest) (bits_in (slice_get s.store.variables (array_of dest))) source (after_dest dest vs) s)) found.span
    ∙ ap (λ n. span_written n (bits_in (slice_get s.store.variables n)) source (after_dest dest vs) s (span_in part.span)) (sym found.array)
    ∙ ap (λ l. span_written part.array (bits_in (slice_get s.store.variables part.array)) source l s (span_in part.span)) e

all_of : (array : Option Held) → bits_held array ≡ then_get (part_held array whole_span) (λ span. Known (span_bits span (bits_in array)))
all_of None = refl
all_of (Some (held.Int z)) = refl
all_of (Some (held.Bit b)) = refl
all_of (Some (held.Ints zs)) = refl
all_of (Some (held.Bits bs)) = ap (λ (l : List Bool). let g : Got (List Bool) = Known l in g) (sym (take_all (length bs) bs (omega arith)))

-- the bits of a source
pub whole_bits : (variables : List Held) (n : ℕ) →
    source_bits variables (Whole n) [] ≡ then_get (part_held (slice_get variables n) whole_span)
    (λ span. Known (span_bits span (bits_in (slice_get variables n))))
whole_bits variables n = all_of (slice_get variables n)

pub range_bits : (profile : Profile) (variables : List Held) (n : ℕ) (first second : Value) →
    source_bits variables (Range profile n) (first ∷ second ∷ [])
    ≡ then_get (part_held (slice_get variables n) (range_span profile first second)) (λ span. Known (span_bits span (bits_in (slice_get variables n))))
range_bits profile variables n first second =
    parts_then (slice_get variables n) (range_span profile first second) (λ bits span. Known (span_bits span bits))

-- so many of the bits of a part
asked_taken : (n : ℕ) (span : Span) (bits : List Bool) → span.low + span.count ≤ length bits →
    passed (nat_le n (length (span_bits (span_in span) bits))) LengthMismatch (take n (span_bits (span_in span) bits))
    ≡ passed (nat_le n span.count) LengthMismatch (first_bits n span bits)
asked_taken n span bits inside = ap (λ m. passed (nat_le n m) LengthMismatch (first_bits n span bits)) (length_span span bits inside)

asked_integer : (n : ℕ) (z : ℤ) → asked OfInt n (bits_of_int z) ≡ passed (nat_le n 32) LengthMismatch (take n (bits_of_int z))
asked_integer n z = ap (λ m. passed (nat_le n m) LengthMismatch (take n (bits_of_int z))) (length-low_bits 32 (cast_unsigned w32 z))

part_inside : (array : Option Held) (span : Span) → HasPart array span → span.low + span.count ≤ length (bits_in array)
part_inside None span h = absurd h
part_inside (Some array) span h = h.inside

-- what an instruction that copies does
module _ (profile : Profile) (dest : Dest) (vs : List Value) (part : Part) (chosen : List ℕ) (records : List Record) (ir dr : ScanSettings)
    (variables : List Held) (found : IsFoundPart variables (array_of dest) (dest_span profile dest vs) part) where
  pub copied_integer : (v : Value) → after_dest dest vs ≡ v ∷ [] →
      copied (target_of profile dest) OfInt vs (state_with chosen records ir dr variables) ≡ bits_put variables part
      (state_with chosen records ir dr variables) (integer_asked part v)
  copied_integer (Int z) e =
      copied_at profile dest OfInt vs (Int z ∷ []) part (state_with chosen records ir dr variables) found e
      ∙ ap (bits_put variables part (state_with chosen records ir dr variables)) (asked_integer part.span.count z)
  copied_integer (Bit b) e = copied_at profile dest OfInt vs (Bit b ∷ []) part (state_with chosen records ir dr variables) found e

  -- the bits of a part of an array
  module _ (n : ℕ) (spans : ℕ → Got values.Span) (from : Part) (is : IsFoundPart variables n spans from) where
    abbrev bits_there : List Bool
    bits_there = span_bits (span_in from.span) (bits_in (slice_get variables from.array))

    known_bits : then_get (part_held (slice_get variables n) spans)
        (λ span. Known (span_bits span (bits_in (slice_get variables n)))) ≡ Known bits_there
    known_bits =
        ap (λ g. then_get g (λ span. Known (span_bits span (bits_in (slice_get variables n))))) is.span
        ∙ ap (λ (m : ℕ). let g : Got (List Bool) = Known (span_bits (span_in from.span) (bits_in (slice_get variables m))) in g) (sym is.array)

    asked_there : passed (nat_le part.span.count (length bits_there)) LengthMismatch (take part.span.count bits_there) ≡ part_asked variables part from
    asked_there =
        asked_taken part.span.count from.span (bits_in (slice_get variables from.array))
        (part_inside (slice_get variables from.array) from.span is.is_part.has)

  pub copied_whole : (n : ℕ) (from : Part) → IsFoundPart variables n whole_span from → after_dest dest vs ≡ [] →
      copied (target_of profile dest) (Whole n) vs (state_with chosen records ir dr variables) ≡ bits_put variables part
      (state_with chosen records ir dr variables) (part_asked variables part from)
  copied_whole n from is e =
      copied_at profile dest (Whole n) vs [] part (state_with chosen records ir dr variables) found e
      ∙ ap (λ g. then_get g
      (λ bits. bits_put variables part (state_with chosen records ir dr variables)
      (asked (Whole n) part.span.count bits))) (whole_bits variables n ∙ known_bits n whole_span from is)
      ∙ ap (bits_put variables part (state_with chosen records ir dr variables)) (asked_there n whole_span from is)

  pub copied_range : (n : ℕ) (first second : Value) (from : Part) → IsFoundPart variables n (range_span profile first second) from →
      after_dest dest vs ≡ first ∷ second ∷ [] →
      copied (target_of profile dest) (Range profile n) vs (state_with chosen records ir dr variables) ≡ bits_put variables part
      (state_with chosen records ir dr variables) (part_asked variables part from)
  copied_range n first second from is e =
      copied_at profile dest (Range profile n) vs (first ∷ second ∷ []) part (state_with chosen records ir dr variables) found e
      ∙ ap (λ g. then_get g (λ bits. bits_put variables part (state_with chosen records ir dr variables) (asked (Range profile n) part.span.count bits)))
      (range_bits profile variables n first second ∙ known_bits n (range_span profile first second) from is)
      ∙ ap (bits_put variables part (state_with chosen records ir dr variables)) (asked_there n (range_span profile first second) from is)

-- bits go into a part of a variable where it lies
pub part_put : (variables : List Held) (part : Part) (bits : List Bool) (old new : Held) →
    part.array < length variables → old ≡ get_or variables part.array old →
    new ≡ with_bits old part.span bits → slice_set variables part.array new ≡ with_part variables part bits
part_put variables part bits old new inside old_is e =
    let at = item_at variables part.array old inside old_is in
    ap (λ (h : Held). slice_set variables part.array h)
    (e ∙ ap (λ (b : List Bool). let h : Held = held.Bits (span_put (span_in part.span) bits b) in h) (sym (ap bits_in at)))

-- bits of the same array go into a part of it
pub moved_put : (variables : List Held) (part from : Part) (old new : Held) → part.array < length variables →
    part.array ≡ from.array → old ≡ get_or variables part.array old →
    new ≡ with_bits old part.span (first_bits part.span.count from.span (bits_of old)) →
    slice_set variables part.array new
    ≡ with_part variables part (first_bits part.span.count from.span (bits_in (slice_get variables from.array)))
moved_put variables part from old new inside same old_is e =
    let at = item_at variables part.array old inside old_is in
    part_put variables part (first_bits part.span.count from.span (bits_of old)) old new inside old_is e
    ∙ ap (λ (b : List Bool). with_part variables part (first_bits part.span.count from.span b)) (sym (ap bits_in at)
    ∙ ap (λ (n : ℕ). bits_in (slice_get variables n)) same)

-- a variable that was taken out is put back, with bits of another one
pub other_put : (variables : List Held) (part from : Part) (taken_out old new there : Held) →
    part.array < length variables → from.array < length variables → part.array ≢ from.array →
    old ≡ get_or variables part.array old → there ≡ get_or (slice_set variables part.array taken_out) from.array there →
    new ≡ with_bits old part.span (first_bits part.span.count from.span (bits_of there)) →
    slice_set (slice_set variables part.array taken_out) part.array new
    ≡ with_part variables part (first_bits part.span.count from.span (bits_in (slice_get variables from.array)))
other_put variables part from taken_out old new there inside within other old_is there_is e =
    let at_part = item_at variables part.array old inside old_is in
    let at_from = item_at variables from.array there within (there_is ∙ get_or-set_other variables part.array from.array taken_out there (λ q. other (sym q))) in
    let new_bits : List Bool → List Bool = first_bits part.span.count from.span in
    set-set variables part.array taken_out new
    ∙ ap (λ (h : Held). slice_set variables part.array h)
    (e
    ∙ ap (λ (b : List Bool). let h : Held = held.Bits (span_put (span_in part.span) (new_bits b) (bits_of old)) in h) (sym (ap bits_in at_from))
    ∙ ap (λ (b : List Bool). let h : Held =
    held.Bits (span_put (span_in part.span) (new_bits (bits_in (slice_get variables from.array))) b) in h)
    (sym (ap bits_in at_part)))

-- the bits of an integer went into a part of an array
pub integer_put : (part : Part) (v : Value) (z w : ℤ) (variables new : List Held) (chosen : List ℕ)
    (records : List Record) (ir dr : ScanSettings) → v ≡ Int z → w ≡ z → part.span.count ≤ 32 →
    new ≡ with_part variables part (take part.span.count (bits_of_int w)) →
    does (bits_put variables part (state_with chosen records ir dr variables) (integer_asked part v))
    ≡ Known (Does (Falls [] (state_with chosen records ir dr new)))
integer_put part v z w variables new chosen records ir dr is same few put =
    let fits : nat_le part.span.count 32 ≡ true = grind (arith, nat_tests, few) in
    ap (λ x. does (bits_put variables part (state_with chosen records ir dr variables) (integer_asked part x))) is
    ∙ ap (λ (b : Bool). does
    (bits_put variables part (state_with chosen records ir dr variables)
    (passed b LengthMismatch (take part.span.count (bits_of_int z))))) fits
    ∙ ap (λ l. let g : Got Made = Known (Does (Falls [] (state_with chosen records ir dr l))) in g)
    (sym (put ∙ ap (λ (x : ℤ). with_part variables part (take part.span.count (bits_of_int x))) same))
