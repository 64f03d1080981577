-- Elements and parts of arrays, as the machine has them.
use Rattle.std.specs.Prelude.{◌≡◌, ℕ, ◌+◌, ◌<◌, ◌≤◌, nat_lt, nat_le, if◌then◌else◌, Bool, List, [], ◌∷◌, length, take, drop, Option, Some, None, Result, Ok, Err, slice_get, slice_set}
use Rattle.std.specs.Prelude.{ℤ, pos, negsuc}
use Rattle.bit_list.specs.Integers.{bits_of_int}
use Rattle.stapl_meaning.specs.declared.events.RunFault.TheVariants.{LengthMismatch}
use Rattle.stapl_meaning.specs.declared.profiles.Profile.{Profile}
use Rattle.stapl_meaning.specs.declared.values.Value.{Value}
use Rattle.stapl_meaning.specs.declared.values.Value.TheVariants.{Int, Bit}
use Rattle.stapl_meaning.specs.declared.values.Held.{Held}
use Rattle.stapl_meaning.specs.declared.values.Held.TheVariants as held
use Rattle.stapl_meaning.specs.Values.{Got, Known, Stuck, then_get, passed, bits_held, bits_of, bits_in, span_of, span_bits, span_put}
use Rattle.stapl_meaning.specs.Values as values
use Rattle.stapl_meaning.specs.States.{State, Did, Falls}
use Rattle.stapl_meaning.specs.Effects.{with_variables}
use Rattle.stapl_code.specs.declared.instr.Dest.{Dest}
use Rattle.stapl_code.specs.declared.instr.Dest.TheVariants as dests
use Rattle.machine_memory.specs.declared.operate.Stop.{Stop}
use Rattle.machine_memory.specs.declared.parts.Span.{Span}
use Rattle.machine_memory.specs.declared.parts.Part.{Part}
use Rattle.machine_memory.specs.Found.{IsStopped}

-- an index as a place in a list of so many items
abbrev pub place_in : ℤ → ℕ → Option ℕ
place_in (pos i) n = if nat_lt i n then Some i else None
place_in (negsuc i) n = None

-- a part of an array, as the meaning has it
abbrev pub span_in : Span → values.Span
span_in span = record { low = span.low; count = span.count; falls = span.falls }

-- the part of a BOOLEAN array that the number of its bits tells
abbrev pub part_held : Option Held → (ℕ → Got values.Span) → Got values.Span
part_held array spans = then_get (bits_held array) (λ bits. spans (length bits))

abbrev pub whole_span : ℕ → Got values.Span
whole_span count = Known (values.whole_span count)

abbrev pub range_span : Profile → Value → Value → ℕ → Got values.Span
range_span profile first second count = span_of profile count first second

-- a variable is a BOOLEAN array that has this part
pub record HasSpan (h : Held) (span : Span) : Type 0 where
  pub is_array : h ≡ held.Bits (bits_of h)
  pub inside : span.low + span.count ≤ length (bits_of h)

abbrev pub HasPart : Option Held → Span → Type 0
HasPart (Some h) span = HasSpan h span
HasPart None span = ⊥

-- a variable of these is a BOOLEAN array that has this part
pub record IsArrayPart (variables : List Held) (part : Part) : Type 0 where
  pub there : part.array < length variables
  pub has : HasPart (slice_get variables part.array) part.span

-- this is the part of the array of a number that the number of its bits tells
pub record IsFoundPart (variables : List Held) (n : ℕ) (spans : ℕ → Got values.Span) (part : Part) : Type 0 where
  pub array : part.array ≡ n
  pub span : part_held (slice_get variables n) spans ≡ Known (span_in part.span)
  pub is_part : IsArrayPart variables part

abbrev pub IsPartOf : Result Part Stop → List Held → ℕ → (ℕ → Got values.Span) → Type 0
IsPartOf (Ok part) variables n spans = IsFoundPart variables n spans part
IsPartOf (Err stop) variables n spans = IsStopped stop (part_held (slice_get variables n) spans)

-- the array of a destination, its part that these values tell, and the values after those
abbrev pub array_of : Dest → ℕ
array_of (dests.Whole n) = n
array_of (dests.Range n) = n

abbrev pub dest_span : Profile → Dest → List Value → ℕ → Got values.Span
dest_span profile (dests.Whole n) vs count = whole_span count
dest_span profile (dests.Range n) (first ∷ second ∷ vs) count = span_of profile count first second
dest_span profile (dests.Range n) _ count = Stuck

abbrev pub after_dest : Dest → List Value → List Value
after_dest (dests.Whole n) vs = vs
after_dest (dests.Range n) vs = drop 2 vs

-- the variables with these bits in the first places of a part of an array
abbrev pub with_bits : Held → Span → List Bool → Held
with_bits h span bits = held.Bits (span_put (span_in span) bits (bits_of h))

abbrev pub with_part : List Held → Part → List Bool → List Held
with_part variables part bits =
    slice_set variables part.array
    (held.Bits (span_put (span_in part.span) bits (bits_in (slice_get variables part.array))))

-- the first n bits of a part
abbrev pub first_bits : ℕ → Span → List Bool → List Bool
first_bits n span bits = take n (span_bits (span_in span) bits)

-- the state after these bits went into a part of an array
abbrev pub bits_put : List Held → Part → State → Got (List Bool) → Got Did
bits_put variables part s bits =
    then_get bits (λ new. Known (Falls [] (with_variables s (with_part variables part new))))

-- as many bits of a part as another part has, and as many of an integer
abbrev pub part_asked : List Held → Part → Part → Got (List Bool)
part_asked variables part from =
    passed (nat_le part.span.count from.span.count) LengthMismatch
    (first_bits part.span.count from.span (bits_in (slice_get variables from.array)))

abbrev pub integer_asked : Part → Value → Got (List Bool)
integer_asked part (Int z) = passed (nat_le part.span.count 32) LengthMismatch (take part.span.count (bits_of_int z))
integer_asked part (Bit b) = Stuck
