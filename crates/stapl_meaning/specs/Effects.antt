-- What values do to the state. Statements and instructions share these. Source: JESD71, statements.
use Rattle.std.specs.Prelude.{ℕ, ℤ, pos, ◌+◌, map, ◌+ℤ◌, int_lt, int_le, nat_abs, nat_lt, ◌==◌, ◌&&◌, ◌||◌, not, if◌then◌else◌, Bool, true, false, List, [], ◌∷◌, ◌++◌, length, Option, Some, None, slice_get, slice_set}
use Rattle.std.specs.Int.{int_wrap, w32}
use Rattle.std.specs.Ordering.{int_eq}
use Rattle.std.specs.Fmt.{signed_decimal}
use Rattle.stapl_syntax.specs.Trees.{PartTree, string, value, character}
use Rattle.tap_states.specs.declared.Tap.{Tap}
use Rattle.tap_states.specs.Tap.{is_stable_state}
use Rattle.stapl_meaning.specs.declared.profiles.Profile.{Profile}
use Rattle.stapl_meaning.specs.declared.events.Event.TheVariants.{Print, Export, Usec, Hertz}
use Rattle.stapl_meaning.specs.declared.events.ExportValue.{ExportValue}
use Rattle.stapl_meaning.specs.declared.events.ExportValue.TheVariants as exports
use Rattle.stapl_meaning.specs.declared.events.Ending.TheVariants.{Exit}
use Rattle.stapl_meaning.specs.declared.events.RunFault.TheVariants.{IndexOutOfRange, BadCount, ZeroStep, NoRecord, RecordsFull}
use Rattle.stapl_meaning.specs.declared.records.Loop.{Loop}
use Rattle.stapl_meaning.specs.declared.records.Record.{Record}
use Rattle.stapl_meaning.specs.declared.records.Record.TheVariants.{Pushed, Called, Looped}
use Rattle.stapl_meaning.specs.declared.values.Value.{Value}
use Rattle.stapl_meaning.specs.declared.values.Value.TheVariants.{Int, Bit}
use Rattle.stapl_meaning.specs.declared.values.Held.{Held}
use Rattle.stapl_meaning.specs.declared.values.Held.TheVariants as held
use Rattle.stapl_meaning.specs.declared.values.ValueKind.{ValueKind}
use Rattle.stapl_meaning.specs.declared.values.ValueKind.TheVariants as value_kinds
use Rattle.stapl_meaning.specs.declared.waits.WaitKind.{WaitKind}
use Rattle.stapl_meaning.specs.declared.waits.WaitKind.TheVariants as waits
use Rattle.stapl_meaning.specs.Deeds.{Deed, Says, Goes, Stays}
use Rattle.stapl_meaning.specs.Values.{Got, Known, Faults, Stuck, then_get, is_index, passed, bits_held, Span, span_of, span_put, whole_span, Source, source_bits, padded, asked, integer_of}
use Rattle.stapl_meaning.specs.Operands.{character_of, bit_number}
use Rattle.stapl_meaning.specs.States.{State, Did, Falls, Jumps, Resumes, Returns, Ends}

-- a scalar with another value of its kind
abbrev pub with_scalar : Held → Value → Got Held
with_scalar (held.Int old) (Int z) = Known (held.Int z)
with_scalar (held.Bit old) (Bit b) = Known (held.Bit b)
with_scalar _ _ = Stuck

-- the variables with another one in the place of number n
abbrev pub replaced : List Held → ℕ → Got Held → Got (List Held)
replaced variables n held = then_get held (λ h. Known (slice_set variables n h))

-- the variables after a write to the scalar of number n, which holds this
abbrev pub scalar_written : List Held → ℕ → Option Held → Value → Got (List Held)
scalar_written variables n None v = Stuck
scalar_written variables n (Some h) v = replaced variables n (with_scalar h v)

-- the state with these variables
abbrev pub with_variables : State → List Held → State
with_variables s variables = record s { store = record { variables = variables } }

-- these are the variables from now on
abbrev pub written : State → Got (List Held) → Got Did
written s variables = then_get variables (λ list. Known (Falls [] (with_variables s list)))

-- a value is assigned to the scalar of number n
abbrev pub assigned : ℕ → List Value → State → Got Did
assigned n (v ∷ []) s = written s (scalar_written s.store.variables n (slice_get s.store.variables n) v)
assigned n _ s = Stuck

-- an array with another element of its kind
abbrev pub with_element : Held → ℤ → Value → Got Held
with_element (held.Ints zs) i (Int z) = passed (is_index i (length zs)) IndexOutOfRange (held.Ints (slice_set zs (nat_abs i) z))
with_element (held.Bits bs) i (Bit b) = passed (is_index i (length bs)) IndexOutOfRange (held.Bits (slice_set bs (nat_abs i) b))
with_element _ _ _ = Stuck

-- the variables after a write to an element of the array of number n, which holds this
abbrev pub element_written : List Held → ℕ → Option Held → ℤ → Value → Got (List Held)
element_written variables n None i v = Stuck
element_written variables n (Some h) i v = replaced variables n (with_element h i v)

-- a value is assigned to the element at an index of the array of number n
abbrev pub element_assigned : ℕ → List Value → State → Got Did
element_assigned n (Int i ∷ v ∷ []) s = written s (element_written s.store.variables n (slice_get s.store.variables n) i v)
element_assigned n _ s = Stuck

-- Where bits go: into the whole of the BOOLEAN array of a number, or into a range of it by two indexes under a profile.
pub data Target : Type 0 where
  IntoWhole : ℕ → Target
  IntoRange : Profile → ℕ → Target

-- As many bits of a source as a part of the array of number n has go there. All are read before the first is written.
abbrev pub span_written : ℕ → List Bool → Source → List Value → State → Span → Got Did
span_written n old source values s span =
    then_get (source_bits s.store.variables source values) (λ bits.
    then_get (asked source span.count bits) (λ new.
    Known (Falls [] (with_variables s (slice_set s.store.variables n (held.Bits (span_put span new old)))))))

-- bits are copied into an array, by the values of its indexes and of those of the source
abbrev pub copied : Target → Source → List Value → State → Got Did
copied (IntoWhole n) source values s =
    then_get (bits_held (slice_get s.store.variables n))
    (λ old. span_written n old source values s (whole_span (length old)))
copied (IntoRange profile n) source (first ∷ second ∷ values) s =
    then_get (bits_held (slice_get s.store.variables n))
    (λ old. then_get (span_of profile (length old) first second) (span_written n old source values s))
copied (IntoRange profile n) source _ s = Stuck

-- an INTEGER array with these elements from index 0 on, and 0 after them
abbrev pub with_integers : List ℤ → Option Held → Got Held
with_integers zs (Some (held.Ints old)) = Known (held.Ints (padded (pos 0) (length old) zs))
with_integers zs _ = Stuck

-- the INTEGER array of number n is set
abbrev pub integers_set : ℕ → List ℤ → List Value → State → Got Did
integers_set n zs [] s = written s (replaced s.store.variables n (with_integers zs (slice_get s.store.variables n)))
integers_set n zs _ s = Stuck

-- to the target
abbrev pub jumped : List Value → State → Got Did
jumped [] s = Known (Jumps s)
jumped _ s = Stuck

-- to what follows where a Boolean is 1, else to the target
abbrev pub way_of : Bool → State → Did
way_of true s = Falls [] s
way_of false s = Jumps s

abbrev pub parted : List Value → State → Got Did
parted (Bit b ∷ []) s = Known (way_of b s)
parted _ s = Stuck

-- how many records the stack may hold
abbrev pub record_limit : ℕ
record_limit = 16384

-- the state with these records
abbrev pub with_records : State → List Record → State
with_records s records = record s { records = records }

-- what is done if there is room for one more record
abbrev pub with_room : State → Got Did → Got Did
with_room s did = if nat_lt (length s.records) record_limit then did else Faults RecordsFull

-- a value as a number, a Boolean as 0 or 1, and a number as a value of a kind
abbrev pub number_of : Value → ℤ
number_of (Int z) = z
number_of (Bit b) = bit_number b

abbrev pub value_as : ValueKind → ℤ → Value
value_as value_kinds.Int z = Int z
value_as value_kinds.Bit z = Bit (not (nat_abs z == 0))

-- a value is put on top of the records
abbrev pub pushed : List Value → State → Got Did
pushed (v ∷ []) s = with_room s (Known (Falls [] (with_records s (Pushed (number_of v) ∷ s.records))))
pushed _ s = Stuck

-- the topmost record, which must be a value, as one of this kind, and the records below it
abbrev pub topmost : ValueKind → List Record → Got (Value × List Record)
topmost kind (Pushed z ∷ records) = Known (value_as kind z, records)
topmost kind _ = Faults NoRecord

-- the topmost record is taken off, and after the other values it is assigned
abbrev pub popped : ValueKind → (List Value → State → Got Did) → List Value → State → Got Did
popped kind assigns values s =
    then_get (topmost kind s.records) (λ top. assigns (values ++ top.0 ∷ []) (with_records s top.1))

-- to the target, which is a procedure; a record keeps the place after
abbrev pub called : ℕ → List Value → State → Got Did
called after [] s = with_room s (Known (Jumps (with_records s (Called after ∷ s.records))))
called after _ s = Stuck

-- The procedure is over. Records are dropped down to and with the nearest CALL, after which the play goes on; if there
-- is none, all are.
abbrev pub returned_from : List Record → State → Did
returned_from [] s = Returns (with_records s [])
returned_from (Called place ∷ records) s = Resumes place (with_records s records)
returned_from (_ ∷ records) s = returned_from records s

abbrev pub returned : List Value → State → Got Did
returned [] s = Known (returned_from s.records s)
returned _ s = Stuck

-- Loops. A loop is a record with the variable, the limit and the step of its FOR, and with the place after that.

-- the state with a loop on top of these records, whose variable holds this integer
abbrev pub with_loop : Loop → List Record → ℤ → State → Got State
with_loop l records z s =
    then_get (scalar_written s.store.variables l.variable (slice_get s.store.variables l.variable) (Int z))
    (λ variables. Known (with_variables (with_records s (Looped l ∷ records)) variables))

-- The loop of the variable of number n begins, from a first value, a limit and a step. Older records of that variable
-- stay. The limit is tested by NEXT alone, after the body.
abbrev pub looped : ℕ → ℕ → List Value → State → Got Did
looped n after (Int first ∷ Int limit ∷ Int step ∷ []) s =
    if int_eq step (pos 0) then Faults ZeroStep
    else with_room s
    (then_get (with_loop (record { variable = n; limit = limit; step = step; place = after }) s.records first s)
    (λ t. Known (Falls [] t)))
looped n after _ s = Stuck

-- The topmost loop of the variable of number n, and the records below it. Above it may stand loops of other variables
-- alone.
abbrev pub nearest_loop : ℕ → List Record → Got (Loop × List Record)
nearest_loop n (Looped l ∷ records) = if l.variable == n then Known (l, records) else nearest_loop n records
nearest_loop n _ = Faults NoRecord

-- the loop is over, if its variable holds this integer: it has come to the limit, or past it
abbrev pub is_over : Loop → ℤ → Bool
is_over l z = (int_lt (pos 0) l.step && int_le l.limit z) || (int_lt l.step (pos 0) && int_le z l.limit)

-- the integer that a scalar holds
abbrev pub integer_held : Option Held → Got ℤ
integer_held (Some (held.Int z)) = Known z
integer_held _ = Stuck

-- A loop that is over is dropped. Another one goes on with its body, and its variable with one step more.
abbrev pub went_round : Loop → List Record → ℤ → State → Got Did
went_round l records z s =
    if is_over l z then Known (Falls [] (with_records s records))
    else then_get (with_loop l records (int_wrap w32 (z +ℤ l.step)) s) (λ t. Known (Resumes l.place t))

-- the loop of the variable of number n goes round, or is over; loops of other variables above it are dropped
abbrev pub repeated : ℕ → List Value → State → Got Did
repeated n [] s =
    then_get (nearest_loop n s.records) (λ top.
    then_get (integer_held (slice_get s.store.variables n)) (λ z. went_round top.0 top.1 z s))
repeated n _ s = Stuck

-- the play is over, with a code
abbrev pub exited : List Value → State → Got Did
exited (Int code ∷ []) s = Known (Ends (Exit code) s)
exited _ s = Stuck

-- a Boolean as a digit
abbrev pub digit_of : Bool → ℕ
digit_of true = 49
digit_of false = 48

-- a value as it is printed: an integer in decimal, a Boolean as 0 or 1
abbrev pub shown : Value → List ℕ
shown (Int z) = signed_decimal z
shown (Bit b) = digit_of b ∷ []

-- a value in front of a text
abbrev pub after_value : Value → Got (List ℕ) → Got (List ℕ)
after_value v rest = then_get rest (λ bytes. Known (shown v ++ bytes))

-- a character in front of a text
abbrev pub after_character : Value → Got (List ℕ) → Got (List ℕ)
after_character v rest =
    then_get (character_of v) (λ w. then_get (integer_of w) (λ z. then_get rest (λ bytes. Known (nat_abs z ∷ bytes))))

-- the joined bytes of the parts of a PRINT with these values
abbrev pub joined : List PartTree → List Value → Got (List ℕ)
joined [] [] = Known []
joined [] (v ∷ vs) = Stuck
joined (string bytes ∷ parts) vs = then_get (joined parts vs) (λ rest. Known (bytes ++ rest))
joined (value e ∷ parts) [] = Stuck
joined (value e ∷ parts) (v ∷ vs) = after_value v (joined parts vs)
joined (character e ∷ parts) [] = Stuck
joined (character e ∷ parts) (v ∷ vs) = after_character v (joined parts vs)

-- a text is printed
abbrev pub printed : Got (List ℕ) → State → Got Did
printed text s = then_get text (λ bytes. Known (Falls (Says (Print bytes) ∷ []) s))

-- a value is exported under a key
abbrev pub export_of : Value → ExportValue
export_of (Int z) = exports.Int z
export_of (Bit b) = exports.Bit b

abbrev pub exported : List ℕ → List Value → State → Got Did
exported key (v ∷ []) s = Known (Falls (Says (Export key (export_of v)) ∷ []) s)
exported key _ s = Stuck

-- the bits of a source are exported under a key
abbrev pub bits_exported : List ℕ → Source → List Value → State → Got Did
bits_exported key source values s =
    then_get (source_bits s.store.variables source values) (λ bits. Known (Falls (Says (Export key (exports.Array bits)) ∷ []) s))

-- The chain moves through these states, one after the other.
abbrev pub moved_through : List Tap → List Value → State → Got Did
moved_through states [] s = Known (Falls (map Goes states) s)
moved_through states _ s = Stuck

-- the most clocks of one WAIT, which is this profile's limit
abbrev pub most_cycles : ℕ
most_cycles = 16777216

-- a number of clocks, of microseconds, and of hertz, or the fault of one that is outside its limits
abbrev pub cycles_of : ℤ → Got ℕ
cycles_of z = passed (is_index z (most_cycles + 1)) BadCount (nat_abs z)

abbrev pub usec_of : ℤ → Got ℕ
usec_of z = passed (int_le (pos 0) z) BadCount (nat_abs z)

abbrev pub hertz_of : ℤ → Got ℕ
hertz_of z = passed (int_lt (pos 0) z) BadCount (nat_abs z)

-- A WAIT in a state: the move there, a stay of so many clocks, so many microseconds, and the move to another state.
-- Both counts are there before the first is tested.
abbrev pub waited_for : WaitKind → Tap → Tap → List Value → Got (List Deed)
waited_for waits.Cycles at last (Int n ∷ []) = then_get (cycles_of n) (λ c. Known (Goes at ∷ Stays c ∷ Goes last ∷ []))
waited_for waits.Usec at last (Int n ∷ []) = then_get (usec_of n) (λ u. Known (Goes at ∷ Says (Usec u) ∷ Goes last ∷ []))
waited_for waits.Both at last (Int n ∷ Int m ∷ []) =
    then_get (cycles_of n) (λ c. then_get (usec_of m) (λ u. Known (Goes at ∷ Stays c ∷ Says (Usec u) ∷ Goes last ∷ [])))
waited_for kind at last _ = Stuck

-- a state in which no WAIT may stay is met by no accepted program
abbrev pub waited : WaitKind → Tap → Tap → List Value → State → Got Did
waited kind at last values s =
    if is_stable_state at then then_get (waited_for kind at last values) (λ deeds. Known (Falls deeds s)) else Stuck

-- The frequency of the clocks that follow is stated, or that none is.
abbrev pub tuned : List Value → State → Got Did
tuned [] s = Known (Falls (Says (Hertz 0) ∷ []) s)
tuned (Int n ∷ []) s = then_get (hertz_of n) (λ h. Known (Falls (Says (Hertz h) ∷ []) s))
tuned _ s = Stuck
