-- A statement without its inner statement breaks if the table says so
use Rattle.std.proofs.Common.{◌≡◌, ◌≢◌, ℕ, ◌<◌, ◌≤◌, Bool, true, false, List, [], ◌∷◌, ◌++◌, length, Option, Some, None, ℤ, pos, negsuc, refl, sym, ap}
use Rattle.std.proofs.Common.{◌∙◌, subst, arith, nat_lt, nat_abs, ◌<ℤ◌, if◌then◌else◌}
use Rattle.std.specs.Ordering.{int_eq}
use Rattle.std.specs.Prelude.{slice_get, slice_set}
use Rattle.std.proofs.Math.Facts.{ltb_yes}
use Rattle.std.proofs.lemmas.Bool.{le-ltb, lt-ltb, ne_eqb}
use Rattle.std.proofs.lemmas.Bool.Decides.{Decides-int_eq}
use Rattle.stapl_syntax.specs.Trees.{ExprTree, scalar, element, ArrayTree, whole, range, BodyTree, assign_array, assign_range, call, for_loop, next, push, pop, scan, pad, wait_cycles, wait_usec, frequency}
use Rattle.tap_states.specs.declared.Tap.{Tap}
use Rattle.tap_states.specs.Tap.{is_stable_state}
use Rattle.stapl_meaning.specs.declared.events.RunFault.{RunFault}
use Rattle.stapl_meaning.specs.declared.events.RunFault.TheVariants.{LengthMismatch, BadLength, BadCount, ZeroStep, NoRecord, RecordsFull}
use Rattle.stapl_meaning.specs.declared.events.Event.TheVariants.{Usec, Hertz}
use Rattle.stapl_meaning.specs.declared.records.Record.{Record}
use Rattle.stapl_meaning.specs.declared.values.ValueKind.{ValueKind}
use Rattle.stapl_meaning.specs.declared.values.Value.{Value}
use Rattle.stapl_meaning.specs.declared.values.Value.TheVariants.{Int}
use Rattle.stapl_meaning.specs.declared.values.Held.{Held}
use Rattle.stapl_meaning.specs.declared.values.Held.TheVariants as held
use Rattle.stapl_meaning.specs.declared.waits.WaitKind.TheVariants as waits
use Rattle.stapl_meaning.specs.Deeds.{Deed, Says, Goes, Stays}
use Rattle.stapl_meaning.specs.Values.{Got, Known, Faults, Stuck, then_get, is_index, passed, bits_held, Span, span_of, span_put, whole_span, asked, of_programs, source_of}
use Rattle.stapl_meaning.specs.Operands.{values_of, given_kind}
use Rattle.stapl_meaning.specs.States.{State, Did, Falls}
use Rattle.stapl_meaning.specs.Effects.{with_records, with_variables, assigned, element_assigned, span_written, with_room, with_loop, topmost, nearest_loop, integer_held, went_round, cycles_of, usec_of, hertz_of, waited_for}
use Rattle.stapl_meaning.specs.Effects.{IntoWhole, IntoRange, copied}
use Rattle.stapl_meaning.specs.Scans.{with_padding}
use Rattle.stapl_meaning.specs.Scopes.{Scope}
use Rattle.stapl_meaning.specs.Turns.{effect, tap_or_idle}
use Rattle.meaning_laws.specs.Limits.{IsOutside}
use Rattle.meaning_laws.specs.ExprFaults.{bit_count, held_by}
use Rattle.meaning_laws.specs.PartFaults.{written_parts, range_is, PartsAre, no_parts, more_parts, value_is, array_is, RangeHas, HasBits, whole_has, range_has, IsTooShort}
use Rattle.meaning_laws.specs.RowFaults.{HasNoValue, nothing_there, call_on_top, loop_on_top, HasNoLoop, nothing_left, value_above, call_above, other_loop, RowBreaks, of_parts, length_mismatch, bad_length, bad_count, step_zero, no_record, records_full, assigned_short, range_short, zero_step, full_for, full_push, full_call, no_loop, no_value, no_value_for_element, left_out, written_down, bad_cycles, bad_usec, bad_usec_alone, bad_hertz, bad_scan, scan_short, bad_padding, padding_short}
use Rattle.meaning_laws.proofs.Gets.{then_known, then_faults}
use Rattle.meaning_laws.proofs.LimitLemmas.{not_outside, part_of, part_count, part_known}
use Rattle.meaning_laws.proofs.PartLemmas.{operands_are, parts_known, parts_fault, HoldsBits, holds_bits, some_same}
use Rattle.meaning_laws.proofs.ArrayLemmas.{ReadShort, short_read}
use Rattle.meaning_laws.proofs.ScanLemmas.{alone, PaddingFaults, bad_padding_faults, short_padding_faults}
use Rattle.meaning_laws.proofs.ScanFaultLemmas.{ScanFaults, bad_scan_faults, short_scan_faults}
use Rattle.meaning_laws.proofs.RowLemmas.{row_got}

-- ---- records

room_faults : (s : State) (g : Got Did) → 16384 ≤ length s.records → with_room s g ≡ Faults RecordsFull
room_faults s g full = ap (λ t. if t then g else Faults RecordsFull) (le-ltb (length s.records) 16384 full)

no_zero : (z : ℤ) → z ≢ pos 0 → int_eq z (pos 0) ≡ false
no_zero z other = by (int_eq z (pos 0)) refl
  where
    by : (t : Bool) → int_eq z (pos 0) ≡ t → t ≡ false
    by true e = absurd (other ((Decides-int_eq z (pos 0)).0 e))
    by false e = refl

nearest_faults : {n : ℕ} {records : List Record} → HasNoLoop n records → nearest_loop n records ≡ Faults NoRecord
nearest_faults nothing_left = refl
nearest_faults value_above = refl
nearest_faults call_above = refl
nearest_faults {n = n} (other_loop {l = l} {records = records} other rest) =
    ap (λ t. if t then Known (l, records) else nearest_loop n records) (ne_eqb l.variable n other) ∙ nearest_faults rest

topmost_faults : {records : List Record} (kind : ValueKind) → HasNoValue records → topmost kind records ≡ Faults NoRecord
topmost_faults kind nothing_there = refl
topmost_faults kind call_on_top = refl
topmost_faults kind loop_on_top = refl

-- ---- counts

cycles_faults : (z : ℤ) → IsOutside (pos 0) (pos 16777216) z → cycles_of z ≡ Faults BadCount
cycles_faults z out = let e : is_index z 16777217 ≡ false = not_outside 16777216 z out in ap (λ t. passed t BadCount (nat_abs z)) e

cycles_known : (n : ℕ) → n ≤ 16777216 → cycles_of (pos n) ≡ Known n
cycles_known n few = let e : nat_lt n 16777217 ≡ true = lt-ltb n 16777217 (omega (arith, few)) in ap (λ t. passed t BadCount n) e

usec_faults : (z : ℤ) → z <ℤ pos 0 → usec_of z ≡ Faults BadCount
usec_faults (pos n) below = let small : n < 0 = ltb_yes below.lt in absurd (omega (arith, small))
usec_faults (negsuc n) below = refl

hertz_faults : (z : ℤ) → z <ℤ pos 1 → hertz_of z ≡ Faults BadCount
hertz_faults (negsuc n) below = refl
hertz_faults (pos n) below =
    let small : n < 1 = ltb_yes below.lt in
    let e : nat_lt 0 n ≡ false = le-ltb 0 n (omega (arith, small)) in ap (λ t. passed t BadCount n) e

module _ (scope : Scope) (s : State) where
  -- a wait in a state in which a chain may stay
  stays_faults : (at : Tap) (g : Got (List Deed)) (k : RunFault) → is_stable_state at ≡ true → g ≡ Faults k →
      (if is_stable_state at then then_get g (λ deeds. Known (Falls deeds s)) else Stuck) ≡ Faults k
  stays_faults at g k stays e =
      ap (λ t. if t then then_get g (λ deeds. Known (Falls deeds s)) else Stuck) stays ∙ then_faults (λ deeds. Known (Falls deeds s)) e

  -- ---- arrays

  span_faults : (n : ℕ) (old : List Bool) (span : Span) (a : ArrayTree) (m : ℕ) → span.count ≡ m → (r : ReadShort scope.look s.store.variables a m) →
      span_written n old (source_of scope.look a) r.read.values s span ≡ Faults LengthMismatch
  span_faults n old span a m count r =
      let puts : List Bool → Got Did = λ new. Known (Falls [] (with_variables s (slice_set s.store.variables n (held.Bits (span_put span new old))))) in
      then_known (λ bits. then_get (asked (source_of scope.look a) span.count bits) puts) r.read.is
      ∙ ap (λ m. then_get (asked (source_of scope.look a) m r.read.bits) puts) count
      ∙ then_faults puts r.faults

  whole_faults : (name : List ℕ) (n : ℕ) (a : ArrayTree) → HasBits scope.look s.store.variables (whole name) n →
      (r : ReadShort scope.look s.store.variables a n) →
      copied (IntoWhole (scope.look.variable name)) (source_of scope.look a) r.read.values s ≡ Faults LengthMismatch
  whole_faults name n a (whole_has sized) r =
      let o : Option Held = held_by scope.look s.store.variables name in
      let b : HoldsBits o = holds_bits o n sized in
      let number : ℕ = scope.look.variable name in
      ap (λ o. then_get (bits_held o) (λ old. span_written number old (source_of scope.look a) r.read.values s (whole_span (length old)))) b.is
      ∙ span_faults number b.bits (whole_span (length b.bits)) a n (some_same (sym (ap bit_count b.is) ∙ sized)) r

  part_faults : (name : List ℕ) (i j size n : ℕ) (a : ArrayTree) → bit_count (held_by scope.look s.store.variables name) ≡ Some size → i < size → j < size →
      RangeHas i j n → (r : ReadShort scope.look s.store.variables a n) →
      copied (IntoRange of_programs (scope.look.variable name)) (source_of scope.look a) (Int (pos i) ∷ Int (pos j) ∷ r.read.values) s ≡ Faults LengthMismatch
  part_faults name i j size n a sized first_in second_in count r =
      let o : Option Held = held_by scope.look s.store.variables name in
      let b : HoldsBits o = holds_bits o size sized in
      let same : size ≡ length b.bits = some_same (sym sized ∙ ap bit_count b.is) in
      let number : ℕ = scope.look.variable name in
      let puts : List Bool → Span → Got Did = λ old. span_written number old (source_of scope.look a) r.read.values s in
      ap (λ o. then_get (bits_held o) (λ old. then_get (span_of of_programs (length old) (Int (pos i)) (Int (pos j))) (puts old))) b.is
      ∙ then_known (puts b.bits) (part_known (length b.bits) i j (subst (λ n. i < n) same first_in) (subst (λ n. j < n) same second_in))
      ∙ span_faults number b.bits (part_of i j) a n (part_count count) r

  -- ---- the table

  abbrev WrittenParts : BodyTree → List Value → Type 0
  WrittenParts b vs = PartsAre scope.look s.store.variables (written_parts scope.look b) vs

  from_values : (b : BodyTree) (vs : List Value) (k : RunFault) → WrittenParts b vs → effect scope b vs s ≡ Faults k → row_got scope s b ≡ Faults k
  from_values b vs k are e =
      then_known (λ values. effect scope b values s)
      (ap (values_of scope.look s.store.variables) (operands_are scope b) ∙ parts_known scope.look s.store.variables None are) ∙ e

  range_row : (name : List ℕ) (first second : ExprTree) (a : ArrayTree) (n : ℕ) → HasBits scope.look s.store.variables (range name first second) n →
      IsTooShort scope.look s.store.variables a n → row_got scope s (assign_range name first second a) ≡ Faults LengthMismatch
  range_row name first second a n (range_has i j size is_i is_j sized first_in second_in count) short =
      let r : ReadShort scope.look s.store.variables a n = short_read scope.look s.store.variables short in
      from_values (assign_range name first second a) (Int (pos i) ∷ Int (pos j) ∷ r.read.values) LengthMismatch
      (more_parts (array_is (range_is i j size is_i is_j sized first_in second_in)) (alone scope.look s.store.variables r.read.are))
      (part_faults name i j size n a sized first_in second_in count r)

  pub row_faults : {b : BodyTree} {k : RunFault} → RowBreaks scope s b k → row_got scope s b ≡ Faults k
  row_faults (of_parts {b = b} h) =
      then_faults (λ values. effect scope b values s)
      (ap (values_of scope.look s.store.variables) (operands_are scope b) ∙ parts_fault scope.look s.store.variables None h)
  row_faults (length_mismatch (assigned_short {name = name} {a = a} n has short)) =
      let r : ReadShort scope.look s.store.variables a n = short_read scope.look s.store.variables short in
      from_values (assign_array name a) r.read.values LengthMismatch (alone scope.look s.store.variables r.read.are) (whole_faults name n a has r)
  row_faults (length_mismatch (range_short {name = name} {first = first} {second = second} {a = a} n has short)) = range_row name first second a n has short
  row_faults (step_zero (zero_step {name = name} {from = from} {to = to} {step = step} a b is_a is_b is_zero)) =
      from_values (for_loop name from to step) (Int a ∷ Int b ∷ Int (pos 0) ∷ []) ZeroStep
      (more_parts (value_is (Int a) is_a) (more_parts (value_is (Int b) is_b) (more_parts (value_is (Int (pos 0)) is_zero) no_parts))) refl
  row_faults (records_full (full_for {name = name} {from = from} {to = to} {step = step} a b z is_a is_b is_z other full)) =
      let begins : Got Did = then_get (with_loop (record { variable = scope.look.variable name; limit = b; step = z; place = scope.follow }) s.records a s)
      (λ t. Known (Falls [] t)) in
      from_values (for_loop name from to step) (Int a ∷ Int b ∷ Int z ∷ []) RecordsFull
      (more_parts (value_is (Int a) is_a) (more_parts (value_is (Int b) is_b) (more_parts (value_is (Int z) is_z) no_parts)))
      (ap (λ t. if t then Faults ZeroStep else with_room s begins) (no_zero z other) ∙ room_faults s begins full)
  row_faults (records_full (full_push {e = e} v known full)) =
      from_values (push e) (v ∷ []) RecordsFull (more_parts (value_is v known) no_parts) (room_faults s _ full)
  row_faults (records_full (full_call {name = name} full)) = from_values (call name) [] RecordsFull no_parts (room_faults s _ full)
  row_faults (no_record (no_loop {name = name} none)) =
      from_values (next name) [] NoRecord no_parts
      (then_faults (λ top. then_get (integer_held (slice_get s.store.variables (scope.look.variable name))) (λ z. went_round top.0 top.1 z s)) (nearest_faults none))
  row_faults (no_record (no_value {name = name} none)) =
      from_values (pop (scalar name)) [] NoRecord no_parts
      (then_faults (λ top. assigned (scope.look.variable name) (top.0 ∷ []) (with_records s top.1)) (topmost_faults (given_kind (scope.look.kind name)) none))
  row_faults (no_record (no_value_for_element {name = name} {index = index} values are none)) =
      from_values (pop (element name index)) values NoRecord are
      (then_faults (λ top. element_assigned (scope.look.variable name) (values ++ top.0 ∷ []) (with_records s top.1))
      (topmost_faults (given_kind (scope.look.kind name)) none))
  row_faults (bad_count (bad_cycles {state = state} {last = last} {cycles = cycles} n stays known left_out out)) =
      from_values (wait_cycles state cycles None last) (Int n ∷ []) BadCount (more_parts (value_is (Int n) known) no_parts)
      (stays_faults (tap_or_idle state) (waited_for waits.Cycles (tap_or_idle state) (tap_or_idle last) (Int n ∷ [])) BadCount stays
      (then_faults (λ c. Known (Goes (tap_or_idle state) ∷ Stays c ∷ Goes (tap_or_idle last) ∷ [])) (cycles_faults n out)))
  row_faults (bad_count (bad_cycles {state = state} {last = last} {cycles = cycles} n stays known (written_down {e = e} m known2) out)) =
      from_values (wait_cycles state cycles (Some e) last) (Int n ∷ Int m ∷ []) BadCount
      (more_parts (value_is (Int n) known) (more_parts (value_is (Int m) known2) no_parts))
      (stays_faults (tap_or_idle state) (waited_for waits.Both (tap_or_idle state) (tap_or_idle last) (Int n ∷ Int m ∷ [])) BadCount stays
      (then_faults (λ c. then_get (usec_of m) (λ u. Known (Goes (tap_or_idle state) ∷ Stays c ∷ Says (Usec u) ∷ Goes (tap_or_idle last) ∷ [])))
      (cycles_faults n out)))
  row_faults (bad_count (bad_usec {state = state} {last = last} {cycles = cycles} {usec = usec} n m stays known few known2 below)) =
      from_values (wait_cycles state cycles (Some usec) last) (Int (pos n) ∷ Int m ∷ []) BadCount
      (more_parts (value_is (Int (pos n)) known) (more_parts (value_is (Int m) known2) no_parts))
      (stays_faults (tap_or_idle state) (waited_for waits.Both (tap_or_idle state) (tap_or_idle last) (Int (pos n) ∷ Int m ∷ [])) BadCount stays
      (then_known (λ c. then_get (usec_of m) (λ u. Known (Goes (tap_or_idle state) ∷ Stays c ∷ Says (Usec u) ∷ Goes (tap_or_idle last) ∷ [])))
      (cycles_known n few)
      ∙ then_faults (λ u. Known (Goes (tap_or_idle state) ∷ Stays n ∷ Says (Usec u) ∷ Goes (tap_or_idle last) ∷ [])) (usec_faults m below)))
  row_faults (bad_count (bad_usec_alone {state = state} {last = last} {usec = usec} m stays known below)) =
      from_values (wait_usec state usec last) (Int m ∷ []) BadCount (more_parts (value_is (Int m) known) no_parts)
      (stays_faults (tap_or_idle state) (waited_for waits.Usec (tap_or_idle state) (tap_or_idle last) (Int m ∷ [])) BadCount stays
      (then_faults (λ u. Known (Goes (tap_or_idle state) ∷ Says (Usec u) ∷ Goes (tap_or_idle last) ∷ [])) (usec_faults m below)))
  row_faults (bad_count (bad_hertz {hertz = hertz} n known below)) =
      from_values (frequency (Some hertz)) (Int n ∷ []) BadCount (more_parts (value_is (Int n) known) no_parts)
      (then_faults (λ h. Known (Falls (Says (Hertz h) ∷ []) s)) (hertz_faults n below))
  row_faults (bad_length (bad_scan {register = register} {count = count} {source = source} {target = target} {compare = compare} z values known there result out)) =
      let f : ScanFaults scope.look register source target compare s z BadLength =
      bad_scan_faults scope.look register source target compare s z there result out in
      from_values (scan register count source target compare) (Int z ∷ f.values) BadLength (more_parts (value_is (Int z) known) f.are) f.faults
  row_faults (length_mismatch (scan_short {register = register} {count = count} {source = source} {target = target} {compare = compare} n values known result some few short)) =
      let f : ScanFaults scope.look register source target compare s (pos n) LengthMismatch =
      short_scan_faults scope.look register source target compare s n short result some few in
      from_values (scan register count source target compare) (Int (pos n) ∷ f.values) LengthMismatch (more_parts (value_is (Int (pos n)) known) f.are) f.faults
  row_faults (bad_length (bad_padding {which = which} {count = count} {bits = bits} z known there out)) =
      let f : PaddingFaults scope.look s.store.variables bits z BadLength = bad_padding_faults scope.look s.store.variables bits z there out in
      from_values (pad which count bits) (Int z ∷ f.values) BadLength (more_parts (value_is (Int z) known) f.are)
      (then_faults (λ bits. Known (Falls [] (with_padding which bits s))) f.faults)
  row_faults (length_mismatch (padding_short {which = which} {count = count} {a = a} n known few short)) =
      let f : PaddingFaults scope.look s.store.variables (Some a) (pos n) LengthMismatch = short_padding_faults scope.look s.store.variables a n few short in
      from_values (pad which count (Some a)) (Int (pos n) ∷ f.values) LengthMismatch (more_parts (value_is (Int (pos n)) known) f.are)
      (then_faults (λ bits. Known (Falls [] (with_padding which bits s))) f.faults)
