-- What the values of parts do breaks by the table alone
use Rattle.std.proofs.Common.{◌≡◌, ◌≢◌, ℕ, ◌<◌, ◌≤◌, Bool, true, false, List, [], ◌∷◌, ◌++◌, length, Option, Some, None, ℤ, pos, negsuc, refl, sym, ap}
use Rattle.std.proofs.Common.{subst, arith, nat_lt, nat_le, ◌==◌, ◌<ℤ◌, ◌+ℤ◌, slice_get, if◌then◌else◌, nat_abs}
use Rattle.std.specs.Prelude.{slice_set}
use Rattle.std.specs.Int.{int_wrap, w32}
use Rattle.std.specs.Ordering.{int_eq}
use Rattle.std.specs.Int.Signed.{lt_z_yes}
use Rattle.std.proofs.lemmas.Bool.{ltb-true, ltb-false, leb-false, eqb-false}
use Rattle.std.proofs.Math.Facts.{yes_ltb}
use Rattle.std.proofs.lemmas.Bool.Decides.{Decides-int_eq}
use Rattle.stapl_syntax.specs.Trees.{ArrayTree, whole, PartTree, string, value, character}
use Rattle.tap_states.specs.declared.Tap.{Tap}
use Rattle.tap_states.specs.Tap.{is_stable_state}
use Rattle.stapl_lexer.specs.declared.terminal.Register.{Register}
use Rattle.stapl_meaning.specs.declared.events.RunFault.{RunFault}
use Rattle.stapl_meaning.specs.declared.events.RunFault.TheVariants.{IndexOutOfRange, BadCount, BadChar, LengthMismatch, ZeroStep, NoRecord, RecordsFull}
use Rattle.stapl_meaning.specs.declared.events.Ending.TheVariants.{Exit, Fault, Spent}
use Rattle.stapl_meaning.specs.declared.records.Loop.{Loop}
use Rattle.stapl_meaning.specs.declared.records.Record.{Record}
use Rattle.stapl_meaning.specs.declared.records.Record.TheVariants.{Pushed, Called, Looped}
use Rattle.stapl_meaning.specs.declared.values.ValueKind.{ValueKind}
use Rattle.stapl_meaning.specs.declared.values.Value.{Value}
use Rattle.stapl_meaning.specs.declared.values.Value.TheVariants.{Int, Bit}
use Rattle.stapl_meaning.specs.declared.values.Held.{Held}
use Rattle.stapl_meaning.specs.declared.values.Held.TheVariants as held
use Rattle.stapl_meaning.specs.Values.{Got, Known, Faults, Stuck, then_get, is_index, passed, bits_held, Span, span_of, span_put, whole_span, source_bits, asked, of_programs, source_of}
use Rattle.stapl_meaning.specs.Values.{integer_of, Lookup}
use Rattle.stapl_meaning.specs.Operands.{character_of}
use Rattle.stapl_meaning.specs.States.{State, Did, Falls, Captures, Jumps, Resumes, Returns, Ends}
use Rattle.stapl_meaning.specs.Effects.{replaced, scalar_written, with_variables, written, assigned, element_written, element_assigned, IntoWhole, IntoRange, span_written, copied, with_integers, integers_set, jumped, with_records, with_room, topmost, popped, pushed, called, returned_from, returned, with_loop, looped, nearest_loop, is_over, integer_held, went_round, repeated, exited, joined, shown, after_value, after_character, printed, exported, bits_exported, moved_through, cycles_of, usec_of, hertz_of}
use Rattle.stapl_meaning.specs.Scans.{stopped, with_stop}
use Rattle.stapl_meaning.specs.Deeds.{Says}
use Rattle.stapl_meaning.specs.declared.events.Event.TheVariants.{Print, Export}
use Rattle.stapl_meaning.specs.declared.events.ExportValue.TheVariants as exports
use Rattle.meaning_laws.specs.Limits.{IsOutside}
use Rattle.meaning_laws.specs.ExprFaults.{size_of, bit_count, held_by}
use Rattle.meaning_laws.specs.PartFaults.{printed_parts, ArrayIs, PartsAre, no_parts, more_parts, value_is, character_is, HasBits, whole_has, IsTooShort}
use Rattle.meaning_laws.specs.RowFaults.{HasNoValue, nothing_there, call_on_top, loop_on_top, HasNoLoop, nothing_left, value_above, call_above, other_loop}
use Rattle.meaning_laws.proofs.Gets.{Gives, Breaks, then_gives, then_breaks, then_known}
use Rattle.meaning_laws.proofs.LimitLemmas.{outside, part_of, part_known}
use Rattle.meaning_laws.proofs.PartLemmas.{some_same}
use Rattle.meaning_laws.proofs.ArrayLemmas.{IsSized, source_gives, asked_breaks}

-- what was done ends with no fault
abbrev pub EndsWell : Did → Type 0
EndsWell (Falls deeds s) = Unit {0}
EndsWell (Captures scan lands) = Unit {0}
EndsWell (Jumps s) = Unit {0}
EndsWell (Resumes place s) = Unit {0}
EndsWell (Returns s) = Unit {0}
EndsWell (Ends (Exit z) s) = Unit {0}
EndsWell (Ends Spent s) = Unit {0}
EndsWell (Ends (Fault k piece) s) = ⊥

abbrev pub Does : (RunFault → Type 0) → Got Did → Type 0
Does P g = Gives EndsWell P g

-- from a value of which nothing has to be known
pub then_does : {A : Type 0} (P : RunFault → Type 0) (g : Got A) (go : A → Got Did) → Breaks P g → ((x : A) → g ≡ Known x → Does P (go x)) →
    Does P (then_get g go)
then_does P g go p q = then_gives (λ _. Unit {0}) EndsWell P g go p (λ x e _. q x e)

-- ---- effects that never break

module _ (P : RunFault → Type 0) where
  written_does : (s : State) (g : Got (List Held)) → Breaks P g → Does P (written s g)
  written_does s g h = then_does P g (λ list. Known (Falls [] (with_variables s list))) h (λ list e. tt)

  scalar_breaks : (variables : List Held) (n : ℕ) (o : Option Held) (v : Value) → Breaks P (scalar_written variables n o v)
  scalar_breaks variables n None v = tt
  scalar_breaks variables n (Some (held.Int z)) (Int x) = tt
  scalar_breaks variables n (Some (held.Int z)) (Bit x) = tt
  scalar_breaks variables n (Some (held.Bit b)) (Int x) = tt
  scalar_breaks variables n (Some (held.Bit b)) (Bit x) = tt
  scalar_breaks variables n (Some (held.Ints zs)) v = tt
  scalar_breaks variables n (Some (held.Bits bs)) v = tt

  pub assigned_does : (n : ℕ) (vs : List Value) (s : State) → Does P (assigned n vs s)
  assigned_does n [] s = tt
  assigned_does n (v ∷ []) s =
      written_does s (scalar_written s.store.variables n (slice_get s.store.variables n) v) (scalar_breaks s.store.variables n (slice_get s.store.variables n) v)
  assigned_does n (v ∷ w ∷ vs) s = tt

  -- an element that is one of its array
  element_breaks : (variables : List Held) (n i size : ℕ) (o : Option Held) (v : Value) → size_of o ≡ Some size → i < size →
      Breaks P (element_written variables n o (pos i) v)
  element_breaks variables n i size None v sized inside = tt
  element_breaks variables n i size (Some (held.Int z)) v sized inside = tt
  element_breaks variables n i size (Some (held.Bit b)) v sized inside = tt
  element_breaks variables n i size (Some (held.Ints zs)) (Bit x) sized inside = tt
  element_breaks variables n i size (Some (held.Bits bs)) (Int x) sized inside = tt
  element_breaks variables n i size (Some (held.Ints zs)) (Int x) sized inside = by (nat_lt i (length zs)) refl
    where
      by : (t : Bool) → nat_lt i (length zs) ≡ t → Breaks P (replaced variables n (passed t IndexOutOfRange (held.Ints (slice_set zs i x))))
      by true e = tt
      by false e =
          let same : size ≡ length zs = some_same (sym sized) in
          let past : length zs ≤ i = ltb-false i (length zs) e in absurd (omega (arith, same, past, inside))
  element_breaks variables n i size (Some (held.Bits bs)) (Bit x) sized inside = by (nat_lt i (length bs)) refl
    where
      by : (t : Bool) → nat_lt i (length bs) ≡ t → Breaks P (replaced variables n (passed t IndexOutOfRange (held.Bits (slice_set bs i x))))
      by true e = tt
      by false e =
          let same : size ≡ length bs = some_same (sym sized) in
          let past : length bs ≤ i = ltb-false i (length bs) e in absurd (omega (arith, same, past, inside))

  pub element_does : (n i size : ℕ) (v : Value) (s : State) → size_of (slice_get s.store.variables n) ≡ Some size → i < size →
      Does P (element_assigned n (Int (pos i) ∷ v ∷ []) s)
  element_does n i size v s sized inside =
      written_does s (element_written s.store.variables n (slice_get s.store.variables n) (pos i) v)
      (element_breaks s.store.variables n i size (slice_get s.store.variables n) v sized inside)

  pub integers_does : (n : ℕ) (zs : List ℤ) (vs : List Value) (s : State) → Does P (integers_set n zs vs s)
  integers_does n zs (v ∷ vs) s = tt
  integers_does n zs [] s = by (slice_get s.store.variables n)
    where
      by : (o : Option Held) → Does P (written s (replaced s.store.variables n (with_integers zs o)))
      by None = tt
      by (Some (held.Int z)) = tt
      by (Some (held.Bit b)) = tt
      by (Some (held.Ints old)) = tt
      by (Some (held.Bits bs)) = tt

  pub jumped_does : (vs : List Value) (s : State) → Does P (jumped vs s)
  jumped_does [] s = tt
  jumped_does (v ∷ vs) s = tt

  pub returned_does : (vs : List Value) (s : State) → Does P (returned vs s)
  returned_does (v ∷ vs) s = tt
  returned_does [] s = by s.records
    where
      by : (records : List Record) → EndsWell (returned_from records s)
      by [] = tt
      by (Called place ∷ records) = tt
      by (Pushed z ∷ records) = by records
      by (Looped l ∷ records) = by records

  pub exited_does : (vs : List Value) (s : State) → Does P (exited vs s)
  exited_does [] s = tt
  exited_does (Int z ∷ []) s = tt
  exited_does (Int z ∷ v ∷ vs) s = tt
  exited_does (Bit b ∷ vs) s = tt

  pub exported_does : (key : List ℕ) (vs : List Value) (s : State) → Does P (exported key vs s)
  exported_does key [] s = tt
  exported_does key (v ∷ []) s = tt
  exported_does key (v ∷ w ∷ vs) s = tt

  pub moved_does : (states : List Tap) (vs : List Value) (s : State) → Does P (moved_through states vs s)
  moved_does states [] s = tt
  moved_does states (v ∷ vs) s = tt

  pub stopped_does : (register : Register) (tap : Tap) (vs : List Value) (s : State) → Does P (stopped register tap vs s)
  stopped_does register tap (v ∷ vs) s = tt
  stopped_does register tap [] s = by (is_stable_state tap)
    where
      by : (t : Bool) → Does P (if t then Known (Falls [] (with_stop register tap s)) else Stuck)
      by true = tt
      by false = tt

  -- ---- printing: each character was tested

  character_breaks : (n : ℕ) → n ≤ 255 → Breaks P (character_of (Int (pos n)))
  character_breaks n few = by (nat_lt n 256) refl
    where
      by : (t : Bool) → nat_lt n 256 ≡ t → Breaks P (passed t BadChar (Int (pos n)))
      by true e = tt
      by false e = let many : 256 ≤ n = ltb-false n 256 e in absurd (omega (arith, many, few))

  integer_breaks : (v : Value) → Breaks P (integer_of v)
  integer_breaks (Int z) = tt
  integer_breaks (Bit b) = tt

  after_breaks : (v : Value) (g : Got (List ℕ)) → Breaks P g → Breaks P (after_value v g)
  after_breaks v g h = then_breaks P g (λ bytes. Known (shown v ++ bytes)) h (λ bytes e. tt)

  after_character_breaks : (n : ℕ) → n ≤ 255 → (g : Got (List ℕ)) → Breaks P g → Breaks P (after_character (Int (pos n)) g)
  after_character_breaks n few g h =
      let ends : ℤ → Got (List ℕ) = λ z. then_get g (λ bytes. Known (nat_abs z ∷ bytes)) in
      then_breaks P (character_of (Int (pos n))) (λ w. then_get (integer_of w) ends) (character_breaks n few)
      (λ w e. then_breaks P (integer_of w) ends (integer_breaks w) (λ z e. then_breaks P g (λ bytes. Known (nat_abs z ∷ bytes)) h (λ bytes e. tt)))

  joined_breaks : (look : Lookup) (variables : List Held) (parts : List PartTree) (vs : List Value) →
      PartsAre look variables (printed_parts look parts) vs → Breaks P (joined parts vs)
  joined_breaks look variables [] _ no_parts = tt
  joined_breaks look variables (string bytes ∷ parts) vs are =
      then_breaks P (joined parts vs) (λ rest. Known (bytes ++ rest)) (joined_breaks look variables parts vs are) (λ rest e. tt)
  joined_breaks look variables (value e ∷ parts) _ (more_parts (value_is v known) are) = after_breaks v (joined parts _) (joined_breaks look variables parts _ are)
  joined_breaks look variables (character e ∷ parts) _ (more_parts (character_is n known few) are) =
      after_character_breaks n few (joined parts _) (joined_breaks look variables parts _ are)

  pub printed_does : (look : Lookup) (variables : List Held) (parts : List PartTree) (vs : List Value) (s : State) →
      PartsAre look variables (printed_parts look parts) vs → Does P (printed (joined parts vs) s)
  printed_does look variables parts vs s are =
      then_does P (joined parts vs) (λ bytes. Known (Falls (Says (Print bytes) ∷ []) s)) (joined_breaks look variables parts vs are) (λ bytes e. tt)

  -- ---- bits of arrays

  pub export_bits_does : (look : Lookup) (key : List ℕ) (s : State) {a : ArrayTree} {vs : List Value} → ArrayIs look s.store.variables a vs →
      Does P (bits_exported key (source_of look a) vs s)
  export_bits_does look key s {a = a} {vs = vs} is =
      then_gives (IsSized look s.store.variables a) EndsWell P (source_bits s.store.variables (source_of look a) vs)
      (λ bits. Known (Falls (Says (Export key (exports.Array bits)) ∷ []) s)) (source_gives look s.store.variables P is) (λ bits e h. tt)

  span_does : (look : Lookup) (n : ℕ) (old : List Bool) (s : State) (span : Span) {a : ArrayTree} {vs : List Value} → ArrayIs look s.store.variables a vs →
      (IsTooShort look s.store.variables a span.count → P LengthMismatch) → Does P (span_written n old (source_of look a) vs s span)
  span_does look n old s span {a = a} {vs = vs} is p =
      then_gives (IsSized look s.store.variables a) EndsWell P (source_bits s.store.variables (source_of look a) vs)
      (λ bits. then_get (asked (source_of look a) span.count bits) (λ new. Known (Falls [] (with_variables s (slice_set s.store.variables n (held.Bits (span_put span new old)))))))
      (source_gives look s.store.variables P is)
      (λ bits e h. then_does P (asked (source_of look a) span.count bits)
      (λ new. Known (Falls [] (with_variables s (slice_set s.store.variables n (held.Bits (span_put span new old))))))
      (asked_breaks look s.store.variables P a span.count bits h p) (λ new e. tt))

  -- all of an array
  pub copied_does : (look : Lookup) (name : List ℕ) (s : State) {a : ArrayTree} {vs : List Value} → ArrayIs look s.store.variables a vs →
      ((n : ℕ) → HasBits look s.store.variables (whole name) n → IsTooShort look s.store.variables a n → P LengthMismatch) →
      Does P (copied (IntoWhole (look.variable name)) (source_of look a) vs s)
  copied_does look name s {a = a} {vs = vs} is p = by (held_by look s.store.variables name) refl
    where
      go : List Bool → Got Did
      go old = span_written (look.variable name) old (source_of look a) vs s (whole_span (length old))

      by : (o : Option Held) → held_by look s.store.variables name ≡ o → Does P (then_get (bits_held o) go)
      by None e = tt
      by (Some (held.Int z)) e = tt
      by (Some (held.Bit b)) e = tt
      by (Some (held.Ints zs)) e = tt
      by (Some (held.Bits old)) e =
          span_does look (look.variable name) old s (whole_span (length old)) is (p (length old) (whole_has (ap bit_count e)))

  -- a range of one, which was tested
  pub range_does : (look : Lookup) (name : List ℕ) (s : State) (i j size : ℕ) {a : ArrayTree} {vs : List Value} →
      bit_count (held_by look s.store.variables name) ≡ Some size → i < size → j < size → ArrayIs look s.store.variables a vs →
      (IsTooShort look s.store.variables a (part_of i j).count → P LengthMismatch) →
      Does P (copied (IntoRange of_programs (look.variable name)) (source_of look a) (Int (pos i) ∷ Int (pos j) ∷ vs) s)
  range_does look name s i j size {a = a} {vs = vs} sized first_in second_in is p = by (held_by look s.store.variables name) sized
    where
      go : List Bool → Got Did
      go old = then_get (span_of of_programs (length old) (Int (pos i)) (Int (pos j))) (span_written (look.variable name) old (source_of look a) vs s)

      by : (o : Option Held) → bit_count o ≡ Some size → Does P (then_get (bits_held o) go)
      by None e = tt
      by (Some (held.Int z)) e = tt
      by (Some (held.Bit b)) e = tt
      by (Some (held.Ints zs)) e = tt
      by (Some (held.Bits old)) e =
          let same : size ≡ length old = some_same (sym e) in
          subst (Does P) (sym (then_known (span_written (look.variable name) old (source_of look a) vs s)
          (part_known (length old) i j (subst (λ n. i < n) same first_in) (subst (λ n. j < n) same second_in))))
          (span_does look (look.variable name) old s (part_of i j) is p)

  -- ---- records

  room_does : (s : State) (g : Got Did) → Does P g → (16384 ≤ length s.records → P RecordsFull) → Does P (with_room s g)
  room_does s g h p = by (nat_lt (length s.records) 16384) refl
    where
      by : (t : Bool) → nat_lt (length s.records) 16384 ≡ t → Does P (if t then g else Faults RecordsFull)
      by true e = h
      by false e = p (ltb-false (length s.records) 16384 e)

  pub pushed_does : (v : Value) (s : State) → (16384 ≤ length s.records → P RecordsFull) → Does P (pushed (v ∷ []) s)
  pushed_does v s p = room_does s _ tt p

  pub called_does : (after : ℕ) (vs : List Value) (s : State) → (16384 ≤ length s.records → P RecordsFull) → Does P (called after vs s)
  called_does after [] s p = room_does s _ tt p
  called_does after (v ∷ vs) s p = tt

  loop_breaks : (l : Loop) (records : List Record) (z : ℤ) (s : State) → Breaks P (with_loop l records z s)
  loop_breaks l records z s =
      then_breaks P (scalar_written s.store.variables l.variable (slice_get s.store.variables l.variable) (Int z))
      (λ variables. Known (with_variables (with_records s (Looped l ∷ records)) variables))
      (scalar_breaks s.store.variables l.variable (slice_get s.store.variables l.variable) (Int z)) (λ list e. tt)

  pub looped_does : (n after : ℕ) (first limit step : Value) (s : State) →
      ((a b : ℤ) → first ≡ Int a → limit ≡ Int b → step ≡ Int (pos 0) → P ZeroStep) →
      ((a b z : ℤ) → first ≡ Int a → limit ≡ Int b → step ≡ Int z → z ≢ pos 0 → 16384 ≤ length s.records → P RecordsFull) →
      Does P (looped n after (first ∷ limit ∷ step ∷ []) s)
  looped_does n after (Bit a) limit step s zero_case full_case = tt
  looped_does n after (Int a) (Bit b) step s zero_case full_case = tt
  looped_does n after (Int a) (Int b) (Bit c) s zero_case full_case = tt
  looped_does n after (Int a) (Int b) (Int z) s zero_case full_case = by (int_eq z (pos 0)) refl
    where
      begins : Got Did
      begins = then_get (with_loop (record { variable = n; limit = b; step = z; place = after }) s.records a s) (λ t. Known (Falls [] t))

      by : (t : Bool) → int_eq z (pos 0) ≡ t → Does P (if t then Faults ZeroStep else with_room s begins)
      by true e = zero_case a b refl refl (ap Int ((Decides-int_eq z (pos 0)).0 e))
      by false e =
          room_does s begins
          (then_does P (with_loop (record { variable = n; limit = b; step = z; place = after }) s.records a s) (λ t. Known (Falls [] t))
          (loop_breaks (record { variable = n; limit = b; step = z; place = after }) s.records a s) (λ t e. tt))
          (full_case a b z refl refl refl (λ is. let also : int_eq z (pos 0) ≡ true = (Decides-int_eq z (pos 0)).1 is in absurd cc))

  nearest_breaks : (n : ℕ) (records : List Record) → (HasNoLoop n records → P NoRecord) → Breaks P (nearest_loop n records)
  nearest_breaks n [] p = p nothing_left
  nearest_breaks n (Pushed z ∷ records) p = p value_above
  nearest_breaks n (Called place ∷ records) p = p call_above
  nearest_breaks n (Looped l ∷ records) p =
      by (l.variable == n) refl (λ other. nearest_breaks n records (λ none. p (other_loop other none)))
    where
      by : (t : Bool) → (l.variable == n) ≡ t → (l.variable ≢ n → Breaks P (nearest_loop n records)) →
          Breaks P (if t then Known (l, records) else nearest_loop n records)
      by true e others = tt
      by false e others = others (eqb-false l.variable n e)

  held_breaks : (o : Option Held) → Breaks P (integer_held o)
  held_breaks None = tt
  held_breaks (Some (held.Int z)) = tt
  held_breaks (Some (held.Bit b)) = tt
  held_breaks (Some (held.Ints zs)) = tt
  held_breaks (Some (held.Bits bs)) = tt

  round_does : (l : Loop) (records : List Record) (z : ℤ) (s : State) → Does P (went_round l records z s)
  round_does l records z s = by (is_over l z)
    where
      by : (t : Bool) → Does P (if t then Known (Falls [] (with_records s records))
          else then_get (with_loop l records (int_wrap w32 (z +ℤ l.step)) s) (λ t. Known (Resumes l.place t)))
      by true = tt
      by false =
          then_does P (with_loop l records (int_wrap w32 (z +ℤ l.step)) s) (λ t. Known (Resumes l.place t))
          (loop_breaks l records (int_wrap w32 (z +ℤ l.step)) s) (λ t e. tt)

  pub repeated_does : (n : ℕ) (vs : List Value) (s : State) → (HasNoLoop n s.records → P NoRecord) → Does P (repeated n vs s)
  repeated_does n (v ∷ vs) s p = tt
  repeated_does n [] s p =
      then_does P (nearest_loop n s.records) (λ top. then_get (integer_held (slice_get s.store.variables n)) (λ z. went_round top.0 top.1 z s))
      (nearest_breaks n s.records p)
      (λ top e. then_does P (integer_held (slice_get s.store.variables n)) (λ z. went_round top.0 top.1 z s)
      (held_breaks (slice_get s.store.variables n)) (λ z e. round_does top.0 top.1 z s))

  topmost_breaks : (kind : ValueKind) (records : List Record) → (HasNoValue records → P NoRecord) → Breaks P (topmost kind records)
  topmost_breaks kind [] p = p nothing_there
  topmost_breaks kind (Pushed z ∷ records) p = tt
  topmost_breaks kind (Called place ∷ records) p = p call_on_top
  topmost_breaks kind (Looped l ∷ records) p = p loop_on_top

  pub popped_does : (kind : ValueKind) (assigns : List Value → State → Got Did) (vs : List Value) (s : State) →
      (HasNoValue s.records → P NoRecord) → ((v : Value) (records : List Record) → Does P (assigns (vs ++ v ∷ []) (with_records s records))) →
      Does P (popped kind assigns vs s)
  popped_does kind assigns vs s p q =
      then_does P (topmost kind s.records) (λ top. assigns (vs ++ top.0 ∷ []) (with_records s top.1)) (topmost_breaks kind s.records p)
      (λ top e. q top.0 top.1)

  -- ---- counts

  pub cycles_break : (z : ℤ) → (IsOutside (pos 0) (pos 16777216) z → P BadCount) → Breaks P (cycles_of z)
  cycles_break z p = by (is_index z 16777217) refl
    where
      by : (t : Bool) → is_index z 16777217 ≡ t → Breaks P (passed t BadCount (nat_abs z))
      by true e = tt
      by false e = p (outside 16777216 z e)

  -- the same, with the number of clocks
  pub cycles_give : (z : ℤ) → (IsOutside (pos 0) (pos 16777216) z → P BadCount) →
      Gives (λ c. (x : ℕ) × (z ≡ pos x) × (x ≤ 16777216)) P (cycles_of z)
  cycles_give (negsuc n) p = p (outside 16777216 (negsuc n) refl)
  cycles_give (pos n) p = by (nat_lt n 16777217) refl
    where
      by : (t : Bool) → nat_lt n 16777217 ≡ t → Gives (λ c. (x : ℕ) × (pos n ≡ pos x) × (x ≤ 16777216)) P (passed t BadCount n)
      by true e = let few : n < 16777217 = ltb-true n 16777217 e in (n, refl, omega (arith, few))
      by false e = p (outside 16777216 (pos n) e)

  pub usec_breaks : (z : ℤ) → (z <ℤ pos 0 → P BadCount) → Breaks P (usec_of z)
  usec_breaks (pos n) p = by (nat_le 0 n) refl
    where
      by : (t : Bool) → nat_le 0 n ≡ t → Breaks P (passed t BadCount n)
      by true e = tt
      by false e = let small : n < 0 = leb-false 0 n e in absurd (omega (arith, small))
  usec_breaks (negsuc n) p = p (lt_z_yes tt)

  pub hertz_breaks : (z : ℤ) → (z <ℤ pos 1 → P BadCount) → Breaks P (hertz_of z)
  hertz_breaks (negsuc n) p = p (lt_z_yes tt)
  hertz_breaks (pos n) p = by (nat_lt 0 n) refl
    where
      by : (t : Bool) → nat_lt 0 n ≡ t → Breaks P (passed t BadCount n)
      by true e = tt
      by false e = let small : n ≤ 0 = ltb-false 0 n e in p (lt_z_yes (yes_ltb (omega (arith, small))))
