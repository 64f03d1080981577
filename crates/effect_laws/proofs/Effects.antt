-- What survives a change of a variable, of the records or of how scans go survives each effect that makes such changes
use Rattle.std.proofs.Common.{◌≡◌, ℕ, ℤ, pos, Bool, true, false, List, [], ◌∷◌, ◌++◌, length, Option, Some, None, refl, sym, subst, if◌then◌else◌, ◌==◌, slice_get}
use Rattle.std.specs.Prelude.{slice_set, take, drop, nat_lt, nat_le, ◌+ℤ◌}
use Rattle.std.specs.Int.{int_wrap, w32}
use Rattle.std.specs.Ordering.{int_eq}
use Rattle.std.proofs.lemmas.Bool.{eqb-true}
use Rattle.stapl_lexer.specs.declared.terminal.Padding.{Padding}
use Rattle.stapl_lexer.specs.declared.terminal.Register.{Register}
use Rattle.tap_states.specs.declared.Tap.{Tap}
use Rattle.tap_states.specs.Tap.{is_stable_state}
use Rattle.stapl_meaning.specs.declared.events.RunFault.TheVariants.{ZeroStep, LengthMismatch}
use Rattle.stapl_meaning.specs.declared.records.Loop.{Loop}
use Rattle.stapl_meaning.specs.declared.records.Record.{Record}
use Rattle.stapl_meaning.specs.declared.records.Record.TheVariants.{Pushed, Called, Looped}
use Rattle.stapl_meaning.specs.declared.values.ValueKind.{ValueKind}
use Rattle.stapl_meaning.specs.declared.values.Value.{Value}
use Rattle.stapl_meaning.specs.declared.values.Value.TheVariants.{Int, Bit}
use Rattle.stapl_meaning.specs.declared.values.Held.{Held}
use Rattle.stapl_meaning.specs.declared.values.Held.TheVariants as held
use Rattle.stapl_meaning.specs.declared.waits.WaitKind.{WaitKind}
use Rattle.stapl_meaning.specs.Values.{Got, Known, Faults, Stuck, then_get, passed, bits_held, index_held, Span, span_of, span_put, whole_span, Source, source_bits, asked}
use Rattle.stapl_meaning.specs.States.{State, Did, Falls}
use Rattle.stapl_meaning.specs.Effects.{replaced, with_scalar, scalar_written, with_variables, written, assigned, with_element, element_written, element_assigned, Target, IntoWhole, IntoRange, span_written, copied, with_integers, integers_set, jumped, parted, with_records, with_room, record_limit, topmost, popped, pushed, called, returned_from, returned, with_loop, looped, nearest_loop, is_over, integer_held, went_round, repeated, exited, printed, exported, bits_exported, moved_through, waited_for, waited, tuned, hertz_of}
use Rattle.stapl_meaning.specs.Scans.{with_padding, with_stop, stopped, padding_bits, surrounded, Place, Cell, InScalar, InElement, CellPart, ScalarCell, ElementCell, Comparison, CompareParts, ScanParts, Found, target_found, cell_found, comparison_found, compare_found, scan_found, caught, agree, known_or, cell_written, judged, landed, target_asked, compare_asked, scan_asked, scanned, length_between, scan_limit, source_width, target_width}
use Rattle.effect_laws.proofs.Rows.{InDid, Has, then_has, any_has}

module _ (Q : State → Type 0) where
  -- it survives a change of the variable of number n, any change of the records, or of the procedures still to run
  abbrev pub Writes : ℕ → Type 0
  Writes n = (h : Held) (t : State) → Q t → Q (with_variables t (slice_set t.store.variables n h))

  abbrev pub Stacks : Type 0
  Stacks = (records : List Record) (t : State) → Q t → Q (with_records t records)

  abbrev pub Chooses : Type 0
  Chooses = (chosen : List ℕ) (t : State) → Q t → Q (record t { chosen = chosen })

  -- ---- variables

  -- what is got for the variables of a state
  abbrev Lists : State → Got (List Held) → Type 0
  Lists t g = Has (λ list. Q (with_variables t list)) g

  in_replaced : (n : ℕ) (t : State) (g : Got Held) → Writes n → Q t → Lists t (replaced t.store.variables n g)
  in_replaced n t g w q = any_has (λ list. Q (with_variables t list)) g (λ h. Known (slice_set t.store.variables n h)) (λ h. w h t q)

  in_scalar : (n : ℕ) (t : State) (o : Option Held) (v : Value) → Writes n → Q t → Lists t (scalar_written t.store.variables n o v)
  in_scalar n t None v w q = tt
  in_scalar n t (Some h) v w q = in_replaced n t (with_scalar h v) w q

  in_element : (n : ℕ) (t : State) (o : Option Held) (i : ℤ) (v : Value) → Writes n → Q t → Lists t (element_written t.store.variables n o i v)
  in_element n t None i v w q = tt
  in_element n t (Some h) i v w q = in_replaced n t (with_element h i v) w q

  in_written : (t : State) (g : Got (List Held)) → Lists t g → Has (InDid Q) (written t g)
  in_written t g h = then_has (λ list. Q (with_variables t list)) (InDid Q) g (λ list. Known (Falls [] (with_variables t list))) h (λ list q. q)

  pub in_assigned : (n : ℕ) (vs : List Value) (t : State) → Writes n → Q t → Has (InDid Q) (assigned n vs t)
  in_assigned n [] t w q = tt
  in_assigned n (v ∷ []) t w q =
      in_written t (scalar_written t.store.variables n (slice_get t.store.variables n) v) (in_scalar n t (slice_get t.store.variables n) v w q)
  in_assigned n (v ∷ u ∷ vs) t w q = tt

  pub in_element_assigned : (n : ℕ) (vs : List Value) (t : State) → Writes n → Q t → Has (InDid Q) (element_assigned n vs t)
  in_element_assigned n (Int i ∷ v ∷ []) t w q =
      in_written t (element_written t.store.variables n (slice_get t.store.variables n) i v) (in_element n t (slice_get t.store.variables n) i v w q)
  in_element_assigned n _ t w q = tt

  in_span : (n : ℕ) (old : List Bool) (source : Source) (vs : List Value) (t : State) (span : Span) → Writes n → Q t →
      Has (InDid Q) (span_written n old source vs t span)
  in_span n old source vs t span w q =
      any_has (InDid Q) (source_bits t.store.variables source vs) _ (λ bits.
      any_has (InDid Q) (asked source span.count bits) _ (λ new. w (held.Bits (span_put span new old)) t q))

  -- where bits go
  abbrev pub TargetWrites : Target → Type 0
  TargetWrites (IntoWhole n) = Writes n
  TargetWrites (IntoRange profile n) = Writes n

  pub in_copied : (target : Target) (source : Source) (vs : List Value) (t : State) → TargetWrites target → Q t → Has (InDid Q) (copied target source vs t)
  in_copied (IntoWhole n) source vs t w q =
      any_has (InDid Q) (bits_held (slice_get t.store.variables n)) _ (λ old. in_span n old source vs t (whole_span (length old)) w q)
  in_copied (IntoRange profile n) source (first ∷ second ∷ vs) t w q =
      any_has (InDid Q) (bits_held (slice_get t.store.variables n)) _ (λ old.
      any_has (InDid Q) (span_of profile (length old) first second) _ (λ span. in_span n old source vs t span w q))
  in_copied (IntoRange profile n) source [] t w q = tt
  in_copied (IntoRange profile n) source (first ∷ []) t w q = tt

  pub in_integers : (n : ℕ) (zs : List ℤ) (vs : List Value) (t : State) → Writes n → Q t → Has (InDid Q) (integers_set n zs vs t)
  in_integers n zs [] t w q =
      in_written t (replaced t.store.variables n (with_integers zs (slice_get t.store.variables n)))
      (in_replaced n t (with_integers zs (slice_get t.store.variables n)) w q)
  in_integers n zs (v ∷ vs) t w q = tt

  -- ---- ways, and what is said

  pub in_jumped : (vs : List Value) (t : State) → Q t → Has (InDid Q) (jumped vs t)
  in_jumped [] t q = q
  in_jumped (v ∷ vs) t q = tt

  pub in_parted : (vs : List Value) (t : State) → Q t → Has (InDid Q) (parted vs t)
  in_parted (Bit true ∷ []) t q = q
  in_parted (Bit false ∷ []) t q = q
  in_parted _ t q = tt

  pub in_exited : (vs : List Value) (t : State) → Q t → Has (InDid Q) (exited vs t)
  in_exited (Int code ∷ []) t q = q
  in_exited _ t q = tt

  pub in_printed : (text : Got (List ℕ)) (t : State) → Q t → Has (InDid Q) (printed text t)
  in_printed text t q = any_has (InDid Q) text _ (λ bytes. q)

  pub in_exported : (key : List ℕ) (vs : List Value) (t : State) → Q t → Has (InDid Q) (exported key vs t)
  in_exported key [] t q = tt
  in_exported key (v ∷ []) t q = q
  in_exported key (v ∷ u ∷ vs) t q = tt

  pub in_bits_exported : (key : List ℕ) (source : Source) (vs : List Value) (t : State) → Q t → Has (InDid Q) (bits_exported key source vs t)
  in_bits_exported key source vs t q = any_has (InDid Q) (source_bits t.store.variables source vs) _ (λ bits. q)

  pub in_moved : (states : List Tap) (vs : List Value) (t : State) → Q t → Has (InDid Q) (moved_through states vs t)
  in_moved states [] t q = q
  in_moved states (v ∷ vs) t q = tt

  in_test : (c : Bool) (g h : Got Did) → Has (InDid Q) g → Has (InDid Q) h → Has (InDid Q) (if c then g else h)
  in_test true g h p q = p
  in_test false g h p q = q

  pub in_waited : (kind : WaitKind) (at last : Tap) (vs : List Value) (t : State) → Q t → Has (InDid Q) (waited kind at last vs t)
  in_waited kind at last vs t q =
      in_test (is_stable_state at) (then_get (waited_for kind at last vs) (λ deeds. Known (Falls deeds t))) Stuck
      (any_has (InDid Q) (waited_for kind at last vs) _ (λ deeds. q)) tt

  pub in_tuned : (vs : List Value) (t : State) → Q t → Has (InDid Q) (tuned vs t)
  in_tuned [] t q = q
  in_tuned (Int n ∷ []) t q = any_has (InDid Q) (hertz_of n) _ (λ h. q)
  in_tuned _ t q = tt

  -- ---- records

  in_room : (s : State) (g : Got Did) → Has (InDid Q) g → Has (InDid Q) (with_room s g)
  in_room s g h = in_test (nat_lt (length s.records) record_limit) g _ h tt

  pub in_pushed : (vs : List Value) (t : State) → Stacks → Q t → Has (InDid Q) (pushed vs t)
  in_pushed [] t k q = tt
  in_pushed (v ∷ []) t k q = in_room t _ (k _ t q)
  in_pushed (v ∷ u ∷ vs) t k q = tt

  pub in_popped : (kind : ValueKind) (assigns : List Value → State → Got Did) (vs : List Value) (t : State) → Stacks →
      ((us : List Value) (u : State) → Q u → Has (InDid Q) (assigns us u)) → Q t → Has (InDid Q) (popped kind assigns vs t)
  in_popped kind assigns vs t k in_assigns q =
      any_has (InDid Q) (topmost kind t.records) _ (λ top. in_assigns (vs ++ top.0 ∷ []) (with_records t top.1) (k top.1 t q))

  pub in_called : (after : ℕ) (vs : List Value) (t : State) → Stacks → Q t → Has (InDid Q) (called after vs t)
  in_called after [] t k q = in_room t _ (k _ t q)
  in_called after (v ∷ vs) t k q = tt

  in_returned_from : (records : List Record) (t : State) → Stacks → Chooses → Q t → InDid Q (returned_from records t)
  in_returned_from [] t k c q = λ chosen. c chosen (with_records t []) (k [] t q)
  in_returned_from (Called place ∷ records) t k c q = k records t q
  in_returned_from (Pushed z ∷ records) t k c q = in_returned_from records t k c q
  in_returned_from (Looped l ∷ records) t k c q = in_returned_from records t k c q

  pub in_returned : (vs : List Value) (t : State) → Stacks → Chooses → Q t → Has (InDid Q) (returned vs t)
  in_returned [] t k c q = in_returned_from t.records t k c q
  in_returned (v ∷ vs) t k c q = tt

  in_loop : (l : Loop) (records : List Record) (z : ℤ) (t : State) → Stacks → Writes l.variable → Q t → Has Q (with_loop l records z t)
  in_loop l records z t k w q =
      let u : State = with_records t (Looped l ∷ records) in
      then_has (λ list. Q (with_variables u list)) Q (scalar_written t.store.variables l.variable (slice_get t.store.variables l.variable) (Int z)) _
      (in_scalar l.variable u (slice_get t.store.variables l.variable) (Int z) w (k (Looped l ∷ records) t q)) (λ list r. r)

  pub in_looped : (n after : ℕ) (vs : List Value) (t : State) → Stacks → Writes n → Q t → Has (InDid Q) (looped n after vs t)
  in_looped n after (Int first ∷ Int limit ∷ Int step ∷ []) t k w q =
      let l : Loop = record { variable = n; limit = limit; step = step; place = after } in
      in_test (int_eq step (pos 0)) (Faults ZeroStep) _ tt
      (in_room t _ (then_has Q (InDid Q) (with_loop l t.records first t) _ (in_loop l t.records first t k w q) (λ u r. r)))
  in_looped n after _ t k w q = tt

  abbrev IsOf : ℕ → (Loop × List Record) → Type 0
  IsOf n top = top.0.variable ≡ n

  pub of_nearest : (n : ℕ) (records : List Record) → Has (IsOf n) (nearest_loop n records)
  of_nearest n [] = tt
  of_nearest n (Pushed z ∷ records) = tt
  of_nearest n (Called place ∷ records) = tt
  of_nearest n (Looped l ∷ records) = by (of_nearest n records) (l.variable == n) refl
    where
      by : Has (IsOf n) (nearest_loop n records) → (c : Bool) → (l.variable == n) ≡ c → Has (IsOf n) (if c then Known (l, records) else nearest_loop n records)
      by below true e = eqb-true l.variable n e
      by below false e = below

  in_round : (l : Loop) (records : List Record) (z : ℤ) (t : State) → Stacks → Writes l.variable → Q t → Has (InDid Q) (went_round l records z t)
  in_round l records z t k w q =
      in_test (is_over l z) (Known (Falls [] (with_records t records))) _ (k records t q)
      (then_has Q (InDid Q) (with_loop l records (int_wrap w32 (z +ℤ l.step)) t) _ (in_loop l records (int_wrap w32 (z +ℤ l.step)) t k w q) (λ u r. r))

  pub in_repeated : (n : ℕ) (vs : List Value) (t : State) → Stacks → Writes n → Q t → Has (InDid Q) (repeated n vs t)
  in_repeated n [] t k w q =
      then_has (IsOf n) (InDid Q) (nearest_loop n t.records) _ (of_nearest n t.records)
      (λ top is. any_has (InDid Q) (integer_held (slice_get t.store.variables n)) _
      (λ z. in_round top.0 top.1 z t k (subst Writes (sym is) w) q))
  in_repeated n (v ∷ vs) t k w q = tt

  -- ---- how scans go

  abbrev pub Sets : Type 0
  Sets = ((which : Padding) (bits : List Bool) (t : State) → Q t → Q (with_padding which bits t)) ×
      ((register : Register) (tap : Tap) (t : State) → Q t → Q (with_stop register tap t))

  pub in_surrounded : (which : Padding) (source : Option Source) (vs : List Value) (t : State) → Sets → Q t → Has (InDid Q) (surrounded which source vs t)
  in_surrounded which source (Int z ∷ vs) t sets q = any_has (InDid Q) (padding_bits t.store.variables source vs z) _ (λ bits. sets.0 which bits t q)
  in_surrounded which source [] t sets q = tt
  in_surrounded which source (Bit b ∷ vs) t sets q = tt

  pub in_stopped : (register : Register) (tap : Tap) (vs : List Value) (t : State) → Sets → Q t → Has (InDid Q) (stopped register tap vs t)
  in_stopped register tap [] t sets q = in_test (is_stable_state tap) _ Stuck (sets.1 register tap t q) tt
  in_stopped register tap (v ∷ vs) t sets q = tt

  -- ---- scans

  abbrev pub GivenWrites : Option Target → Type 0
  GivenWrites None = Unit {0}
  GivenWrites (Some target) = TargetWrites target

  abbrev PlaceWrites : Option Place → Type 0
  PlaceWrites None = Unit {0}
  PlaceWrites (Some place) = Writes place.array

  abbrev PartWrites : CellPart → Type 0
  PartWrites (ScalarCell n) = Writes n
  PartWrites (ElementCell n) = Writes n

  abbrev CellWrites : Cell → Type 0
  CellWrites (InScalar n) = Writes n
  CellWrites (InElement n i) = Writes n

  abbrev pub CompareWrites : Option CompareParts → Type 0
  CompareWrites None = Unit {0}
  CompareWrites (Some parts) = PartWrites parts.cell

  abbrev OneWrites : Comparison → Type 0
  OneWrites c = CellWrites c.cell

  abbrev ComparisonWrites : Option Comparison → Type 0
  ComparisonWrites None = Unit {0}
  ComparisonWrites (Some c) = CellWrites c.cell

  of_target : (variables : List Held) (target : Option Target) (vs : List Value) → GivenWrites target → Has PlaceWrites (target_found variables target vs)
  of_target variables None [] w = tt
  of_target variables None (v ∷ vs) w = tt
  of_target variables (Some (IntoWhole n)) [] w = any_has PlaceWrites (bits_held (slice_get variables n)) _ (λ old. w)
  of_target variables (Some (IntoWhole n)) (v ∷ vs) w = tt
  of_target variables (Some (IntoRange profile n)) (first ∷ second ∷ []) w =
      any_has PlaceWrites (bits_held (slice_get variables n)) _ (λ old. any_has PlaceWrites (span_of profile (length old) first second) _ (λ span. w))
  of_target variables (Some (IntoRange profile n)) _ w = tt

  of_cell : (variables : List Held) (part : CellPart) (vs : List Value) → PartWrites part → Has CellWrites (cell_found variables part vs)
  of_cell variables (ScalarCell n) [] w = w
  of_cell variables (ScalarCell n) (v ∷ vs) w = tt
  of_cell variables (ElementCell n) (Int i ∷ []) w = any_has CellWrites (index_held (slice_get variables n) (Int i)) _ (λ index. w)
  of_cell variables (ElementCell n) _ w = tt

  of_compare : (variables : List Held) (compare : Option CompareParts) (vs : List Value) → CompareWrites compare →
      Has ComparisonWrites (compare_found variables compare vs)
  of_compare variables None [] w = tt
  of_compare variables None (v ∷ vs) w = tt
  of_compare variables (Some parts) vs w =
      let rest : List Value = drop (source_width parts.expected) vs in
      let last : List Value = drop (source_width parts.mask) rest in
      then_has OneWrites ComparisonWrites (comparison_found variables parts vs) _
      (any_has OneWrites (source_bits variables parts.expected (take (source_width parts.expected) vs)) _ (λ expected.
      any_has OneWrites (source_bits variables parts.mask (take (source_width parts.mask) rest)) _ (λ mask.
      then_has CellWrites OneWrites (cell_found variables parts.cell last) _ (of_cell variables parts.cell last w) (λ cell h. h))))
      (λ c h. h)

  in_caught : (o : Option Place) (bits : List Bool) (t : State) → PlaceWrites o → Q t → Q (with_variables t (caught o bits t.store.variables))
  in_caught None bits t w q = q
  in_caught (Some place) bits t w q = w _ t q

  in_known : (t : State) (g : Got (List Held)) → Q t → Lists t g → Q (with_variables t (known_or t.store.variables g))
  in_known t (Known list) q h = h
  in_known t (Faults k) q h = q
  in_known t Stuck q h = q

  in_cell : (cell : Cell) (b : Bool) (t : State) → CellWrites cell → Q t → Lists t (cell_written cell b t.store.variables)
  in_cell (InScalar n) b t w q = in_scalar n t (slice_get t.store.variables n) (Bit b) w q
  in_cell (InElement n i) b t w q = in_element n t (slice_get t.store.variables n) i (Bit b) w q

  in_judged : (o : Option Comparison) (bits : List Bool) (t : State) → ComparisonWrites o → Q t → Q (with_variables t (judged o bits t.store.variables))
  in_judged None bits t w q = q
  in_judged (Some c) bits t w q =
      let b : Bool = agree c.mask c.expected bits in in_known t (cell_written c.cell b t.store.variables) q (in_cell c.cell b t w q)

  in_landed : (o : Option Place) (c : Option Comparison) (bits : List Bool) (t : State) → PlaceWrites o → ComparisonWrites c → Q t → Q (landed o c bits t)
  in_landed o c bits t w v q = in_judged c bits (with_variables t (caught o bits t.store.variables)) v (in_caught o bits t w q)

  of_target_asked : (n : ℕ) (o : Option Place) → PlaceWrites o → Has PlaceWrites (target_asked n o)
  of_target_asked n None w = tt
  of_target_asked n (Some place) w = by (nat_le n place.span.count)
    where
      by : (c : Bool) → Has PlaceWrites (passed c LengthMismatch (Some place))
      by true = w
      by false = tt

  of_compare_asked : (n : ℕ) (parts : Option CompareParts) (o : Option Comparison) → ComparisonWrites o → Has ComparisonWrites (compare_asked n parts o)
  of_compare_asked n (Some parts) (Some c) w = any_has ComparisonWrites (asked parts.expected n c.expected) _ (λ expected. any_has ComparisonWrites (asked parts.mask n c.mask) _ (λ mask. w))
  of_compare_asked n None o w = tt
  of_compare_asked n (Some parts) None w = tt

  record FoundWrites (found : Found) : Type 0 where
    target : PlaceWrites found.target
    compare : ComparisonWrites found.compare

  in_asked : (parts : ScanParts) (found : Found) (t : State) (n : ℕ) → FoundWrites found → Q t → Has (InDid Q) (scan_asked parts found t n)
  in_asked parts found t n w q =
      any_has (InDid Q) (asked parts.source n found.data_bits) _ (λ bits.
      then_has PlaceWrites (InDid Q) (target_asked n found.target) _ (of_target_asked n found.target w.target) (λ target h.
      then_has ComparisonWrites (InDid Q) (compare_asked n parts.compare found.compare) _ (of_compare_asked n parts.compare found.compare w.compare)
      (λ compare i. λ captured. in_landed target compare captured t h i q)))

  of_found : (variables : List Held) (parts : ScanParts) (vs : List Value) → GivenWrites parts.target → CompareWrites parts.compare →
      Has FoundWrites (scan_found variables parts vs)
  of_found variables parts vs w v =
      let after : List Value = drop (source_width parts.source) vs in
      let first : List Value = take (target_width parts.target) after in
      let last : List Value = drop (target_width parts.target) after in
      any_has FoundWrites (source_bits variables parts.source (take (source_width parts.source) vs)) _ (λ bits.
      then_has PlaceWrites FoundWrites (target_found variables parts.target first) _ (of_target variables parts.target first w) (λ target h.
      then_has ComparisonWrites FoundWrites (compare_found variables parts.compare last) _ (of_compare variables parts.compare last v)
      (λ compare i. record { target = h; compare = i })))

  pub in_scanned : (parts : ScanParts) (vs : List Value) (t : State) → GivenWrites parts.target → CompareWrites parts.compare → Q t →
      Has (InDid Q) (scanned parts vs t)
  in_scanned parts (Int z ∷ vs) t w v q =
      then_has FoundWrites (InDid Q) (scan_found t.store.variables parts vs) _ (of_found t.store.variables parts vs w v)
      (λ found h. any_has (InDid Q) (length_between 1 scan_limit z) _ (λ n. in_asked parts found t n h q))
  in_scanned parts [] t w v q = tt
  in_scanned parts (Bit b ∷ vs) t w v q = tt
