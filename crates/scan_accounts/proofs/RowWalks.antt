-- One walk over the rows of statements. It shows what holds of their deeds and of their scans, and what is kept of the
-- settings of scans.
use Rattle.std.proofs.Common.{◌≡◌, ◌≤◌, ℕ, Bool, true, false, not, ◌&&◌, ◌||◌, List, [], ◌∷◌, ◌++◌, length, map, take, replicate, Option, Some, None, refl, ap, ◌∙◌, eqb-true, if◌then◌else◌, slice_get, arith}
use Rattle.std.specs.Prelude.{ℤ, pos, negsuc, nat_eq, nat_lt, nat_le, ◌+ℤ◌}
use Rattle.std.specs.List.{list_any}
use Rattle.std.specs.Option.{option_to_list}
use Rattle.std.specs.Int.{int_wrap, w32}
use Rattle.std.specs.Ordering.{int_eq}
use Rattle.std.proofs.lemmas.Bool.{leb-true}
use Rattle.std.proofs.lemmas.List.{length-take, length-replicate}
use Rattle.stapl_syntax.specs.Rules.{is_stable, last_of, stops_unstable}
use Rattle.stapl_syntax.specs.Trees.{BodyTree, end_procedure, boolean, boolean_array, integer, integer_array, assign, assign_element, assign_array, assign_range, scalar, element, call, goto, if_then, for_loop, next, push, pop, print, exported_value, exported_array, export, exit, state_list, wait_cycles, wait_usec, frequency, scan, stop, pad}
use Rattle.stapl_lexer.specs.declared.terminal.Padding.{Padding}
use Rattle.stapl_lexer.specs.declared.terminal.Padding.TheVariants as paddings
use Rattle.stapl_lexer.specs.declared.terminal.Register.{Register}
use Rattle.stapl_lexer.specs.declared.terminal.Register.TheVariants as registers
use Rattle.tap_states.specs.declared.Tap.{Tap}
use Rattle.tap_states.specs.Tap.{is_stable_state}
use Rattle.tap_states.proofs.Shortest.{both_second}
use Rattle.dev_card.specs.Scans.{BoardScan}
use Rattle.stapl_meaning.specs.declared.events.Event.{Event}
use Rattle.stapl_meaning.specs.declared.records.Loop.{Loop}
use Rattle.stapl_meaning.specs.declared.records.Record.{Record}
use Rattle.stapl_meaning.specs.declared.records.Record.TheVariants.{Pushed, Called, Looped}
use Rattle.stapl_meaning.specs.declared.values.ValueKind.{ValueKind}
use Rattle.stapl_meaning.specs.declared.values.Value.{Value}
use Rattle.stapl_meaning.specs.declared.values.Value.TheVariants.{Int, Bit}
use Rattle.stapl_meaning.specs.declared.values.Held.{Held}
use Rattle.stapl_meaning.specs.declared.waits.WaitKind.{WaitKind}
use Rattle.stapl_meaning.specs.declared.waits.WaitKind.TheVariants as waits
use Rattle.stapl_meaning.specs.declared.events.RunFault.{RunFault}
use Rattle.stapl_meaning.specs.declared.events.RunFault.TheVariants.{ZeroStep, LengthMismatch, BadLength}
use Rattle.stapl_meaning.specs.Deeds.{Deed, Says, Goes, Stays}
use Rattle.stapl_meaning.specs.SaidEvents.{is_no_clock}
use Rattle.stapl_meaning.specs.Values.{Got, Known, Faults, Stuck, then_get, passed, bits_held, Span, span_of, whole_span, Source, These, Whole, Range, OfInt, source_bits, source_of, of_programs, asked}
use Rattle.stapl_meaning.specs.Operands.{given_kind}
use Rattle.stapl_meaning.specs.States.{ScanSettings, State, Did, Falls, Captures, Jumps, Resumes, Returns, Ends}
use Rattle.stapl_meaning.specs.Effects.{scalar_written, element_written, written, assigned, element_assigned, Target, IntoWhole, IntoRange, span_written, copied, with_integers, replaced, integers_set, jumped, parted, record_limit, with_records, with_room, topmost, pushed, popped, called, returned_from, returned, with_loop, looped, nearest_loop, is_over, integer_held, went_round, repeated, exited, joined, printed, exported, bits_exported, moved_through, cycles_of, usec_of, hertz_of, waited_for, waited, tuned}
use Rattle.stapl_meaning.specs.Scans.{settings_of, with_padding, with_stop, scan_of, Found, scan_found, length_between, scan_limit, padding_limit, target_asked, compare_asked, ScanParts, scan_asked, scanned, padding_bits, surrounded, stopped}
use Rattle.stapl_meaning.specs.ScanTrees.{given_source, scan_parts}
use Rattle.stapl_meaning.specs.Scopes.{Scope}
use Rattle.stapl_meaning.specs.Turns.{tap_of, tap_or_idle, kind_of_wait, rows, effect}
use Rattle.scan_accounts.specs.MadeTurns.{does_scan}

-- ---- stable states, by their numbers

-- the state of a stable number
stable_tap : (n : ℕ) → is_stable n ≡ true → is_stable_state (tap_of n) ≡ true
stable_tap n h = by (nat_eq n 0) (nat_eq n 1) (nat_eq n 6) (nat_eq n 13) refl refl refl refl h
  where
    at : (m : ℕ) → is_stable_state (tap_of m) ≡ true → nat_eq n m ≡ true → is_stable_state (tap_of n) ≡ true
    at m good e = ap (λ k. is_stable_state (tap_of k)) (eqb-true n m e) ∙ good

    by : (a b c d : Bool) → nat_eq n 0 ≡ a → nat_eq n 1 ≡ b → nat_eq n 6 ≡ c → nat_eq n 13 ≡ d →
        (a || b || c || d) ≡ true → is_stable_state (tap_of n) ≡ true
    by true b c d e f g i h = at 0 refl e
    by false true c d e f g i h = at 1 refl f
    by false false true d e f g i h = at 6 refl g
    by false false false true e f g i h = at 13 refl i
    by false false false false e f g i h = absurd cc

-- none of these numbers is that of a state that is not stable
abbrev pub AreStable : List ℕ → Type 0
AreStable numbers = list_any (λ n. not (is_stable n)) numbers ≡ false

first_stable : (n : ℕ) (rest : List ℕ) → AreStable (n ∷ rest) → (is_stable n ≡ true) × AreStable rest
first_stable n rest h = by (is_stable n) h
  where
    by : (b : Bool) → (not b || list_any (λ n. not (is_stable n)) rest) ≡ false → (b ≡ true) × AreStable rest
    by true h = (refl, h)
    by false h = absurd cc

pub last_stable : (n : ℕ) → AreStable (n ∷ []) → is_stable_state (tap_of n) ≡ true
last_stable n h = stable_tap n (first_stable n [] h).0

end_given : (state last : Option ℕ) → AreStable (option_to_list state ++ option_to_list last) →
    is_stable_state (tap_or_idle last) ≡ true
end_given state None h = refl
end_given None (Some n) h = last_stable n h
end_given (Some m) (Some n) h = last_stable n (first_stable m (n ∷ []) h).1

-- ---- rules

-- the statement is a STATE, or an IF over one
abbrev pub does_move : BodyTree → Bool
does_move (state_list states) = true
does_move (if_then e body) = does_move body
does_move _ = false

-- What is shown of all turns: something holds of their deeds (`DeedsOk`) and of their scans (`JobOk`), and something is
-- kept of the settings of scans, of either register (`SettingsOk`).
pub record RowRule : Type 1 where
  pub DeedsOk : List Deed → Type 0
  pub JobOk : BoardScan → Type 0
  pub SettingsOk : ScanSettings → Type 0
  pub none_ok : DeedsOk []
  pub both_ok : (xs ys : List Deed) → DeedsOk xs → DeedsOk ys → DeedsOk (xs ++ ys)
  pub pre_ok : (x : ScanSettings) (bits : List Bool) → length bits ≤ padding_limit → SettingsOk x →
      SettingsOk (record x { pre = bits })
  pub post_ok : (x : ScanSettings) (bits : List Bool) → length bits ≤ padding_limit → SettingsOk x →
      SettingsOk (record x { post = bits })
  pub stop_ok : (x : ScanSettings) (tap : Tap) → is_stable_state tap ≡ true → SettingsOk x →
      SettingsOk (record x { stop = tap })

-- the rule that asks nothing
abbrev pub plain_rows : RowRule
plain_rows = record {
  DeedsOk = λ ds. Unit {0};
  JobOk = λ job. Unit {0};
  SettingsOk = λ x. Unit {0};
  none_ok = tt;
  both_ok = λ xs ys h k. tt;
  pre_ok = λ x bits le h. tt;
  post_ok = λ x bits le h. tt;
  stop_ok = λ x tap e h. tt;
}

-- The rule holds of what a statement makes, told whether it is a STATE, and whether it scans: the deeds of a statement
-- that is neither, moves through states of which the last is stable, and scans.
pub record StatementRule (w : RowRule) (moves scans : Bool) : Type 0 where
  pub says_ok : moves ≡ false → scans ≡ false → (event : Event) (ds : List Deed) → is_no_clock event ≡ true →
      w.DeedsOk ds → w.DeedsOk (Says event ∷ ds)
  pub goes_ok : moves ≡ false → scans ≡ false → (to : Tap) (ds : List Deed) → is_stable_state to ≡ true →
      w.DeedsOk ds → w.DeedsOk (Goes to ∷ ds)
  pub stays_ok : moves ≡ false → scans ≡ false → (n : ℕ) (ds : List Deed) → w.DeedsOk ds → w.DeedsOk (Stays n ∷ ds)
  pub moves_ok : moves ≡ true → (states : List ℕ) → AreStable (last_of states) →
      w.DeedsOk (map Goes (map tap_of states))
  pub scans_ok : scans ≡ true → (register : Register) (x : ScanSettings) (bits : List Bool) → w.SettingsOk x →
      length bits ≤ scan_limit → w.JobOk (scan_of register x bits)

-- ---- what is got

-- something holds of what is got, if it is known
abbrev pub Has : {A : Type 0} → (A → Type 0) → Got A → Type 0
Has P (Known x) = P x
Has P (Faults k) = Unit {0}
Has P Stuck = Unit {0}

then_has : {A B : Type 0} (P : A → Type 0) (R : B → Type 0) (g : Got A) (go : A → Got B) → Has P g →
    ((x : A) → P x → Has R (go x)) → Has R (then_get g go)
then_has P R (Known x) go p q = q x p
then_has P R (Faults k) go p q = tt
then_has P R Stuck go p q = tt

pub any_has : {A B : Type 0} (R : B → Type 0) (g : Got A) (go : A → Got B) → ((x : A) → Has R (go x)) →
    Has R (then_get g go)
any_has R (Known x) go q = q x
any_has R (Faults k) go q = tt
any_has R Stuck go q = tt

has_if : {A : Type 0} (P : A → Type 0) (c : Bool) (g h : Got A) → (c ≡ true → Has P g) → Has P h →
    Has P (if c then g else h)
has_if P true g h p q = p refl
has_if P false g h p q = q

-- so many bits at most
abbrev AtMost : ℕ → List Bool → Type 0
AtMost n bits = length bits ≤ n

passed_at_most : (b : Bool) (k : RunFault) (n : ℕ) (bits : List Bool) → Has (AtMost n) (passed b k (take n bits))
passed_at_most true k n bits = let l = length-take n bits in omega (arith, l)
passed_at_most false k n bits = tt

asked_at_most : (source : Source) (n : ℕ) (bits : List Bool) → Has (AtMost n) (asked source n bits)
asked_at_most (These own) n bits = let l = length-take n (bits ++ replicate n false) in omega (arith, l)
asked_at_most (Whole v) n bits = passed_at_most (nat_le n (length bits)) LengthMismatch n bits
asked_at_most (Range profile v) n bits = passed_at_most (nat_le n (length bits)) LengthMismatch n bits
asked_at_most OfInt n bits = passed_at_most (nat_le n (length bits)) LengthMismatch n bits

passed_within : (b : Bool) (k : RunFault) (n most : ℕ) → (b ≡ true → n ≤ most) → Has (λ m. m ≤ most) (passed b k n)
passed_within true k n most h = h refl
passed_within false k n most h = tt

length_within : (least most : ℕ) (z : ℤ) → Has (λ n. n ≤ most) (length_between least most z)
length_within least most (pos n) =
    passed_within (nat_le least n && nat_le n most) BadLength n most
    (λ e. leb-true n most (both_second (nat_le least n) (nat_le n most) e))
length_within least most (negsuc n) = tt

padding_within : (variables : List Held) (source : Option Source) (vs : List Value) (z : ℤ) →
    Has (AtMost padding_limit) (padding_bits variables source vs z)
padding_within variables None [] z =
    then_has (λ n. n ≤ padding_limit) (AtMost padding_limit) (length_between 0 padding_limit z) _
    (length_within 0 padding_limit z) (λ n le. at_most n le)
  where
    at_most : (n : ℕ) → n ≤ padding_limit → length (replicate n true) ≤ padding_limit
    at_most n le = let l = length-replicate n true in omega (arith, l, le)
padding_within variables None (v ∷ vs) z = tt
padding_within variables (Some source) vs z =
    any_has (AtMost padding_limit) (source_bits variables source vs) _ (λ bits.
    then_has (λ n. n ≤ padding_limit) (AtMost padding_limit) (length_between 0 padding_limit z) _
    (length_within 0 padding_limit z) (λ n le. within n le (asked source n bits) (asked_at_most source n bits)))
  where
    within : (n : ℕ) → n ≤ padding_limit → (g : Got (List Bool)) → Has (AtMost n) g → Has (AtMost padding_limit) g
    within n le (Known bits) h = omega (arith, le, h)
    within n le (Faults k) h = tt
    within n le Stuck h = tt

-- ---- the rows

module _ (w : RowRule) where
  -- what is kept of a state
  abbrev pub Keeps : State → Type 0
  Keeps s = w.SettingsOk s.ir × w.SettingsOk s.dr

  -- what holds of what is done
  abbrev pub DidOk : Did → Type 0
  DidOk (Falls ds t) = w.DeedsOk ds × Keeps t
  DidOk (Captures job lands) = w.JobOk job × ((bits : List Bool) → Keeps (lands bits))
  DidOk (Jumps t) = Keeps t
  DidOk (Resumes place t) = Keeps t
  DidOk (Returns t) = Keeps t
  DidOk (Ends ending t) = Unit {0}

  abbrev Ok : Got Did → Type 0
  Ok g = Has DidOk g

  -- it holds whatever is got before
  any_did : {A : Type 0} (g : Got A) (go : A → Got Did) → ((x : A) → Ok (go x)) → Ok (then_get g go)
  any_did g go q = any_has DidOk g go q

  -- ---- values

  of_written : (s : State) (g : Got (List Held)) → Keeps s → Ok (written s g)
  of_written s g h = any_did g _ (λ list. (w.none_ok, h))

  pub of_assigned : (n : ℕ) (vs : List Value) (s : State) → Keeps s → Ok (assigned n vs s)
  of_assigned n [] s h = tt
  of_assigned n (v ∷ []) s h = of_written s (scalar_written s.store.variables n (slice_get s.store.variables n) v) h
  of_assigned n (v ∷ u ∷ vs) s h = tt

  of_element : (n : ℕ) (vs : List Value) (s : State) → Keeps s → Ok (element_assigned n vs s)
  of_element n (Int i ∷ v ∷ []) s h =
      of_written s (element_written s.store.variables n (slice_get s.store.variables n) i v) h
  of_element n _ s h = tt

  of_span : (n : ℕ) (old : List Bool) (source : Source) (vs : List Value) (s : State) (span : Span) → Keeps s →
      Ok (span_written n old source vs s span)
  of_span n old source vs s span h =
      any_did (source_bits s.store.variables source vs) _ (λ bits.
      any_did (asked source span.count bits) _ (λ new. (w.none_ok, h)))

  pub of_copied : (target : Target) (source : Source) (vs : List Value) (s : State) → Keeps s →
      Ok (copied target source vs s)
  of_copied (IntoWhole n) source vs s h =
      any_did (bits_held (slice_get s.store.variables n)) _ (λ old.
      of_span n old source vs s (whole_span (length old)) h)
  of_copied (IntoRange profile n) source (first ∷ second ∷ vs) s h =
      any_did (bits_held (slice_get s.store.variables n)) _ (λ old.
      any_did (span_of profile (length old) first second) _ (λ span. of_span n old source vs s span h))
  of_copied (IntoRange profile n) source [] s h = tt
  of_copied (IntoRange profile n) source (first ∷ []) s h = tt

  pub of_integers : (n : ℕ) (zs : List ℤ) (vs : List Value) (s : State) → Keeps s → Ok (integers_set n zs vs s)
  of_integers n zs [] s h =
      of_written s (replaced s.store.variables n (with_integers zs (slice_get s.store.variables n))) h
  of_integers n zs (v ∷ vs) s h = tt

  -- ---- ways and records

  of_jumped : (vs : List Value) (s : State) → Keeps s → Ok (jumped vs s)
  of_jumped [] s h = h
  of_jumped (v ∷ vs) s h = tt

  of_parted : (vs : List Value) (s : State) → Keeps s → Ok (parted vs s)
  of_parted (Bit true ∷ []) s h = (w.none_ok, h)
  of_parted (Bit false ∷ []) s h = h
  of_parted _ s h = tt

  of_room : (s : State) (g : Got Did) → Ok g → Ok (with_room s g)
  of_room s g h = has_if DidOk (nat_lt (length s.records) record_limit) g _ (λ e. h) tt

  of_pushed : (vs : List Value) (s : State) → Keeps s → Ok (pushed vs s)
  of_pushed [] s h = tt
  of_pushed (v ∷ []) s h = of_room s _ (w.none_ok, h)
  of_pushed (v ∷ u ∷ vs) s h = tt

  of_popped : (kind : ValueKind) (assigns : List Value → State → Got Did) (vs : List Value) (s : State) →
      ((us : List Value) (t : State) → Keeps t → Ok (assigns us t)) → Keeps s → Ok (popped kind assigns vs s)
  of_popped kind assigns vs s does h =
      any_did (topmost kind s.records) _ (λ top. does (vs ++ top.0 ∷ []) (with_records s top.1) h)

  of_called : (after : ℕ) (vs : List Value) (s : State) → Keeps s → Ok (called after vs s)
  of_called after [] s h = of_room s _ h
  of_called after (v ∷ vs) s h = tt

  of_returned_from : (records : List Record) (s : State) → Keeps s → DidOk (returned_from records s)
  of_returned_from [] s h = h
  of_returned_from (Called place ∷ records) s h = h
  of_returned_from (Pushed z ∷ records) s h = of_returned_from records s h
  of_returned_from (Looped l ∷ records) s h = of_returned_from records s h

  of_returned : (vs : List Value) (s : State) → Keeps s → Ok (returned vs s)
  of_returned [] s h = of_returned_from s.records s h
  of_returned (v ∷ vs) s h = tt

  loop_keeps : (l : Loop) (records : List Record) (z : ℤ) (s : State) → Keeps s → Has Keeps (with_loop l records z s)
  loop_keeps l records z s h =
      any_has Keeps (scalar_written s.store.variables l.variable (slice_get s.store.variables l.variable) (Int z)) _
      (λ list. h)

  of_looped : (n after : ℕ) (vs : List Value) (s : State) → Keeps s → Ok (looped n after vs s)
  of_looped n after (Int first ∷ Int limit ∷ Int step ∷ []) s h =
      let l : Loop = record { variable = n; limit = limit; step = step; place = after } in
      has_if DidOk (int_eq step (pos 0)) (Faults ZeroStep) _ (λ e. tt)
      (of_room s _ (then_has Keeps DidOk (with_loop l s.records first s) _ (loop_keeps l s.records first s h)
      (λ t k. (w.none_ok, k))))
  of_looped n after _ s h = tt

  of_round : (l : Loop) (records : List Record) (z : ℤ) (s : State) → Keeps s → Ok (went_round l records z s)
  of_round l records z s h =
      let more : ℤ = int_wrap w32 (z +ℤ l.step) in
      has_if DidOk (is_over l z) _ _ (λ e. (w.none_ok, h))
      (then_has Keeps DidOk (with_loop l records more s) _ (loop_keeps l records more s h) (λ t k. k))

  of_repeated : (n : ℕ) (vs : List Value) (s : State) → Keeps s → Ok (repeated n vs s)
  of_repeated n [] s h =
      any_did (nearest_loop n s.records) _ (λ top.
      any_did (integer_held (slice_get s.store.variables n)) _ (λ z. of_round top.0 top.1 z s h))
  of_repeated n (v ∷ vs) s h = tt

  of_exited : (vs : List Value) (s : State) → Keeps s → Ok (exited vs s)
  of_exited (Int code ∷ []) s h = tt
  of_exited _ s h = tt

  -- ---- how scans go

  of_padding : (which : Padding) (bits : List Bool) (s : State) → AtMost padding_limit bits → Keeps s →
      Keeps (with_padding which bits s)
  of_padding paddings.PreData bits s le h = (h.0, w.pre_ok s.dr bits le h.1)
  of_padding paddings.PostData bits s le h = (h.0, w.post_ok s.dr bits le h.1)
  of_padding paddings.PreInstruction bits s le h = (w.pre_ok s.ir bits le h.0, h.1)
  of_padding paddings.PostInstruction bits s le h = (w.post_ok s.ir bits le h.0, h.1)

  of_surrounded : (which : Padding) (source : Option Source) (vs : List Value) (s : State) → Keeps s →
      Ok (surrounded which source vs s)
  of_surrounded which source (Int z ∷ vs) s h =
      then_has (AtMost padding_limit) DidOk (padding_bits s.store.variables source vs z) _
      (padding_within s.store.variables source vs z) (λ bits le. (w.none_ok, of_padding which bits s le h))
  of_surrounded which source [] s h = tt
  of_surrounded which source (Bit b ∷ vs) s h = tt

  of_stop : (register : Register) (tap : Tap) (s : State) → is_stable_state tap ≡ true → Keeps s →
      Keeps (with_stop register tap s)
  of_stop registers.Data tap s e h = (h.0, w.stop_ok s.dr tap e h.1)
  of_stop registers.Instruction tap s e h = (w.stop_ok s.ir tap e h.0, h.1)

  of_stopped : (register : Register) (tap : Tap) (vs : List Value) (s : State) → Keeps s →
      Ok (stopped register tap vs s)
  of_stopped register tap [] s h =
      has_if DidOk (is_stable_state tap) _ Stuck (λ e. (w.none_ok, of_stop register tap s e h)) tt
  of_stopped register tap (v ∷ vs) s h = tt

  settings_kept : (register : Register) (s : State) → Keeps s → w.SettingsOk (settings_of register s)
  settings_kept registers.Data s h = h.1
  settings_kept registers.Instruction s h = h.0

  -- ---- what a statement makes that is a STATE, and that scans

  module _ (moves scans : Bool) (r : StatementRule w moves scans) where
    of_asked : scans ≡ true → (parts : ScanParts) (found : Found) (s : State) (n : ℕ) → n ≤ scan_limit → Keeps s →
        Ok (scan_asked parts found s n)
    of_asked e parts found s n le h =
        then_has (AtMost n) DidOk (asked parts.source n found.data_bits) _
        (asked_at_most parts.source n found.data_bits)
        (λ bits few.
        any_did (target_asked n found.target) _ (λ target.
        any_did (compare_asked n parts.compare found.compare) _ (λ compare. (
          r.scans_ok e parts.register (settings_of parts.register s) bits (settings_kept parts.register s h)
              (within bits few),
          λ captured. h,
        ))))
      where
        within : (bits : List Bool) → length bits ≤ n → length bits ≤ scan_limit
        within bits few = omega (arith, le, few)

    of_scanned : scans ≡ true → (parts : ScanParts) (vs : List Value) (s : State) → Keeps s → Ok (scanned parts vs s)
    of_scanned e parts (Int z ∷ vs) s h =
        any_did (scan_found s.store.variables parts vs) _ (λ found.
        then_has (λ n. n ≤ scan_limit) DidOk (length_between 1 scan_limit z) _ (length_within 1 scan_limit z)
        (λ n le. of_asked e parts found s n le h))
    of_scanned e parts [] s h = tt
    of_scanned e parts (Bit b ∷ vs) s h = tt

    of_moved : moves ≡ true → (states : List ℕ) (vs : List Value) (s : State) → AreStable (last_of states) → Keeps s →
        Ok (moved_through (map tap_of states) vs s)
    of_moved e states [] s last h = (r.moves_ok e states last, h)
    of_moved e states (v ∷ vs) s last h = tt

    -- ---- what any other statement makes

    module _ (m : moves ≡ false) (n : scans ≡ false) where
      said : (event : Event) (s : State) → is_no_clock event ≡ true → Keeps s → Ok (Known (Falls (Says event ∷ []) s))
      said event s e h = (r.says_ok m n event [] e w.none_ok, h)

      of_printed : (text : Got (List ℕ)) (s : State) → Keeps s → Ok (printed text s)
      of_printed text s h = any_did text _ (λ bytes. said _ s refl h)

      of_exported : (key : List ℕ) (vs : List Value) (s : State) → Keeps s → Ok (exported key vs s)
      of_exported key [] s h = tt
      of_exported key (v ∷ []) s h = said _ s refl h
      of_exported key (v ∷ u ∷ vs) s h = tt

      of_bits_exported : (key : List ℕ) (source : Source) (vs : List Value) (s : State) → Keeps s →
          Ok (bits_exported key source vs s)
      of_bits_exported key source vs s h =
          any_did (source_bits s.store.variables source vs) _ (λ bits. said _ s refl h)

      of_tuned : (vs : List Value) (s : State) → Keeps s → Ok (tuned vs s)
      of_tuned [] s h = said _ s refl h
      of_tuned (Int z ∷ []) s h = any_did (hertz_of z) _ (λ hertz. said _ s refl h)
      of_tuned _ s h = tt

      wait_ok : (kind : WaitKind) (at last : Tap) (vs : List Value) → is_stable_state at ≡ true →
          is_stable_state last ≡ true → Has w.DeedsOk (waited_for kind at last vs)
      wait_ok kind at last vs stable ends = by kind vs
        where
          back : w.DeedsOk (Goes last ∷ [])
          back = r.goes_ok m n last [] ends w.none_ok

          timed : (event : Event) → is_no_clock event ≡ true → w.DeedsOk (Says event ∷ Goes last ∷ [])
          timed event e = r.says_ok m n event (Goes last ∷ []) e back

          rests : (c : ℕ) (ds : List Deed) → w.DeedsOk ds → w.DeedsOk (Goes at ∷ Stays c ∷ ds)
          rests c ds h = r.goes_ok m n at (Stays c ∷ ds) stable (r.stays_ok m n c ds h)

          by : (kind : WaitKind) (vs : List Value) → Has w.DeedsOk (waited_for kind at last vs)
          by waits.Cycles (Int z ∷ []) = any_has w.DeedsOk (cycles_of z) _ (λ c. rests c (Goes last ∷ []) back)
          by waits.Usec (Int z ∷ []) =
              any_has w.DeedsOk (usec_of z) _ (λ u. r.goes_ok m n at _ stable (timed _ refl))
          by waits.Both (Int z ∷ Int y ∷ []) =
              any_has w.DeedsOk (cycles_of z) _ (λ c. any_has w.DeedsOk (usec_of y) _ (λ u. rests c _ (timed _ refl)))
          by kind _ = tt

      of_waited : (kind : WaitKind) (at last : Tap) (vs : List Value) (s : State) → is_stable_state last ≡ true →
          Keeps s →
          Ok (waited kind at last vs s)
      of_waited kind at last vs s ends h =
          has_if DidOk (is_stable_state at)
          (then_get (waited_for kind at last vs) (λ deeds. Known (Falls deeds s))) Stuck
          (λ stable. then_has w.DeedsOk DidOk (waited_for kind at last vs) _ (wait_ok kind at last vs stable ends)
          (λ deeds ok. (ok, h))) tt

  -- ---- a line for each statement

  module _ (scope : Scope) where
    abbrev pub RowOk : BodyTree → Type 0
    RowOk b = (vs : List Value) (s : State) → Keeps s → Ok (effect scope b vs s)

    row_ok : (b : BodyTree) → stops_unstable b ≡ false → StatementRule w (does_move b) (does_scan b) → RowOk b
    row_ok end_procedure e r = of_returned
    row_ok (boolean name (Some b)) e r = of_assigned (scope.look.variable name)
    row_ok (boolean_array name size (Some bits)) e r = of_copied (IntoWhole (scope.look.variable name)) (These bits)
    row_ok (integer name (Some z)) e r = of_assigned (scope.look.variable name)
    row_ok (integer_array name size (Some zs)) e r = of_integers (scope.look.variable name) zs
    row_ok (assign name x) e r = of_assigned (scope.look.variable name)
    row_ok (assign_element name index x) e r = of_element (scope.look.variable name)
    row_ok (assign_array name a) e r = of_copied (IntoWhole (scope.look.variable name)) (source_of scope.look a)
    row_ok (assign_range name high low a) e r =
        of_copied (IntoRange of_programs (scope.look.variable name)) (source_of scope.look a)
    row_ok (call name) e r = of_called scope.follow
    row_ok (goto name) e r = of_jumped
    row_ok (if_then x body) e r = of_parted
    row_ok (for_loop name from to step) e r = of_looped (scope.look.variable name) scope.follow
    row_ok (next name) e r = of_repeated (scope.look.variable name)
    row_ok (push x) e r = of_pushed
    row_ok (pop (scalar name)) e r =
        λ vs s. of_popped (given_kind (scope.look.kind name)) _ vs s (of_assigned (scope.look.variable name))
    row_ok (pop (element name index)) e r =
        λ vs s. of_popped (given_kind (scope.look.kind name)) _ vs s (of_element (scope.look.variable name))
    row_ok (print parts) e r = λ vs s. of_printed false false r refl refl (joined parts vs) s
    row_ok (export key (exported_value x)) e r = of_exported false false r refl refl key
    row_ok (export key (exported_array a)) e r = of_bits_exported false false r refl refl key (source_of scope.look a)
    row_ok (exit x) e r = of_exited
    row_ok (scan register count source to compare) e r =
        of_scanned false true r refl (scan_parts scope.look register source to compare)
    row_ok (stop register state) e r = of_stopped register (tap_of state)
    row_ok (pad which count bits) e r = of_surrounded which (given_source scope.look bits)
    row_ok (state_list states) e r = λ vs s. of_moved true false r refl states vs s e
    row_ok (wait_cycles state cycles usec last) e r =
        λ vs s. of_waited false false r refl refl (kind_of_wait usec) (tap_or_idle state) (tap_or_idle last) vs s
        (end_given state last e)
    row_ok (wait_usec state usec last) e r =
        λ vs s. of_waited false false r refl refl waits.Usec (tap_or_idle state) (tap_or_idle last) vs s
        (end_given state last e)
    row_ok (frequency hertz) e r = of_tuned false false r refl refl
    row_ok _ e r = λ vs s h. tt

    abbrev pub RowsOk : List BodyTree → Type 0
    RowsOk [] = Unit {0}
    RowsOk (b ∷ bs) = RowOk b × RowsOk bs

    pub rows_ok : (b : BodyTree) → stops_unstable b ≡ false → StatementRule w (does_move b) (does_scan b) →
        RowsOk (rows b)
    rows_ok (if_then x body) e r = (row_ok (if_then x body) e r, rows_ok body e r)
    rows_ok (boolean name None) e r = tt
    rows_ok (boolean_array name size None) e r = tt
    rows_ok (integer name None) e r = tt
    rows_ok (integer_array name size None) e r = tt
    rows_ok (boolean name (Some b)) e r = (row_ok (boolean name (Some b)) e r, tt)
    rows_ok (boolean_array name size (Some bits)) e r = (row_ok (boolean_array name size (Some bits)) e r, tt)
    rows_ok (integer name (Some z)) e r = (row_ok (integer name (Some z)) e r, tt)
    rows_ok (integer_array name size (Some zs)) e r = (row_ok (integer_array name size (Some zs)) e r, tt)
    rows_ok b e r = (row_ok b e r, tt)
