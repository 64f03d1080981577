-- A statement without its inner statement breaks by the table alone
use Rattle.std.proofs.Common.{◌≡◌, ℕ, ◌≤◌, Bool, true, false, List, [], ◌∷◌, ◌++◌, map, Option, Some, None, ℤ, pos, refl, sym, ap, ◌∙◌, subst, if◌then◌else◌}
use Rattle.stapl_syntax.specs.Trees.{ExprTree, number, scalar, element, unary, binary, abs, int, ArrayTree, literal as bit_literal, BodyTree, note, action, procedure, data_block, end_data, crc, end_procedure, boolean, boolean_array, integer, integer_array, assign, assign_element, assign_array, assign_range, call, goto, if_then, for_loop, next, push, pop, print, exported_value, exported_array, export, exit, scan, stop, pad, state_list, wait_cycles, wait_usec, frequency}
use Rattle.stapl_lexer.specs.declared.terminal.Padding.{Padding}
use Rattle.stapl_meaning.specs.declared.values.Held.{Held}
use Rattle.tap_states.specs.declared.Tap.{Tap}
use Rattle.tap_states.specs.Tap.{is_stable_state}
use Rattle.stapl_meaning.specs.declared.events.RunFault.{RunFault}
use Rattle.stapl_meaning.specs.declared.events.RunFault.TheVariants.{LengthMismatch}
use Rattle.stapl_meaning.specs.declared.events.Event.TheVariants.{Usec, Hertz}
use Rattle.stapl_meaning.specs.declared.values.Value.{Value}
use Rattle.stapl_meaning.specs.declared.values.Value.TheVariants.{Int, Bit}
use Rattle.stapl_meaning.specs.Deeds.{Deed, Says, Goes, Stays}
use Rattle.stapl_meaning.specs.Values.{Got, Known, Stuck, then_get, Lookup}
use Rattle.stapl_meaning.specs.Operands.{values_of, given_kind}
use Rattle.stapl_meaning.specs.States.{State, Did, Falls}
use Rattle.stapl_meaning.specs.Effects.{parted, with_records, assigned, element_assigned, cycles_of, usec_of, hertz_of}
use Rattle.stapl_meaning.specs.Scans.{with_padding, padding_bits}
use Rattle.stapl_meaning.specs.ScanTrees.{given_source}
use Rattle.stapl_meaning.specs.Scopes.{Scope}
use Rattle.stapl_meaning.specs.Turns.{operands, effect, tap_of, tap_or_idle}
use Rattle.meaning_laws.specs.ExprFaults.{IsInteger}
use Rattle.meaning_laws.specs.PartFaults.{WrittenPart, padding_arrays, written_parts, literal_is, range_is, PartsAre, no_parts, more_parts, value_is, index_is, array_is, PartsBreak, HasBits, range_has, OneIsShort, this_short, later_short}
use Rattle.meaning_laws.specs.RowFaults.{RowBreaks, of_parts, length_mismatch, bad_length, bad_count, step_zero, no_record, records_full, assigned_short, range_short, zero_step, full_for, full_push, full_call, no_loop, no_value, no_value_for_element, left_out, written_down, bad_cycles, bad_usec, bad_usec_alone, bad_hertz, bad_scan, scan_short, bad_padding, padding_short}
use Rattle.meaning_laws.proofs.Gets.{Gives, Breaks, then_gives, then_breaks, gives_more}
use Rattle.meaning_laws.proofs.LimitLemmas.{part_of, part_has}
use Rattle.meaning_laws.proofs.PartLemmas.{operands_are, parts_give}
use Rattle.meaning_laws.proofs.ArrayLemmas.{array_alone}
use Rattle.meaning_laws.proofs.EffectLemmas.{EndsWell, Does, then_does, assigned_does, element_does, integers_does, jumped_does, returned_does, exited_does, exported_does, moved_does, stopped_does, printed_does, export_bits_does, copied_does, range_does, pushed_does, called_does, looped_does, repeated_does, popped_does, cycles_break, cycles_give, usec_breaks, hertz_breaks}
use Rattle.meaning_laws.proofs.ScanLemmas.{padding_breaks}
use Rattle.meaning_laws.proofs.ScanFaultLemmas.{scanned_does}

-- what a row comes to: its operands, and then its effect
abbrev pub row_got : Scope → State → BodyTree → Got Did
row_got scope s b = then_get (values_of scope.look s.store.variables (operands scope b)) (λ values. effect scope b values s)

no_literal : {look : Lookup} {variables : List Held} {bits : List Bool} {n : ℕ} → HasBits look variables (bit_literal bits) n → ⊥
no_literal has = elim has [ ]

parted_does : (P : RunFault → Type 0) (vs : List Value) (s : State) → Does P (parted vs s)
parted_does P [] s = tt
parted_does P (Int z ∷ vs) s = tt
parted_does P (Bit true ∷ []) s = tt
parted_does P (Bit false ∷ []) s = tt
parted_does P (Bit b ∷ v ∷ vs) s = tt

module _ (scope : Scope) (s : State) where
  -- the effect of a statement whose parts have these values
  abbrev EffectDoes : BodyTree → List Value → Type 0
  EffectDoes b vs = Does (RowBreaks scope s b) (effect scope b vs s)

  abbrev Parts : List WrittenPart → List Value → Type 0
  Parts ps vs = PartsAre scope.look s.store.variables ps vs

  abbrev WrittenParts : BodyTree → List Value → Type 0
  WrittenParts b vs = Parts (written_parts scope.look b) vs

  table_does : (name : List ℕ) (size : ℤ) (bits : List Bool) (vs : List Value) → Parts [] vs → EffectDoes (boolean_array name size (Some bits)) vs
  table_does name size bits _ no_parts =
      copied_does (RowBreaks scope s (boolean_array name size (Some bits))) scope.look name s {a = bit_literal bits} literal_is
      (λ n has short. absurd (no_literal short.has))

  assign_element_does : (name : List ℕ) (index e : ExprTree) (vs : List Value) → WrittenParts (assign_element name index e) vs →
      EffectDoes (assign_element name index e) vs
  assign_element_does name index e _ (more_parts (index_is i size known sized inside) (more_parts (value_is v known2) no_parts)) =
      element_does (RowBreaks scope s (assign_element name index e)) (scope.look.variable name) i size v s sized inside

  assign_range_does : (name : List ℕ) (first second : ExprTree) (a : ArrayTree) (vs : List Value) → WrittenParts (assign_range name first second a) vs →
      EffectDoes (assign_range name first second a) vs
  assign_range_does name first second a _ (more_parts (array_is (range_is i j size is_i is_j sized first_in second_in)) rest) =
      range_does (RowBreaks scope s (assign_range name first second a)) scope.look name s i j size sized first_in second_in
      (array_alone scope.look s.store.variables rest)
      (λ short. length_mismatch (range_short (part_of i j).count (range_has i j size is_i is_j sized first_in second_in (part_has i j)) short))

  for_does : (name : List ℕ) (from to : ExprTree) (step : Option ExprTree) (vs : List Value) → WrittenParts (for_loop name from to step) vs →
      EffectDoes (for_loop name from to step) vs
  for_does name from to step _ (more_parts (value_is x is_x) (more_parts (value_is y is_y) (more_parts (value_is z is_z) no_parts))) =
      looped_does (RowBreaks scope s (for_loop name from to step)) (scope.look.variable name) scope.follow x y z s
      (λ a b e f g. step_zero (zero_step a b (is_x ∙ ap Known e) (is_y ∙ ap Known f) (is_z ∙ ap Known g)))
      (λ a b c e f g other full. records_full (full_for a b c (is_x ∙ ap Known e) (is_y ∙ ap Known f) (is_z ∙ ap Known g) other full))

  push_does : (e : ExprTree) (vs : List Value) → WrittenParts (push e) vs → EffectDoes (push e) vs
  push_does e _ (more_parts (value_is v known) no_parts) = pushed_does (RowBreaks scope s (push e)) v s (λ full. records_full (full_push v known full))

  pop_scalar_does : (name : List ℕ) (vs : List Value) → EffectDoes (pop (scalar name)) vs
  pop_scalar_does name vs =
      popped_does (RowBreaks scope s (pop (scalar name))) (given_kind (scope.look.kind name)) (assigned (scope.look.variable name)) vs s (λ none. no_record (no_value none))
      (λ v records. assigned_does (RowBreaks scope s (pop (scalar name))) (scope.look.variable name) (vs ++ v ∷ []) (with_records s records))

  pop_element_does : (name : List ℕ) (index : ExprTree) (vs : List Value) → WrittenParts (pop (element name index)) vs → EffectDoes (pop (element name index)) vs
  pop_element_does name index _ (more_parts (index_is i size known sized inside) no_parts) =
      popped_does (RowBreaks scope s (pop (element name index))) (given_kind (scope.look.kind name)) (element_assigned (scope.look.variable name))
      (Int (pos i) ∷ []) s (λ none. no_record (no_value_for_element (Int (pos i) ∷ []) (more_parts (index_is i size known sized inside) no_parts) none))
      (λ v records. element_does (RowBreaks scope s (pop (element name index))) (scope.look.variable name) i size v (with_records s records) sized inside)

  -- ---- waits

  wait_does : (P : RunFault → Type 0) (at : Tap) (g : Got (List Deed)) → (is_stable_state at ≡ true → Breaks P g) →
      Does P (if is_stable_state at then then_get g (λ deeds. Known (Falls deeds s)) else Stuck)
  wait_does P at g h = by (is_stable_state at) refl
    where
      by : (t : Bool) → is_stable_state at ≡ t → Does P (if t then then_get g (λ deeds. Known (Falls deeds s)) else Stuck)
      by true e = then_does P g (λ deeds. Known (Falls deeds s)) (h e) (λ deeds e. tt)
      by false e = tt

  cycles_does : (state : Option ℕ) (cycles : ExprTree) (last : Option ℕ) (vs : List Value) → WrittenParts (wait_cycles state cycles None last) vs →
      EffectDoes (wait_cycles state cycles None last) vs
  cycles_does state cycles last _ (more_parts (value_is (Bit b) known) no_parts) =
      wait_does (RowBreaks scope s (wait_cycles state cycles None last)) (tap_or_idle state) Stuck (λ e. tt)
  cycles_does state cycles last _ (more_parts (value_is (Int n) known) no_parts) =
      let P : RunFault → Type 0 = RowBreaks scope s (wait_cycles state cycles None last) in
      let ends : ℕ → Got (List Deed) = λ c. Known (Goes (tap_or_idle state) ∷ Stays c ∷ Goes (tap_or_idle last) ∷ []) in
      wait_does P (tap_or_idle state) (then_get (cycles_of n) ends)
      (λ stays. then_breaks P (cycles_of n) ends (cycles_break P n (λ out. bad_count (bad_cycles n stays known left_out out))) (λ c e. tt))

  both_does : (state : Option ℕ) (cycles usec : ExprTree) (last : Option ℕ) (vs : List Value) → WrittenParts (wait_cycles state cycles (Some usec) last) vs →
      EffectDoes (wait_cycles state cycles (Some usec) last) vs
  both_does state cycles usec last _ (more_parts (value_is (Bit b) known) (more_parts (value_is w known2) no_parts)) =
      wait_does (RowBreaks scope s (wait_cycles state cycles (Some usec) last)) (tap_or_idle state) Stuck (λ e. tt)
  both_does state cycles usec last _ (more_parts (value_is (Int n) known) (more_parts (value_is (Bit b) known2) no_parts)) =
      wait_does (RowBreaks scope s (wait_cycles state cycles (Some usec) last)) (tap_or_idle state) Stuck (λ e. tt)
  both_does state cycles usec last _ (more_parts (value_is (Int n) known) (more_parts (value_is (Int m) known2) no_parts)) =
      let P : RunFault → Type 0 = RowBreaks scope s (wait_cycles state cycles (Some usec) last) in
      let ends : ℕ → ℕ → Got (List Deed) = λ c u. Known (Goes (tap_or_idle state) ∷ Stays c ∷ Says (Usec u) ∷ Goes (tap_or_idle last) ∷ []) in
      wait_does P (tap_or_idle state) (then_get (cycles_of n) (λ c. then_get (usec_of m) (ends c)))
      (λ stays.
      then_gives (λ c. (x : ℕ) × (n ≡ pos x) × (x ≤ 16777216)) (λ _. Unit {0}) P (cycles_of n) (λ c. then_get (usec_of m) (ends c))
      (cycles_give P n (λ out. bad_count (bad_cycles n stays known (written_down m known2) out)))
      (λ c e t. then_breaks P (usec_of m) (ends c)
      (usec_breaks P m (λ below. bad_count (bad_usec t.0 m stays (known ∙ ap (λ z. Known (Int z)) t.1) t.2 known2 below))) (λ u e. tt)))

  usec_does : (state : Option ℕ) (usec : ExprTree) (last : Option ℕ) (vs : List Value) → WrittenParts (wait_usec state usec last) vs →
      EffectDoes (wait_usec state usec last) vs
  usec_does state usec last _ (more_parts (value_is (Bit b) known) no_parts) =
      wait_does (RowBreaks scope s (wait_usec state usec last)) (tap_or_idle state) Stuck (λ e. tt)
  usec_does state usec last _ (more_parts (value_is (Int m) known) no_parts) =
      let P : RunFault → Type 0 = RowBreaks scope s (wait_usec state usec last) in
      let ends : ℕ → Got (List Deed) = λ u. Known (Goes (tap_or_idle state) ∷ Says (Usec u) ∷ Goes (tap_or_idle last) ∷ []) in
      wait_does P (tap_or_idle state) (then_get (usec_of m) ends)
      (λ stays. then_breaks P (usec_of m) ends (usec_breaks P m (λ below. bad_count (bad_usec_alone m stays known below))) (λ u e. tt))

  hertz_does : (hertz : ExprTree) (vs : List Value) → WrittenParts (frequency (Some hertz)) vs → EffectDoes (frequency (Some hertz)) vs
  hertz_does hertz _ (more_parts (value_is (Bit b) known) no_parts) = tt
  hertz_does hertz _ (more_parts (value_is (Int n) known) no_parts) =
      let P : RunFault → Type 0 = RowBreaks scope s (frequency (Some hertz)) in
      then_does P (hertz_of n) (λ h. Known (Falls (Says (Hertz h) ∷ []) s)) (hertz_breaks P n (λ below. bad_count (bad_hertz n known below))) (λ h e. tt)

  no_hertz_does : (vs : List Value) → Parts [] vs → EffectDoes (frequency None) vs
  no_hertz_does _ no_parts = tt

  -- ---- paddings

  short_padding : (which : Padding) (count : ExprTree) (bits : Option ArrayTree) (n : ℕ) → IsInteger scope.look s.store.variables count (pos n) →
      n ≤ 65536 → OneIsShort scope.look s.store.variables n (padding_arrays bits) → RowBreaks scope s (pad which count bits) LengthMismatch
  short_padding which count None n known few short = elim short [ ]
  short_padding which count (Some a) n known few (this_short short rest) = length_mismatch (padding_short n known few short)
  short_padding which count (Some a) n known few (later_short this short) = elim short [ ]

  pad_does : (which : Padding) (count : ExprTree) (bits : Option ArrayTree) (vs : List Value) → WrittenParts (pad which count bits) vs →
      EffectDoes (pad which count bits) vs
  pad_does which count bits _ (more_parts (value_is (Bit b) known) rest) = tt
  pad_does which count bits _ (more_parts {vs = vs} (value_is (Int z) known) rest) =
      let P : RunFault → Type 0 = RowBreaks scope s (pad which count bits) in
      then_does P (padding_bits s.store.variables (given_source scope.look bits) vs z) (λ bits. Known (Falls [] (with_padding which bits s)))
      (padding_breaks scope.look s.store.variables P bits vs z rest (λ there out. bad_length (bad_padding z known there out))
      (λ n is few short. short_padding which count bits n (known ∙ ap (λ z. Known (Int z)) is) few short))
      (λ bits e. tt)

  -- ---- the table

  effect_does : (b : BodyTree) (vs : List Value) → WrittenParts b vs → EffectDoes b vs
  effect_does (note key text) vs are = tt
  effect_does (action name text items) vs are = tt
  effect_does (procedure name uses) vs are = tt
  effect_does (data_block name) vs are = tt
  effect_does end_data vs are = tt
  effect_does (crc n) vs are = tt
  effect_does end_procedure vs are = returned_does (RowBreaks scope s end_procedure) vs s
  effect_does (boolean name None) vs are = tt
  effect_does (boolean name (Some b)) vs are = assigned_does (RowBreaks scope s (boolean name (Some b))) (scope.look.variable name) vs s
  effect_does (boolean_array name size None) vs are = tt
  effect_does (boolean_array name size (Some bits)) vs are = table_does name size bits vs are
  effect_does (integer name None) vs are = tt
  effect_does (integer name (Some z)) vs are = assigned_does (RowBreaks scope s (integer name (Some z))) (scope.look.variable name) vs s
  effect_does (integer_array name size None) vs are = tt
  effect_does (integer_array name size (Some zs)) vs are =
      integers_does (RowBreaks scope s (integer_array name size (Some zs))) (scope.look.variable name) zs vs s
  effect_does (assign name e) vs are = assigned_does (RowBreaks scope s (assign name e)) (scope.look.variable name) vs s
  effect_does (assign_element name index e) vs are = assign_element_does name index e vs are
  effect_does (assign_array name a) vs are =
      copied_does (RowBreaks scope s (assign_array name a)) scope.look name s (array_alone scope.look s.store.variables are) (λ n has short. length_mismatch (assigned_short n has short))
  effect_does (assign_range name first second a) vs are = assign_range_does name first second a vs are
  effect_does (call name) vs are = called_does (RowBreaks scope s (call name)) scope.follow vs s (λ full. records_full (full_call full))
  effect_does (goto name) vs are = jumped_does (RowBreaks scope s (goto name)) vs s
  effect_does (if_then e body) vs are = parted_does (RowBreaks scope s (if_then e body)) vs s
  effect_does (for_loop name from to step) vs are = for_does name from to step vs are
  effect_does (next name) vs are = repeated_does (RowBreaks scope s (next name)) (scope.look.variable name) vs s (λ none. no_record (no_loop none))
  effect_does (push e) vs are = push_does e vs are
  effect_does (pop (number z)) vs are = tt
  effect_does (pop (scalar name)) vs are = pop_scalar_does name vs
  effect_does (pop (element name index)) vs are = pop_element_does name index vs are
  effect_does (pop (unary op e)) vs are = tt
  effect_does (pop (binary op a b)) vs are = tt
  effect_does (pop (abs e)) vs are = tt
  effect_does (pop (int a)) vs are = tt
  effect_does (print parts) vs are = printed_does (RowBreaks scope s (print parts)) scope.look s.store.variables parts vs s are
  effect_does (export key (exported_value e)) vs are = exported_does (RowBreaks scope s (export key (exported_value e))) key vs s
  effect_does (export key (exported_array a)) vs are =
      export_bits_does (RowBreaks scope s (export key (exported_array a))) scope.look key s (array_alone scope.look s.store.variables are)
  effect_does (exit e) vs are = exited_does (RowBreaks scope s (exit e)) vs s
  effect_does (scan register count source target compare) vs are =
      scanned_does (RowBreaks scope s (scan register count source target compare)) scope.look register count source target compare vs s are
      (λ z values known there result out. bad_length (bad_scan z values known there result out))
      (λ n values known result some few short. length_mismatch (scan_short n values known result some few short))
  effect_does (stop register state) vs are = stopped_does (RowBreaks scope s (stop register state)) register (tap_of state) vs s
  effect_does (pad which count bits) vs are = pad_does which count bits vs are
  effect_does (state_list states) vs are = moved_does (RowBreaks scope s (state_list states)) (map tap_of states) vs s
  effect_does (wait_cycles state cycles None last) vs are = cycles_does state cycles last vs are
  effect_does (wait_cycles state cycles (Some usec) last) vs are = both_does state cycles usec last vs are
  effect_does (wait_usec state usec last) vs are = usec_does state usec last vs are
  effect_does (frequency None) vs are = no_hertz_does vs are
  effect_does (frequency (Some hertz)) vs are = hertz_does hertz vs are

  pub row_does : (b : BodyTree) → Does (RowBreaks scope s b) (row_got scope s b)
  row_does b =
      let ps : List WrittenPart = written_parts scope.look b in
      let P : RunFault → Type 0 = RowBreaks scope s b in
      let g : Got (List Value) = values_of scope.look s.store.variables (operands scope b) in
      then_gives (Parts ps) EndsWell P g (λ values. effect scope b values s)
      (gives_more (Parts ps) (PartsBreak scope.look s.store.variables ps) P g (λ k h. of_parts h)
      (subst (λ os. Gives (Parts ps) (PartsBreak scope.look s.store.variables ps) (values_of scope.look s.store.variables os)) (sym (operands_are scope b))
      (parts_give scope.look s.store.variables None ps)))
      (λ values e are. effect_does b values are)
