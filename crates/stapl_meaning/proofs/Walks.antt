-- One walk over what statements do. What a change of the settings of scans and of the places in records does to a turn,
-- and what holds of the deeds and the scans of each turn, is shown of all turns by the few facts of a rule.
use Rattle.std.proofs.Common.{◌≡◌, sym, ap, subst, ◌∙◌, ℕ, Bool, true, false, cond, List, [], ◌∷◌, ◌++◌, length, map, Option, Some, None, refl, ◌<◌, ◌≤◌, ◌&&◌, suc, zero, take, replicate, arith}
use Rattle.std.specs.Prelude.{ℤ, pos, ◌+ℤ◌, ◌==◌, nat_lt, slice_get, slice_set, negsuc, nat_le, nat_abs, int_le}
use Rattle.std.proofs.lemmas.List.{length-append, length-take, length-replicate}
use Rattle.std.proofs.lemmas.Bool.{false≢true, leb-true}
use Rattle.std.specs.Int.{int_wrap, w32}
use Rattle.std.specs.Ordering.{int_eq}
use Rattle.stapl_lexer.specs.declared.terminal.Padding.{Padding}
use Rattle.stapl_lexer.specs.declared.terminal.Register.{Register}
use Rattle.stapl_lexer.specs.declared.terminal.Register.TheVariants as registers
use Rattle.stapl_syntax.specs.Trees.{BodyTree, scalar, element, end_procedure, boolean, boolean_array, integer, integer_array, assign, assign_element, assign_array, assign_range, call, goto, if_then, for_loop, next, push, pop, print, exported_value, exported_array, export, exit, scan, stop, pad, state_list, wait_cycles, wait_usec, frequency}
use Rattle.tap_states.specs.declared.Tap.{Tap}
use Rattle.tap_states.specs.Tap.{is_stable_state}
use Rattle.dev_card.specs.Scans.{BoardScan}
use Rattle.stapl_meaning.specs.declared.events.Event.{Event}
use Rattle.stapl_meaning.specs.declared.events.Event.TheVariants.{Print, Export, Hertz, Usec}
use Rattle.stapl_meaning.specs.declared.events.ExportValue.TheVariants.{Array}
use Rattle.stapl_meaning.specs.declared.events.Ending.{Ending}
use Rattle.stapl_meaning.specs.declared.events.Ending.TheVariants.{Exit, Fault}
use Rattle.stapl_meaning.specs.declared.events.RunFault.{RunFault}
use Rattle.stapl_meaning.specs.declared.events.RunFault.TheVariants.{BadLength, LengthMismatch, ZeroStep, NoRecord, RecordsFull}
use Rattle.stapl_meaning.specs.declared.records.Loop.{Loop}
use Rattle.stapl_meaning.specs.declared.records.Record.{Record}
use Rattle.stapl_meaning.specs.declared.records.Record.TheVariants.{Pushed, Called, Looped}
use Rattle.stapl_meaning.specs.declared.values.Value.{Value}
use Rattle.stapl_meaning.specs.declared.values.Value.TheVariants.{Int, Bit}
use Rattle.stapl_meaning.specs.declared.values.ValueKind.{ValueKind}
use Rattle.stapl_meaning.specs.declared.waits.WaitKind.{WaitKind}
use Rattle.stapl_meaning.specs.declared.waits.WaitKind.TheVariants as waits
use Rattle.stapl_meaning.specs.Deeds.{Deed, Says, Goes, Stays}
use Rattle.stapl_meaning.specs.SaidEvents.{is_no_clock}
use Rattle.stapl_meaning.specs.declared.values.Held.{Held}
use Rattle.stapl_meaning.specs.declared.values.Held.TheVariants as held
use Rattle.stapl_meaning.specs.Values.{Got, Known, Faults, Stuck, then_get, passed, Span, Source, These, Whole, Range, OfInt, source_bits, asked, bits_held, span_of, span_put, whole_span}
use Rattle.stapl_meaning.specs.Values.{source_of, of_programs}
use Rattle.stapl_meaning.specs.Operands.{given_kind, values_of}
use Rattle.stapl_meaning.specs.States.{ScanSettings, State, Did, Falls, Captures, Jumps, Resumes, Returns, Ends, Turned, Leads, Over, Broken, Scanning, NoTurn, with_got, preceded, turn_of_piece, next_chosen, jumps_to, led}
use Rattle.stapl_meaning.specs.Effects.{export_of, value_as, replaced, scalar_written, element_written, with_variables, written, assigned, element_assigned, Target, IntoWhole, IntoRange, span_written, copied, with_integers, integers_set, jumped, parted, record_limit, with_records, with_room, number_of, topmost, pushed, popped, called, returned_from, returned, with_loop, looped, nearest_loop, is_over, integer_held, went_round, repeated, exited, joined, printed, exported, bits_exported, moved_through, cycles_of, usec_of, hertz_of, waited_for, waited, tuned}
use Rattle.stapl_meaning.specs.Scans.{settings_of, with_padding, with_stop, scan_limit, length_between, scan_of, ScanParts, Place, Comparison, Found, scan_found, landed, target_asked, compare_asked, scan_asked, scanned, padding_bits, surrounded, stopped}
use Rattle.stapl_meaning.specs.ScanTrees.{given_source, scan_parts}
use Rattle.stapl_meaning.specs.Scopes.{Scope}
use Rattle.stapl_meaning.specs.Turns.{tap_of, tap_or_idle, kind_of_wait, operands, effect, target, carried, rows_done}

-- the statement sets a padding
abbrev pub sets_padding : BodyTree → Bool
sets_padding (pad which size bits) = true
sets_padding (if_then e body) = sets_padding body
sets_padding _ = false

-- What is to be shown of all turns. States are changed in the places that their records keep (`place`, and with it
-- `records`) and in the settings of their scans (`ir`, `dr`), and scans are changed by that (`job`). Something is kept of
-- the settings and of the procedures that are still to run (`IrOk`, `DrOk`, `ChosenOk`), and it is enough for what holds of
-- the deeds of a turn (`DeedsOk`) and of its scans (`JobOk`). Something holds of how it ends a run (`EndOk`).
pub record WalkRule : Type 1 where
  pub place : ℕ → ℕ
  pub records : List Record → List Record
  pub ir : ScanSettings → ScanSettings
  pub dr : ScanSettings → ScanSettings
  pub job : BoardScan → BoardScan
  pub IrOk : ScanSettings → Type 0
  pub DrOk : ScanSettings → Type 0
  pub ChosenOk : List ℕ → Type 0
  pub DeedsOk : List Deed → Type 0
  pub JobOk : BoardScan → Type 0
  pub EndOk : Ending → Type 0
  -- records, one by one
  pub no_record : records [] ≡ []
  pub on_value : (z : ℤ) (rs : List Record) → records (Pushed z ∷ rs) ≡ Pushed z ∷ records rs
  pub on_call : (i : ℕ) (rs : List Record) → records (Called i ∷ rs) ≡ Called (place i) ∷ records rs
  pub on_loop : (l : Loop) (rs : List Record) → records (Looped l ∷ rs) ≡ Looped (record l { place = place l.place }) ∷ records rs
  -- deeds, as statements make them
  pub none_ok : DeedsOk []
  pub both_ok : (xs ys : List Deed) → DeedsOk xs → DeedsOk ys → DeedsOk (xs ++ ys)
  pub says_ok : (event : Event) → is_no_clock event ≡ true → DeedsOk (Says event ∷ [])
  pub moves_ok : (states : List Tap) → DeedsOk (map Goes states)
  pub cycles_ok : (at end : Tap) (c : ℕ) → is_stable_state at ≡ true → DeedsOk (Goes at ∷ Stays c ∷ Goes end ∷ [])
  pub usec_ok : (at end : Tap) (u : ℕ) → DeedsOk (Goes at ∷ Says (Usec u) ∷ Goes end ∷ [])
  pub wait_ok : (at end : Tap) (c u : ℕ) → is_stable_state at ≡ true → DeedsOk (Goes at ∷ Stays c ∷ Says (Usec u) ∷ Goes end ∷ [])
  -- stop states, which are stable
  pub ir_stop : (x : ScanSettings) (t : Tap) → ir (record x { stop = t }) ≡ record (ir x) { stop = t }
  pub dr_stop : (x : ScanSettings) (t : Tap) → dr (record x { stop = t }) ≡ record (dr x) { stop = t }
  pub ir_stop_ok : (x : ScanSettings) (t : Tap) → is_stable_state t ≡ true → IrOk x → IrOk (record x { stop = t })
  pub dr_stop_ok : (x : ScanSettings) (t : Tap) → is_stable_state t ≡ true → DrOk x → DrOk (record x { stop = t })
  -- scans, which have a bit of data
  pub ir_job : (x : ScanSettings) (bits : List Bool) → IrOk x → scan_of registers.Instruction (ir x) bits ≡ job (scan_of registers.Instruction x bits)
  pub dr_job : (x : ScanSettings) (bits : List Bool) → DrOk x → scan_of registers.Data (dr x) bits ≡ job (scan_of registers.Data x bits)
  pub ir_job_ok : (x : ScanSettings) (bits : List Bool) → IrOk x → 0 < length bits → JobOk (scan_of registers.Instruction x bits)
  pub dr_job_ok : (x : ScanSettings) (bits : List Bool) → DrOk x → 0 < length bits → JobOk (scan_of registers.Data x bits)
  pub chosen_none : ChosenOk []
  -- endings
  pub exit_ok : (code : ℤ) → EndOk (Exit code)
  pub fault_ok : (fault : RunFault) (piece : ℕ) → EndOk (Fault fault piece)

-- the rule that leaves states and scans as they are, and asks nothing
abbrev pub plain_rule : WalkRule
plain_rule = record {
  place = λ i. i;
  records = λ rs. rs;
  ir = λ x. x;
  dr = λ x. x;
  job = λ job. job;
  IrOk = λ x. Unit {0};
  DrOk = λ x. Unit {0};
  ChosenOk = λ ps. Unit {0};
  DeedsOk = λ ds. Unit {0};
  JobOk = λ job. Unit {0};
  EndOk = λ ending. Unit {0};
  no_record = refl;
  on_value = λ z rs. refl;
  on_call = λ i rs. refl;
  on_loop = λ l rs. refl;
  none_ok = tt;
  both_ok = λ xs ys h k. tt;
  says_ok = λ event e. tt;
  moves_ok = λ states. tt;
  cycles_ok = λ at end c e. tt;
  usec_ok = λ at end u. tt;
  wait_ok = λ at end c u e. tt;
  ir_stop = λ x t. refl;
  dr_stop = λ x t. refl;
  ir_stop_ok = λ x t e h. tt;
  dr_stop_ok = λ x t e h. tt;
  ir_job = λ x bits h. refl;
  dr_job = λ x bits h. refl;
  ir_job_ok = λ x bits h some. tt;
  dr_job_ok = λ x bits h some. tt;
  chosen_none = tt;
  exit_ok = λ code. tt;
  fault_ok = λ fault piece. tt;
}

-- so many bits that are asked for are so many
abbrev GotLong : ℕ → Got (List Bool) → Type 0
GotLong n (Known bits) = length bits ≡ n
GotLong n _ = Unit {0}

passed_long : (b : Bool) (n : ℕ) (bits : List Bool) (k : RunFault) → (b ≡ true → n ≤ length bits) → GotLong n (passed b k (take n bits))
passed_long true n bits k h = let le = h refl in omega (arith, length-take n bits, le)
passed_long false n bits k h = tt

asked_long : (source : Source) (n : ℕ) (bits : List Bool) → GotLong n (asked source n bits)
asked_long (These own) n bits = omega (arith, length-take n (bits ++ replicate n false), length-append bits (replicate n false), length-replicate n false)
asked_long (Whole v) n bits = passed_long (nat_le n (length bits)) n bits LengthMismatch (leb-true n (length bits))
asked_long (Range profile v) n bits = passed_long (nat_le n (length bits)) n bits LengthMismatch (leb-true n (length bits))
asked_long OfInt n bits = passed_long (nat_le n (length bits)) n bits LengthMismatch (leb-true n (length bits))

module _ (w : WalkRule) where
  -- the state after the change, and what is kept of it
  abbrev pub changed : State → State
  changed s = record s { records = w.records s.records; ir = w.ir s.ir; dr = w.dr s.dr }

  abbrev changed_loop : Loop → Loop
  changed_loop l = record l { place = w.place l.place }

  abbrev pub Fits : State → Type 0
  Fits s = w.IrOk s.ir × w.DrOk s.dr × w.ChosenOk s.chosen

  -- a padding may be set
  pub record PaddingRule : Type 0 where
    pub same : (which : Padding) (bits : List Bool) (s : State) → with_padding which bits (changed s) ≡ changed (with_padding which bits s)
    pub kept : (which : Padding) (bits : List Bool) (s : State) → Fits s → Fits (with_padding which bits s)

  abbrev pub changed_did : Did → Did
  changed_did (Falls deeds s) = Falls deeds (changed s)
  changed_did (Captures job lands) = Captures (w.job job) (λ bits. changed (lands bits))
  changed_did (Jumps s) = Jumps (changed s)
  changed_did (Resumes place s) = Resumes (w.place place) (changed s)
  changed_did (Returns s) = Returns (changed s)
  changed_did (Ends ending s) = Ends ending (changed s)

  abbrev pub changed_got : Got Did → Got Did
  changed_got (Known did) = Known (changed_did did)
  changed_got (Faults k) = Faults k
  changed_got Stuck = Stuck

  abbrev pub KeptDid : Did → Type 0
  KeptDid (Falls deeds s) = w.DeedsOk deeds × Fits s
  KeptDid (Captures job lands) = w.JobOk job × ((bits : List Bool) → Fits (lands bits))
  KeptDid (Jumps s) = Fits s
  KeptDid (Resumes place s) = Fits s
  KeptDid (Returns s) = Fits s
  KeptDid (Ends ending s) = Fits s × w.EndOk ending

  abbrev pub KeptGot : Got Did → Type 0
  KeptGot (Known did) = KeptDid did
  KeptGot (Faults k) = Unit {0}
  KeptGot Stuck = Unit {0}

  pub record SameGot (g h : Got Did) : Type 0 where
    pub same : h ≡ changed_got g
    pub kept : KeptGot g

  fault_same : (k : RunFault) → SameGot (Faults k) (Faults k)
  fault_same k = record { same = refl; kept = tt }

  stuck_same : SameGot Stuck Stuck
  stuck_same = record { same = refl; kept = tt }

  falls_same : (s : State) → Fits s → SameGot (Known (Falls [] s)) (Known (Falls [] (changed s)))
  falls_same s h = record { same = refl; kept = (w.none_ok, h) }

  then_same : {A : Type 0} (g : Got A) (go go2 : A → Got Did) → ((x : A) → SameGot (go x) (go2 x)) → SameGot (then_get g go) (then_get g go2)
  then_same (Known x) go go2 h = h x
  then_same (Faults k) go go2 h = fault_same k
  then_same Stuck go go2 h = stuck_same

  either_same : (b : Bool) (x y x2 y2 : Got Did) → SameGot x x2 → SameGot y y2 → SameGot (cond b x y) (cond b x2 y2)
  either_same true x y x2 y2 h k = h
  either_same false x y x2 y2 h k = k

  abbrev pub SameEffect : (List Value → State → Got Did) → Type 0
  SameEffect does = (vs : List Value) (s : State) → Fits s → SameGot (does vs s) (does vs (changed s))

  written_same : (s : State) (g : Got (List Held)) → Fits s → SameGot (written s g) (written (changed s) g)
  written_same s (Known list) h = falls_same (with_variables s list) h
  written_same s (Faults k) h = fault_same k
  written_same s Stuck h = stuck_same

  pub assigned_same : (n : ℕ) → SameEffect (assigned n)
  assigned_same n [] s h = stuck_same
  assigned_same n (v ∷ []) s h = written_same s (scalar_written s.store.variables n (slice_get s.store.variables n) v) h
  assigned_same n (v ∷ w ∷ vs) s h = stuck_same

  pub element_same : (n : ℕ) → SameEffect (element_assigned n)
  element_same n [] s h = stuck_same
  element_same n (Bit b ∷ vs) s h = stuck_same
  element_same n (Int i ∷ []) s h = stuck_same
  element_same n (Int i ∷ v ∷ []) s h = written_same s (element_written s.store.variables n (slice_get s.store.variables n) i v) h
  element_same n (Int i ∷ v ∷ w ∷ vs) s h = stuck_same

  span_same : (n : ℕ) (old : List Bool) (source : Source) (vs : List Value) (s : State) (span : Span) → Fits s
      → SameGot (span_written n old source vs s span) (span_written n old source vs (changed s) span)
  span_same n old source vs s span h =
      let put : State → List Bool → Got Did = λ t new. Known (Falls [] (with_variables t (slice_set s.store.variables n (held.Bits (span_put span new old))))) in
      let from : State → List Bool → Got Did = λ t bits. then_get (asked source span.count bits) (put t) in
      then_same (source_bits s.store.variables source vs) (from s) (from (changed s)) (λ bits.
      then_same (asked source span.count bits) (put s) (put (changed s)) (λ new. falls_same (with_variables s (slice_set s.store.variables n (held.Bits (span_put span new old)))) h))

  pub copied_same : (into : Target) (source : Source) → SameEffect (copied into source)
  copied_same (IntoWhole n) source vs s h =
      let go : State → List Bool → Got Did = λ t old. span_written n old source vs t (whole_span (length old)) in
      then_same (bits_held (slice_get s.store.variables n)) (go s) (go (changed s)) (λ old. span_same n old source vs s (whole_span (length old)) h)
  copied_same (IntoRange profile n) source [] s h = stuck_same
  copied_same (IntoRange profile n) source (high ∷ []) s h = stuck_same
  copied_same (IntoRange profile n) source (high ∷ low ∷ vs) s h =
      let t : State = changed s in
      let go : State → List Bool → Got Did = λ t old. then_get (span_of profile (length old) high low) (span_written n old source vs t) in
      then_same (bits_held (slice_get s.store.variables n)) (go s) (go t) (λ old.
      then_same (span_of profile (length old) high low) (span_written n old source vs s) (span_written n old source vs t) (λ span. span_same n old source vs s span h))

  pub integers_same : (n : ℕ) (zs : List ℤ) → SameEffect (integers_set n zs)
  integers_same n zs [] s h = written_same s (replaced s.store.variables n (with_integers zs (slice_get s.store.variables n))) h
  integers_same n zs (v ∷ vs) s h = stuck_same

  pub jumped_same : SameEffect jumped
  jumped_same [] s h = record { same = refl; kept = h }
  jumped_same (v ∷ vs) s h = stuck_same

  pub parted_same : SameEffect parted
  parted_same [] s h = stuck_same
  parted_same (Int z ∷ vs) s h = stuck_same
  parted_same (Bit true ∷ []) s h = falls_same s h
  parted_same (Bit false ∷ []) s h = record { same = refl; kept = h }
  parted_same (Bit b ∷ v ∷ vs) s h = stuck_same

  -- records are as many
  as_many : (rs : List Record) → length (w.records rs) ≡ length rs
  as_many [] = ap length w.no_record
  as_many (Pushed z ∷ rs) = ap length (w.on_value z rs) ∙ ap suc (as_many rs)
  as_many (Called i ∷ rs) = ap length (w.on_call i rs) ∙ ap suc (as_many rs)
  as_many (Looped l ∷ rs) = ap length (w.on_loop l rs) ∙ ap suc (as_many rs)

  room_same : (s : State) (x y : Got Did) → SameGot x y → SameGot (with_room s x) (with_room (changed s) y)
  room_same s x y h =
      subst (λ n. SameGot (with_room s x) (cond (nat_lt n record_limit) y (Faults RecordsFull))) (sym (as_many s.records))
      (either_same (nat_lt (length s.records) record_limit) x (Faults RecordsFull) y (Faults RecordsFull) h (fault_same RecordsFull))

  pub pushed_same : SameEffect pushed
  pushed_same [] s h = stuck_same
  pushed_same (v ∷ []) s h =
      let r : Record = Pushed (number_of v) in
      let t : State = changed s in
      room_same s (Known (Falls [] (with_records s (r ∷ s.records)))) (Known (Falls [] (with_records t (r ∷ t.records)))) (record {
        same = ap (λ rs. Known (Falls [] (with_records t rs))) (sym (w.on_value (number_of v) s.records));
        kept = (w.none_ok, h);
      })
  pushed_same (v ∷ w ∷ vs) s h = stuck_same

  pub called_same : (after : ℕ) (vs : List Value) (s : State) → Fits s → SameGot (called after vs s) (called (w.place after) vs (changed s))
  called_same after [] s h =
      let t : State = changed s in
      room_same s (Known (Jumps (with_records s (Called after ∷ s.records)))) (Known (Jumps (with_records t (Called (w.place after) ∷ t.records)))) (record {
        same = ap (λ rs. Known (Jumps (with_records t rs))) (sym (w.on_call after s.records));
        kept = h;
      })
  called_same after (v ∷ vs) s h = stuck_same

  -- what is done with the topmost record
  top_same : (kind : ValueKind) (rs : List Record) (go go2 : Value × List Record → Got Did) → ((v : Value) (qs : List Record) → SameGot (go (v, qs)) (go2 (v, w.records qs)))
      → SameGot (then_get (topmost kind rs) go) (then_get (topmost kind (w.records rs)) go2)
  top_same kind [] go go2 k = subst (λ qs. SameGot (Faults NoRecord) (then_get (topmost kind qs) go2)) (sym w.no_record) (fault_same NoRecord)
  top_same kind (Pushed z ∷ rs) go go2 k =
      subst (λ qs. SameGot (go (value_as kind z, rs)) (then_get (topmost kind qs) go2)) (sym (w.on_value z rs)) (k (value_as kind z) rs)
  top_same kind (Called i ∷ rs) go go2 k =
      subst (λ qs. SameGot (Faults NoRecord) (then_get (topmost kind qs) go2)) (sym (w.on_call i rs)) (fault_same NoRecord)
  top_same kind (Looped l ∷ rs) go go2 k =
      subst (λ qs. SameGot (Faults NoRecord) (then_get (topmost kind qs) go2)) (sym (w.on_loop l rs)) (fault_same NoRecord)

  popped_same : (kind : ValueKind) (assigns : List Value → State → Got Did) → SameEffect assigns → SameEffect (popped kind assigns)
  popped_same kind assigns f vs s h =
      let go : State → Value × List Record → Got Did = λ t top. assigns (vs ++ top.0 ∷ []) (with_records t top.1) in
      top_same kind s.records (go s) (go (changed s)) (λ v qs. f (vs ++ v ∷ []) (with_records s qs) h)

  -- a loop is put on the records, and then something is done
  loop_same : (g : Got (List Held)) (l : Loop) (records : List Record) (go go2 : State → Got Did) (s : State) → Fits s
      → ((t : State) → Fits t → SameGot (go t) (go2 (changed t)))
      → SameGot (then_get (then_get g (λ v. Known (with_variables (with_records s (Looped l ∷ records)) v))) go)
      (then_get (then_get g (λ v. Known (with_variables (with_records (changed s) (Looped (changed_loop l) ∷ w.records records)) v))) go2)
  loop_same (Known list) l records go go2 s h f =
      let t : State = with_variables (with_records s (Looped l ∷ records)) list in
      subst (λ rs. SameGot (go t) (go2 (with_records (changed t) rs))) (w.on_loop l records) (f t h)
  loop_same (Faults k) l records go go2 s h f = fault_same k
  loop_same Stuck l records go go2 s h f = stuck_same

  pub looped_same : (n after : ℕ) (vs : List Value) (s : State) → Fits s → SameGot (looped n after vs s) (looped n (w.place after) vs (changed s))
  looped_same n after (Int first ∷ Int limit ∷ Int step ∷ []) s h =
      let l : Loop = record { variable = n; limit = limit; step = step; place = after } in
      let t : State = changed s in
      let on : State → Got Did = λ t. Known (Falls [] t) in
      let begins : Got Did = then_get (with_loop l s.records first s) on in
      let begins2 : Got Did = then_get (with_loop (changed_loop l) t.records first t) on in
      either_same (int_eq step (pos 0)) (Faults ZeroStep) (with_room s begins) (Faults ZeroStep) (with_room t begins2) (fault_same ZeroStep)
      (room_same s begins begins2
      (loop_same (scalar_written s.store.variables n (slice_get s.store.variables n) (Int first)) l s.records on on s h (λ t k. falls_same t k)))
  looped_same n after [] s h = stuck_same
  looped_same n after (Bit b ∷ vs) s h = stuck_same
  looped_same n after (Int first ∷ []) s h = stuck_same
  looped_same n after (Int first ∷ Bit b ∷ vs) s h = stuck_same
  looped_same n after (Int first ∷ Int limit ∷ []) s h = stuck_same
  looped_same n after (Int first ∷ Int limit ∷ Bit b ∷ vs) s h = stuck_same
  looped_same n after (Int first ∷ Int limit ∷ Int step ∷ v ∷ vs) s h = stuck_same

  round_same : (l : Loop) (records : List Record) (z : ℤ) (s : State) → Fits s
      → SameGot (went_round l records z s) (went_round (changed_loop l) (w.records records) z (changed s))
  round_same l records z s h =
      let more : ℤ = int_wrap w32 (z +ℤ l.step) in
      let back : ℕ → State → Got Did = λ i t. Known (Resumes i t) in
      let t : State = changed s in
      let u : State = with_records s records in
      let again : Got Did = then_get (with_loop l records more s) (back l.place) in
      let again2 : Got Did = then_get (with_loop (changed_loop l) (w.records records) more t) (back (w.place l.place)) in
      either_same (is_over l z) (Known (Falls [] u)) again (Known (Falls [] (changed u))) again2 (falls_same u h)
      (loop_same (scalar_written s.store.variables l.variable (slice_get s.store.variables l.variable) (Int more)) l records (back l.place) (back (w.place l.place)) s h
      (λ t k. record { same = refl; kept = k }))

  -- what is done with the nearest loop
  nearest_same : (n : ℕ) (rs : List Record) (go go2 : Loop × List Record → Got Did) → ((l : Loop) (qs : List Record) → SameGot (go (l, qs)) (go2 (changed_loop l, w.records qs)))
      → SameGot (then_get (nearest_loop n rs) go) (then_get (nearest_loop n (w.records rs)) go2)
  nearest_same n [] go go2 k = subst (λ qs. SameGot (Faults NoRecord) (then_get (nearest_loop n qs) go2)) (sym w.no_record) (fault_same NoRecord)
  nearest_same n (Pushed z ∷ rs) go go2 k =
      subst (λ qs. SameGot (Faults NoRecord) (then_get (nearest_loop n qs) go2)) (sym (w.on_value z rs)) (fault_same NoRecord)
  nearest_same n (Called i ∷ rs) go go2 k =
      subst (λ qs. SameGot (Faults NoRecord) (then_get (nearest_loop n qs) go2)) (sym (w.on_call i rs)) (fault_same NoRecord)
  nearest_same n (Looped l ∷ rs) go go2 k =
      subst (λ qs. SameGot (then_get (nearest_loop n (Looped l ∷ rs)) go) (then_get (nearest_loop n qs) go2)) (sym (w.on_loop l rs))
      (by (l.variable == n) (nearest_same n rs go go2 k))
    where
      by : (own : Bool) → SameGot (then_get (nearest_loop n rs) go) (then_get (nearest_loop n (w.records rs)) go2)
          → SameGot (then_get (cond own (Known (l, rs)) (nearest_loop n rs)) go) (then_get (cond own (Known (changed_loop l, w.records rs)) (nearest_loop n (w.records rs))) go2)
      by true others = k l rs
      by false others = others

  pub repeated_same : (n : ℕ) → SameEffect (repeated n)
  repeated_same n [] s h =
      let t : State = changed s in
      let round : State → Loop × List Record → ℤ → Got Did = λ t top z. went_round top.0 top.1 z t in
      let go : State → Loop × List Record → Got Did = λ t top. then_get (integer_held (slice_get s.store.variables n)) (round t top) in
      nearest_same n s.records (go s) (go t) (λ l qs.
      then_same (integer_held (slice_get s.store.variables n)) (round s (l, qs)) (round t (changed_loop l, w.records qs)) (λ z. round_same l qs z s h))
  repeated_same n (v ∷ vs) s h = stuck_same

  record SameDid (d e : Did) : Type 0 where
    pub same : e ≡ changed_did d
    pub kept : KeptDid d

  returned_from_same : (rs : List Record) (s : State) → Fits s → SameDid (returned_from rs s) (returned_from (w.records rs) (changed s))
  returned_from_same [] s h =
      subst (λ qs. SameDid (returned_from [] s) (returned_from qs (changed s))) (sym w.no_record)
      (record { same = ap (λ qs. Returns (with_records (changed s) qs)) (sym w.no_record); kept = h })
  returned_from_same (Pushed z ∷ rs) s h =
      subst (λ qs. SameDid (returned_from rs s) (returned_from qs (changed s))) (sym (w.on_value z rs)) (returned_from_same rs s h)
  returned_from_same (Called i ∷ rs) s h =
      subst (λ qs. SameDid (Resumes i (with_records s rs)) (returned_from qs (changed s))) (sym (w.on_call i rs)) (record { same = refl; kept = h })
  returned_from_same (Looped l ∷ rs) s h =
      subst (λ qs. SameDid (returned_from rs s) (returned_from qs (changed s))) (sym (w.on_loop l rs)) (returned_from_same rs s h)

  pub returned_same : SameEffect returned
  returned_same [] s h = let r = returned_from_same s.records s h in record { same = ap Known r.same; kept = r.kept }
  returned_same (v ∷ vs) s h = stuck_same

  pub exited_same : SameEffect exited
  exited_same [] s h = stuck_same
  exited_same (Int code ∷ []) s h = record { same = refl; kept = (h, w.exit_ok code) }
  exited_same (Int code ∷ v ∷ vs) s h = stuck_same
  exited_same (Bit b ∷ vs) s h = stuck_same

  says_same : (ds : List Deed) (s : State) → w.DeedsOk ds → Fits s → SameGot (Known (Falls ds s)) (Known (Falls ds (changed s)))
  says_same ds s n h = record { same = refl; kept = (n, h) }

  pub printed_same : (text : Got (List ℕ)) (s : State) → Fits s → SameGot (printed text s) (printed text (changed s))
  printed_same (Known bytes) s h = record { same = refl; kept = (w.says_ok (Print bytes) refl, h) }
  printed_same (Faults k) s h = fault_same k
  printed_same Stuck s h = stuck_same

  pub exported_same : (key : List ℕ) → SameEffect (exported key)
  exported_same key [] s h = stuck_same
  exported_same key (v ∷ []) s h = record { same = refl; kept = (w.says_ok (Export key (export_of v)) refl, h) }
  exported_same key (v ∷ w ∷ vs) s h = stuck_same

  pub bits_same : (key : List ℕ) (source : Source) → SameEffect (bits_exported key source)
  bits_same key source vs s h =
      let go : State → List Bool → Got Did = λ t bits. Known (Falls (Says (Export key (Array bits)) ∷ []) t) in
      then_same (source_bits s.store.variables source vs) (go s) (go (changed s)) (λ bits. record { same = refl; kept = (w.says_ok (Export key (Array bits)) refl, h) })

  pub moved_same : (states : List Tap) → SameEffect (moved_through states)
  moved_same states [] s h = record { same = refl; kept = (w.moves_ok states, h) }
  moved_same states (v ∷ vs) s h = stuck_same

  abbrev WaitIsOk : Got (List Deed) → Type 0
  WaitIsOk (Known deeds) = w.DeedsOk deeds
  WaitIsOk _ = Unit {0}

  wait_kept : {A : Type 0} (g : Got A) (go : A → Got (List Deed)) → ((x : A) → WaitIsOk (go x)) → WaitIsOk (then_get g go)
  wait_kept (Known x) go h = h x
  wait_kept (Faults k) go h = tt
  wait_kept Stuck go h = tt

  waited_for_kept : (kind : WaitKind) (at end : Tap) (vs : List Value) → is_stable_state at ≡ true → WaitIsOk (waited_for kind at end vs)
  waited_for_kept waits.Cycles at end (Int n ∷ []) e =
      let go : ℕ → Got (List Deed) = λ c. Known (Goes at ∷ Stays c ∷ Goes end ∷ []) in
      wait_kept (cycles_of n) go (λ c. w.cycles_ok at end c e)
  waited_for_kept waits.Usec at end (Int n ∷ []) e =
      let go : ℕ → Got (List Deed) = λ u. Known (Goes at ∷ Says (Usec u) ∷ Goes end ∷ []) in
      wait_kept (usec_of n) go (λ u. w.usec_ok at end u)
  waited_for_kept waits.Both at end (Int n ∷ Int m ∷ []) e =
      let deeds : ℕ → ℕ → Got (List Deed) = λ c u. Known (Goes at ∷ Stays c ∷ Says (Usec u) ∷ Goes end ∷ []) in
      let go : ℕ → Got (List Deed) = λ c. then_get (usec_of m) (deeds c) in
      wait_kept (cycles_of n) go (λ c. wait_kept (usec_of m) (deeds c) (λ u. w.wait_ok at end c u e))
  waited_for_kept waits.Cycles at end [] e = tt
  waited_for_kept waits.Cycles at end (Bit b ∷ vs) e = tt
  waited_for_kept waits.Cycles at end (Int n ∷ v ∷ vs) e = tt
  waited_for_kept waits.Usec at end [] e = tt
  waited_for_kept waits.Usec at end (Bit b ∷ vs) e = tt
  waited_for_kept waits.Usec at end (Int n ∷ v ∷ vs) e = tt
  waited_for_kept waits.Both at end [] e = tt
  waited_for_kept waits.Both at end (Bit b ∷ vs) e = tt
  waited_for_kept waits.Both at end (Int n ∷ []) e = tt
  waited_for_kept waits.Both at end (Int n ∷ Bit b ∷ vs) e = tt
  waited_for_kept waits.Both at end (Int n ∷ Int m ∷ v ∷ vs) e = tt

  waits_same : (g : Got (List Deed)) (s : State) → WaitIsOk g → Fits s
      → SameGot (then_get g (λ deeds. Known (Falls deeds s))) (then_get g (λ deeds. Known (Falls deeds (changed s))))
  waits_same (Known deeds) s n h = says_same deeds s n h
  waits_same (Faults k) s n h = fault_same k
  waits_same Stuck s n h = stuck_same

  wait_if : (t : Bool) (g : Got (List Deed)) (s : State) → (t ≡ true → WaitIsOk g) → Fits s
      → SameGot (cond t (then_get g (λ deeds. Known (Falls deeds s))) Stuck) (cond t (then_get g (λ deeds. Known (Falls deeds (changed s)))) Stuck)
  wait_if true g s n h = waits_same g s (n refl) h
  wait_if false g s n h = stuck_same

  pub waited_same : (kind : WaitKind) (at end : Tap) → SameEffect (waited kind at end)
  waited_same kind at end vs s h = wait_if (is_stable_state at) (waited_for kind at end vs) s (waited_for_kept kind at end vs) h

  pub tuned_same : SameEffect tuned
  tuned_same [] s h = record { same = refl; kept = (w.says_ok (Hertz 0) refl, h) }
  tuned_same (Int n ∷ []) s h =
      let go : State → ℕ → Got Did = λ t hertz. Known (Falls (Says (Hertz hertz) ∷ []) t) in
      then_same (hertz_of n) (go s) (go (changed s)) (λ hertz. record { same = refl; kept = (w.says_ok (Hertz hertz) refl, h) })
  tuned_same (Int n ∷ v ∷ vs) s h = stuck_same
  tuned_same (Bit b ∷ vs) s h = stuck_same

  captures_same : (register : Register) (bits : List Bool) (to : Option Place) (compare : Option Comparison) (s : State) → 0 < length bits → Fits s
      → SameGot (Known (Captures (scan_of register (settings_of register s) bits) (λ captured. landed to compare captured s)))
      (Known (Captures (scan_of register (settings_of register (changed s)) bits) (λ captured. landed to compare captured (changed s))))
  captures_same registers.Instruction bits to compare s some h = record {
    same = ap (λ job. Known (Captures job (λ captured. changed (landed to compare captured s)))) (w.ir_job s.ir bits h.0);
    kept = (w.ir_job_ok s.ir bits h.0 some, λ bits. h);
  }
  captures_same registers.Data bits to compare s some h = record {
    same = ap (λ job. Known (Captures job (λ captured. changed (landed to compare captured s)))) (w.dr_job s.dr bits h.1);
    kept = (w.dr_job_ok s.dr bits h.1 some, λ bits. h);
  }

  then_long : (n : ℕ) (g : Got (List Bool)) (go go2 : List Bool → Got Did) → GotLong n g → ((bits : List Bool) → length bits ≡ n → SameGot (go bits) (go2 bits))
      → SameGot (then_get g go) (then_get g go2)
  then_long n (Known bits) go go2 h k = k bits h
  then_long n (Faults f) go go2 h k = fault_same f
  then_long n Stuck go go2 h k = stuck_same

  scan_asked_same : (parts : ScanParts) (found : Found) (s : State) (n : ℕ) → 0 < n → Fits s → SameGot (scan_asked parts found s n) (scan_asked parts found (changed s) n)
  scan_asked_same parts found s n some h =
      let t : State = changed s in
      let scans : State → List Bool → Option Place → Option Comparison → Got Did =
      λ t bits to compare. Known (Captures (scan_of parts.register (settings_of parts.register t) bits) (λ captured. landed to compare captured t)) in
      let compares : State → List Bool → Option Place → Got Did = λ t bits to. then_get (compare_asked n parts.compare found.compare) (scans t bits to) in
      let catches : State → List Bool → Got Did = λ t bits. then_get (target_asked n found.target) (compares t bits) in
      then_long n (asked parts.source n found.data_bits) (catches s) (catches t) (asked_long parts.source n found.data_bits) (λ bits e.
      then_same (target_asked n found.target) (compares s bits) (compares t bits) (λ to.
      then_same (compare_asked n parts.compare found.compare) (scans s bits to) (scans t bits to) (λ compare. captures_same parts.register bits to compare s (some_of n bits some e) h)))
    where
      some_of : (n : ℕ) (bits : List Bool) → 0 < n → length bits ≡ n → 0 < length bits
      some_of n bits h e = omega arith

  then_some : (b : Bool) (n : ℕ) (k : RunFault) (go go2 : ℕ → Got Did) → (b ≡ true → 0 < n) → ((m : ℕ) → 0 < m → SameGot (go m) (go2 m))
      → SameGot (then_get (passed b k n) go) (then_get (passed b k n) go2)
  then_some true n k go go2 h g = g n (h refl)
  then_some false n k go go2 h g = fault_same k

  some_length : (z : ℤ) (b : Bool) → int_le (pos 1) z && b ≡ true → 0 < nat_abs z
  some_length (pos zero) b e = absurd (false≢true e)
  some_length (pos (suc n)) b e = omega arith
  some_length (negsuc n) b e = absurd (false≢true e)

  pub scanned_same : (parts : ScanParts) → SameEffect (scanned parts)
  scanned_same parts [] s h = stuck_same
  scanned_same parts (Bit b ∷ vs) s h = stuck_same
  scanned_same parts (Int z ∷ vs) s h =
      let t : State = changed s in
      let go : State → Found → Got Did = λ t found. then_get (length_between 1 scan_limit z) (scan_asked parts found t) in
      let least : Bool = int_le (pos 1) z in
      let most : Bool = int_le z (pos scan_limit) in
      then_same (scan_found s.store.variables parts vs) (go s) (go t) (λ found.
      then_some (least && most) (nat_abs z) BadLength (scan_asked parts found s) (scan_asked parts found t) (some_length z most) (λ n some. scan_asked_same parts found s n some h))

  pub surrounded_same : PaddingRule → (which : Padding) (source : Option Source) → SameEffect (surrounded which source)
  surrounded_same r which source [] s h = stuck_same
  surrounded_same r which source (Bit b ∷ vs) s h = stuck_same
  surrounded_same r which source (Int z ∷ vs) s h =
      let go : State → List Bool → Got Did = λ t bits. Known (Falls [] (with_padding which bits t)) in
      then_same (padding_bits s.store.variables source vs z) (go s) (go (changed s)) (λ bits. record {
        same = ap (λ t. Known (Falls [] t)) (r.same which bits s);
        kept = (w.none_ok, r.kept which bits s h);
      })

  stop_if : (t : Bool) (s u : State) → (t ≡ true → (u ≡ changed s) × Fits s) → SameGot (cond t (Known (Falls [] s)) Stuck) (cond t (Known (Falls [] u)) Stuck)
  stop_if true s u h = let p = h refl in record { same = ap (λ t. Known (Falls [] t)) p.0; kept = (w.none_ok, p.1) }
  stop_if false s u h = stuck_same

  pub stopped_same : (register : Register) (tap : Tap) → SameEffect (stopped register tap)
  stopped_same register tap (v ∷ vs) s h = stuck_same
  stopped_same registers.Data tap [] s h =
      stop_if (is_stable_state tap) (with_stop registers.Data tap s) (with_stop registers.Data tap (changed s))
      (λ e. (ap (λ x. record (changed s) { dr = x }) (sym (w.dr_stop s.dr tap)), (h.0, w.dr_stop_ok s.dr tap e h.1, h.2)))
  stopped_same registers.Instruction tap [] s h =
      stop_if (is_stable_state tap) (with_stop registers.Instruction tap s) (with_stop registers.Instruction tap (changed s))
      (λ e. (ap (λ x. record (changed s) { ir = x }) (sym (w.ir_stop s.ir tap)), (w.ir_stop_ok s.ir tap e h.0, h.1, h.2)))

  -- another scope that finds the same variables, and the changed place after the statement
  abbrev pub beside : Scope → Scope → Scope
  beside scope other = record other { look = scope.look; follow = w.place scope.follow }

  module _ (scope other : Scope) where
    -- the effect of a statement, in both
    abbrev pub SameEffects : BodyTree → Type 0
    SameEffects b = (vs : List Value) (s : State) → Fits s → SameGot (effect scope b vs s) (effect (beside scope other) b vs (changed s))

    -- a line for each statement

    pub effect_same : (b : BodyTree) → (sets_padding b ≡ true → PaddingRule) → SameEffects b
    effect_same (pad which size bits) e = surrounded_same (e refl) which (given_source scope.look bits)
    effect_same (call name) e = called_same scope.follow
    effect_same (for_loop name from to step) e = looped_same (scope.look.variable name) scope.follow
    effect_same (next name) e = repeated_same (scope.look.variable name)
    effect_same (export key (exported_value x)) e = exported_same key
    effect_same (export key (exported_array a)) e = bits_same key (source_of scope.look a)
    effect_same end_procedure e = returned_same
    effect_same (boolean name (Some b)) e = assigned_same (scope.look.variable name)
    effect_same (boolean_array name size (Some bits)) e = copied_same (IntoWhole (scope.look.variable name)) (These bits)
    effect_same (integer name (Some z)) e = assigned_same (scope.look.variable name)
    effect_same (integer_array name size (Some zs)) e = integers_same (scope.look.variable name) zs
    effect_same (assign name x) e = assigned_same (scope.look.variable name)
    effect_same (assign_element name index x) e = element_same (scope.look.variable name)
    effect_same (assign_array name a) e = copied_same (IntoWhole (scope.look.variable name)) (source_of scope.look a)
    effect_same (assign_range name high low a) e = copied_same (IntoRange of_programs (scope.look.variable name)) (source_of scope.look a)
    effect_same (goto name) e = jumped_same
    effect_same (if_then x body) e = parted_same
    effect_same (push x) e = pushed_same
    effect_same (pop (scalar name)) e = popped_same (given_kind (scope.look.kind name)) (assigned (scope.look.variable name)) (assigned_same (scope.look.variable name))
    effect_same (pop (element name index)) e = popped_same (given_kind (scope.look.kind name)) (element_assigned (scope.look.variable name)) (element_same (scope.look.variable name))
    effect_same (print parts) e = λ vs s h. printed_same (joined parts vs) s h
    effect_same (exit x) e = exited_same
    effect_same (scan register size source to compare) e = scanned_same (scan_parts scope.look register source to compare)
    effect_same (stop register state) e = stopped_same register (tap_of state)
    effect_same (state_list states) e = moved_same (map tap_of states)
    effect_same (wait_cycles state cycles usec end) e = waited_same (kind_of_wait usec) (tap_or_idle state) (tap_or_idle end)
    effect_same (wait_usec state usec end) e = waited_same waits.Usec (tap_or_idle state) (tap_or_idle end)
    effect_same (frequency hertz) e = tuned_same
    effect_same _ e = λ vs s h. stuck_same

  -- ---- turns

  abbrev pub changed_target : Option ℕ → Option ℕ
  changed_target None = None
  changed_target (Some to) = Some (w.place to)

  abbrev pub changed_turned : Turned → Turned
  changed_turned (Leads deeds place s) = Leads deeds (w.place place) (changed s)
  changed_turned (Over deeds ending s) = Over deeds ending (changed s)
  changed_turned (Broken deeds fault s) = Broken deeds fault (changed s)
  changed_turned (Scanning deeds job rest) = Scanning deeds (w.job job) (λ bits. changed_turned (rest bits))
  changed_turned (NoTurn deeds) = NoTurn deeds

  abbrev pub KeptTurned : Turned → Type 0
  KeptTurned (Leads deeds place s) = w.DeedsOk deeds × Fits s
  KeptTurned (Over deeds ending s) = w.DeedsOk deeds × Fits s × w.EndOk ending
  KeptTurned (Broken deeds fault s) = w.DeedsOk deeds × Fits s
  KeptTurned (Scanning deeds job rest) = w.DeedsOk deeds × w.JobOk job × ((bits : List Bool) → KeptTurned (rest bits))
  KeptTurned (NoTurn deeds) = w.DeedsOk deeds

  pub record SameTurned (t u : Turned) : Type 0 where
    pub same : u ≡ changed_turned t
    pub kept : KeptTurned t

  with_got_same : {A : Type 0} (g : Got A) (s : State) (go go2 : A → Turned) → Fits s → ((x : A) → SameTurned (go x) (go2 x))
      → SameTurned (with_got g s go) (with_got g (changed s) go2)
  with_got_same (Known x) s go go2 h k = k x
  with_got_same (Faults f) s go go2 h k = record { same = refl; kept = (w.none_ok, h) }
  with_got_same Stuck s go go2 h k = record { same = refl; kept = w.none_ok }

  pub changed_preceded : (before : List Deed) (t : Turned) → preceded before (changed_turned t) ≡ changed_turned (preceded before t)
  changed_preceded before (Leads ds place s) = refl
  changed_preceded before (Over ds ending s) = refl
  changed_preceded before (Broken ds k s) = refl
  changed_preceded before (Scanning ds job rest) = refl
  changed_preceded before (NoTurn ds) = refl

  kept_preceded : (before : List Deed) (t : Turned) → w.DeedsOk before → KeptTurned t → KeptTurned (preceded before t)
  kept_preceded before (Leads ds place s) b h = (w.both_ok before ds b h.0, h.1)
  kept_preceded before (Over ds ending s) b h = (w.both_ok before ds b h.0, h.1, h.2)
  kept_preceded before (Broken ds k s) b h = (w.both_ok before ds b h.0, h.1)
  kept_preceded before (Scanning ds job rest) b h = (w.both_ok before ds b h.0, h.1, h.2)
  kept_preceded before (NoTurn ds) b h = w.both_ok before ds b h

  pub preceded_same : (before : List Deed) (t u : Turned) → w.DeedsOk before → SameTurned t u → SameTurned (preceded before t) (preceded before u)
  preceded_same before t u b h = record { same = ap (preceded before) h.same ∙ changed_preceded before t; kept = kept_preceded before t b h.kept }

  pub changed_piece : (piece : ℕ) (t : Turned) → turn_of_piece piece (changed_turned t) ≡ changed_turned (turn_of_piece piece t)
  changed_piece piece (Leads ds place s) = refl
  changed_piece piece (Over ds ending s) = refl
  changed_piece piece (Broken ds k s) = refl
  changed_piece piece (Scanning ds job rest) = λ j. Scanning ds (w.job job) (λ bits. changed_piece piece (rest bits) j)
  changed_piece piece (NoTurn ds) = refl

  kept_piece : (piece : ℕ) (t : Turned) → KeptTurned t → KeptTurned (turn_of_piece piece t)
  kept_piece piece (Leads ds place s) h = h
  kept_piece piece (Over ds ending s) h = h
  kept_piece piece (Broken ds k s) h = (h.0, h.1, w.fault_ok k piece)
  kept_piece piece (Scanning ds job rest) h = (h.0, h.1, λ bits. kept_piece piece (rest bits) (h.2 bits))
  kept_piece piece (NoTurn ds) h = h

  pub piece_same : (piece : ℕ) (t u : Turned) → SameTurned t u → SameTurned (turn_of_piece piece t) (turn_of_piece piece u)
  piece_same piece t u h = record { same = ap (turn_of_piece piece) h.same ∙ changed_piece piece t; kept = kept_piece piece t h.kept }

  -- the entries of the chosen procedures are those of the others
  abbrev pub SameEntries : (ℕ → ℕ) → (ℕ → ℕ) → Type 0
  SameEntries e1 e2 = (p : ℕ) (ps : List ℕ) → w.ChosenOk (p ∷ ps) → (e2 p ≡ w.place (e1 p)) × w.ChosenOk ps

  pub chosen_same : (e1 e2 : ℕ → ℕ) → SameEntries e1 e2 → (s : State) → Fits s → (ps : List ℕ) → w.ChosenOk ps
      → SameTurned (next_chosen e1 s ps) (next_chosen e2 (changed s) ps)
  chosen_same e1 e2 e s h [] b = record { same = refl; kept = (w.none_ok, (h.0, h.1, w.chosen_none), w.exit_ok (pos 0)) }
  chosen_same e1 e2 e s h (p ∷ ps) b =
      let q = e p ps b in
      record { same = ap (λ n. Leads [] n (changed (record s { chosen = ps }))) q.0; kept = (w.none_ok, (h.0, h.1, q.1)) }

  pub jumps_same : (to : Option ℕ) (s : State) → Fits s → SameTurned (jumps_to to s) (jumps_to (changed_target to) (changed s))
  jumps_same None s h = record { same = refl; kept = w.none_ok }
  jumps_same (Some place) s h = record { same = refl; kept = (w.none_ok, h) }

  led_same : (e1 e2 : ℕ → ℕ) → SameEntries e1 e2 → (to : Option ℕ) (did : Did) (go go2 : State → Turned) → KeptDid did
      → ((s : State) → Fits s → SameTurned (go s) (go2 (changed s))) → SameTurned (led e1 to did go) (led e2 (changed_target to) (changed_did did) go2)
  led_same e1 e2 e to (Falls ds s) go go2 h k = preceded_same ds (go s) (go2 (changed s)) h.0 (k s h.1)
  led_same e1 e2 e to (Captures job lands) go go2 h k = record {
    same = λ j. Scanning [] (w.job job) (λ bits. (k (lands bits) (h.1 bits)).same j);
    kept = (w.none_ok, h.0, λ bits. (k (lands bits) (h.1 bits)).kept);
  }
  led_same e1 e2 e to (Jumps s) go go2 h k = jumps_same to s h
  led_same e1 e2 e to (Resumes place s) go go2 h k = record { same = refl; kept = (w.none_ok, h) }
  led_same e1 e2 e to (Returns s) go go2 h k = chosen_same e1 e2 e s h s.chosen h.2
  led_same e1 e2 e to (Ends ending s) go go2 h k = record { same = refl; kept = (w.none_ok, h.0, h.1) }

  got_led_same : (e1 e2 : ℕ → ℕ) → SameEntries e1 e2 → (to : Option ℕ) (g g2 : Got Did) (s : State) (go go2 : State → Turned) → Fits s → SameGot g g2
      → ((t : State) → Fits t → SameTurned (go t) (go2 (changed t)))
      → SameTurned (with_got g s (λ did. led e1 to did go)) (with_got g2 (changed s) (λ did. led e2 (changed_target to) did go2))
  got_led_same e1 e2 e to g g2 s go go2 h r k =
      let by : (g : Got Did) → KeptGot g → SameTurned (with_got g s (λ did. led e1 to did go)) (with_got (changed_got g) (changed s) (λ did. led e2 (changed_target to) did go2)) =
      λ g kept. by_got g kept in
      subst (λ x. SameTurned (with_got g s (λ did. led e1 to did go)) (with_got x (changed s) (λ did. led e2 (changed_target to) did go2))) (sym r.same) (by g r.kept)
    where
      by_got : (g : Got Did) → KeptGot g → SameTurned (with_got g s (λ did. led e1 to did go)) (with_got (changed_got g) (changed s) (λ did. led e2 (changed_target to) did go2))
      by_got (Known did) kept = led_same e1 e2 e to did go go2 kept k
      by_got (Faults f) kept = record { same = refl; kept = (w.none_ok, h) }
      by_got Stuck kept = record { same = refl; kept = w.none_ok }

  module _ (scope other : Scope) (e : SameEntries scope.entry other.entry) where
    abbrev second : Scope
    second = beside scope other

    -- each of these rows may set a padding if it does, and leads to the changed place
    abbrev pub SameRows : List BodyTree → Type 0
    SameRows [] = Unit {0}
    SameRows (b ∷ bs) = (sets_padding b ≡ true → PaddingRule) × (target second b ≡ changed_target (target scope b)) × SameRows bs

    pub carried_same : (b : BodyTree) (s : State) (go go2 : State → Turned) → (sets_padding b ≡ true → PaddingRule) → target second b ≡ changed_target (target scope b) → Fits s
        → ((t : State) → Fits t → SameTurned (go t) (go2 (changed t))) → SameTurned (carried scope b s go) (carried second b (changed s) go2)
    carried_same b s go go2 pads to h k =
        let t : State = changed s in
        let does : List Value → Turned = λ values. with_got (effect scope b values s) s (λ did. led scope.entry (target scope b) did go) in
        let does2 : Option ℕ → List Value → Turned = λ o values. with_got (effect second b values t) t (λ did. led other.entry o did go2) in
        subst (λ o. SameTurned (carried scope b s go) (with_got (values_of scope.look s.store.variables (operands second b)) t (does2 o))) (sym to)
        (with_got_same (values_of scope.look s.store.variables (operands scope b)) s does (does2 (changed_target (target scope b))) h
        (λ values. got_led_same scope.entry other.entry e (target scope b) (effect scope b values s) (effect second b values t) s go go2 h (effect_same scope other b pads values s h) k))

    pub rows_same : (bs : List BodyTree) → SameRows bs → (s : State) → Fits s → SameTurned (rows_done scope bs s) (rows_done second bs (changed s))
    rows_same [] r s h = record { same = refl; kept = (w.none_ok, h) }
    rows_same (b ∷ bs) r s h = carried_same b s (rows_done scope bs) (rows_done second bs) r.0 r.1 h (λ t k. rows_same bs r.2 t k)
