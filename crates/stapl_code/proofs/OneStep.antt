-- One instruction of a valid code finds its operands, and keeps what holds of the state: a line for each instruction,
-- and one rule.
use Rattle.std.proofs.Common.{◌≡◌, ℕ, zero, suc, ◌+◌, ◌-◌, ◌<◌, ◌≤◌, Bool, true, false, List, [], ◌∷◌, ◌++◌, Option, Some, None, length, arith, refl, sym, ap, ◌∙◌, subst}
use Rattle.std.specs.Prelude.{ℤ, pos, int_lt, int_le, ◌+ℤ◌, ◌==◌, nat_abs, nat_lt, if◌then◌else◌, slice_get, slice_set, map, All}
use Rattle.std.specs.Int.{int_wrap, w32}
use Rattle.std.specs.Ordering.{int_eq}
use Rattle.std.specs.List.{list_all}
use Rattle.std.proofs.lemmas.Bool.{and_parts, eqb-true}
use Rattle.std.proofs.lemmas.List.{append-nil}
use Rattle.tap_states.specs.declared.Tap.{Tap}
use Rattle.tap_states.specs.Tap.{is_stable_state}
use Rattle.stapl_meaning.specs.declared.waits.WaitKind.{WaitKind}
use Rattle.stapl_meaning.specs.declared.waits.WaitKind.TheVariants as waits
use Rattle.stapl_lexer.specs.declared.terminal.Padding.{Padding}
use Rattle.stapl_lexer.specs.declared.terminal.Padding.TheVariants as paddings
use Rattle.stapl_lexer.specs.declared.terminal.Register.{Register}
use Rattle.stapl_lexer.specs.declared.terminal.Register.TheVariants as registers
use Rattle.dev_card.specs.Scans.{BoardScan}
use Rattle.stapl_meaning.specs.Deeds.{Deed, Says, Goes, Stays, Chain, deed_chain, deeds_chain}
use Rattle.stapl_meaning.specs.Scans.{with_padding, with_stop, scanned, surrounded, stopped}
use Rattle.stapl_meaning.specs.declared.events.Event.TheVariants as events
use Rattle.stapl_meaning.specs.declared.events.ExportValue.TheVariants.{Array}
use Rattle.stapl_meaning.specs.declared.events.RunFault.{RunFault}
use Rattle.stapl_meaning.specs.declared.events.RunFault.TheVariants.{BadChar, BadCount, ZeroStep, RecordsFull}
use Rattle.stapl_meaning.specs.declared.values.Held.{Held}
use Rattle.stapl_meaning.specs.declared.values.Held.TheVariants as held
use Rattle.stapl_meaning.specs.declared.values.Value.{Value}
use Rattle.stapl_meaning.specs.declared.values.Value.TheVariants.{Int, Bit}
use Rattle.stapl_meaning.specs.declared.values.ValueKind.{ValueKind}
use Rattle.stapl_meaning.specs.declared.values.ValueKind.TheVariants as kinds
use Rattle.stapl_meaning.specs.Values.{Got, Known, Faults, Stuck, then_get, combined, is_index, passed, range_held, element_of, index_held, source_bits, source_integer, integer_of, scalar_of}
use Rattle.stapl_meaning.specs.Values as values
use Rattle.stapl_meaning.specs.declared.records.Loop.{Loop}
use Rattle.stapl_meaning.specs.declared.records.Record.{Record}
use Rattle.stapl_meaning.specs.declared.records.Record.TheVariants.{Pushed, Called, Looped}
use Rattle.stapl_meaning.specs.States.{ScanSettings, State, Did, Turned, Leads, Over, Broken, Scanning, NoTurn, next_chosen, jumps_to}
use Rattle.stapl_meaning.specs.States as did
use Rattle.stapl_meaning.specs.Effects.{scalar_written, element_assigned, IntoWhole, copied, integers_set, written, way_of, with_variables, with_records, record_limit, number_of, value_as, topmost, returned_from, with_loop, looped, nearest_loop, is_over, integer_held, went_round, after_value, printed, exported, bits_exported, cycles_of, usec_of, hertz_of, most_cycles, waited_for, waited, tuned}
use Rattle.stapl_code.specs.declared.raw.VarDef.{VarDef}
use Rattle.stapl_code.specs.declared.operators.Operator.{Operator}
use Rattle.stapl_code.specs.declared.instr.PrintPart.{PrintPart}
use Rattle.stapl_code.specs.declared.instr.PrintPart.TheVariants as parts
use Rattle.stapl_code.specs.declared.instr.ExportPart.TheVariants as exports
use Rattle.stapl_code.specs.declared.instr.Source.{Source}
use Rattle.stapl_code.specs.declared.instr.Instr.{Instr}
use Rattle.stapl_code.specs.declared.instr.Instr.TheVariants.{Turn, Push, PushBit, Load, LoadAt, CheckIndex, CheckRange, Store, StoreAt, Unary, Binary, ToInt, CopyBits, SetBits, SetInts, For, Next, PushRecord, PopRecord, Call, Jump, JumpIfZero, EndProc, Print, Export, CheckChar, Exit, Scan as Scans, Stop, Pad, State as GoThrough, Wait, Frequency}
use Rattle.stapl_code.specs.Operators.{operator_table, unary_kinds, unary_results}
use Rattle.stapl_code.specs.Machine.{Constants, AnInteger, AnArray, OfBits, OfInts, source_slots, source_wants, dest_slots, dest_want, target_of, known_literal, known_source, Made, Puts, PutsFrom, PutsTwo, unrecorded, Does, puts, does, one, two, bit_of, operated_by, signed_by, Slot, Of, OfScalar, OfElement, slot_of, sides_of, result_of, part_slots, wait_slots, frequency_slots, given_slots, scan_slots, known_given, known_scan, takes, gives, wants, known_text, parts_text, made, lands, Step, Falls, Acts, Scanned, Stops, Faulted, Wrong, taken_onto, taken, on_taken, acted, entry_of, on_made, step}
use Rattle.stapl_code.specs.Ranges.{IsPart, IsSource, IsInstr}
use Rattle.stapl_code.specs.Kinds.{then_kinds, scalar_kind, variable_kind, element_kind, is_of_kind, is_met, put_on, left_by, clears, slot_kind, all_off, all_on, kinds_after}
use Rattle.stapl_code.specs.Valid.{is_turn, departs, is_target, leads_well, is_stable_if, ends_stable, rests_well}
use Rattle.stapl_code.specs.Safe.{Fits, AllFit, AllBelow}
use Rattle.stapl_code.proofs.KindCounts.{then_some, met_and_after}
use Rattle.stapl_code.proofs.Fitting.{FitAt, fit_at, fit_set}
use Rattle.stapl_code.proofs.ArraySteps.{IsGot, IsAnswer, element_good, index_good, range_good, Resolves, source_good, integer_good, Writes, element_stored, integers_good, Copies, copy_good, bits_good}
use Rattle.stapl_code.proofs.Operands.{kind_of, kinds_of, EachOf, each_of, each_more, Each, each_at, each_map, each_filled, taken_as}
use Rattle.stapl_code.proofs.ScanSteps.{ScansWell, PadsWell, scan_good, padding_good}
use Rattle.stapl_code.proofs.OperatorKinds.{GotOf, CombinesAt, combined_good, Signs, signed_good}

none_are_left : (ops : List Value) (after : List ValueKind) → left_by true (kinds_of ops) ≡ Some after → ops ≡ []
none_are_left [] after e = refl
none_are_left (v ∷ ops) after e = absurd cc

are_left : (clear : Bool) (ks after : List ValueKind) → left_by clear ks ≡ Some after → ks ≡ after
are_left true [] after e = cc
are_left true (k ∷ ks) after e = absurd cc
are_left false ks after e = cc

abbrev TextGood : Got (List ℕ) → Type 0
TextGood (Known bytes) = Unit {0}
TextGood (Faults k) = Unit {0}
TextGood Stuck = ⊥

abbrev IsThere : Option (List ℕ) → Type 0
IsThere None = ⊥
IsThere (Some text) = Unit {0}

text_there : (n : ℕ) (texts : List (List ℕ)) → n < length texts → IsThere (slice_get texts n)
text_there n [] h = absurd (omega arith)
text_there zero (t ∷ texts) h = tt
text_there (suc n) (t ∷ texts) h = text_there n texts (omega arith)

text_good : (o : Option (List ℕ)) (more : Got (List ℕ)) → IsThere o → TextGood more →
    TextGood (then_get (known_text o) (λ bytes. then_get more (λ rest. Known (bytes ++ rest))))
text_good None more there h = absurd there
text_good (Some bytes) (Known rest) there h = tt
text_good (Some bytes) (Faults k) there h = tt
text_good (Some bytes) Stuck there h = absurd h

value_good : (v : Value) (more : Got (List ℕ)) → TextGood more → TextGood (after_value v more)
value_good v (Known rest) h = tt
value_good v (Faults k) h = tt
value_good v Stuck h = absurd h

character_good : (b : Bool) (z : ℤ) (more : Got (List ℕ)) → TextGood more →
    TextGood
    (then_get (passed b BadChar (Int z)) (λ w. then_get (integer_of w) (λ z. then_get more (λ bytes. Known (nat_abs z ∷ bytes)))))
character_good true z (Known rest) h = tt
character_good true z (Faults k) h = tt
character_good true z Stuck h = absurd h
character_good false z more h = tt

-- the places that calls and loops of records keep
abbrev pub ArePlaced : (ℕ → Type 0) → List Record → Type 0
ArePlaced P [] = Unit {0}
ArePlaced P (Pushed z ∷ records) = ArePlaced P records
ArePlaced P (Called place ∷ records) = P place × ArePlaced P records
ArePlaced P (Looped l ∷ records) = P l.place × ArePlaced P records

-- deeds that lead from a stable state to a stable state
abbrev pub KeepsStable : List Deed → Type 0
KeepsStable deeds = (k : Chain) → is_stable_state k.tap ≡ true → is_stable_state (deeds_chain k deeds).tap ≡ true

-- moves that end in a stable state
ends_at : (t : Tap) (states : List Tap) (k : Chain) → is_stable_if (slice_get (t ∷ states) (length (t ∷ states) - 1)) ≡ true →
    is_stable_state (deeds_chain k (map Goes (t ∷ states))).tap ≡ true
ends_at t [] k stable = stable
ends_at t (u ∷ states) k stable =
    let last : length (t ∷ u ∷ states) - 1 ≡ suc (length (u ∷ states) - 1) = omega arith in
    ends_at u states (deed_chain k (Goes t)) (ap (λ (n : ℕ). is_stable_if (slice_get (t ∷ u ∷ states) n)) (sym last) ∙ stable)

goes_stable : (states : List Tap) → 1 ≤ length states → ends_stable states ≡ true → KeepsStable (map Goes states)
goes_stable [] some stable = absurd (omega (arith, some))
goes_stable (t ∷ states) some stable = λ k before. ends_at t states k stable

module _
    (variables : List VarDef) (procedures : ℕ) (entries : List ℕ) (constants : Constants) (IsPlace : ℕ → Type 0) where
  -- what holds of the state between two instructions
  pub record Good (s : State) : Type 0 where
    pub variables_fit : AllFit variables s.store.variables
    pub chosen_below : AllBelow procedures s.chosen
    pub records_placed : ArePlaced IsPlace s.records
    pub ir_stable : is_stable_state s.ir.stop ≡ true
    pub dr_stable : is_stable_state s.dr.stop ≡ true

  -- what the captured bits decide
  abbrev pub LandsGood : BoardScan → (List Bool → State) → Type 0
  LandsGood scan lands = (bits : List Bool) → length bits ≡ length scan.bits → Good (lands bits)

  -- what holds of a turn's end: it leads to a place
  abbrev pub TurnedGood : Turned → Type 0
  TurnedGood (Leads deeds place s) = IsPlace place × Good s × KeepsStable deeds
  TurnedGood (Over deeds ending s) = Unit {0}
  TurnedGood (Broken deeds k s) = Unit {0}
  TurnedGood (Scanning deeds scan rest) = ⊥
  TurnedGood (NoTurn deeds) = ⊥

  abbrev pub StepGood : List ValueKind → Step → Type 0
  StepGood after (Falls ops s) = (kinds_of ops ≡ after) × Good s
  StepGood after (Acts deeds ops s) = (kinds_of ops ≡ after) × Good s × KeepsStable deeds
  StepGood after (Scanned scan ops lands) = (kinds_of ops ≡ after) × (is_stable_state scan.stop ≡ true) × LandsGood scan lands
  StepGood after (Stops ops t) = (ops ≡ []) × TurnedGood t
  StepGood after (Faulted k s) = Unit {0}
  StepGood after Wrong = ⊥

  -- where the procedures begin are places
  module _ (begin : (p : ℕ) → p < procedures → IsPlace (entry_of entries p)) where
    pub chosen_good : (s : State) → Good s → (ps : List ℕ) → AllBelow procedures ps →
        TurnedGood (next_chosen (entry_of entries) s ps)
    chosen_good s good [] below = tt
    chosen_good s good (p ∷ ps) below = (
      begin p below.0,
      record {
        variables_fit = good.variables_fit;
        chosen_below = below.1;
        records_placed = good.records_placed;
        ir_stable = good.ir_stable;
        dr_stable = good.dr_stable;
      },
      λ k h. h,
    )

  -- the instruction that stands here
  module _ (here : ℕ) where
    -- the slots give these kinds
    abbrev Adds : List Slot → List ValueKind → Type 0
    Adds gs new = (below : List ValueKind) → all_on variables gs below ≡ Some (new ++ below)

    abbrev IsTarget : Option ℕ → Type 0
    IsTarget None = ⊥
    IsTarget (Some to) = IsPlace to

    -- what an instruction makes of its operands is what its columns say
    abbrev MadeGood : List Slot → Bool → Option ℕ → Got Made → Type 0
    MadeGood gs clear to (Known (Puts v)) = Adds gs (kind_of v ∷ [])
    MadeGood gs clear to (Known (PutsFrom v t)) = Adds gs (kind_of v ∷ []) × Good t
    MadeGood gs clear to (Known (PutsTwo x y)) = Adds gs (kind_of y ∷ kind_of x ∷ [])
    MadeGood gs clear to (Known (Does (did.Falls deeds t))) = Adds gs [] × Good t × KeepsStable deeds
    MadeGood gs clear to (Known (Does (did.Captures scan lands))) = Adds gs [] × (is_stable_state scan.stop ≡ true) × LandsGood scan lands
    MadeGood gs clear to (Known (Does (did.Jumps t))) = (clear ≡ true) × IsTarget to × Good t
    MadeGood gs clear to (Known (Does (did.Resumes place t))) = (clear ≡ true) × IsPlace place × Good t
    MadeGood gs clear to (Known (Does (did.Returns t))) = (clear ≡ true) × Good t
    MadeGood gs clear to (Known (Does (did.Ends ending t))) = clear ≡ true
    MadeGood gs clear to (Faults k) = Unit {0}
    MadeGood gs clear to Stuck = ⊥

    puts_good : (clear : Bool) (to : Option ℕ) (slot : Slot) (g : Got Value) → GotOf (slot_kind variables slot) g →
        MadeGood (slot ∷ []) clear to (puts g)
    puts_good clear to slot (Known v) e = λ below. ap (λ o. then_kinds (put_on o below) (all_on variables [])) e
    puts_good clear to slot (Faults k) e = tt
    puts_good clear to slot Stuck e = absurd e

    bit_good : (b : ℕ) → b ≤ 1 → GotOf (Some kinds.Bit) (bit_of b)
    bit_good zero h = refl
    bit_good (suc zero) h = refl
    bit_good (suc (suc b)) h = absurd (omega arith)

    passed_good : (b : Bool) (z : ℤ) → GotOf (Some kinds.Int) (passed b BadChar (Int z))
    passed_good true z = refl
    passed_good false z = tt

    kept_good : (x y : ℤ) (g : Got Value) → IsAnswer g →
        MadeGood (Of kinds.Int ∷ Of kinds.Int ∷ []) false None (then_get g (λ z. Known (PutsTwo (Int x) (Int y))))
    kept_good x y (Known z) h = λ below. refl
    kept_good x y (Faults k) h = tt
    kept_good x y Stuck h = absurd h

    is_put : (o : Option ValueKind) (mid after : List ValueKind) → then_kinds (put_on o mid) (all_on variables []) ≡ Some after →
        (k : ValueKind) × (o ≡ Some k)
    is_put None mid after e = absurd cc
    is_put (Some k) mid after e = (k, refl)

    load_good : (ov : Option VarDef) (oh : Option Held) (k : ValueKind) → FitAt ov oh → variable_kind ov ≡ Some k →
        GotOf (variable_kind ov) (scalar_of oh)
    load_good None oh k f e = absurd cc
    load_good (Some v) None k f e = absurd f
    load_good (Some v) (Some (held.Int z)) k f e = ap (λ (n : ℕ). scalar_kind n) f
    load_good (Some v) (Some (held.Bit b)) k f e = ap (λ (n : ℕ). scalar_kind n) f
    load_good (Some v) (Some (held.Ints zs)) k f e = absurd (let none = ap (λ (n : ℕ). scalar_kind n) f.0 in cc)
    load_good (Some v) (Some (held.Bits bs)) k f e = absurd (let none = ap (λ (n : ℕ). scalar_kind n) f.0 in cc)

    binary_good : (clear : Bool) (to : Option ℕ) (o : Option Operator) → CombinesAt o →
        Each variables (sides_of o) (λ vs. MadeGood (result_of o) clear to (two vs (operated_by o)))
    binary_good clear to None c = absurd c
    binary_good clear to (Some o) c =
        each_more (Some o.sides) (λ x. EachOf (Some o.sides) (λ y. GotOf (Some o.result) (combined o.op x y)))
        (λ x. EachOf (Some o.sides) (λ y. MadeGood (Of o.result ∷ []) clear to (puts (combined o.op x y))))
        (λ x. each_more (Some o.sides) (λ y. GotOf (Some o.result) (combined o.op x y))
        (λ y. MadeGood (Of o.result ∷ []) clear to (puts (combined o.op x y)))
        (λ y. puts_good clear to (Of o.result) (combined o.op x y))) c

    unary_good : (clear : Bool) (to : Option ℕ) (o : Option ValueKind) (g : Option (Value → Got Value)) → Signs o g →
        Each variables (slot_of o) (λ vs. MadeGood (slot_of o) clear to (one vs (signed_by g)))
    unary_good clear to None g c = absurd c
    unary_good clear to (Some k) None c = absurd c
    unary_good clear to (Some k) (Some result) c =
        each_more (Some k) (λ x. GotOf (Some k) (result x)) (λ x. MadeGood (Of k ∷ []) clear to (puts (result x)))
        (λ x. puts_good clear to (Of k) (result x)) c

    abbrev PartsGood : List PrintPart → List Value → Type 0
    PartsGood list vs = TextGood (parts_text entries constants list vs)

    -- each part of a Print finds its text or its operand
    parts_good : (list : List PrintPart) → All (IsPart (length constants.texts)) list → Each variables (part_slots list) (PartsGood list)
    parts_good [] r = tt
    parts_good (parts.Text n ∷ rest) r =
        let there : IsThere (slice_get constants.texts n) = text_there n constants.texts (r 0 parts.Int (omega arith)) in
        each_map variables (part_slots rest) (PartsGood rest) (PartsGood (parts.Text n ∷ rest))
        (λ vs. text_good (slice_get constants.texts n) (parts_text entries constants rest vs) there)
        (parts_good rest (λ j d h. r (suc j) d (omega arith)))
    parts_good (parts.Int ∷ rest) r = λ z.
        each_map variables (part_slots rest) (PartsGood rest) (λ vs. PartsGood (parts.Int ∷ rest) (Int z ∷ vs))
        (λ vs. value_good (Int z) (parts_text entries constants rest vs))
        (parts_good rest (λ j d h. r (suc j) d (omega arith)))
    parts_good (parts.Bit ∷ rest) r = λ b.
        each_map variables (part_slots rest) (PartsGood rest) (λ vs. PartsGood (parts.Bit ∷ rest) (Bit b ∷ vs))
        (λ vs. value_good (Bit b) (parts_text entries constants rest vs))
        (parts_good rest (λ j d h. r (suc j) d (omega arith)))
    parts_good (parts.Char ∷ rest) r = λ z.
        each_map variables (part_slots rest) (PartsGood rest) (λ vs. PartsGood (parts.Char ∷ rest) (Int z ∷ vs))
        (λ vs. character_good (is_index z 256) z (parts_text entries constants rest vs))
        (parts_good rest (λ j d h. r (suc j) d (omega arith)))

    jumps_good : (to : Option ℕ) (s : State) → IsTarget to → Good s → TurnedGood (jumps_to to s)
    jumps_good None s there good = absurd there
    jumps_good (Some to) s there good = (there, good, λ k h. h)

    -- a value as one of a kind is of that kind
    kind_as : (kind : ValueKind) (z : ℤ) → kind_of (value_as kind z) ≡ kind
    kind_as kinds.Int z = refl
    kind_as kinds.Bit z = refl

    acted_good : (deeds : List Deed) (ops : List Value) (s : State) (after : List ValueKind) → kinds_of ops ≡ after →
        Good s → KeepsStable deeds → StepGood after (acted deeds ops s)
    acted_good [] ops s after e good keeps = (e, good)
    acted_good (d ∷ deeds) ops s after e good keeps = (e, good, keeps)

    module _ (s : State) (good : Good s) where
      printed_good : (clear : Bool) (to : Option ℕ) (text : Got (List ℕ)) → TextGood text →
          MadeGood [] clear to (does (printed text s))
      printed_good clear to (Known bytes) h = (λ below. refl, good, λ k stable. stable)
      printed_good clear to (Faults k) h = tt
      printed_good clear to Stuck h = absurd h

      -- the same with other variables
      pub good_with : (t : State) → t ≡ with_variables s t.store.variables → AllFit variables t.store.variables → Good t
      good_with t same fits =
          let now : Good (with_variables s t.store.variables) = record {
            variables_fit = fits;
            chosen_below = good.chosen_below;
            records_placed = good.records_placed;
            ir_stable = good.ir_stable;
            dr_stable = good.dr_stable;
          } in
          subst Good (sym same) now

      wrote_good : (g : Got Did) → IsGot (Writes variables s) g → MadeGood [] false None (does g)
      wrote_good (Known (did.Falls deeds t)) h =
          (λ below. refl, good_with t h.1 h.2, λ k stable. subst (λ ds. is_stable_state (deeds_chain k ds).tap ≡ true) (sym h.0) stable)
      wrote_good (Known _) h = absurd h
      wrote_good (Faults k) h = tt
      wrote_good Stuck h = absurd h

      way_good : (to : ℕ) → IsPlace to → (b : Bool) → MadeGood [] true (Some to) (Known (Does (way_of b s)))
      way_good to there true = (λ below. refl, good, λ k stable. stable)
      way_good to there false = (refl, there, good)

      with_settings_good : (ir dr : ScanSettings) → is_stable_state ir.stop ≡ true → is_stable_state dr.stop ≡ true → Good (record s { ir = ir; dr = dr })
      with_settings_good ir dr ir_stable dr_stable = record {
        variables_fit = good.variables_fit;
        chosen_below = good.chosen_below;
        records_placed = good.records_placed;
        ir_stable = ir_stable;
        dr_stable = dr_stable;
      }

      stored : (n : ℕ) (v : VarDef) (h : Held) → slice_get variables n ≡ Some v → Fits v h →
          Good (record s { store = record { variables = slice_set s.store.variables n h } })
      stored n v h at f = record {
        variables_fit = fit_set variables s.store.variables n v h good.variables_fit at f;
        chosen_below = good.chosen_below;
        records_placed = good.records_placed;
        ir_stable = good.ir_stable;
        dr_stable = good.dr_stable;
      }

      with_placed : (records : List Record) → ArePlaced IsPlace records → Good (with_records s records)
      with_placed records placed = record {
        variables_fit = good.variables_fit;
        chosen_below = good.chosen_below;
        records_placed = placed;
        ir_stable = good.ir_stable;
        dr_stable = good.dr_stable;
      }

      pushed_good : (v : Value) (room : Bool) →
          MadeGood [] false None (does (if room then Known (did.Falls [] (with_records s (Pushed (number_of v) ∷ s.records))) else Faults RecordsFull))
      pushed_good v true = (λ below. refl, with_placed (Pushed (number_of v) ∷ s.records) good.records_placed, λ k stable. stable)
      pushed_good v false = tt

      popped_good : (kind : ValueKind) (records : List Record) → ArePlaced IsPlace records →
          MadeGood (Of kind ∷ []) false None (unrecorded (topmost kind records) s)
      popped_good kind [] placed = tt
      popped_good kind (Pushed z ∷ records) placed =
          (λ below. ap (λ k. Some (k ∷ below)) (sym (kind_as kind z)), with_placed records placed)
      popped_good kind (Called place ∷ records) placed = tt
      popped_good kind (Looped l ∷ records) placed = tt

      called_good : (to : ℕ) → IsPlace to → IsPlace (suc here) → (room : Bool) →
          MadeGood [] true (Some to) (does (if room then Known (did.Jumps (with_records s (Called (suc here) ∷ s.records))) else Faults RecordsFull))
      called_good to there beyond true = (refl, there, with_placed (Called (suc here) ∷ s.records) (beyond, good.records_placed))
      called_good to there beyond false = tt

      returned_good : (records : List Record) → ArePlaced IsPlace records → MadeGood [] true None (Known (Does (returned_from records s)))
      returned_good [] placed = (refl, with_placed [] tt)
      returned_good (Pushed z ∷ records) placed = returned_good records placed
      returned_good (Called place ∷ records) placed = (refl, placed.0, with_placed records placed.1)
      returned_good (Looped l ∷ records) placed = returned_good records placed.1

      -- a loop whose variable is an INTEGER scalar, with an integer in it
      loop_good : (l : Loop) (records : List Record) (z : ℤ) → IsPlace l.place → ArePlaced IsPlace records →
          is_of_kind 0 (slice_get variables l.variable) ≡ true → IsGot Good (with_loop l records z s)
      loop_good l records z place placed kind =
          by (slice_get variables l.variable) (slice_get s.store.variables l.variable) refl
          (fit_at variables s.store.variables l.variable good.variables_fit) kind
        where
          by : (ov : Option VarDef) (oh : Option Held) → slice_get variables l.variable ≡ ov → FitAt ov oh → is_of_kind 0 ov ≡ true →
              IsGot Good
              (then_get (scalar_written s.store.variables l.variable oh (Int z)) (λ list. Known (with_variables (with_records s (Looped l ∷ records)) list)))
          by None oh at f e = absurd cc
          by (Some v) None at f e = absurd f
          by (Some v) (Some (held.Int old)) at f e = record {
            variables_fit = fit_set variables s.store.variables l.variable v (held.Int z) good.variables_fit at f;
            chosen_below = good.chosen_below;
            records_placed = (place, placed);
            ir_stable = good.ir_stable;
            dr_stable = good.dr_stable;
          }
          by (Some v) (Some (held.Bit old)) at f e = absurd (let other = ap (λ (n : ℕ). n == 0) f in cc)
          by (Some v) (Some (held.Ints old)) at f e = absurd (let other = ap (λ (n : ℕ). n == 0) f.0 in cc)
          by (Some v) (Some (held.Bits old)) at f e = absurd (let other = ap (λ (n : ℕ). n == 0) f.0 in cc)

      begun_good : (g : Got State) → IsGot Good g → MadeGood [] true None (does (then_get g (λ t. Known (did.Falls [] t))))
      begun_good (Known t) h = (λ below. refl, h, λ k stable. stable)
      begun_good (Faults k) h = tt
      begun_good Stuck h = absurd h

      looped_good : (n body : ℕ) (first limit step : ℤ) → IsPlace body → is_of_kind 0 (slice_get variables n) ≡ true →
          MadeGood [] true None (does (looped n body (Int first ∷ Int limit ∷ Int step ∷ []) s))
      looped_good n body first limit step place kind =
          by (int_eq step (pos 0)) (nat_lt (length s.records) record_limit)
        where
          l : Loop
          l = record { variable = n; limit = limit; step = step; place = body }

          by : (zero room : Bool) → MadeGood [] true None (does
              (if zero then Faults ZeroStep else (if room then then_get (with_loop l s.records first s) (λ t. Known (did.Falls [] t)) else Faults RecordsFull)))
          by true room = tt
          by false true = begun_good (with_loop l s.records first s) (loop_good l s.records first place good.records_placed kind)
          by false false = tt

      gone_good : (l : Loop) (g : Got State) → IsPlace l.place → IsGot Good g →
          MadeGood [] true None (does (then_get g (λ t. Known (did.Resumes l.place t))))
      gone_good l (Known t) place h = (refl, place, h)
      gone_good l (Faults k) place h = tt
      gone_good l Stuck place h = absurd h

      round_good : (l : Loop) (records : List Record) (z : ℤ) → IsPlace l.place → ArePlaced IsPlace records →
          is_of_kind 0 (slice_get variables l.variable) ≡ true → MadeGood [] true None (does (went_round l records z s))
      round_good l records z place placed kind = by (is_over l z)
        where
          next : ℤ
          next = int_wrap w32 (z +ℤ l.step)

          by : (over : Bool) → MadeGood [] true None (does
              (if over then Known (did.Falls [] (with_records s records)) else then_get (with_loop l records next s) (λ t. Known (did.Resumes l.place t))))
          by true = (λ below. refl, with_placed records placed, λ k stable. stable)
          by false = gone_good l (with_loop l records next s) place (loop_good l records next place placed kind)

      -- an INTEGER scalar holds an integer
      integer_good_at : (ov : Option VarDef) (oh : Option Held) → FitAt ov oh → is_of_kind 0 ov ≡ true → IsAnswer (integer_held oh)
      integer_good_at None oh f e = absurd cc
      integer_good_at (Some v) None f e = absurd f
      integer_good_at (Some v) (Some (held.Int z)) f e = tt
      integer_good_at (Some v) (Some (held.Bit b)) f e = absurd (let other = ap (λ (n : ℕ). n == 0) f in cc)
      integer_good_at (Some v) (Some (held.Ints zs)) f e = absurd (let other = ap (λ (n : ℕ). n == 0) f.0 in cc)
      integer_good_at (Some v) (Some (held.Bits bs)) f e = absurd (let other = ap (λ (n : ℕ). n == 0) f.0 in cc)

      repeated_good : (n : ℕ) → is_of_kind 0 (slice_get variables n) ≡ true → (records : List Record) → ArePlaced IsPlace records →
          MadeGood [] true None (does (then_get (nearest_loop n records) (λ top.
          then_get (integer_held (slice_get s.store.variables n)) (λ z. went_round top.0 top.1 z s))))
      repeated_good n kind [] placed = tt
      repeated_good n kind (Pushed z ∷ records) placed = tt
      repeated_good n kind (Called place ∷ records) placed = tt
      repeated_good n kind (Looped l ∷ records) placed = by (l.variable == n) refl (repeated_good n kind records placed.1)
        where
          counts : (g : Got ℤ) → IsAnswer g → l.variable ≡ n → MadeGood [] true None (does (then_get g (λ z. went_round l records z s)))
          counts (Known z) h same = round_good l records z placed.0 placed.1 (ap (λ (m : ℕ). is_of_kind 0 (slice_get variables m)) same ∙ kind)
          counts (Faults k) h same = tt
          counts Stuck h same = absurd h

          by : (own : Bool) → l.variable == n ≡ own → MadeGood [] true None (does (then_get (nearest_loop n records) (λ top.
              then_get (integer_held (slice_get s.store.variables n)) (λ z. went_round top.0 top.1 z s)))) →
              MadeGood [] true None (does (then_get (if own then Known (l, records) else nearest_loop n records) (λ top.
              then_get (integer_held (slice_get s.store.variables n)) (λ z. went_round top.0 top.1 z s))))
          by true e others =
              counts (integer_held (slice_get s.store.variables n))
              (integer_good_at (slice_get variables n) (slice_get s.store.variables n) (fit_at variables s.store.variables n good.variables_fit) kind)
              (eqb-true l.variable n e)
          by false e others = others

      -- what is exported
      exports_good : (key : List ℕ) (g : Got (List Bool)) → IsAnswer g →
          MadeGood [] false None (does (then_get g (λ bits. Known (did.Falls (Says (events.Export key (Array bits)) ∷ []) s))))
      exports_good key (Known bits) h = (λ below. refl, good, λ k stable. stable)
      exports_good key (Faults k) h = tt
      exports_good key Stuck h = absurd h

      -- what a wait counts, and what is stated of a frequency
      deeds_good : (g : Got (List Deed)) → IsGot KeepsStable g → MadeGood [] false None (does (then_get g (λ deeds. Known (did.Falls deeds s))))
      deeds_good (Known deeds) h = (λ below. refl, good, h)
      deeds_good (Faults k) h = tt
      deeds_good Stuck h = absurd h

      stays : (at : Tap) → is_stable_state at ≡ true → (g : Got (List Deed)) → IsGot KeepsStable g →
          MadeGood [] false None (does (if is_stable_state at then then_get g (λ deeds. Known (did.Falls deeds s)) else Stuck))
      stays at stable g h =
          subst (λ (b : Bool). MadeGood [] false None (does (if b then then_get g (λ deeds. Known (did.Falls deeds s)) else Stuck))) (sym stable) (deeds_good g h)

      passed_answers : {A : Type 0} (b : Bool) (k : RunFault) (x : A) → IsAnswer (passed b k x)
      passed_answers true k x = tt
      passed_answers false k x = tt

      answers_one : {A : Type 0} (g : Got A) (go : A → List Deed) → ((x : A) → KeepsStable (go x)) → IsAnswer g → IsGot KeepsStable (then_get g (λ x. Known (go x)))
      answers_one (Known x) go keeps h = keeps x
      answers_one (Faults k) go keeps h = tt
      answers_one Stuck go keeps h = absurd h

      answers_both : {A B : Type 0} (g : Got A) (f : Got B) (go : A → B → List Deed) → ((x : A) (y : B) → KeepsStable (go x y)) → IsAnswer g → IsAnswer f →
          IsGot KeepsStable (then_get g (λ x. then_get f (λ y. Known (go x y))))
      answers_both (Known x) f go keeps h i = answers_one f (go x) (keeps x) i
      answers_both (Faults k) f go keeps h i = tt
      answers_both Stuck f go keeps h i = absurd h

      waits_good : (kind : WaitKind) (at last : Tap) → is_stable_state at ≡ true → is_stable_state last ≡ true →
          Each variables (wait_slots kind) (λ vs. MadeGood [] false None (does (waited kind at last vs s)))
      waits_good waits.Cycles at last stable ends = λ n.
          stays at stable (waited_for waits.Cycles at last (Int n ∷ []))
          (answers_one (cycles_of n) (λ c. Goes at ∷ Stays c ∷ Goes last ∷ []) (λ c k before. ends) (passed_answers (is_index n (most_cycles + 1)) BadCount (nat_abs n)))
      waits_good waits.Usec at last stable ends = λ n.
          stays at stable (waited_for waits.Usec at last (Int n ∷ []))
          (answers_one (usec_of n) (λ u. Goes at ∷ Says (events.Usec u) ∷ Goes last ∷ []) (λ u k before. ends) (passed_answers (int_le (pos 0) n) BadCount (nat_abs n)))
      waits_good waits.Both at last stable ends = λ n m.
          stays at stable (waited_for waits.Both at last (Int n ∷ Int m ∷ []))
          (answers_both (cycles_of n) (usec_of m) (λ c u. Goes at ∷ Stays c ∷ Says (events.Usec u) ∷ Goes last ∷ []) (λ c u k before. ends)
          (passed_answers (is_index n (most_cycles + 1)) BadCount (nat_abs n)) (passed_answers (int_le (pos 0) m) BadCount (nat_abs m)))

      tuned_good : (stated : Bool) → Each variables (frequency_slots stated) (λ vs. MadeGood [] false None (does (tuned vs s)))
      tuned_good true = λ n. by (hertz_of n) (passed_answers (int_lt (pos 0) n) BadCount (nat_abs n))
        where
          by : (g : Got ℕ) → IsAnswer g → MadeGood [] false None (does (then_get g (λ h. Known (did.Falls (Says (events.Hertz h) ∷ []) s))))
          by (Known h) a = (λ below. refl, good, λ k stable. stable)
          by (Faults k) a = tt
          by Stuck a = absurd a
      tuned_good false = (λ below. refl, good, λ k stable. stable)

      -- a scan, a padding, and a state in which scans end
      scanned_good : (g : Got Did) → IsGot (ScansWell variables s) g → MadeGood [] false None (does g)
      scanned_good (Known (did.Captures scan lands)) h =
          (λ below. refl, h.0, λ bits count. let landed = h.1 bits count in good_with (lands bits) landed.0 landed.1)
      scanned_good (Known _) h = absurd h
      scanned_good (Faults k) h = tt
      scanned_good Stuck h = absurd h

      with_bits_good : (which : Padding) (bits : List Bool) → Good (with_padding which bits s)
      with_bits_good paddings.PreData bits = with_settings_good s.ir (record s.dr { pre = bits }) good.ir_stable good.dr_stable
      with_bits_good paddings.PostData bits = with_settings_good s.ir (record s.dr { post = bits }) good.ir_stable good.dr_stable
      with_bits_good paddings.PreInstruction bits = with_settings_good (record s.ir { pre = bits }) s.dr good.ir_stable good.dr_stable
      with_bits_good paddings.PostInstruction bits = with_settings_good (record s.ir { post = bits }) s.dr good.ir_stable good.dr_stable

      padded_good : (which : Padding) (g : Got Did) → IsGot (PadsWell which s) g → MadeGood [] false None (does g)
      padded_good which (Known (did.Falls deeds t)) h =
          (λ below. refl, subst Good (sym h.1.1) (with_bits_good which h.1.0), λ k stable. subst (λ ds. is_stable_state (deeds_chain k ds).tap ≡ true) (sym h.0) stable)
      padded_good which (Known _) h = absurd h
      padded_good which (Faults k) h = tt
      padded_good which Stuck h = absurd h

      ends_good : (register : Register) (tap : Tap) → is_stable_state tap ≡ true → Good (with_stop register tap s)
      ends_good registers.Data tap stable = with_settings_good s.ir (record s.dr { stop = tap }) good.ir_stable stable
      ends_good registers.Instruction tap stable = with_settings_good (record s.ir { stop = tap }) s.dr stable good.dr_stable

      stop_good : (register : Register) (tap : Tap) → is_stable_state tap ≡ true → MadeGood [] false None (does (stopped register tap [] s))
      stop_good register tap stable =
          subst (λ (b : Bool). MadeGood [] false None (does (if b then Known (did.Falls [] (with_stop register tap s)) else Stuck))) (sym stable)
          (λ below. refl, ends_good register tap stable, λ k before. before)

      -- the key is there
      keyed_good : (o : Option (List ℕ)) → IsThere o → (go : List ℕ → Got Did) → ((key : List ℕ) → MadeGood [] false None (does (go key))) →
          MadeGood [] false None (does (then_get (known_text o) go))
      keyed_good None there go all = absurd there
      keyed_good (Some key) there go all = all key

      abbrev Stores : ℕ → Option Held → Value → Type 0
      Stores n oh x = MadeGood [] false None (does (written s (scalar_written s.store.variables n oh x)))

      store_good : (n : ℕ) (ov : Option VarDef) (oh : Option Held) (x : Value) → slice_get variables n ≡ ov → FitAt ov oh →
          variable_kind ov ≡ Some (kind_of x) → Stores n oh x
      store_good n None oh x at f e = absurd cc
      store_good n (Some v) None x at f e = absurd f
      store_good n (Some v) (Some (held.Int old)) (Int z) at f e = (λ below. refl, stored n v (held.Int z) at f, λ k stable. stable)
      store_good n (Some v) (Some (held.Bit old)) (Bit b) at f e = (λ below. refl, stored n v (held.Bit b) at f, λ k stable. stable)
      store_good n (Some v) (Some (held.Int old)) (Bit b) at f e = absurd (let int = ap (λ (n : ℕ). scalar_kind n) f in cc)
      store_good n (Some v) (Some (held.Bit old)) (Int z) at f e = absurd (let bit = ap (λ (n : ℕ). scalar_kind n) f in cc)
      store_good n (Some v) (Some (held.Ints zs)) x at f e = absurd (let none = ap (λ (n : ℕ). scalar_kind n) f.0 in cc)
      store_good n (Some v) (Some (held.Bits bs)) x at f e = absurd (let none = ap (λ (n : ℕ). scalar_kind n) f.0 in cc)

    -- where the procedures begin are places
    module _ (begin : (p : ℕ) → p < procedures → IsPlace (entry_of entries p)) where
      module _
          (s : State) (good : Good s) (gs : List Slot) (clear : Bool) (to : Option ℕ) (ops : List Value) (mid after : List ValueKind)
          (left : left_by clear (kinds_of ops) ≡ Some mid) (on : all_on variables gs mid ≡ Some after) where
        none_below : clear ≡ true → ops ≡ []
        none_below e = none_are_left ops mid (ap (λ c. left_by c (kinds_of ops)) (sym e) ∙ left)

        -- the operands after what was made
        kinds_above : (new : List ValueKind) → Adds gs new → new ++ kinds_of ops ≡ after
        kinds_above new adds =
            let all : Some (new ++ mid) ≡ Some after = sym (adds mid) ∙ on in
            ap (λ ks. new ++ ks) (are_left clear (kinds_of ops) mid left) ∙ cc

        -- what was made leads on as its columns say
        made_good : (g : Got Made) → MadeGood gs clear to g → StepGood after (on_made entries to ops s g)
        made_good (Known (Puts v)) m = (kinds_above (kind_of v ∷ []) m, good)
        made_good (Known (PutsFrom v t)) m = (kinds_above (kind_of v ∷ []) m.0, m.1)
        made_good (Known (PutsTwo x y)) m = (kinds_above (kind_of y ∷ kind_of x ∷ []) m, good)
        made_good (Known (Does (did.Falls deeds t))) m = acted_good deeds ops t after (kinds_above [] m.0) m.1 m.2
        made_good (Known (Does (did.Captures scan lands))) m = (kinds_above [] m.0, m.1, m.2)
        made_good (Known (Does (did.Jumps t))) m = (none_below m.0, jumps_good to t m.1 m.2)
        made_good (Known (Does (did.Resumes place t))) m = (none_below m.0, (m.1, m.2, λ k stable. stable))
        made_good (Known (Does (did.Returns t))) m = (none_below m.0, chosen_good begin t m.1 t.chosen m.1.chosen_below)
        made_good (Known (Does (did.Ends ending t))) m = (none_below m, tt)
        made_good (Faults k) m = tt
        made_good Stuck m = absurd m

      module _
          (entry : ℕ) (procedure : List Instr) (targets : (to : ℕ) → is_target entry procedure to ≡ true → IsPlace to) (s : State)
          (good : Good s) (after : List ValueKind) where
        abbrev Makes : Instr → List Value → Type 0
        Makes x vs = MadeGood (gives x) (clears x) (lands entries here x) (made entries constants here x vs s)

        fits : (n : ℕ) → FitAt (slice_get variables n) (slice_get s.store.variables n)
        fits n = fit_at variables s.store.variables n good.variables_fit

        abbrev Stands : Instr → Type 0
        Stands x = IsInstr variables (length constants.literals) (length constants.texts) procedures x

        -- its variables are what they have to be
        abbrev IsMet : Instr → Type 0
        IsMet x = list_all (is_met variables) (wants x) ≡ true

        resolves : (source : Source) → IsSource (length variables) (length constants.literals) source →
            list_all (is_met variables) (source_wants source) ≡ true → Resolves variables constants s.store.variables source
        resolves source = source_good variables constants s.store.variables source good.variables_fit

        -- a line for each instruction
        row_good : (x : Instr) (mid : List ValueKind) → all_on variables (gives x) mid ≡ Some after → IsMet x →
            leads_well entry procedure x ≡ true → rests_well x ≡ true → Stands x → (is_turn (Some x) ≡ true → IsPlace here) → (departs x ≡ true → IsPlace (suc here)) →
            Each variables (takes x) (Makes x)
        row_good (Turn piece) mid on met leads rests r at beyond = (refl, at refl, good)
        row_good (Push z) mid on met leads rests r at beyond = λ below. refl
        row_good (PushBit b) mid on met leads rests r at beyond = puts_good false None (Of kinds.Bit) (bit_of b) (bit_good b r)
        row_good (Load n) mid on met leads rests r at beyond =
            let kind = is_put (variable_kind (slice_get variables n)) mid after on in
            puts_good false None (OfScalar n) (scalar_of (slice_get s.store.variables n))
            (load_good (slice_get variables n) (slice_get s.store.variables n) kind.0 (fits n) kind.1)
        row_good (LoadAt n) mid on met leads rests r at beyond = λ i.
            let kind = is_put (element_kind (slice_get variables n)) mid after on in
            puts_good false None (OfElement n) (element_of (slice_get s.store.variables n) (Int i))
            (element_good (slice_get variables n) (slice_get s.store.variables n) kind.0 i (fits n) kind.1)
        row_good (CheckIndex n) mid on met leads rests r at beyond = λ i.
            let array = (and_parts (is_met variables (AnArray n)) true met).0 in
            puts_good false None (Of kinds.Int) (index_held (slice_get s.store.variables n) (Int i))
            (index_good (slice_get variables n) (slice_get s.store.variables n) i (fits n) array)
        row_good (CheckRange n) mid on met leads rests r at beyond = λ high low.
            let bits = (and_parts (is_met variables (OfBits n)) true met).0 in
            kept_good high low (range_held constants.profile (slice_get s.store.variables n) (Int high) (Int low))
            (range_good (slice_get variables n) (slice_get s.store.variables n) (fits n) bits constants.profile high low)
        row_good (Store n) mid on met leads rests r at beyond =
            each_of (variable_kind (slice_get variables n)) (Stores s good n (slice_get s.store.variables n))
            (λ v. store_good s good n (slice_get variables n) (slice_get s.store.variables n) v refl (fits n))
        row_good (StoreAt n) mid on met leads rests r at beyond = λ i.
            each_of (element_kind (slice_get variables n)) (λ v. Makes (StoreAt n) (Int i ∷ v ∷ []))
            (λ v e. wrote_good s good (element_assigned n (Int i ∷ v ∷ []) s)
            (element_stored variables s good.variables_fit n (slice_get variables n) (slice_get s.store.variables n) i v refl (fits n) e))
        row_good (Unary op) mid on met leads rests r at beyond =
            unary_good false None (slice_get unary_kinds op) (slice_get unary_results op) (signed_good op r)
        row_good (Binary op) mid on met leads rests r at beyond = binary_good false None (slice_get operator_table op) (combined_good op r)
        row_good (ToInt source) mid on met leads rests r at beyond =
            let integer : List Value → Got Value =
            λ vs. then_get (known_source constants source) (λ from. source_integer s.store.variables from vs)
            in
            each_map variables (source_slots source) (λ vs. GotOf (Some kinds.Int) (integer vs)) (Makes (ToInt source))
            (λ vs. puts_good false None (Of kinds.Int) (integer vs))
            (integer_good variables constants s.store.variables source (resolves source r met))
        row_good (CopyBits dest source) mid on met leads rests r at beyond =
            let both = and_parts (is_met variables (dest_want dest)) (list_all (is_met variables) (source_wants source)) met in
            each_map variables (dest_slots dest (source_slots source)) (Copies variables s good.variables_fit constants dest source)
            (Makes (CopyBits dest source))
            (λ vs. wrote_good s good (then_get (known_source constants source) (λ from. copied (target_of constants.profile dest) from vs s)))
            (copy_good variables s good.variables_fit constants dest source both.0 (resolves source r.1 both.1))
        row_good (SetBits n literal) mid on met leads rests r at beyond =
            let bits = (and_parts (is_met variables (OfBits n)) true met).0 in
            wrote_good s good (then_get (known_literal (slice_get constants.literals literal)) (λ from. copied (IntoWhole n) from [] s))
            (bits_good variables s good.variables_fit constants n literal bits r.1)
        row_good (SetInts n list) mid on met leads rests r at beyond =
            let integers = (and_parts (is_met variables (OfInts n)) true met).0 in
            wrote_good s good (integers_set n list [] s) (integers_good variables s good.variables_fit n list integers)
        row_good (For n body) mid on met leads rests r at beyond = λ first limit step.
            looped_good s good n body first limit step (targets body leads) (and_parts (is_met variables (AnInteger n)) true met).0
        row_good (Next n) mid on met leads rests r at beyond =
            repeated_good s good n (and_parts (is_met variables (AnInteger n)) true met).0 s.records good.records_placed
        row_good (PushRecord kind) mid on met leads rests r at beyond =
            each_of (Some kind) (λ v. Makes (PushRecord kind) (v ∷ []))
            (λ v e. pushed_good s good v (nat_lt (length s.records) record_limit))
        row_good (PopRecord kind) mid on met leads rests r at beyond = popped_good s good kind s.records good.records_placed
        row_good (Call p) mid on met leads rests r at beyond =
            called_good s good (entry_of entries p) (begin p r) (beyond refl) (nat_lt (length s.records) record_limit)
        row_good (Jump to) mid on met leads rests r at beyond = (refl, targets to leads, good)
        row_good (JumpIfZero to) mid on met leads rests r at beyond = way_good s good to (targets to leads)
        row_good EndProc mid on met leads rests r at beyond = returned_good s good s.records good.records_placed
        row_good (Print list) mid on met leads rests r at beyond =
            each_map variables (part_slots list) (PartsGood list) (Makes (Print list))
            (λ vs. printed_good s good false None (parts_text entries constants list vs)) (parts_good list r.1)
        row_good (Export key exports.Int) mid on met leads rests r at beyond = λ z.
            keyed_good s good (slice_get constants.texts key) (text_there key constants.texts r.0) (λ bytes. exported bytes (Int z ∷ []) s)
            (λ bytes. (λ below. refl, good, λ k stable. stable))
        row_good (Export key exports.Bit) mid on met leads rests r at beyond = λ b.
            keyed_good s good (slice_get constants.texts key) (text_there key constants.texts r.0) (λ bytes. exported bytes (Bit b ∷ []) s)
            (λ bytes. (λ below. refl, good, λ k stable. stable))
        row_good (Export key (exports.Array source)) mid on met leads rests r at beyond =
            let is = resolves source r.1 met in
            let put : Got values.Source → List Value → List ℕ → Got Did = λ g vs bytes. then_get g (λ from. bits_exported bytes from vs s) in
            each_map variables (source_slots source) (λ vs. IsAnswer (source_bits s.store.variables is.from vs))
            (Makes (Export key (exports.Array source)))
            (λ vs answer.
            keyed_good s good (slice_get constants.texts key) (text_there key constants.texts r.0) (put (known_source constants source) vs)
            (λ bytes.
            subst (λ g. MadeGood [] false None (does (put g vs bytes))) (sym is.known)
            (exports_good s good bytes (source_bits s.store.variables is.from vs) answer))) is.bits
        row_good CheckChar mid on met leads rests r at beyond = λ z.
            puts_good false None (Of kinds.Int) (passed (is_index z 256) BadChar (Int z)) (passed_good (is_index z 256) z)
        row_good Exit mid on met leads rests r at beyond = λ z. refl
        row_good (Scans scan) mid on met leads rests r at beyond =
            each_filled variables (Of kinds.Int ∷ scan_slots scan) (Makes (Scans scan))
            (λ vs fill.
            scanned_good s good (then_get (known_scan constants scan) (λ parts. scanned parts vs s))
            (scan_good variables constants s good.variables_fit good.ir_stable good.dr_stable scan met r vs fill))
        row_good (Stop register tap) mid on met leads rests r at beyond = stop_good s good register tap rests
        row_good (Pad which source) mid on met leads rests r at beyond =
            each_filled variables (Of kinds.Int ∷ given_slots source) (Makes (Pad which source))
            (λ vs fill.
            padded_good s good which (then_get (known_given constants source) (λ from. surrounded which from vs s))
            (padding_good variables constants s good.variables_fit which source met r vs fill))
        row_good (GoThrough states) mid on met leads rests r at beyond = (λ below. refl, good, goes_stable states r rests)
        row_good (Wait state kind last) mid on met leads rests r at beyond =
            let both = and_parts (is_stable_state state) (is_stable_state last) rests in waits_good s good kind state last both.0 both.1
        row_good (Frequency stated) mid on met leads rests r at beyond = tuned_good s good stated

        pub step_good : (x : Instr) (ops : List Value) → kinds_after variables x (kinds_of ops) ≡ Some after →
            leads_well entry procedure x ≡ true → rests_well x ≡ true → Stands x → (is_turn (Some x) ≡ true → IsPlace here) →
            (departs x ≡ true → IsPlace (suc here)) → StepGood after (step entries constants here x ops s)
        step_good x ops e leads rests r at after_here =
            let beyond : List ValueKind → Option (List ValueKind) = λ ks. then_kinds (left_by (clears x) ks) (all_on variables (gives x)) in
            let both = met_and_after variables x (kinds_of ops) after e in
            let off = then_some (all_off variables (takes x) (kinds_of ops)) beyond after both.1 in
            let on = then_some (left_by (clears x) off.0) (all_on variables (gives x)) after off.2 in
            let t = taken_as variables (takes x) 0 [] ops off.0 off.1 in
            let count : length (takes x) ≡ length (takes x) + 0 = omega arith in
            let go : List Value → List Value → Step = λ vs ops. on_made entries (lands entries here x) ops s (made entries constants here x vs s) in
            let is : on_taken (taken (length (takes x)) ops) go ≡ go t.values t.rest =
            ap (λ (n : ℕ). on_taken (taken_onto n [] ops) go) count
            ∙ ap (λ o. on_taken o go) t.are
            ∙ ap (λ vs. go vs t.rest) (append-nil t.values)
            in
            let makes = each_at variables (takes x) (Makes x) (row_good x on.0 on.2 both.0 leads rests r at after_here) t.values t.fill in
            let left = ap (left_by (clears x)) t.left ∙ on.1 in
            subst (StepGood after) (sym is)
            (made_good s good (gives x) (clears x) (lands entries here x) t.rest on.0 after left on.2 (made entries constants here x t.values s) makes)
