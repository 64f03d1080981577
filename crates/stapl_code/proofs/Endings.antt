-- No turn of a code ends a run as spent: it ends it with an exit or a fault. So a play is spent only if it still goes on.
use Rattle.std.proofs.Common.{◌≡◌, ℕ, zero, suc, ◌-◌, List, [], ◌∷◌, length, drop, Option, Some, None, refl}
use Rattle.std.specs.Prelude.{slice_get}
use Rattle.stapl_meaning.specs.declared.events.Ending.TheVariants.{Spent}
use Rattle.stapl_meaning.specs.declared.records.Record.{Record}
use Rattle.stapl_meaning.specs.declared.values.Value.{Value}
use Rattle.stapl_meaning.specs.declared.values.Held.{Held}
use Rattle.stapl_meaning.specs.Deeds.{Deed, Chain, deeds_events, deeds_chain}
use Rattle.stapl_meaning.specs.Values.{Got, Known, Faults, Stuck, then_get}
use Rattle.stapl_meaning.specs.Effects.{topmost}
use Rattle.stapl_meaning.specs.Effects as effects
use Rattle.stapl_meaning.specs.Scans as scans
use Rattle.stapl_meaning.specs.States.{State, Did, next_chosen, jumps_to, Led, Finished, Broke, Lacks, Happened, happens, happened_in_piece}
use Rattle.stapl_meaning.specs.States as did
use Rattle.stapl_meaning.specs.Plays.{ending_of, IsGoing, start}
use Rattle.stapl_meaning.proofs.Walks.{KeptTurned, KeptGot, PaddingRule, assigned_same, element_same, copied_same, integers_same, jumped_same, parted_same, pushed_same, called_same, looped_same, repeated_same, returned_same, exited_same, printed_same, exported_same, bits_same, moved_same, waited_same, tuned_same, scanned_same, surrounded_same, stopped_same}
use Rattle.stapl_meaning.proofs.Endings.{ending, IsNotSpent, EndsWell, after_events, after_scan, turn_ends, StandsWell, goes_well, is_going}
use Rattle.stapl_code.specs.declared.instr.ExportPart.{ExportPart}
use Rattle.stapl_code.specs.declared.instr.ExportPart.TheVariants as exports
use Rattle.stapl_code.specs.declared.instr.Instr.{Instr}
use Rattle.stapl_code.specs.declared.instr.Instr.TheVariants.{Turn, Push, PushBit, Load, LoadAt, CheckIndex, CheckRange, Store, StoreAt, Unary, Binary, ToInt, CopyBits, SetBits, SetInts, For, Next, PushRecord, PopRecord, Call, Jump, JumpIfZero, EndProc, Print, Export, CheckChar, Exit, Scan as Scans, Stop, Pad, State as GoThrough, Wait, Frequency}
use Rattle.stapl_code.specs.Machine.{Constants, Made, Puts, PutsFrom, PutsTwo, Does, puts, does, one, two, kept, unrecorded, target_of, known_text, known_literal, known_source, known_given, known_scan, part_exported, parts_text, bit_of, made, Step, Falls, Acts, Scanned, Stops, Faulted, Wrong, on_taken, taken, takes, acted, lands, entry_of, on_made, at_end, continues, begins_chosen, step, stretch, begins, code_turn, code_run, code_beginning, code_play}

-- ---- what an instruction makes

abbrev MadeEnds : Got Made → Type 0
MadeEnds (Known (Does (did.Ends e t))) = IsNotSpent e
MadeEnds _ = Unit {0}

puts_end : (g : Got Value) → MadeEnds (puts g)
puts_end (Known v) = tt
puts_end (Faults k) = tt
puts_end Stuck = tt

one_ends : (vs : List Value) (go : Value → Got Value) → MadeEnds (one vs go)
one_ends [] go = tt
one_ends (v ∷ []) go = puts_end (go v)
one_ends (v ∷ w ∷ vs) go = tt

two_end : (vs : List Value) (go : Value → Value → Got Value) → MadeEnds (two vs go)
two_end [] go = tt
two_end (x ∷ []) go = tt
two_end (x ∷ y ∷ []) go = puts_end (go x y)
two_end (x ∷ y ∷ z ∷ vs) go = tt

kept_end : (vs : List Value) (test : Value → Value → Got Value) → MadeEnds (kept vs test)
kept_end [] test = tt
kept_end (x ∷ []) test = tt
kept_end (x ∷ y ∷ []) test = by (test x y)
  where
    by : (g : Got Value) → MadeEnds (then_get g (λ z. Known (PutsTwo x y)))
    by (Known z) = tt
    by (Faults k) = tt
    by Stuck = tt
kept_end (x ∷ y ∷ z ∷ vs) test = tt

unrecorded_ends : (top : Got (Value × List Record)) (s : State) → MadeEnds (unrecorded top s)
unrecorded_ends (Known both) s = tt
unrecorded_ends (Faults k) s = tt
unrecorded_ends Stuck s = tt

does_end : (g : Got Did) → KeptGot ending g → MadeEnds (does g)
does_end (Known (did.Falls deeds t)) h = tt
does_end (Known (did.Captures scan go)) h = tt
does_end (Known (did.Jumps t)) h = tt
does_end (Known (did.Resumes place t)) h = tt
does_end (Known (did.Returns t)) h = tt
does_end (Known (did.Ends e t)) h = h.1
does_end (Faults k) h = tt
does_end Stuck h = tt

got_kept : {A : Type 0} (g : Got A) (go : A → Got Did) → ((x : A) → KeptGot ending (go x)) → KeptGot ending (then_get g go)
got_kept (Known x) go h = h x
got_kept (Faults k) go h = tt
got_kept Stuck go h = tt

padding : PaddingRule ending
padding = record { same = λ which bits s. refl; kept = λ which bits s h. (tt, tt, tt) }

module _ (entries : List ℕ) (constants : Constants) where
  exported_ends : (part : ExportPart) (key : List ℕ) (vs : List Value) (s : State) → KeptGot ending (part_exported constants part key vs s)
  exported_ends exports.Int key vs s = (exported_same ending key vs s (tt, tt, tt)).kept
  exported_ends exports.Bit key vs s = (exported_same ending key vs s (tt, tt, tt)).kept
  exported_ends (exports.Array source) key vs s =
      got_kept (known_source constants source) (λ from. effects.bits_exported key from vs s) (λ from. (bits_same ending key from vs s (tt, tt, tt)).kept)

  made_ends : (here : ℕ) (i : Instr) (vs : List Value) (s : State) → MadeEnds (made entries constants here i vs s)
  made_ends here (Turn piece) vs s = does_end (effects.jumped vs s) (jumped_same ending vs s (tt, tt, tt)).kept
  made_ends here (Push z) vs s = tt
  made_ends here (PushBit b) vs s = puts_end (bit_of b)
  made_ends here (Load n) vs s = puts_end _
  made_ends here (LoadAt n) vs s = one_ends vs _
  made_ends here (CheckIndex n) vs s = one_ends vs _
  made_ends here (CheckRange n) vs s = kept_end vs _
  made_ends here (Store n) vs s = does_end (effects.assigned n vs s) (assigned_same ending n vs s (tt, tt, tt)).kept
  made_ends here (StoreAt n) vs s = does_end (effects.element_assigned n vs s) (element_same ending n vs s (tt, tt, tt)).kept
  made_ends here (Unary op) vs s = one_ends vs _
  made_ends here (Binary op) vs s = two_end vs _
  made_ends here (ToInt source) vs s = puts_end _
  made_ends here (CopyBits dest source) vs s =
      does_end (then_get (known_source constants source) (λ from. effects.copied (target_of constants.profile dest) from vs s))
      (got_kept (known_source constants source) (λ from. effects.copied (target_of constants.profile dest) from vs s)
      (λ from. (copied_same ending (target_of constants.profile dest) from vs s (tt, tt, tt)).kept))
  made_ends here (SetBits n literal) vs s =
      does_end (then_get (known_literal (slice_get constants.literals literal)) (λ from. effects.copied (effects.IntoWhole n) from vs s))
      (got_kept (known_literal (slice_get constants.literals literal)) (λ from. effects.copied (effects.IntoWhole n) from vs s)
      (λ from. (copied_same ending (effects.IntoWhole n) from vs s (tt, tt, tt)).kept))
  made_ends here (SetInts n list) vs s = does_end (effects.integers_set n list vs s) (integers_same ending n list vs s (tt, tt, tt)).kept
  made_ends here (For n body) vs s = does_end (effects.looped n body vs s) (looped_same ending n body vs s (tt, tt, tt)).kept
  made_ends here (Next n) vs s = does_end (effects.repeated n vs s) (repeated_same ending n vs s (tt, tt, tt)).kept
  made_ends here (PushRecord kind) vs s = does_end (effects.pushed vs s) (pushed_same ending vs s (tt, tt, tt)).kept
  made_ends here (PopRecord kind) vs s = unrecorded_ends (topmost kind s.records) s
  made_ends here (Call p) vs s = does_end (effects.called (suc here) vs s) (called_same ending (suc here) vs s (tt, tt, tt)).kept
  made_ends here (Jump to) vs s = does_end (effects.jumped vs s) (jumped_same ending vs s (tt, tt, tt)).kept
  made_ends here (JumpIfZero to) vs s = does_end (effects.parted vs s) (parted_same ending vs s (tt, tt, tt)).kept
  made_ends here EndProc vs s = does_end (effects.returned vs s) (returned_same ending vs s (tt, tt, tt)).kept
  made_ends here (Print list) vs s = does_end (effects.printed (parts_text entries constants list vs) s) (printed_same ending (parts_text entries constants list vs) s (tt, tt, tt)).kept
  made_ends here (Export key part) vs s =
      let from : List ℕ → Got Did = λ bytes. part_exported constants part bytes vs s in
      does_end (then_get (known_text (slice_get constants.texts key)) from) (got_kept (known_text (slice_get constants.texts key)) from (λ bytes. exported_ends part bytes vs s))
  made_ends here CheckChar vs s = one_ends vs _
  made_ends here Exit vs s = does_end (effects.exited vs s) (exited_same ending vs s (tt, tt, tt)).kept
  made_ends here (Scans scan) vs s =
      does_end (then_get (known_scan constants scan) (λ from. scans.scanned from vs s))
      (got_kept (known_scan constants scan) (λ from. scans.scanned from vs s) (λ from. (scanned_same ending from vs s (tt, tt, tt)).kept))
  made_ends here (Stop register tap) vs s = does_end (scans.stopped register tap vs s) (stopped_same ending register tap vs s (tt, tt, tt)).kept
  made_ends here (Pad which source) vs s =
      does_end (then_get (known_given constants source) (λ from. scans.surrounded which from vs s))
      (got_kept (known_given constants source) (λ from. scans.surrounded which from vs s) (λ from. (surrounded_same ending padding which from vs s (tt, tt, tt)).kept))
  made_ends here (GoThrough states) vs s = does_end (effects.moved_through states vs s) (moved_same ending states vs s (tt, tt, tt)).kept
  made_ends here (Wait at kind last) vs s = does_end (effects.waited kind at last vs s) (waited_same ending kind at last vs s (tt, tt, tt)).kept
  made_ends here (Frequency stated) vs s = does_end (effects.tuned vs s) (tuned_same ending vs s (tt, tt, tt)).kept

  -- ---- a step, and what follows it

  abbrev StepEnds : Step → Type 0
  StepEnds (Stops ops t) = KeptTurned ending t
  StepEnds _ = Unit {0}

  acted_ends : (deeds : List Deed) (below : List Value) (s : State) → StepEnds (acted deeds below s)
  acted_ends [] below s = tt
  acted_ends (d ∷ deeds) below s = tt

  jump_ends : (to : Option ℕ) (s : State) → KeptTurned ending (jumps_to to s)
  jump_ends None s = tt
  jump_ends (Some place) s = (tt, (tt, tt, tt))

  chosen_ends : (entry : ℕ → ℕ) (s : State) (ps : List ℕ) → KeptTurned ending (next_chosen entry s ps)
  chosen_ends entry s [] = (tt, (tt, tt, tt), tt)
  chosen_ends entry s (p ∷ ps) = (tt, (tt, tt, tt))

  on_made_ends : (to : Option ℕ) (below : List Value) (s : State) (g : Got Made) → MadeEnds g → StepEnds (on_made entries to below s g)
  on_made_ends to below s (Known (Puts v)) h = tt
  on_made_ends to below s (Known (PutsFrom v t)) h = tt
  on_made_ends to below s (Known (PutsTwo x y)) h = tt
  on_made_ends to below s (Known (Does (did.Falls deeds t))) h = acted_ends deeds below t
  on_made_ends to below s (Known (Does (did.Captures scan go))) h = tt
  on_made_ends to below s (Known (Does (did.Jumps t))) h = jump_ends to t
  on_made_ends to below s (Known (Does (did.Resumes place t))) h = (tt, (tt, tt, tt))
  on_made_ends to below s (Known (Does (did.Returns t))) h = chosen_ends (entry_of entries) t t.chosen
  on_made_ends to below s (Known (Does (did.Ends e t))) h = (tt, (tt, tt, tt), h)
  on_made_ends to below s (Faults k) h = tt
  on_made_ends to below s Stuck h = tt

  step_ends : (here : ℕ) (i : Instr) (ops : List Value) (s : State) → StepEnds (step entries constants here i ops s)
  step_ends here i ops s = by (taken (length (takes i)) ops)
    where
      by : (both : Option (List Value × List Value)) →
          StepEnds (on_taken both (λ vs below. on_made entries (lands entries here i) below s (made entries constants here i vs s)))
      by None = tt
      by (Some both) = on_made_ends (lands entries here i) both.1 s (made entries constants here i both.0 s) (made_ends here i both.0 s)

  end_is_well : (ops : List Value) (h : Happened) → EndsWell h → EndsWell (at_end ops h)
  end_is_well [] h well = well
  end_is_well (v ∷ rest) h well = tt

  goes_on_well : (k : Chain) (x : Step) (go : List Value → State → Chain → Happened) → StepEnds x → ((ops : List Value) (t : State) (l : Chain) → EndsWell (go ops t l)) →
      EndsWell (continues k x go)
  goes_on_well k (Falls ops s) go h more = more ops s k
  goes_on_well k (Acts deeds ops s) go h more = after_events (deeds_events k deeds) (go ops s (deeds_chain k deeds)) (more ops s (deeds_chain k deeds))
  goes_on_well k (Scanned scan ops lands) go h more = after_scan k scan (λ bits l. go ops (lands bits) l) (λ bits l. more ops (lands bits) l)
  goes_on_well k (Stops ops t) go h more = end_is_well ops (happens k t) (turn_ends k t h)
  goes_on_well k (Faulted f s) go h more = tt
  goes_on_well k Wrong go h more = tt

  stretch_ends : (total : ℕ) (instrs : List Instr) (ops : List Value) (s : State) (k : Chain) → EndsWell (stretch entries constants total instrs ops s k)
  stretch_ends total [] ops s k = tt
  stretch_ends total (i ∷ rest) ops s k =
      goes_on_well k (step entries constants (total - suc (length rest)) i ops s) (stretch entries constants total rest)
      (step_ends (total - suc (length rest)) i ops s) (λ ops t l. stretch_ends total rest ops t l)

  in_piece_ends : (piece : ℕ) (h : Happened) → EndsWell h → EndsWell (happened_in_piece piece h)
  in_piece_ends piece (Led events place s k) well = tt
  in_piece_ends piece (Finished events e s k) well = well
  in_piece_ends piece (Broke events f s k) well = tt
  in_piece_ends piece (Lacks events) well = tt

  turn_ends_well : (code : List Instr) (place : ℕ) (s : State) (k : Chain) → EndsWell (code_turn entries constants code place s k)
  turn_ends_well code place s k = by (drop place code)
    where
      by : (rest : List Instr) → EndsWell (begins entries constants (length code) rest s k)
      by (Turn piece ∷ rest) = in_piece_ends piece (stretch entries constants (length code) rest [] s k) (stretch_ends (length code) rest [] s k)
      by _ = tt

  run_stands : (code : List Instr) (n place : ℕ) (s : State) (k : Chain) → StandsWell (code_run entries constants code n place s k).outcome
  run_stands code zero place s k = tt
  run_stands code (suc n) place s k =
      goes_well (code_turn entries constants code place s k) s k (code_run entries constants code n) (turn_ends_well code place s k) (λ place t l. run_stands code n place t l)

  chosen_begin_well : (h : Happened) → EndsWell (begins_chosen (entry_of entries) h)
  chosen_begin_well (Led events place s k) =
      let next = next_chosen (entry_of entries) s s.chosen in
      after_events events (happens k next) (turn_ends k next (chosen_ends (entry_of entries) s s.chosen))
  chosen_begin_well (Finished events e s k) = tt
  chosen_begin_well (Broke events f s k) = tt
  chosen_begin_well (Lacks events) = tt

  pub spent_goes_on : (code : List Instr) (chosen : List ℕ) (variables : List Held) (n : ℕ) (k : Chain) →
      ending_of (code_play entries constants code chosen variables n k).outcome ≡ Some Spent → IsGoing (code_play entries constants code chosen variables n k).outcome
  spent_goes_on code chosen variables n k is =
      is_going (code_play entries constants code chosen variables n k).outcome
      (goes_well (code_beginning entries constants code chosen variables k) (start chosen variables) k (code_run entries constants code n)
      (chosen_begin_well (stretch entries constants (length code) code [] (start chosen variables) k)) (λ place t l. run_stands code n place t l)) is
