-- The clocks among the events of a play of a code are answered by what stands at the far end, and lead to what stands
-- there then.
use Rattle.std.proofs.Common.{◌≡◌, ℕ, zero, suc, ◌-◌, List, [], ◌∷◌, ◌++◌, length, drop, map, Option, Some, None, refl}
use Rattle.std.specs.Prelude.{slice_get}
use Rattle.tap_states.specs.declared.Tap.{Tap}
use Rattle.tap_states.specs.Tap.{is_stable_state}
use Rattle.dev_card.specs.FarEnds.{FarEnd}
use Rattle.dev_card.specs.Padding.{BaseLengths}
use Rattle.stapl_meaning.specs.declared.records.Record.{Record}
use Rattle.stapl_meaning.specs.declared.values.Value.{Value}
use Rattle.stapl_meaning.specs.declared.values.Held.{Held}
use Rattle.stapl_meaning.specs.Deeds as deeds
use Rattle.stapl_meaning.specs.Deeds.{Deed, Chain, deed_events, deed_chain, deeds_events, deeds_chain, captured_on}
use Rattle.stapl_meaning.specs.SaidEvents.{SayNoClock, TurnSaysNoClock}
use Rattle.stapl_meaning.specs.Values.{Got, Known, Faults, Stuck, then_get}
use Rattle.stapl_meaning.specs.Effects.{topmost}
use Rattle.stapl_meaning.specs.Effects as effects
use Rattle.stapl_meaning.specs.Scans as scans
use Rattle.stapl_meaning.specs.States.{State, Did, next_chosen, jumps_to, Led, Finished, Broke, Lacks, Happened, happens, happened_in_piece, with_events}
use Rattle.stapl_meaning.specs.States as did
use Rattle.stapl_meaning.specs.Plays.{start, reset_inputs, reset_events, chain_reset}
use Rattle.stapl_meaning.proofs.Walks.{WalkRule, plain_rule, KeptGot, PaddingRule, assigned_same, element_same, copied_same, integers_same, jumped_same, parted_same, pushed_same, called_same, looped_same, repeated_same, returned_same, exited_same, printed_same, exported_same, bits_same, moved_same, waited_same, tuned_same, scanned_same, surrounded_same, stopped_same}
use Rattle.stapl_code.specs.declared.raw.CodeLists.{CodeLists}
use Rattle.stapl_code.specs.declared.instr.ExportPart.{ExportPart}
use Rattle.stapl_code.specs.declared.instr.ExportPart.TheVariants as exports
use Rattle.stapl_code.specs.declared.instr.Instr.{Instr}
use Rattle.stapl_code.specs.declared.instr.Instr.TheVariants.{Turn, Push, PushBit, Load, LoadAt, CheckIndex, CheckRange, Store, StoreAt, Unary, Binary, ToInt, CopyBits, SetBits, SetInts, For, Next, PushRecord, PopRecord, Call, Jump, JumpIfZero, EndProc, Print, Export, CheckChar, Exit, Scan as Scans, Stop, Pad, State as GoThrough, Wait, Frequency}
use Rattle.stapl_code.specs.Machine.{Constants, Made, Puts, PutsFrom, PutsTwo, Does, puts, does, one, two, kept, unrecorded, target_of, known_text, known_literal, known_source, known_given, known_scan, part_exported, parts_text, bit_of, made, Step, Falls, Acts, Scanned, Stops, Faulted, Wrong, on_taken, taken, takes, acted, lands, entry_of, on_made, at_end, continues, begins_chosen, step, stretch, begins, code_turn, code_run, code_beginning, code_play}
use Rattle.stapl_code.specs.Safe.{entries_of, constants_of}
use Rattle.machine_memory.specs.Zeros.{zeros_of_code}
use Rattle.stapl_player.specs.Plays.{whole_play}
use Rattle.pin_lines.proofs.Followed.{no_events_follow, both_follow, pulses_follow, deed_follows, deeds_follow, HappenedFollows, more_follow, either_follows, turn_follows, RunFollows, on_turn}

-- ---- what an instruction makes says no clock

both_say : (xs ys : List Deed) → SayNoClock xs → SayNoClock ys → SayNoClock (xs ++ ys)
both_say [] ys h k = k
both_say (deeds.Says event ∷ xs) ys h k = (h.0, both_say xs ys h.1 k)
both_say (deeds.Goes to ∷ xs) ys h k = both_say xs ys h k
both_say (deeds.Stays n ∷ xs) ys h k = both_say xs ys h k
both_say (deeds.Scans scan ∷ xs) ys h k = both_say xs ys h k

moves_say : (states : List Tap) → SayNoClock (map deeds.Goes states)
moves_say [] = tt
moves_say (t ∷ ts) = moves_say ts

abbrev says : WalkRule
says = record plain_rule {
  DeedsOk = SayNoClock;
  both_ok = both_say;
  says_ok = λ event e. (e, tt);
  moves_ok = moves_say;
  usec_ok = λ at end u. (refl, tt);
  wait_ok = λ at end c u e. (refl, tt);
}

abbrev MadeSays : Got Made → Type 0
MadeSays (Known (Does (did.Falls ds t))) = SayNoClock ds
MadeSays _ = Unit {0}

puts_says : (g : Got Value) → MadeSays (puts g)
puts_says (Known v) = tt
puts_says (Faults k) = tt
puts_says Stuck = tt

one_says : (vs : List Value) (go : Value → Got Value) → MadeSays (one vs go)
one_says [] go = tt
one_says (v ∷ []) go = puts_says (go v)
one_says (v ∷ w ∷ vs) go = tt

two_say : (vs : List Value) (go : Value → Value → Got Value) → MadeSays (two vs go)
two_say [] go = tt
two_say (x ∷ []) go = tt
two_say (x ∷ y ∷ []) go = puts_says (go x y)
two_say (x ∷ y ∷ z ∷ vs) go = tt

kept_says : (vs : List Value) (test : Value → Value → Got Value) → MadeSays (kept vs test)
kept_says [] test = tt
kept_says (x ∷ []) test = tt
kept_says (x ∷ y ∷ []) test = by (test x y)
  where
    by : (g : Got Value) → MadeSays (then_get g (λ z. Known (PutsTwo x y)))
    by (Known z) = tt
    by (Faults k) = tt
    by Stuck = tt
kept_says (x ∷ y ∷ z ∷ vs) test = tt

unrecorded_says : (top : Got (Value × List Record)) (s : State) → MadeSays (unrecorded top s)
unrecorded_says (Known both) s = tt
unrecorded_says (Faults k) s = tt
unrecorded_says Stuck s = tt

does_says : (g : Got Did) → KeptGot says g → MadeSays (does g)
does_says (Known (did.Falls ds t)) h = h.0
does_says (Known (did.Captures scan go)) h = tt
does_says (Known (did.Jumps t)) h = tt
does_says (Known (did.Resumes place t)) h = tt
does_says (Known (did.Returns t)) h = tt
does_says (Known (did.Ends e t)) h = tt
does_says (Faults k) h = tt
does_says Stuck h = tt

got_kept : {A : Type 0} (g : Got A) (go : A → Got Did) → ((x : A) → KeptGot says (go x)) → KeptGot says (then_get g go)
got_kept (Known x) go h = h x
got_kept (Faults k) go h = tt
got_kept Stuck go h = tt

padding : PaddingRule says
padding = record { same = λ which bits s. refl; kept = λ which bits s h. (tt, tt, tt) }

module _ (entries : List ℕ) (constants : Constants) where
  exported_says : (part : ExportPart) (key : List ℕ) (vs : List Value) (s : State) → KeptGot says (part_exported constants part key vs s)
  exported_says exports.Int key vs s = (exported_same says key vs s (tt, tt, tt)).kept
  exported_says exports.Bit key vs s = (exported_same says key vs s (tt, tt, tt)).kept
  exported_says (exports.Array source) key vs s =
      got_kept (known_source constants source) (λ from. effects.bits_exported key from vs s) (λ from. (bits_same says key from vs s (tt, tt, tt)).kept)

  made_says : (here : ℕ) (i : Instr) (vs : List Value) (s : State) → MadeSays (made entries constants here i vs s)
  made_says here (Turn piece) vs s = does_says (effects.jumped vs s) (jumped_same says vs s (tt, tt, tt)).kept
  made_says here (Push z) vs s = tt
  made_says here (PushBit b) vs s = puts_says (bit_of b)
  made_says here (Load n) vs s = puts_says _
  made_says here (LoadAt n) vs s = one_says vs _
  made_says here (CheckIndex n) vs s = one_says vs _
  made_says here (CheckRange n) vs s = kept_says vs _
  made_says here (Store n) vs s = does_says (effects.assigned n vs s) (assigned_same says n vs s (tt, tt, tt)).kept
  made_says here (StoreAt n) vs s = does_says (effects.element_assigned n vs s) (element_same says n vs s (tt, tt, tt)).kept
  made_says here (Unary op) vs s = one_says vs _
  made_says here (Binary op) vs s = two_say vs _
  made_says here (ToInt source) vs s = puts_says _
  made_says here (CopyBits dest source) vs s =
      does_says (then_get (known_source constants source) (λ from. effects.copied (target_of constants.profile dest) from vs s))
      (got_kept (known_source constants source) (λ from. effects.copied (target_of constants.profile dest) from vs s)
      (λ from. (copied_same says (target_of constants.profile dest) from vs s (tt, tt, tt)).kept))
  made_says here (SetBits n literal) vs s =
      does_says (then_get (known_literal (slice_get constants.literals literal)) (λ from. effects.copied (effects.IntoWhole n) from vs s))
      (got_kept (known_literal (slice_get constants.literals literal)) (λ from. effects.copied (effects.IntoWhole n) from vs s)
      (λ from. (copied_same says (effects.IntoWhole n) from vs s (tt, tt, tt)).kept))
  made_says here (SetInts n list) vs s = does_says (effects.integers_set n list vs s) (integers_same says n list vs s (tt, tt, tt)).kept
  made_says here (For n body) vs s = does_says (effects.looped n body vs s) (looped_same says n body vs s (tt, tt, tt)).kept
  made_says here (Next n) vs s = does_says (effects.repeated n vs s) (repeated_same says n vs s (tt, tt, tt)).kept
  made_says here (PushRecord kind) vs s = does_says (effects.pushed vs s) (pushed_same says vs s (tt, tt, tt)).kept
  made_says here (PopRecord kind) vs s = unrecorded_says (topmost kind s.records) s
  made_says here (Call p) vs s = does_says (effects.called (suc here) vs s) (called_same says (suc here) vs s (tt, tt, tt)).kept
  made_says here (Jump to) vs s = does_says (effects.jumped vs s) (jumped_same says vs s (tt, tt, tt)).kept
  made_says here (JumpIfZero to) vs s = does_says (effects.parted vs s) (parted_same says vs s (tt, tt, tt)).kept
  made_says here EndProc vs s = does_says (effects.returned vs s) (returned_same says vs s (tt, tt, tt)).kept
  made_says here (Print list) vs s = does_says (effects.printed (parts_text entries constants list vs) s) (printed_same says (parts_text entries constants list vs) s (tt, tt, tt)).kept
  made_says here (Export key part) vs s =
      let from : List ℕ → Got Did = λ bytes. part_exported constants part bytes vs s in
      does_says (then_get (known_text (slice_get constants.texts key)) from) (got_kept (known_text (slice_get constants.texts key)) from (λ bytes. exported_says part bytes vs s))
  made_says here CheckChar vs s = one_says vs _
  made_says here Exit vs s = does_says (effects.exited vs s) (exited_same says vs s (tt, tt, tt)).kept
  made_says here (Scans scan) vs s =
      does_says (then_get (known_scan constants scan) (λ from. scans.scanned from vs s))
      (got_kept (known_scan constants scan) (λ from. scans.scanned from vs s) (λ from. (scanned_same says from vs s (tt, tt, tt)).kept))
  made_says here (Stop register tap) vs s = does_says (scans.stopped register tap vs s) (stopped_same says register tap vs s (tt, tt, tt)).kept
  made_says here (Pad which source) vs s =
      does_says (then_get (known_given constants source) (λ from. scans.surrounded which from vs s))
      (got_kept (known_given constants source) (λ from. scans.surrounded which from vs s) (λ from. (surrounded_same says padding which from vs s (tt, tt, tt)).kept))
  made_says here (GoThrough states) vs s = does_says (effects.moved_through states vs s) (moved_same says states vs s (tt, tt, tt)).kept
  made_says here (Wait at kind last) vs s = does_says (effects.waited kind at last vs s) (waited_same says kind at last vs s (tt, tt, tt)).kept
  made_says here (Frequency stated) vs s = does_says (effects.tuned vs s) (tuned_same says vs s (tt, tt, tt)).kept

  -- ---- a step, and what follows it

  abbrev StepSays : Step → Type 0
  StepSays (Acts ds ops s) = SayNoClock ds
  StepSays (Stops ops t) = TurnSaysNoClock t
  StepSays _ = Unit {0}

  acted_says : (ds : List Deed) (below : List Value) (s : State) → SayNoClock ds → StepSays (acted ds below s)
  acted_says [] below s h = tt
  acted_says (d ∷ ds) below s h = h

  jump_says : (to : Option ℕ) (s : State) → TurnSaysNoClock (jumps_to to s)
  jump_says None s = tt
  jump_says (Some place) s = tt

  chosen_says : (entry : ℕ → ℕ) (s : State) (ps : List ℕ) → TurnSaysNoClock (next_chosen entry s ps)
  chosen_says entry s [] = tt
  chosen_says entry s (p ∷ ps) = tt

  on_made_says : (to : Option ℕ) (below : List Value) (s : State) (g : Got Made) → MadeSays g → StepSays (on_made entries to below s g)
  on_made_says to below s (Known (Puts v)) h = tt
  on_made_says to below s (Known (PutsFrom v t)) h = tt
  on_made_says to below s (Known (PutsTwo x y)) h = tt
  on_made_says to below s (Known (Does (did.Falls ds t))) h = acted_says ds below t h
  on_made_says to below s (Known (Does (did.Captures scan go))) h = tt
  on_made_says to below s (Known (Does (did.Jumps t))) h = jump_says to t
  on_made_says to below s (Known (Does (did.Resumes place t))) h = tt
  on_made_says to below s (Known (Does (did.Returns t))) h = chosen_says (entry_of entries) t t.chosen
  on_made_says to below s (Known (Does (did.Ends e t))) h = tt
  on_made_says to below s (Faults k) h = tt
  on_made_says to below s Stuck h = tt

  step_says : (here : ℕ) (i : Instr) (ops : List Value) (s : State) → StepSays (step entries constants here i ops s)
  step_says here i ops s = by (taken (length (takes i)) ops)
    where
      by : (both : Option (List Value × List Value)) →
          StepSays (on_taken both (λ vs below. on_made entries (lands entries here i) below s (made entries constants here i vs s)))
      by None = tt
      by (Some both) = on_made_says (lands entries here i) both.1 s (made entries constants here i both.0 s) (made_says here i both.0 s)

  end_follows : (far : FarEnd) (ops : List Value) (h : Happened) → HappenedFollows far h → HappenedFollows far (at_end ops h)
  end_follows far [] h f = f
  end_follows far (v ∷ rest) h f = tt

  step_follows : (k : Chain) (x : Step) (go : List Value → State → Chain → Happened) → StepSays x →
      ((ops : List Value) (t : State) (l : Chain) → HappenedFollows l.far (go ops t l)) → HappenedFollows k.far (continues k x go)
  step_follows k (Falls ops s) go h more = more ops s k
  step_follows k (Acts ds ops s) go h more =
      let l : Chain = deeds_chain k ds in more_follow k.far l.far (deeds_events k ds) (go ops s l) (deeds_follow ds k h) (more ops s l)
  step_follows k (Scanned scan ops lands) go h more =
      let l : Chain = deed_chain k (deeds.Scans scan) in
      let then : Happened = go ops (lands (captured_on k scan)) l in
      either_follows k.far (is_stable_state k.tap) (with_events (deed_events k (deeds.Scans scan)) then)
      (more_follow k.far l.far (deed_events k (deeds.Scans scan)) then (deed_follows k (deeds.Scans scan) tt) (more ops (lands (captured_on k scan)) l))
  step_follows k (Stops ops t) go h more = end_follows k.far ops (happens k t) (turn_follows t k h)
  step_follows k (Faulted f s) go h more = no_events_follow k.far
  step_follows k Wrong go h more = tt

  stretch_follows : (total : ℕ) (instrs : List Instr) (ops : List Value) (s : State) (k : Chain) → HappenedFollows k.far (stretch entries constants total instrs ops s k)
  stretch_follows total [] ops s k = tt
  stretch_follows total (i ∷ rest) ops s k =
      step_follows k (step entries constants (total - suc (length rest)) i ops s) (stretch entries constants total rest)
      (step_says (total - suc (length rest)) i ops s) (λ ops t l. stretch_follows total rest ops t l)

  in_piece_follows : (far : FarEnd) (piece : ℕ) (h : Happened) → HappenedFollows far h → HappenedFollows far (happened_in_piece piece h)
  in_piece_follows far piece (Led events place s k) f = f
  in_piece_follows far piece (Finished events e s k) f = f
  in_piece_follows far piece (Broke events fault s k) f = f
  in_piece_follows far piece (Lacks events) f = tt

  code_turn_follows : (code : List Instr) (place : ℕ) (s : State) (k : Chain) → HappenedFollows k.far (code_turn entries constants code place s k)
  code_turn_follows code place s k = by (drop place code)
    where
      by : (rest : List Instr) → HappenedFollows k.far (begins entries constants (length code) rest s k)
      by (Turn piece ∷ rest) = in_piece_follows k.far piece (stretch entries constants (length code) rest [] s k) (stretch_follows (length code) rest [] s k)
      by _ = tt

  code_run_follows : (code : List Instr) (n place : ℕ) (s : State) (k : Chain) → RunFollows k.far (code_run entries constants code n place s k)
  code_run_follows code zero place s k = λ ending e. no_events_follow k.far
  code_run_follows code (suc n) place s k =
      on_turn k.far (code_turn entries constants code place s k) s k (code_run entries constants code n) (code_turn_follows code place s k)
      (λ place t l. code_run_follows code n place t l)

  chosen_begin_follows : (far : FarEnd) (h : Happened) → HappenedFollows far h → HappenedFollows far (begins_chosen (entry_of entries) h)
  chosen_begin_follows far (Led events place s k) f =
      let next = next_chosen (entry_of entries) s s.chosen in
      more_follow far k.far events (happens k next) f (turn_follows next k (chosen_says (entry_of entries) s s.chosen))
  chosen_begin_follows far (Finished events e s k) f = tt
  chosen_begin_follows far (Broke events fault s k) f = tt
  chosen_begin_follows far (Lacks events) f = tt

  code_play_follows : (code : List Instr) (chosen : List ℕ) (variables : List Held) (n : ℕ) (k : Chain) →
      RunFollows k.far (code_play entries constants code chosen variables n k)
  code_play_follows code chosen variables n k =
      on_turn k.far (code_beginning entries constants code chosen variables k) (start chosen variables) k (code_run entries constants code n)
      (chosen_begin_follows k.far (stretch entries constants (length code) code [] (start chosen variables) k) (stretch_follows (length code) code [] (start chosen variables) k))
      (λ place t l. code_run_follows code n place t l)

-- a play of a code from the first clocks on
pub whole_play_follows : (code : CodeLists) (chosen : List ℕ) (n : ℕ) (base : BaseLengths) (far : FarEnd) → RunFollows far (whole_play code chosen n base far)
whole_play_follows code chosen n base far = λ ending e.
    let k : Chain = chain_reset base far in
    let r = code_play (entries_of code.procedures) (constants_of code) code.instrs chosen (zeros_of_code code) n k in
    both_follow far k.far r.chain.far (reset_events far) r.events (pulses_follow far reset_inputs)
    (code_play_follows (entries_of code.procedures) (constants_of code) code.instrs chosen (zeros_of_code code) n k ending e)
