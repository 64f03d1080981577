-- On a whole play over a port: the line of the digits that wait, what the answer says of the parts, and the play over
-- these parts.
use Rattle.std.proofs.Common.{◌≡◌, ◌≤◌, ◌+◌, ℕ, Bool, List, [], ◌++◌, Option, Some, Result, Ok, Err, sym, ap, subst, ◌∙◌, arith, reverse}
use Rattle.std.proofs.lemmas.List.{append-nil}
use Rattle.tool_io.specs.Causes.{HasRisen}
use Rattle.tap_states.specs.declared.Tap.{Tap}
use Rattle.tap_states.specs.declared.Tap.TheVariants.{Reset}
use Rattle.dev_card.specs.Board.{Clock, tdos}
use Rattle.dev_card.specs.FarEnds.{far_end}
use Rattle.dev_card.specs.Padding.{BaseLengths}
use Rattle.scan_paths.specs.Cables.{Signal, whole, line, cable_faults, IsCableLast}
use Rattle.scan_paths.specs.declared.cable.Cable.{Ghosts as CableOf}
use Rattle.written_cable.specs.declared.paper.Paper.{Ghosts as PaperOf}
use Rattle.stapl_meaning.specs.declared.events.Event.{Event}
use Rattle.stapl_meaning.specs.declared.events.Ending.{Ending}
use Rattle.stapl_meaning.specs.declared.values.Held.{Held}
use Rattle.stapl_meaning.specs.Deeds.{Chain}
use Rattle.stapl_meaning.specs.States.{State}
use Rattle.stapl_meaning.specs.Plays.{Run, ending_of}
use Rattle.stapl_meaning.specs.Texts.{bytes_of, waiting, pin_line, events_text}
use Rattle.stapl_code.specs.declared.raw.CodeLists.{CodeLists}
use Rattle.machine_memory.specs.declared.memory.Workspace.{Workspace}
use Rattle.written_cable.specs.declared.pin_cable.PinCable.{PinCable}
use Rattle.stapl_machine.specs.declared.running.Machine.{Machine}
use Rattle.written_cable.specs.declared.trouble.Trouble.{Trouble}
use Rattle.written_cable.specs.declared.trouble.Trouble.TheVariants as troubles
use Rattle.machine_memory.specs.Acts.{state_of}
use Rattle.stapl_machine.specs.Machines.{play_of, play_ticks_of, chain_at, IsPlayed, IsPlayedFront}
use Rattle.written_cable.specs.Papers.{Puts, PutsFront}
use Rattle.written_cable.specs.PaperLaws.{put_then, put_then_front, front_with}
use Rattle.written_cable.specs.Pins.{cable_of, lines_of, tap_of, base_of, digits_of, writes_pins}
use Rattle.written_cable.specs.PinLaws.{events_front_with}
use Rattle.written_cable.specs.Ports.{broken_part, BrokeSo, IsKept, IfFault, KeepsParts, LeavesSo, chain_before, RunsTo, RunsFront, PlaysTo, PlaysFront}
use Rattle.written_cable.specs.Signals.{signals_of}
use Rattle.written_cable.specs.Resets.{kept_digits}
use Rattle.stapl_machine.specs.Runs.{play_from, play_ticks_from}
use Rattle.machine_memory.specs.Zeros.{zeros_of_code}
use Rattle.written_cable.proofs.DeedLemmas.{same_chain, whole_line, whole_lines}

module _ {C O : Type 0} (cable : CableOf C) (paper : PaperOf O) (all : Chain → Run) (count : Chain → ℕ) where
  still_made : (a b c : C) (signals : List Signal) → c ≡ b → cable.made a signals b → cable.made a signals c
  still_made a b c signals e m = subst (λ (x : C). cable.made a signals x) (sym e) m

  -- the run, and the line of the digits that wait
  pub plays_end : (a b c : PinCable C O) (steps now : ℕ) (ending : Option Ending) (s : State) → cable_of c ≡ cable_of b → tap_of c ≡ tap_of b → base_of c ≡ base_of b →
      RunsTo cable paper all count a steps ending s b now → Puts paper.shown (lines_of b) (pin_line (digits_of b)) (lines_of c) →
      PlaysTo cable paper all count a steps ending s c now
  plays_end a b c steps now ending s same tap base p put = record {
    events = p.events;
    clocks = p.clocks;
    made = still_made (cable_of a) (cable_of b) (cable_of c) (signals_of p.events) same p.passed.made;
    clocks_are = p.passed.clocks_are;
    put = subst (λ (ds : List ℕ). Puts paper.shown (lines_of a) (bytes_of (writes_pins a) (digits_of a) p.events ++ pin_line ds) (lines_of c)) p.passed.put.digits (put_then p.passed.put.put put);
    runs = p.runs;
    ended = p.ended;
    leaves = λ more.
        subst (λ (k : Chain). LeavesSo (all (chain_before cable paper a p.clocks more)) ending s k)
        (same_chain cable.board b c more tap base (ap cable.board same)) (p.leaves more);
    ticked = p.ticked;
  }

  -- where that line fails
  pub plays_torn : (a b c : PinCable C O) (steps now : ℕ) (ending : Option Ending) (s : State) → cable_of c ≡ cable_of b →
      RunsTo cable paper all count a steps ending s b now → PutsFront paper.shown (lines_of b) (pin_line (digits_of b)) (lines_of c) →
      PlaysFront cable paper all count a steps c now
  plays_torn a b c steps now ending s same p front = record {
    events = p.events;
    clocks = p.clocks;
    made = still_made (cable_of a) (cable_of b) (cable_of c) (signals_of p.events) same p.passed.made;
    clocks_are = p.passed.clocks_are;
    rest = λ more. [];
    runs = λ more. p.runs more ∙ sym (append-nil p.events);
    driven = subst (λ (ds : List ℕ). PutsFront paper.shown (lines_of a)
        (bytes_of (writes_pins a) (digits_of a) p.events ++ pin_line ds) (lines_of c)) p.passed.put.digits
        (put_then_front p.passed.put.put front);
    front = λ more.
        subst (λ (es : List Event). PutsFront paper.shown (lines_of a) (events_text (writes_pins a) (digits_of a) es) (lines_of c)) (sym (p.runs more))
        (subst (λ (ds : List ℕ). PutsFront paper.shown (lines_of a) (bytes_of (writes_pins a) (digits_of a) p.events ++ pin_line ds) (lines_of c)) p.passed.put.digits
        (put_then_front p.passed.put.put front));
    most = λ more. (let exact = p.ticked more in omega arith);
  }

  -- where the run was broken off
  pub plays_front : (a b : PinCable C O) (steps now : ℕ) → RunsFront cable paper all count a steps b now → PlaysFront cable paper all count a steps b now
  plays_front a b steps now p = record {
    events = p.events;
    clocks = p.clocks;
    made = p.passed.made;
    clocks_are = p.passed.clocks_are;
    rest = p.rest;
    runs = p.runs;
    driven = front_with (pin_line (waiting (writes_pins a) (digits_of a) p.events)) p.passed.front;
    front = λ more.
        subst (λ (es : List Event). PutsFront paper.shown (lines_of a) (events_text (writes_pins a) (digits_of a) es) (lines_of b)) (sym (p.runs more))
        (front_with (pin_line (waiting (writes_pins a) (digits_of a) (p.events ++ p.rest more))) (events_front_with (broken_part cable paper) paper.shown a b p.events (p.rest more) p.passed.front));
    most = p.most;
  }

-- the cause of a failure
pub fault_causes : {C O : Type 0} {cable : CableOf C} {paper : PaperOf O} (a b : PinCable C O) (trouble : Trouble) → IsKept cable paper a b →
    BrokeSo trouble (broken_part cable paper b) →
    IfFault trouble (HasRisen (cable_faults cable.line_faults cable.pin_faults) (IsCableLast cable.is_line_last cable.is_pin_last) (cable_of a) (cable_of b))
    (HasRisen paper.faults paper.is_last (lines_of a) (lines_of b))
fault_causes a b troubles.CableFault kept e = kept.line_cause.broke e
fault_causes a b troubles.WriteFault kept e = kept.pins_cause.broke e

-- what a play keeps of the parts of a port
module _ {C O A : Type 0} (cable : CableOf C) (paper : PaperOf O) (a b : PinCable C O) (kept : IsKept cable paper a b) where
  pub parts_whole : (x : A) → broken_part cable paper b ≡ whole → KeepsParts cable paper (cable_of a) (lines_of a) (cable_of b) (lines_of b) (Ok x)
  parts_whole x w = record {
    same_paper = kept.over;
    whole_paper = whole_lines cable paper b w;
    whole_cable = whole_line cable paper b w;
    cable_kept = kept.line_cause.kept;
    paper_kept = kept.pins_cause.kept;
    fault = tt;
  }

  pub parts_broken : (trouble : Trouble) → BrokeSo trouble (broken_part cable paper b) → KeepsParts {A = A} cable paper (cable_of a) (lines_of a) (cable_of b) (lines_of b) (Err trouble)
  parts_broken trouble broke = record {
    same_paper = kept.over;
    whole_paper = tt;
    whole_cable = tt;
    cable_kept = kept.line_cause.kept;
    paper_kept = kept.pins_cause.kept;
    fault = fault_causes a b trouble kept broke;
  }

-- the same of parts by other names, with another answer
module _ {C O A : Type 0} (cable : CableOf C) (paper : PaperOf O) (a b c d : C) (k l m n : O) (a_is : a ≡ c) (k_is : k ≡ m) (d_is : d ≡ b) (n_is : n ≡ l) where
  renamed : (r : Result A Trouble) → KeepsParts cable paper a k b l r → KeepsParts cable paper c m d n r
  renamed r p =
      subst (λ (x : C). KeepsParts cable paper c m x n r) (sym d_is)
      (subst (λ (x : O). KeepsParts cable paper c m b x r) (sym n_is)
      (subst (λ (x : O). KeepsParts cable paper c x b l r) k_is
      (subst (λ (x : C). KeepsParts cable paper x k b l r) a_is p)))

  pub parts_ok : {B : Type 0} (x : A) (y : B) → KeepsParts cable paper a k b l (Ok x) → KeepsParts cable paper c m d n (Ok y)
  parts_ok x y p = let q = renamed (Ok x) p in record {
    same_paper = q.same_paper;
    whole_paper = q.whole_paper;
    whole_cable = q.whole_cable;
    cable_kept = q.cable_kept;
    paper_kept = q.paper_kept;
    fault = tt;
  }

  pub parts_err : {B : Type 0} (e : Trouble) → KeepsParts {A = A} cable paper a k b l (Err e) → KeepsParts {A = B} cable paper c m d n (Err e)
  parts_err e p = let q = renamed (Err e) p in record {
    same_paper = q.same_paper;
    whole_paper = tt;
    whole_cable = tt;
    cable_kept = q.cable_kept;
    paper_kept = q.paper_kept;
    fault = q.fault;
  }

-- a play of the lists of a code, whose variables hold zeros
pub over_code : {C O : Type 0} (cable : CableOf C) (paper : PaperOf O) (lists code : CodeLists) (chosen : List ℕ)
    (v : List Held) (n : ℕ)
    (a b : PinCable C O) (steps now : ℕ) (ending other : Option Ending) (s : State) → lists ≡ code → v ≡ zeros_of_code code → ending ≡ other →
    PlaysTo cable paper (play_from lists chosen v n) (play_ticks_from lists chosen v n) a steps ending s b now →
    PlaysTo cable paper (play_of code chosen n) (play_ticks_of code chosen n) a steps other s b now
over_code cable paper lists code chosen v n a b steps now ending other s same zeros is p =
    subst (λ (w : List Held). PlaysTo cable paper (play_from code chosen w n) (play_ticks_from code chosen w n) a steps other s b now) zeros
    (subst (λ (l : CodeLists). PlaysTo cable paper (play_from l chosen v n) (play_ticks_from l chosen v n) a steps other s b now) same
    (subst (λ (o : Option Ending). PlaysTo cable paper (play_from lists chosen v n) (play_ticks_from lists chosen v n) a steps o s b now) is p))

pub over_code_front : {C O : Type 0} (cable : CableOf C) (paper : PaperOf O) (lists code : CodeLists) (chosen : List ℕ)
    (v : List Held) (n : ℕ)
    (a b : PinCable C O) (steps now : ℕ) → lists ≡ code → v ≡ zeros_of_code code →
    PlaysFront cable paper (play_from lists chosen v n) (play_ticks_from lists chosen v n) a steps b now →
    PlaysFront cable paper (play_of code chosen n) (play_ticks_of code chosen n) a steps b now
over_code_front cable paper lists code chosen v n a b steps now same zeros p =
    subst (λ (w : List Held). PlaysFront cable paper (play_from code chosen w n) (play_ticks_from code chosen w n) a steps b now) zeros
    (subst (λ (l : CodeLists). PlaysFront cable paper (play_from l chosen v n) (play_ticks_from l chosen v n) a steps b now) same p)

-- the play of a machine, over the parts of its port
module _ {C O : Type 0} (cable : CableOf C) (paper : PaperOf O) (chosen : List ℕ)
    (machine : Machine) (p : Bool) (digits : List ℕ) (base : BaseLengths) (wire new_wire : C) (out new : O)
    (a b : PinCable C O) (wire_is : cable_of a ≡ wire) (out_is : lines_of a ≡ out) (digits_are : digits_of a ≡ kept_digits p digits) (pins_are : writes_pins a ≡ p)
    (tap_is : tap_of a ≡ Reset) (base_is : base_of a ≡ base) (new_out_is : new ≡ lines_of b) (new_wire_is : new_wire ≡ cable_of b) (run : Chain → Run) (count : Chain → ℕ) (steps now : ℕ) where
  -- the chain before
  begins : (clocks : List Clock) (more : List Bool) → chain_before cable paper a clocks more ≡ chain_at base cable.board wire (tdos clocks ++ more)
  begins clocks more =
      ap (λ (t : Tap). let k : Chain = record { tap = t; base = base_of a; far = far_end (cable.board (cable_of a)) (tdos clocks ++ more) } in k) tap_is
      ∙ ap (λ (l : BaseLengths). chain_at l cable.board (cable_of a) (tdos clocks ++ more)) base_is
      ∙ ap (λ (d : C). chain_at base cable.board d (tdos clocks ++ more)) wire_is

  made_over : (signals : List Signal) → cable.made (cable_of a) signals (cable_of b) → cable.made wire signals new_wire
  made_over signals m =
      subst (λ (d : C). cable.made wire signals d) (sym new_wire_is)
      (subst (λ (d : C). cable.made d signals (cable_of b)) wire_is m)

  put_over : (es : List Event) → Puts paper.shown (lines_of a) (events_text (writes_pins a) (digits_of a) es) (lines_of b) → Puts paper.shown out (events_text p (kept_digits p digits) es) new
  put_over es q =
      subst (λ (l : O). Puts paper.shown out (events_text p (kept_digits p digits) es) l) (sym new_out_is)
      (subst (λ (l : O). Puts paper.shown l (events_text p (kept_digits p digits) es) (lines_of b)) out_is
      (subst (λ (ds : List ℕ). Puts paper.shown (lines_of a) (events_text p ds es) (lines_of b)) digits_are
      (subst (λ (x : Bool). Puts paper.shown (lines_of a) (events_text x (digits_of a) es) (lines_of b)) pins_are q)))

  front_over : (es : List Event) → PutsFront paper.shown (lines_of a) (events_text (writes_pins a) (digits_of a) es) (lines_of b) →
      PutsFront paper.shown out (events_text p (kept_digits p digits) es) new
  front_over es q =
      subst (λ (l : O). PutsFront paper.shown out (events_text p (kept_digits p digits) es) l) (sym new_out_is)
      (subst (λ (l : O). PutsFront paper.shown l (events_text p (kept_digits p digits) es) (lines_of b)) out_is
      (subst (λ (ds : List ℕ). PutsFront paper.shown (lines_of a) (events_text p ds es) (lines_of b)) digits_are
      (subst (λ (x : Bool). PutsFront paper.shown (lines_of a) (events_text x (digits_of a) es) (lines_of b)) pins_are q)))

  pub machine_played : (ending : Ending) (work : Workspace) → machine.work ≡ work →
      PlaysTo cable paper run count a steps (Some ending) (state_of chosen work) b now →
      IsPlayed cable paper p digits base run count wire out steps ending new_wire new now machine
  machine_played ending work is q = record {
    events = q.events;
    clocks = q.clocks;
    made = made_over (signals_of q.events) q.made;
    clocks_are = q.clocks_are;
    put = put_over q.events q.put;
    runs = λ more. ap (λ (k : Chain). (run k).events) (sym (begins q.clocks more)) ∙ q.runs more;
    ended = λ more. ap (λ (k : Chain). ending_of (run k).outcome) (sym (begins q.clocks more)) ∙ q.ended more;
    far = λ more.
        ap (λ (k : Chain). (run k).chain.far) (sym (begins q.clocks more)) ∙ ap (λ (k : Chain). k.far) (q.leaves more).1
        ∙ ap (λ (d : C). far_end (cable.board d) more) (sym new_wire_is);
    variables = λ more.
        ap (λ (k : Chain). (run k).state.store.variables) (sym (begins q.clocks more)) ∙ ap (λ (s : State). s.store.variables) (q.leaves more).0
        ∙ ap (λ (w : Workspace). w.memory.variables.items) (sym is);
    records = λ more.
        ap (λ (k : Chain). (run k).state.records) (sym (begins q.clocks more)) ∙ ap (λ (s : State). s.records) (q.leaves more).0
        ∙ ap (λ (w : Workspace). reverse w.memory.records.items) (sym is);
    ticked = λ more. q.ticked more ∙ ap (λ (k : Chain). steps + count k) (begins q.clocks more);
  }

  pub machine_front : PlaysFront cable paper run count a steps b now → IsPlayedFront cable paper p digits base run count wire out steps new_wire new now
  machine_front q = record {
    events = q.events;
    clocks = q.clocks;
    made = made_over (signals_of q.events) q.made;
    clocks_are = q.clocks_are;
    rest = q.rest;
    runs = λ more. ap (λ (k : Chain). (run k).events) (sym (begins q.clocks more)) ∙ q.runs more;
    driven = front_over q.events q.driven;
    front = λ more.
        front_over (run (chain_at base cable.board wire (tdos q.clocks ++ more))).events
        (subst (λ (k : Chain). PutsFront paper.shown (lines_of a) (events_text (writes_pins a) (digits_of a) (run k).events) (lines_of b)) (begins q.clocks more) (q.front more));
    most = λ more. subst (λ (k : Chain). now ≤ steps + count k) (begins q.clocks more) (q.most more);
  }
