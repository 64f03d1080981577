-- On the turns of a run, one after another.
use Rattle.std.proofs.Common.{◌≡◌, ◌≤◌, ◌<◌, ℕ, suc, ◌+◌, ◌-◌, Bool, List, [], ◌++◌, refl, sym, ap, ◌∙◌, append_assoc, arith, Option, Some, None, subst, length, reverse}
use Rattle.std.proofs.lemmas.List.{append-nil}
use Rattle.dev_card.specs.Board.{Clock, tdos}
use Rattle.scan_paths.specs.Cables.{Signal, whole}
use Rattle.scan_paths.specs.declared.cable.Cable.{Ghosts as CableOf}
use Rattle.written_cable.specs.declared.paper.Paper.{Ghosts as PaperOf}
use Rattle.stapl_meaning.specs.declared.events.Event.{Event}
use Rattle.stapl_meaning.specs.declared.events.Ending.{Ending}
use Rattle.stapl_meaning.specs.declared.events.Ending.TheVariants.{Spent}
use Rattle.stapl_meaning.specs.declared.records.Record.{Record}
use Rattle.stapl_meaning.specs.declared.values.Value.{Value}
use Rattle.stapl_meaning.specs.Deeds.{Chain}
use Rattle.stapl_meaning.specs.States.{ScanSettings, State, Happened, Led, Finished, Broke, Lacks, happens, with_events, happened_in_piece, next_chosen}
use Rattle.stapl_meaning.specs.Plays.{Run, after, goes_on, ending_of, first_settings, start}
use Rattle.stapl_code.specs.declared.raw.CodeLists.{CodeLists}
use Rattle.stapl_code.specs.Machine.{entry_of, begins_chosen, stretch}
use Rattle.stapl_code.specs.Safe.{entries_of, constants_of}
use Rattle.stapl_code.specs.Ticks.{ticks, counted_then}
use Rattle.stapl_code.proofs.Preceded.{begins_with, with_nothing}
use Rattle.machine_memory.specs.declared.memory.Workspace.{Workspace}
use Rattle.stapl_instructions.specs.declared.control.Went.{Went}
use Rattle.stapl_instructions.specs.declared.control.Went.TheVariants as went
use Rattle.written_cable.specs.declared.pin_cable.PinCable.{PinCable}
use Rattle.machine_memory.specs.Acts.{IsUnused, state_with, state_of, operands_of}
use Rattle.stapl_instructions.specs.Moves.{led_to, led_on}
use Rattle.written_cable.specs.Pins.{cable_of, port_chain}
use Rattle.written_cable.specs.Ports.{broken_part, chain_before, Does, DoesFront, Runs, LeavesSo, RunsTo, RunsFront}
use Rattle.stapl_machine.specs.Turns.{rest_of, ticks_from, no_ticks}
use Rattle.stapl_machine.specs.Runs.{run_of, run_ticks_of, chosen_run, chosen_ticks, begun_run, begun_ticks, play_from, play_ticks_from}
use Rattle.written_cable.proofs.DeedLemmas.{passes_none, passes_both, passes_both_front, before_both}

-- events in front of a turn are events in front of its run, and do not count
pub goes_after : (seen : List Event) (h : Happened) (s : State) (k : Chain) (go : ℕ → State → Chain → Run) → goes_on (with_events seen h) s k go ≡ after seen (goes_on h s k go)
goes_after seen (Led events place u l) s k go = ap (λ (es : List Event). let r : Run = record (go place u l) { events = es } in r) (append_assoc seen events (go place u l).events)
goes_after seen (Finished events ending u l) s k go = refl
goes_after seen (Broke events f u l) s k go = refl
goes_after seen (Lacks events) s k go = refl

pub after_twice : (first second : List Event) (r : Run) → after first (after second r) ≡ after (first ++ second) r
after_twice first second r = ap (λ (l : List Event). let q : Run = record r { events = l } in q) (sym (append_assoc first second r.events))

pub counted_with : (seen : List Event) (h : Happened) (go : ℕ → State → Chain → ℕ) → counted_then (with_events seen h) go ≡ counted_then h go
counted_with seen (Led events place u l) go = refl
counted_with seen (Finished events ending u l) go = refl
counted_with seen (Broke events f u l) go = refl
counted_with seen (Lacks events) go = refl

-- What a run tells does not depend on the state and the chain that it stands in if nothing is found to do.
module _ (h : Happened) (s t : State) (k l : Chain) (go : ℕ → State → Chain → Run) where
  alike_events : (goes_on h s k go).events ≡ (goes_on h t l go).events
  alike_events = by h
    where
      by : (h : Happened) → (goes_on h s k go).events ≡ (goes_on h t l go).events
      by (Led events place u c) = refl
      by (Finished events ending u c) = refl
      by (Broke events f u c) = refl
      by (Lacks events) = refl

  alike_ends : ending_of (goes_on h s k go).outcome ≡ ending_of (goes_on h t l go).outcome
  alike_ends = by h
    where
      by : (h : Happened) → ending_of (goes_on h s k go).outcome ≡ ending_of (goes_on h t l go).outcome
      by (Led events place u c) = refl
      by (Finished events ending u c) = refl
      by (Broke events f u c) = refl
      by (Lacks events) = refl

  alike_leaves : (ending : Option Ending) (u : State) (c : Chain) → ending_of (goes_on h t l go).outcome ≡ ending →
      LeavesSo (goes_on h t l go) ending u c → LeavesSo (goes_on h s k go) ending u c
  alike_leaves ending u c = by h ending
    where
      by : (h : Happened) (ending : Option Ending) → ending_of (goes_on h t l go).outcome ≡ ending → LeavesSo (goes_on h t l go) ending u c → LeavesSo (goes_on h s k go) ending u c
      by h None e m = tt
      by (Led events place v d) (Some ending) e m = m
      by (Finished events last v d) (Some ending) e m = m
      by (Broke events f v d) (Some ending) e m = absurd cc
      by (Lacks events) (Some ending) e m = absurd cc

ticked_both : (a s n all here turn more : ℕ) → s + here ≡ a + all → here ≡ turn + more → n + 0 ≡ s + turn → n + more ≡ a + all
ticked_both a s n all here turn more e f g = omega arith

ticked_end : (a s n all here turn more : ℕ) → s + here ≡ a + all → here ≡ turn + more → more ≡ 0 → n + 0 ≡ s + turn → n ≡ a + all
ticked_end a s n all here turn more e f h g = omega arith

ticked_front : (a s n all here turn more : ℕ) → s + here ≡ a + all → here ≡ turn + more → n ≤ s + turn → n ≤ a + all
ticked_front a s n all here turn more e f g = omega arith

plus_none : (n a m : ℕ) → n + m ≡ a → m ≡ 0 → n ≡ a
plus_none n a m e f = omega arith

pub one_left : (all i : ℕ) → i < all → all - i ≡ suc (all - (i + 1))
one_left all i h = omega arith

pub none_left : (all i : ℕ) → all ≤ i → all - i ≡ 0
none_left all i h = omega arith

module _ {C O : Type 0} (cable : CableOf C) (paper : PaperOf O) where
  -- no turn yet
  pub runs_none : (a : PinCable C O) (all rest : Chain → Run) (count left : Chain → ℕ) (steps : ℕ) → cable.made (cable_of a) [] (cable_of a) → broken_part cable paper a ≡ whole →
      ((k : Chain) → all k ≡ rest k) → ((k : Chain) → steps + left k ≡ steps + count k) → Runs cable paper all count a steps rest left a steps
  runs_none a all rest count left steps m w same n = record {
    events = [];
    clocks = [];
    passed = passes_none cable paper a m w;
    runs = λ more. same (port_chain cable.board a more);
    ticked = λ more. n (port_chain cable.board a more);
  }

  -- the whole, by another name
  pub to_same : (a b : PinCable C O) (all other : Chain → Run) (count counted : Chain → ℕ) (steps now : ℕ) (ending : Option Ending) (u : State) →
      ((k : Chain) → all k ≡ other k) → ((k : Chain) → count k ≡ counted k) →
      RunsTo cable paper all count a steps ending u b now → RunsTo cable paper other counted a steps ending u b now
  to_same a b all other count counted steps now ending u e n r = record {
    events = r.events;
    clocks = r.clocks;
    passed = r.passed;
    runs = λ more. ap (λ (q : Run). q.events) (sym (e (chain_before cable paper a r.clocks more))) ∙ r.runs more;
    ended = λ more. ap (λ (q : Run). ending_of q.outcome) (sym (e (chain_before cable paper a r.clocks more))) ∙ r.ended more;
    leaves = λ more. subst (λ (q : Run). LeavesSo q ending u (port_chain cable.board b more)) (e (chain_before cable paper a r.clocks more)) (r.leaves more);
    ticked = λ more. r.ticked more ∙ ap (λ (m : ℕ). steps + m) (n (chain_before cable paper a r.clocks more));
  }

  pub front_same : (a b : PinCable C O) (all other : Chain → Run) (count counted : Chain → ℕ) (steps now : ℕ) → ((k : Chain) → all k ≡ other k) → ((k : Chain) → count k ≡ counted k) →
      RunsFront cable paper all count a steps b now → RunsFront cable paper other counted a steps b now
  front_same a b all other count counted steps now e n r = record {
    events = r.events;
    clocks = r.clocks;
    passed = r.passed;
    rest = r.rest;
    runs = λ more. ap (λ (q : Run). q.events) (sym (e (chain_before cable paper a r.clocks more))) ∙ r.runs more;
    most = λ more. subst (λ (m : ℕ). now ≤ steps + m) (n (chain_before cable paper a r.clocks more)) (r.most more);
  }

  -- a run that stands where it is
  pub runs_still : (a : PinCable C O) (all : Chain → Run) (count : Chain → ℕ) (steps : ℕ) (ending : Option Ending) (u : State) →
      cable.made (cable_of a) [] (cable_of a) → broken_part cable paper a ≡ whole →
      ((k : Chain) → (all k).events ≡ []) → ((k : Chain) → ending_of (all k).outcome ≡ ending) → ((k : Chain) → LeavesSo (all k) ending u k) → ((k : Chain) → count k ≡ 0) →
      RunsTo cable paper all count a steps ending u a steps
  runs_still a all count steps ending u m w none ended leaves n = record {
    events = [];
    clocks = [];
    passed = passes_none cable paper a m w;
    runs = λ more. none (port_chain cable.board a more);
    ended = λ more. ended (port_chain cable.board a more);
    leaves = λ more. leaves (port_chain cable.board a more);
    ticked = λ more. (let zero = n (port_chain cable.board a more) in omega arith);
  }

  -- a turn of a run, and what follows it
  module _ (both : (x y z : C) (front back : List Signal) → cable.made x front y → cable.made y back z →
      cable.made x (front ++ back) z)
      (a b c : PinCable C O) (all : Chain → Run) (count : Chain → ℕ) (s : State) (go : ℕ → State → Chain → Run) (counts : ℕ → State → Chain → ℕ)
      (turn : Chain → Happened) (turn_count : Chain → ℕ) (here : Chain → Run) (here_count : Chain → ℕ) (steps then now : ℕ)
      (opened : (k : Chain) → here k ≡ goes_on (turn k) s k go) (opened_count : (k : Chain) → here_count k ≡ turn_count k + counted_then (turn k) counts)
      (first : Runs cable paper all count a steps here here_count b then) where
    -- the run, with the events so far in front
    all_is : (rest : Happened) (events : List Event) (clocks : List Clock) (more : List Bool) → turn (chain_before cable paper b clocks more) ≡ with_events events rest →
        all (chain_before cable paper a (first.clocks ++ clocks) more) ≡ after (first.events ++ events) (goes_on rest s (chain_before cable paper b clocks more) go)
    all_is rest events clocks more e =
        let k = chain_before cable paper b clocks more in
        ap all (before_both cable paper both a first.clocks clocks more) ∙ first.runs (tdos clocks ++ more)
        ∙ ap (after first.events) (opened k ∙ ap (λ (h : Happened). goes_on h s k go) e ∙ goes_after events rest s k go)
        ∙ after_twice first.events events (goes_on rest s k go)

    count_is : (rest : Happened) (events : List Event) (clocks : List Clock) (more : List Bool) → turn (chain_before cable paper b clocks more) ≡ with_events events rest →
        here_count (chain_before cable paper b clocks more) ≡ turn_count (chain_before cable paper b clocks more) + counted_then rest counts
    count_is rest events clocks more e =
        let k = chain_before cable paper b clocks more in
        opened_count k ∙ ap (λ (n : ℕ). turn_count k + n) (ap (λ (h : Happened). counted_then h counts) e ∙ counted_with events rest counts)

    -- what was counted before the turn
    counted_so : (clocks : List Clock) (more : List Bool) → then + here_count (chain_before cable paper b clocks more) ≡ steps + count
        (chain_before cable paper a (first.clocks ++ clocks) more)
    counted_so clocks more = first.ticked (tdos clocks ++ more) ∙ ap (λ (k : Chain). steps + count k) (sym (before_both cable paper both a first.clocks clocks more))

    -- the turn leads on
    pub turn_on : (place : ℕ) (u : State) → Does cable paper turn turn_count b then (led_on (went.On place) u) no_ticks c now →
        Runs cable paper all count a steps (go place u) (counts place u) c now
    turn_on place u d = record {
      events = first.events ++ d.events;
      clocks = first.clocks ++ d.clocks;
      passed = passes_both cable paper both a b c first.events d.events first.clocks d.clocks first.passed d.passed;
      runs = λ more. all_is (led_on (went.On place) u (port_chain cable.board c more)) d.events d.clocks more (d.does more);
      ticked = λ more.
          ticked_both steps then now _ _ _ _ (counted_so d.clocks more)
          (count_is (led_on (went.On place) u (port_chain cable.board c more)) d.events d.clocks more (d.does more)) (d.ticked more);
    }

    -- it ends the run, or finds nothing to do
    pub turn_over : (ending : Option Ending) (u : State) → Does cable paper turn turn_count b then (led_on (went.Over ending) u) no_ticks c now →
        RunsTo cable paper all count a steps ending u c now
    turn_over ending u d =
        let is = λ (more : List Bool). all_is (led_on (went.Over ending) u (port_chain cable.board c more)) d.events d.clocks more (d.does more) in
        record {
          events = first.events ++ d.events;
          clocks = first.clocks ++ d.clocks;
          passed = passes_both cable paper both a b c first.events d.events first.clocks d.clocks first.passed d.passed;
          runs = λ more.
              ap (λ (q : Run). q.events) (is more)
              ∙ ap (λ (es : List Event). (first.events ++ d.events) ++ es) (over_events ending u (port_chain cable.board c more) (chain_before cable paper b d.clocks more))
              ∙ append-nil (first.events ++ d.events);
          ended = λ more. ap (λ (q : Run). ending_of q.outcome) (is more) ∙ over_ends ending u (port_chain cable.board c more) (chain_before cable paper b d.clocks more);
          leaves = λ more.
              subst (λ (q : Run). LeavesSo q ending u (port_chain cable.board c more)) (sym (is more))
              (over_leaves ending u (port_chain cable.board c more) (chain_before cable paper b d.clocks more));
          ticked = λ more.
              ticked_end steps then now _ _ _ _ (counted_so d.clocks more)
              (count_is (led_on (went.Over ending) u (port_chain cable.board c more)) d.events d.clocks more (d.does more)) (over_count ending u (port_chain cable.board c more)) (d.ticked more);
        }
      where
        over_events : (ending : Option Ending) (u : State) (l k : Chain) → (goes_on (led_on (went.Over ending) u l) s k go).events ≡ []
        over_events (Some ending) u l k = refl
        over_events None u l k = refl

        over_ends : (ending : Option Ending) (u : State) (l k : Chain) → ending_of (goes_on (led_on (went.Over ending) u l) s k go).outcome ≡ ending
        over_ends (Some ending) u l k = refl
        over_ends None u l k = refl

        over_leaves : (ending : Option Ending) (u : State) (l k : Chain) → LeavesSo (after (first.events ++ d.events) (goes_on (led_on (went.Over ending) u l) s k go)) ending u l
        over_leaves (Some ending) u l k = (refl, refl)
        over_leaves None u l k = tt

        over_count : (ending : Option Ending) (u : State) (l : Chain) → counted_then (led_on (went.Over ending) u l) counts ≡ 0
        over_count (Some ending) u l = refl
        over_count None u l = refl

    -- it is broken off
    pub turn_front : DoesFront cable paper turn turn_count b then c now → RunsFront cable paper all count a steps c now
    turn_front d =
        let left = λ (more : List Bool). (goes_on (d.rest more) s (chain_before cable paper b d.clocks more) go).events in
        record {
          events = first.events ++ d.events;
          clocks = first.clocks ++ d.clocks;
          passed = passes_both_front cable paper both a b c first.events d.events first.clocks d.clocks first.passed d.passed;
          rest = left;
          runs = λ more. ap (λ (q : Run). q.events) (all_is (d.rest more) d.events d.clocks more (d.does more));
          most = λ more. ticked_front steps then now _ _ _ _ (counted_so d.clocks more) (opened_count (chain_before cable paper b d.clocks more)) (d.most more);
        }

    -- it is done, and then a run that begins with what it led to
    pub turn_then : (w : Chain → Happened) (u t : State) (end : PinCable C O) (last : ℕ) (ending : Option Ending) (after_it : Chain → Run) (after_count : Chain → ℕ) →
        Does cable paper turn turn_count b then w no_ticks c now →
        ((k : Chain) → after_it k ≡ goes_on (w k) u k go) → ((k : Chain) → after_count k ≡ counted_then (w k) counts) →
        RunsTo cable paper after_it after_count c now ending t end last → RunsTo cable paper all count a steps ending t end last
    turn_then w u t end last ending after_it after_count d is counted r =
        let clocks : List Clock = d.clocks ++ r.clocks in
        let mid = λ (more : List Bool). tdos r.clocks ++ more in
        let k = λ (more : List Bool). chain_before cable paper b d.clocks (mid more) in
        let l = λ (more : List Bool). chain_before cable paper c r.clocks more in
        let whole_clocks : List Clock = (first.clocks ++ d.clocks) ++ r.clocks in
        let opened_whole = λ (more : List Bool). ap all (before_both cable paper both a (first.clocks ++ d.clocks) r.clocks more) ∙ all_is
        (w (l more)) d.events d.clocks (mid more) (d.does (mid more)) in
        let same = λ (more : List Bool). is (l more) in
        record {
          events = (first.events ++ d.events) ++ r.events;
          clocks = whole_clocks;
          passed =
              passes_both cable paper both a c end (first.events ++ d.events) r.events (first.clocks ++ d.clocks) r.clocks
              (passes_both cable paper both a b c first.events d.events first.clocks d.clocks first.passed d.passed) r.passed;
          runs = λ more.
              ap (λ (q : Run). q.events) (opened_whole more)
              ∙ ap (λ (es : List Event). (first.events ++ d.events) ++ es)
              (alike_events (w (l more)) s u (k more) (l more) go ∙ ap (λ (q : Run). q.events) (sym (same more)) ∙ r.runs more);
          ended = λ more.
              ap (λ (q : Run). ending_of q.outcome) (opened_whole more) ∙ alike_ends (w (l more)) s u (k more) (l more) go
              ∙ ap (λ (q : Run). ending_of q.outcome) (sym (same more)) ∙ r.ended more;
          leaves = λ more.
              subst (λ (q : Run). LeavesSo q ending t (port_chain cable.board end more)) (sym (opened_whole more))
              (kept_after ending (first.events ++ d.events) (goes_on (w (l more)) s (k more) go) t (port_chain cable.board end more)
              (alike_leaves (w (l more)) s u (k more) (l more) go ending t (port_chain cable.board end more)
              (ap (λ (q : Run). ending_of q.outcome) (sym (same more)) ∙ r.ended more)
              (subst (λ (q : Run). LeavesSo q ending t (port_chain cable.board end more)) (same more) (r.leaves more))));
          ticked = λ more.
              (let so = counted_so d.clocks (mid more) in
              let turn_is = count_is (w (l more)) d.events d.clocks (mid more) (d.does (mid more)) in
              let done = d.ticked (mid more) in
              let rest_is = r.ticked more in
              let rest_count = counted (l more) in
              let before = ap (λ (x : Chain). steps + count x) (before_both cable paper both a (first.clocks ++ d.clocks) r.clocks more) in
              omega (arith, so, turn_is, done, rest_is, rest_count, before));
        }
      where
        kept_after : (ending : Option Ending) (events : List Event) (q : Run) (t : State) (x : Chain) → LeavesSo q ending t x → LeavesSo (after events q) ending t x
        kept_after None events q t x h = tt
        kept_after (Some ending) events q t x h = h

    pub turn_then_front : (w : Chain → Happened) (u : State) (end : PinCable C O) (last : ℕ) (after_it : Chain → Run) (after_count : Chain → ℕ) →
        Does cable paper turn turn_count b then w no_ticks c now →
        ((k : Chain) → after_it k ≡ goes_on (w k) u k go) → ((k : Chain) → after_count k ≡ counted_then (w k) counts) →
        RunsFront cable paper after_it after_count c now end last → RunsFront cable paper all count a steps end last
    turn_then_front w u end last after_it after_count d is counted r =
        let mid = λ (more : List Bool). tdos r.clocks ++ more in
        let k = λ (more : List Bool). chain_before cable paper b d.clocks (mid more) in
        let l = λ (more : List Bool). chain_before cable paper c r.clocks more in
        let opened_whole = λ (more : List Bool). ap all (before_both cable paper both a (first.clocks ++ d.clocks) r.clocks more) ∙ all_is
        (w (l more)) d.events d.clocks (mid more) (d.does (mid more)) in
        record {
          events = (first.events ++ d.events) ++ r.events;
          clocks = (first.clocks ++ d.clocks) ++ r.clocks;
          passed =
              passes_both_front cable paper both a c end (first.events ++ d.events) r.events (first.clocks ++ d.clocks) r.clocks
              (passes_both cable paper both a b c first.events d.events first.clocks d.clocks first.passed d.passed) r.passed;
          rest = r.rest;
          runs = λ more.
              ap (λ (q : Run). q.events) (opened_whole more)
              ∙ ap (λ (es : List Event). (first.events ++ d.events) ++ es)
              (alike_events (w (l more)) s u (k more) (l more) go ∙ ap (λ (q : Run). q.events) (sym (is (l more))) ∙ r.runs more)
              ∙ sym (append_assoc (first.events ++ d.events) r.events (r.rest more));
          most = λ more.
              (let so = counted_so d.clocks (mid more) in
              let turn_is = count_is (w (l more)) d.events d.clocks (mid more) (d.does (mid more)) in
              let done = d.ticked (mid more) in
              let rest_is = r.most more in
              let rest_count = counted (l more) in
              let before = ap (λ (x : Chain). steps + count x) (before_both cable paper both a (first.clocks ++ d.clocks) r.clocks more) in
              omega (arith, so, turn_is, done, rest_is, rest_count, before));
        }

  -- no turn is left
  pub run_spent : (a b : PinCable C O) (code : CodeLists) (all : Chain → Run) (count : Chain → ℕ) (left place : ℕ) (u : State) (steps now : ℕ) → left ≡ 0 →
      Runs cable paper all count a steps (run_of code left place u) (run_ticks_of code left place u) b now → RunsTo cable paper all count a steps (Some Spent) u b now
  run_spent a b code all count left place u steps now e p =
      let is = λ (more : List Bool). p.runs more ∙ ap (λ (n : ℕ). after p.events (run_of code n place u (port_chain cable.board b more))) e in
      record {
        events = p.events;
        clocks = p.clocks;
        passed = p.passed;
        runs = λ more. ap (λ (q : Run). q.events) (is more) ∙ append-nil p.events;
        ended = λ more. ap (λ (q : Run). ending_of q.outcome) (is more);
        leaves = λ more. (ap (λ (q : Run). q.state) (is more), ap (λ (q : Run). q.chain) (is more));
        ticked = λ more. plus_none now _ _ (p.ticked more) (ap (λ (n : ℕ). run_ticks_of code n place u (port_chain cable.board b more)) e);
      }

-- the first chosen procedure begins, or none is left
module _ (code : CodeLists) (n : ℕ) (s u : State) where
  abbrev begins : Chain → Happened
  begins k = happens k (next_chosen (entry_of (entries_of code.procedures)) s s.chosen)

  -- where it led
  led_is : (w : Went) → next_chosen (entry_of (entries_of code.procedures)) s s.chosen ≡ led_to w u → (k : Chain) → begins k ≡ led_on w u k
  led_is (went.On place) e k = ap (happens k) e
  led_is (went.Over (Some ending)) e k = ap (happens k) e
  led_is (went.Over None) e k = ap (happens k) e

  pub chosen_on : (place : ℕ) → next_chosen (entry_of (entries_of code.procedures)) s s.chosen ≡ led_to (went.On place) u → (k : Chain) → run_of code n place u k ≡ chosen_run code n s k
  chosen_on place e k = sym (ap (λ (h : Happened). goes_on h s k (run_of code n)) (led_is (went.On place) e k))

  pub chosen_ticks_on : (place : ℕ) → next_chosen (entry_of (entries_of code.procedures)) s s.chosen ≡ led_to (went.On place) u → (k : Chain) → run_ticks_of code n place u k ≡ chosen_ticks code n s k
  chosen_ticks_on place e k = sym (ap (λ (h : Happened). counted_then h (run_ticks_of code n)) (led_is (went.On place) e k))

  module _ (ending : Option Ending) (e : next_chosen (entry_of (entries_of code.procedures)) s s.chosen ≡ led_to (went.Over ending) u) (k : Chain) where
    over_is : chosen_run code n s k ≡ goes_on (led_on (went.Over ending) u k) s k (run_of code n)
    over_is = ap (λ (h : Happened). goes_on h s k (run_of code n)) (led_is (went.Over ending) e k)

    pub chosen_none_events : (chosen_run code n s k).events ≡ []
    chosen_none_events = ap (λ (q : Run). q.events) over_is ∙ by ending
      where
        by : (ending : Option Ending) → (goes_on (led_on (went.Over ending) u k) s k (run_of code n)).events ≡ []
        by (Some ending) = refl
        by None = refl

    pub chosen_none_ends : ending_of (chosen_run code n s k).outcome ≡ ending
    chosen_none_ends = ap (λ (q : Run). ending_of q.outcome) over_is ∙ by ending
      where
        by : (ending : Option Ending) → ending_of (goes_on (led_on (went.Over ending) u k) s k (run_of code n)).outcome ≡ ending
        by (Some ending) = refl
        by None = refl

    pub chosen_none_leaves : LeavesSo (chosen_run code n s k) ending u k
    chosen_none_leaves = subst (λ (q : Run). LeavesSo q ending u k) (sym over_is) (by ending)
      where
        by : (ending : Option Ending) → LeavesSo (goes_on (led_on (went.Over ending) u k) s k (run_of code n)) ending u k
        by (Some ending) = (refl, refl)
        by None = tt

    pub chosen_none_ticks : chosen_ticks code n s k ≡ 0
    chosen_none_ticks = ap (λ (h : Happened). counted_then h (run_ticks_of code n)) (led_is (went.Over ending) e k) ∙ by ending
      where
        by : (ending : Option Ending) → counted_then (led_on (went.Over ending) u k) (run_ticks_of code n) ≡ 0
        by (Some ending) = refl
        by None = refl

-- a prologue that did not come to its end
pub over_lacks : (code : CodeLists) (n : ℕ) (ending : Option Ending) (u : State) (k : Chain) → begins_chosen (entry_of (entries_of code.procedures)) (led_on (went.Over ending) u k) ≡ Lacks []
over_lacks code n (Some ending) u k = refl
over_lacks code n None u k = refl

-- one that did
module _ (code : CodeLists) (n place : ℕ) (s : State) (k : Chain) where
  pub begun_on : chosen_run code n s k ≡ begun_run code n (led_on (went.On place) s) s k
  begun_on = ap (λ (h : Happened). goes_on h s k (run_of code n)) (with_nothing (happens k (next_chosen (entry_of (entries_of code.procedures)) s s.chosen)))

  pub begun_ticks_on : chosen_ticks code n s k ≡ begun_ticks code n (led_on (went.On place) s) k
  begun_ticks_on = ap (λ (h : Happened). counted_then h (run_ticks_of code n)) (with_nothing (happens k (next_chosen (entry_of (entries_of code.procedures)) s s.chosen)))

-- the prologue has no piece
begun_piece : (entry : ℕ → ℕ) (piece : ℕ) (h : Happened) → begins_chosen entry (happened_in_piece piece h) ≡ begins_chosen entry h
begun_piece entry piece (Led events place s k) = refl
begun_piece entry piece (Finished events ending s k) = refl
begun_piece entry piece (Broke events f s k) = refl
begun_piece entry piece (Lacks events) = refl

-- a play from registers with neither operand nor record, where no chosen procedure has begun
module _ (code : CodeLists) (chosen : List ℕ) (work : Workspace) (n : ℕ) (none : work.operands.items ≡ []) (unused : IsUnused work.memory) where
  abbrev pub at_first : Workspace
  at_first = record work { next = 0 }

  -- the state in which it starts
  abbrev pub started : State
  started = start chosen work.memory.variables.items

  starts : state_of chosen at_first ≡ started
  starts =
      ap (λ (l : List Record). state_with chosen (reverse l) work.memory.ir work.memory.dr work.memory.variables.items) unused.no_record
      ∙ ap (λ (x : ScanSettings). state_with chosen [] x work.memory.dr work.memory.variables.items) unused.ir_first
      ∙ ap (λ (x : ScanSettings). state_with chosen [] first_settings x work.memory.variables.items) unused.dr_first

  abbrev prologue : List Value → State → Chain → Happened
  prologue ops s k = stretch (entries_of code.procedures) (constants_of code) (length code.instrs) code.instrs ops s k

  -- its beginning, over the prologue
  abbrev pub begun_by : Chain → Happened
  begun_by k = begins_chosen (entry_of (entries_of code.procedures)) (rest_of code 0 chosen at_first k)

  first_begun : (k : Chain) → begun_by k ≡ begins_chosen (entry_of (entries_of code.procedures)) (prologue [] started k)
  first_begun k =
      begun_piece (entry_of (entries_of code.procedures)) work.piece (prologue (operands_of work) (state_of chosen at_first) k)
      ∙ ap (λ (ops : List Value). begins_chosen (entry_of (entries_of code.procedures)) (prologue (reverse ops) (state_of chosen at_first) k)) none
      ∙ ap (λ (s : State). begins_chosen (entry_of (entries_of code.procedures)) (prologue [] s k)) starts

  pub play_is : (k : Chain) → play_from code chosen work.memory.variables.items n k ≡ goes_on (begun_by k) started k (run_of code n)
  play_is k = sym (ap (λ (h : Happened). goes_on h started k (run_of code n)) (first_begun k))

  pub play_ticks_is : (k : Chain) → play_ticks_from code chosen work.memory.variables.items n k ≡ ticks_from code 0 chosen at_first k + counted_then (begun_by k) (run_ticks_of code n)
  play_ticks_is k =
      let whole = ticks_from code 0 chosen at_first k in
      let first : ticks (entries_of code.procedures) (constants_of code) (length code.instrs) code.instrs [] started k ≡ whole =
      sym (ap (λ (ops : List Value). ticks (entries_of code.procedures) (constants_of code) (length code.instrs) code.instrs (reverse ops) (state_of chosen at_first) k) none
      ∙ ap (λ (s : State). ticks (entries_of code.procedures) (constants_of code) (length code.instrs) code.instrs [] s k) starts) in
      ap (λ (m : ℕ). m + counted_then (begins_chosen (entry_of (entries_of code.procedures)) (prologue [] started k)) (run_ticks_of code n)) first
      ∙ ap (λ (h : Happened). whole + counted_then h (run_ticks_of code n)) (sym (first_begun k))

-- what the prologue did, and the first chosen procedure after it
pub begun_does : {C O : Type 0} (cable : CableOf C) (paper : PaperOf O) (a b : PinCable C O) (entry : ℕ → ℕ)
    (turn rest : Chain → Happened) (count left : Chain → ℕ) (steps now : ℕ) → Does cable paper turn count a steps rest left b now →
    Does cable paper (λ k. begins_chosen entry (turn k)) count a steps (λ k. begins_chosen entry (rest k)) left b now
begun_does cable paper a b entry turn rest count left steps now d = record {
  events = d.events;
  clocks = d.clocks;
  passed = d.passed;
  does = λ more. ap (begins_chosen entry) (d.does more) ∙ begins_with entry d.events (rest (port_chain cable.board b more));
  ticked = d.ticked;
}

pub begun_front : {C O : Type 0} (cable : CableOf C) (paper : PaperOf O) (a b : PinCable C O) (entry : ℕ → ℕ)
    (turn : Chain → Happened) (count : Chain → ℕ) (steps now : ℕ) → DoesFront cable paper turn count a steps b now →
    DoesFront cable paper (λ k. begins_chosen entry (turn k)) count a steps b now
begun_front cable paper a b entry turn count steps now d = record {
  events = d.events;
  clocks = d.clocks;
  passed = d.passed;
  rest = λ more. begins_chosen entry (d.rest more);
  does = λ more. ap (begins_chosen entry) (d.does more) ∙ begins_with entry d.events (d.rest more);
  most = d.most;
}

-- a play, by its prologue and what follows
module _ {C O : Type 0} (cable : CableOf C) (paper : PaperOf O) (both : (x y z : C) (front back : List Signal) → cable.made x front y → cable.made y back z →
    cable.made x (front ++ back) z) (code : CodeLists) (chosen : List ℕ) (work : Workspace) (n : ℕ) (none : work.operands.items ≡ []) (unused : IsUnused work.memory)
    (a b : PinCable C O) (steps then : ℕ) (made : cable.made (cable_of a) [] (cable_of a)) (whole_port : broken_part cable paper a ≡ whole) where
  abbrev whole_run : Chain → Run
  whole_run = play_from code chosen work.memory.variables.items n

  abbrev whole_count : Chain → ℕ
  whole_count = play_ticks_from code chosen work.memory.variables.items n

  abbrev first_work : Workspace
  first_work = at_first code chosen work n none unused

  abbrev begin_state : State
  begin_state = started code chosen work n none unused

  abbrev begun : Chain → Happened
  begun = begun_by code chosen work n none unused

  abbrev run_here : Chain → Run
  run_here k = goes_on (begun k) begin_state k (run_of code n)

  abbrev count_here : Chain → ℕ
  count_here k = ticks_from code 0 chosen first_work k + counted_then (begun k) (run_ticks_of code n)

  begins_whole : Runs cable paper whole_run whole_count a steps run_here count_here a steps
  begins_whole = runs_none cable paper a whole_run run_here whole_count count_here steps made whole_port (play_is code chosen work n none unused)
      (λ k. ap (λ t. steps + t) (sym (play_ticks_is code chosen work n none unused k)))

  -- the prologue led somewhere, and the run goes on from there
  module _ (w : Went) (u : State) (d : Does cable paper (rest_of code 0 chosen first_work) (ticks_from code 0 chosen first_work) a steps (led_on w u) no_ticks b then)
      (c : PinCable C O) (now : ℕ) where
    abbrev led : Chain → Happened
    led k = begins_chosen (entry_of (entries_of code.procedures)) (led_on w u k)

    led_there : Does cable paper begun (ticks_from code 0 chosen first_work) a steps led no_ticks b then
    led_there = begun_does cable paper a b (entry_of (entries_of code.procedures)) (rest_of code 0 chosen first_work) (led_on w u) (ticks_from code 0 chosen first_work) no_ticks steps then d

    pub play_goes : (ending : Option Ending) (t : State) → RunsTo cable paper (begun_run code n (led_on w u) u) (begun_ticks code n (led_on w u)) b then ending t c now →
        RunsTo cable paper whole_run whole_count a steps ending t c now
    play_goes ending t r = turn_then cable paper both a a b whole_run whole_count begin_state (run_of code n) (run_ticks_of code n) begun
        (ticks_from code 0 chosen first_work) run_here count_here steps steps then
        (λ k. refl) (λ k. refl) begins_whole led u t c now ending (begun_run code n (led_on w u) u) (begun_ticks code n (led_on w u)) led_there (λ k. refl) (λ k. refl) r

    pub play_goes_front : RunsFront cable paper (begun_run code n (led_on w u) u) (begun_ticks code n (led_on w u)) b then c now →
        RunsFront cable paper whole_run whole_count a steps c now
    play_goes_front r = turn_then_front cable paper both a a b whole_run whole_count begin_state (run_of code n) (run_ticks_of code n) begun
        (ticks_from code 0 chosen first_work) run_here count_here steps steps then
        (λ k. refl) (λ k. refl) begins_whole led u c now (begun_run code n (led_on w u) u) (begun_ticks code n (led_on w u)) led_there (λ k. refl) (λ k. refl) r

  -- it was broken off
  pub play_breaks : DoesFront cable paper (rest_of code 0 chosen first_work) (ticks_from code 0 chosen first_work) a steps b then → RunsFront cable paper whole_run whole_count a steps b then
  play_breaks d = turn_front cable paper both a a b whole_run whole_count begin_state (run_of code n) (run_ticks_of code n) begun
      (ticks_from code 0 chosen first_work) run_here count_here steps steps then
      (λ k. refl) (λ k. refl) begins_whole
      (begun_front cable paper a b (entry_of (entries_of code.procedures)) (rest_of code 0 chosen first_work) (ticks_from code 0 chosen first_work) steps then d)

-- the same where the first chosen procedure begins, or none is left
module _ {C O : Type 0} (cable : CableOf C) (paper : PaperOf O) (code : CodeLists) (n : ℕ) (u v : State) (w : Went) {place : ℕ} (led_so : w ≡ went.On place) where
  pub chosen_goes : (start : ℕ) (b c : PinCable C O) (then now : ℕ) (ending : Option Ending) (t : State) →
      next_chosen (entry_of (entries_of code.procedures)) u u.chosen ≡ led_to (went.On start) v →
      RunsTo cable paper (run_of code n start v) (run_ticks_of code n start v) b then ending t c now →
      RunsTo cable paper (begun_run code n (led_on w u) u) (begun_ticks code n (led_on w u)) b then ending t c now
  chosen_goes start b c then now ending t begins r =
      subst (λ (x : Went). RunsTo cable paper (begun_run code n (led_on x u) u) (begun_ticks code n (led_on x u)) b then ending t c now) (sym led_so)
      (to_same cable paper b c (chosen_run code n u) (begun_run code n (led_on (went.On place) u) u) (chosen_ticks code n u) (begun_ticks code n (led_on (went.On place) u)) then now ending t
      (begun_on code n place u) (begun_ticks_on code n place u)
      (to_same cable paper b c (run_of code n start v) (chosen_run code n u) (run_ticks_of code n start v) (chosen_ticks code n u) then now ending t
      (chosen_on code n u v start begins) (chosen_ticks_on code n u v start begins) r))

  pub chosen_goes_front : (start : ℕ) (b c : PinCable C O) (then now : ℕ) → next_chosen (entry_of (entries_of code.procedures)) u u.chosen ≡ led_to (went.On start) v →
      RunsFront cable paper (run_of code n start v) (run_ticks_of code n start v) b then c now →
      RunsFront cable paper (begun_run code n (led_on w u) u) (begun_ticks code n (led_on w u)) b then c now
  chosen_goes_front start b c then now begins r =
      subst (λ (x : Went). RunsFront cable paper (begun_run code n (led_on x u) u) (begun_ticks code n (led_on x u)) b then c now) (sym led_so)
      (front_same cable paper b c (chosen_run code n u) (begun_run code n (led_on (went.On place) u) u) (chosen_ticks code n u) (begun_ticks code n (led_on (went.On place) u)) then now
      (begun_on code n place u) (begun_ticks_on code n place u)
      (front_same cable paper b c (run_of code n start v) (chosen_run code n u) (run_ticks_of code n start v) (chosen_ticks code n u) then now
      (chosen_on code n u v start begins) (chosen_ticks_on code n u v start begins) r))

  pub chosen_ends : (b : PinCable C O) (then : ℕ) (ending : Option Ending) → cable.made (cable_of b) [] (cable_of b) → broken_part cable paper b ≡ whole →
      next_chosen (entry_of (entries_of code.procedures)) u u.chosen ≡ led_to (went.Over ending) v →
      RunsTo cable paper (begun_run code n (led_on w u) u) (begun_ticks code n (led_on w u)) b then ending v b then
  chosen_ends b then ending made whole_port begins =
      subst (λ (x : Went). RunsTo cable paper (begun_run code n (led_on x u) u) (begun_ticks code n (led_on x u)) b then ending v b then) (sym led_so)
      (to_same cable paper b b (chosen_run code n u) (begun_run code n (led_on (went.On place) u) u) (chosen_ticks code n u) (begun_ticks code n (led_on (went.On place) u)) then then ending v
      (begun_on code n place u) (begun_ticks_on code n place u)
      (runs_still cable paper b (chosen_run code n u) (chosen_ticks code n u) then ending v made whole_port
      (chosen_none_events code n u v ending begins) (chosen_none_ends code n u v ending begins) (chosen_none_leaves code n u v ending begins) (chosen_none_ticks code n u v ending begins)))

-- a prologue that found nothing to do
pub prologue_lacks : {C O : Type 0} (cable : CableOf C) (paper : PaperOf O) (code : CodeLists) (n : ℕ) (u : State) (w : Went) {ending : Option Ending} (b : PinCable C O) (then : ℕ) →
    w ≡ went.Over ending → cable.made (cable_of b) [] (cable_of b) → broken_part cable paper b ≡ whole →
    RunsTo cable paper (begun_run code n (led_on w u) u) (begun_ticks code n (led_on w u)) b then None u b then
prologue_lacks cable paper code n u w {ending = ending} b then led_so made whole_port =
    subst (λ (x : Went). RunsTo cable paper (begun_run code n (led_on x u) u) (begun_ticks code n (led_on x u)) b then None u b then) (sym led_so)
    (runs_still cable paper b (begun_run code n (led_on (went.Over ending) u) u) (begun_ticks code n (led_on (went.Over ending) u)) then None u made whole_port
    (λ k. ap (λ h. (goes_on h u k (run_of code n)).events) (over_lacks code n ending u k))
    (λ k. ap (λ h. ending_of (goes_on h u k (run_of code n)).outcome) (over_lacks code n ending u k)) (λ k. tt)
    (λ k. ap (λ h. counted_then h (run_ticks_of code n)) (over_lacks code n ending u k)))
