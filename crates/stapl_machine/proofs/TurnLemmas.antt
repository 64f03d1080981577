-- On parts of a turn, one after another.
use Rattle.std.proofs.Common.{◌≡◌, ◌≤◌, ◌<◌, ℕ, zero, suc, ◌+◌, ◌-◌, Bool, true, false, cond, List, [], ◌∷◌, ◌++◌, length, drop, get_or, add-one, refl, sym, ap, subst, ◌∙◌, arith, length-drop}
use Rattle.std.specs.Prelude.{slice_get, reverse, Some, None}
use Rattle.tap_states.specs.Tap.{is_stable_state}
use Rattle.dev_card.specs.Scans.{BoardScan}
use Rattle.std.proofs.lemmas.List.{append-nil, drop_more}
use Rattle.dev_card.specs.Board.{tdos}
use Rattle.scan_paths.specs.Cables.{Signal, whole}
use Rattle.scan_paths.specs.declared.cable.Cable.{Ghosts as CableOf}
use Rattle.written_cable.specs.declared.paper.Paper.{Ghosts as PaperOf}
use Rattle.stapl_meaning.specs.declared.events.Event.{Event}
use Rattle.stapl_meaning.specs.declared.values.Value.{Value}
use Rattle.stapl_meaning.specs.Deeds.{Deed, Scans, Chain, deed_events, deed_chain, deeds_events, deeds_chain, captured_on}
use Rattle.stapl_meaning.specs.States.{State, Happened, Lacks, with_events, scanned_on, happened_in_piece}
use Rattle.stapl_code.specs.declared.instr.Instr.{Instr}
use Rattle.stapl_code.specs.declared.instr.Instr.TheVariants.{Turn}
use Rattle.stapl_code.specs.declared.raw.CodeLists.{CodeLists}
use Rattle.stapl_code.specs.Machine.{Constants, step, stretch, begins, continues}
use Rattle.stapl_code.specs.Ticks.{ticks, begin_ticks, tick_of, counted_scan, counted_after}
use Rattle.stapl_code.specs.Safe.{entries_of, constants_of}
use Rattle.stapl_code.proofs.Preceded.{with_nothing, with_both}
use Rattle.machine_memory.specs.declared.memory.Workspace.{Workspace}
use Rattle.stapl_instructions.specs.declared.control.Moved.{Moved}
use Rattle.written_cable.specs.declared.pin_cable.PinCable.{PinCable}
use Rattle.machine_memory.specs.Acts.{state_of, operands_of, step_of}
use Rattle.stapl_instructions.specs.Moves.{moved_to, moved_ticks}
use Rattle.written_cable.specs.Pins.{cable_of, tap_of, port_chain}
use Rattle.written_cable.specs.Ports.{broken_part, chain_before, Did, DidFront, Captured, Does, DoesFront}
use Rattle.stapl_machine.specs.Turns.{rest_of, ticks_from, piece_of, turn_at, ticks_at}
use Rattle.written_cable.proofs.DeedLemmas.{passes_none, front_none, passes_both, passes_both_front, before_both}

module _ {C O : Type 0} (cable : CableOf C) (paper : PaperOf O) where
  -- nothing happens
  pub does_still : (a : PinCable C O) (turn rest : Chain → Happened) (count left : Chain → ℕ) (steps now : ℕ) → cable.made (cable_of a) [] (cable_of a) → broken_part cable paper a ≡ whole →
      ((k : Chain) → turn k ≡ rest k) → ((k : Chain) → now + left k ≡ steps + count k) → Does cable paper turn count a steps rest left a now
  does_still a turn rest count left steps now m w t n = record {
    events = [];
    clocks = [];
    passed = passes_none cable paper a m w;
    does = λ more. t (port_chain cable.board a more) ∙ with_nothing (rest (port_chain cable.board a more));
    ticked = λ more. n (port_chain cable.board a more);
  }

  pub front_still : (a : PinCable C O) (turn : Chain → Happened) (count : Chain → ℕ) (steps now : ℕ) → cable.made (cable_of a) [] (cable_of a) → broken_part cable paper a ≡ whole →
      ((k : Chain) → now ≤ steps + count k) → DoesFront cable paper turn count a steps a now
  front_still a turn count steps now m w n = record {
    events = [];
    clocks = [];
    passed = front_none cable paper a m w;
    rest = λ more. turn (port_chain cable.board a more);
    does = λ more. with_nothing (turn (port_chain cable.board a more));
    most = λ more. n (port_chain cable.board a more);
  }

  -- deeds are done
  module _ (a b : PinCable C O) (deeds : List Deed) (turn rest : Chain → Happened) (count left : Chain → ℕ) (steps now : ℕ)
      (t : (k : Chain) → turn k ≡ with_events (deeds_events k deeds) (rest (deeds_chain k deeds))) where
    pub does_deeds : ((k : Chain) → now + left (deeds_chain k deeds) ≡ steps + count k) → Did cable paper deeds a [] b →
        Does cable paper turn count a steps rest left b now
    does_deeds n d = record {
      events = d.events;
      clocks = d.clocks;
      passed = d.passed;
      does = λ more.
          (let k = chain_before cable paper a d.clocks more in
          t k ∙ ap (λ (es : List Event). with_events es (rest (deeds_chain k deeds))) (d.happened more ∙ append-nil d.events)
          ∙ ap (λ (c : Chain). with_events d.events (rest c)) (d.chain more));
      ticked = λ more. ap (λ (c : Chain). now + left c) (sym (d.chain more)) ∙ n (chain_before cable paper a d.clocks more);
    }

    pub does_deeds_front : ((k : Chain) → now ≤ steps + count k) → DidFront cable paper deeds a b → DoesFront cable paper turn count a steps b now
    does_deeds_front n d = record {
      events = d.events;
      clocks = d.clocks;
      passed = d.passed;
      rest = λ more. with_events (d.rest more) (rest (deeds_chain (chain_before cable paper a d.clocks more) deeds));
      does = λ more.
          (let k = chain_before cable paper a d.clocks more in
          t k ∙ ap (λ (es : List Event). with_events es (rest (deeds_chain k deeds))) (d.happened more)
          ∙ sym (with_both d.events (d.rest more) (rest (deeds_chain k deeds))));
      most = λ more. n (chain_before cable paper a d.clocks more);
    }

  -- nothing happens, and the turn is over from where the chain is
  pub does_still_at : (a : PinCable C O) (turn rest : Chain → Happened) (count left : Chain → ℕ) (steps now : ℕ) → cable.made (cable_of a) [] (cable_of a) → broken_part cable paper a ≡ whole →
      ((more : List Bool) → turn (port_chain cable.board a more) ≡ rest (port_chain cable.board a more)) →
      ((more : List Bool) → now + left (port_chain cable.board a more) ≡ steps + count (port_chain cable.board a more)) → Does cable paper turn count a steps rest left a now
  does_still_at a turn rest count left steps now m w t n = record {
    events = [];
    clocks = [];
    passed = passes_none cable paper a m w;
    does = λ more. t more ∙ with_nothing (rest (port_chain cable.board a more));
    ticked = n;
  }

  -- a scan is done, from a stable state or not
  module _ (a b : PinCable C O) (scan : BoardScan) (lands : List Bool → State) (turn : Chain → Happened) (count : Chain → ℕ) (go : State → Chain → Happened) (left : State → Chain → ℕ) (steps now : ℕ)
      (t : (k : Chain) → turn k ≡ scanned_on k scan (λ bits l. go (lands bits) l)) (n : (k : Chain) → now + counted_scan k scan (λ bits l. left (lands bits) l) ≡ steps + count k) where
    unstable_is : (k : Chain) → is_stable_state k.tap ≡ false → turn k ≡ Lacks []
    unstable_is k e = t k ∙ ap (λ (c : Bool). cond c (with_events (deed_events k (Scans scan)) (go (lands (captured_on k scan)) (deed_chain k (Scans scan)))) (Lacks [])) e

    unstable_counts : (k : Chain) → is_stable_state k.tap ≡ false → now + 0 ≡ steps + count k
    unstable_counts k e = sym (ap (λ (c : Bool). now + (cond c (left (lands (captured_on k scan)) (deed_chain k (Scans scan))) 0)) e) ∙ n k

    pub does_lack : is_stable_state (tap_of a) ≡ false → cable.made (cable_of a) [] (cable_of a) → broken_part cable paper a ≡ whole →
        Does cable paper turn count a steps (λ k. Lacks []) (λ k. 0) a now
    does_lack e m w =
        does_still_at a turn (λ k. Lacks []) count (λ k. 0) steps now m w (λ more. unstable_is (port_chain cable.board a more) e) (λ more. unstable_counts (port_chain cable.board a more) e)

    stable_is : (k : Chain) → is_stable_state k.tap ≡ true → turn k ≡ with_events (deeds_events k (Scans scan ∷ [])) (go (lands (captured_on k scan)) (deeds_chain k (Scans scan ∷ [])))
    stable_is k e =
        t k ∙ ap (λ (c : Bool). cond c (with_events (deed_events k (Scans scan)) (go (lands (captured_on k scan)) (deed_chain k (Scans scan)))) (Lacks [])) e
        ∙ ap (λ (es : List Event). with_events es (go (lands (captured_on k scan)) (deed_chain k (Scans scan)))) (sym (append-nil (deed_events k (Scans scan))))

    stable_counts : (k : Chain) → is_stable_state k.tap ≡ true → now + left (lands (captured_on k scan)) (deed_chain k (Scans scan)) ≡ steps + count k
    stable_counts k e = sym (ap (λ (c : Bool). now + (cond c (left (lands (captured_on k scan)) (deed_chain k (Scans scan))) 0)) e) ∙ n k

    pub does_scan : is_stable_state (tap_of a) ≡ true → (s : State) → Captured cable paper scan lands a s b →
        Does cable paper turn count a steps (go s) (left s) b now
    does_scan e s c =
        let d = c.did.did in
        let lands_so : (more : List Bool) → lands (captured_on (chain_before cable paper a d.clocks more) scan) ≡ s = λ more. ap lands (c.did.captured_is more) ∙ sym c.landed in
        record {
          events = d.events;
          clocks = d.clocks;
          passed = d.passed;
          does = λ more.
              (let k = chain_before cable paper a d.clocks more in
              stable_is k e
              ∙ ap (λ (es : List Event). with_events es (go (lands (captured_on k scan)) (deeds_chain k (Scans scan ∷ [])))) (d.happened more ∙ append-nil d.events)
              ∙ ap (λ (l : Chain). with_events d.events (go (lands (captured_on k scan)) l)) (d.chain more)
              ∙ ap (λ (u : State). with_events d.events (go u (port_chain cable.board b more))) (lands_so more));
          ticked = λ more.
              (let k = chain_before cable paper a d.clocks more in
              ap (λ (l : Chain). now + left s l) (sym (d.chain more)) ∙ ap (λ (u : State). now + left u (deed_chain k (Scans scan))) (sym (lands_so more)) ∙ stable_counts k e);
        }

    pub does_scan_front : is_stable_state (tap_of a) ≡ true → DidFront cable paper (Scans scan ∷ []) a b →
        DoesFront cable paper turn count a steps b now
    does_scan_front e d = record {
      events = d.events;
      clocks = d.clocks;
      passed = d.passed;
      rest = λ more. let k = chain_before cable paper a d.clocks more in with_events (d.rest more) (go (lands (captured_on k scan)) (deeds_chain k (Scans scan ∷ [])));
      does = λ more.
          (let k = chain_before cable paper a d.clocks more in
          let after_it : Happened = go (lands (captured_on k scan)) (deeds_chain k (Scans scan ∷ [])) in
          stable_is k e ∙ ap (λ (es : List Event). with_events es after_it) (d.happened more) ∙ sym (with_both d.events (d.rest more) after_it));
      most = λ more.
          (let k = chain_before cable paper a d.clocks more in
          let counted : now + left (lands (captured_on k scan)) (deed_chain k (Scans scan)) ≡ steps + count k = stable_counts k e in
          omega (arith, counted));
    }

  -- what is left, by another name
  pub does_same : {E : Type 0} (a b : PinCable C O) (turn : Chain → Happened) (count : Chain → ℕ) (steps now : ℕ) (rest : E → Chain → Happened) (left : E → Chain → ℕ) {e f : E} → e ≡ f →
      Does cable paper turn count a steps (rest e) (left e) b now → Does cable paper turn count a steps (rest f) (left f) b now
  does_same a b turn count steps now rest left e d = subst (λ x. Does cable paper turn count a steps (rest x) (left x) b now) e d

  -- the whole, by another name, in front of which so many instructions were counted
  pub does_of : (a b : PinCable C O) (turn other rest : Chain → Happened) (count counted left : Chain → ℕ) (steps then now : ℕ) → ((k : Chain) → other k ≡ turn k) →
      ((k : Chain) → then + count k ≡ steps + counted k) → Does cable paper turn count a then rest left b now → Does cable paper other counted a steps rest left b now
  does_of a b turn other rest count counted left steps then now e n d = record {
    events = d.events;
    clocks = d.clocks;
    passed = d.passed;
    does = λ more. e (chain_before cable paper a d.clocks more) ∙ d.does more;
    ticked = λ more. d.ticked more ∙ n (chain_before cable paper a d.clocks more);
  }

  pub front_of : (a b : PinCable C O) (turn other : Chain → Happened) (count counted : Chain → ℕ) (steps then now : ℕ) → ((k : Chain) → other k ≡ turn k) →
      ((k : Chain) → then + count k ≡ steps + counted k) → DoesFront cable paper turn count a then b now → DoesFront cable paper other counted a steps b now
  front_of a b turn other count counted steps then now e n d = record {
    events = d.events;
    clocks = d.clocks;
    passed = d.passed;
    rest = d.rest;
    does = λ more. e (chain_before cable paper a d.clocks more) ∙ d.does more;
    most = λ more. subst (λ (m : ℕ). now ≤ m) (n (chain_before cable paper a d.clocks more)) (d.most more);
  }

  -- one part after another
  module _ (both : (x y z : C) (front back : List Signal) → cable.made x front y → cable.made y back z →
      cable.made x (front ++ back) z) where
    pub does_both : (a b c : PinCable C O) (turn middle rest : Chain → Happened) (count between left : Chain → ℕ) (steps then now : ℕ) →
        Does cable paper turn count a steps middle between b then → Does cable paper middle between b then rest left c now →
        Does cable paper turn count a steps rest left c now
    does_both a b c turn middle rest count between left steps then now p q = record {
      events = p.events ++ q.events;
      clocks = p.clocks ++ q.clocks;
      passed = passes_both cable paper both a b c p.events q.events p.clocks q.clocks p.passed q.passed;
      does = λ more.
          ap turn (before_both cable paper both a p.clocks q.clocks more) ∙ p.does (tdos q.clocks ++ more)
          ∙ ap (with_events p.events) (q.does more) ∙ with_both p.events q.events (rest (port_chain cable.board c more));
      ticked = λ more.
          q.ticked more ∙ p.ticked (tdos q.clocks ++ more)
          ∙ ap (λ (k : Chain). steps + count k) (sym (before_both cable paper both a p.clocks q.clocks more));
    }

    pub does_both_front : (a b c : PinCable C O) (turn middle : Chain → Happened) (count between : Chain → ℕ) (steps then now : ℕ) →
        Does cable paper turn count a steps middle between b then → DoesFront cable paper middle between b then c now →
        DoesFront cable paper turn count a steps c now
    does_both_front a b c turn middle count between steps then now p q = record {
      events = p.events ++ q.events;
      clocks = p.clocks ++ q.clocks;
      passed = passes_both_front cable paper both a b c p.events q.events p.clocks q.clocks p.passed q.passed;
      rest = q.rest;
      does = λ more.
          ap turn (before_both cable paper both a p.clocks q.clocks more) ∙ p.does (tdos q.clocks ++ more)
          ∙ ap (with_events p.events) (q.does more) ∙ with_both p.events q.events (q.rest more);
      most = λ more.
          subst (λ (m : ℕ). now ≤ m)
          (p.ticked (tdos q.clocks ++ more) ∙ ap (λ (k : Chain). steps + count k) (sym (before_both cable paper both a p.clocks q.clocks more))) (q.most more);
    }

-- the count after an instruction
tick_on : (a s k t u v : ℕ) → s ≡ a + k → t ≡ k + u → u ≡ v → s + v ≡ a + t
tick_on a s k t u v e f g = omega arith

pub tick_most : (a s t u v : ℕ) → s ≡ a + t → v ≡ t + u → s ≤ a + v
tick_most a s t u v e f = omega arith

-- the first instruction of the rest of a turn
module _ (code : CodeLists) (i : ℕ) where
  abbrev pub after : List Value → State → Chain → Happened
  after ops s k = stretch (entries_of code.procedures) (constants_of code) (length code.instrs) (drop (i + 1) code.instrs) ops s k

  abbrev pub ticks_after : List Value → State → Chain → ℕ
  ticks_after ops s k = ticks (entries_of code.procedures) (constants_of code) (length code.instrs) (drop (i + 1) code.instrs) ops s k

  module _ (chosen : List ℕ) (work : Workspace) (x : Instr) (inside : i < length code.instrs) (is : x ≡ get_or code.instrs i x) where
    pub one_more : (k : Chain) → rest_of code i chosen work k ≡ happened_in_piece work.piece (continues k (step_of code i x chosen work) after)
    one_more k =
        let here : length code.instrs - suc (length (drop (i + 1) code.instrs)) ≡ i = omega (arith, length-drop (i + 1) code.instrs) in
        let s = state_of chosen work in let ops = operands_of work in let entries = entries_of code.procedures in
        ap (λ l. happened_in_piece work.piece (stretch entries (constants_of code) (length code.instrs) l ops s k)) (drop_more code.instrs i x inside)
        ∙ ap (λ h. happened_in_piece work.piece (continues k (step entries (constants_of code) h (get_or code.instrs i x) ops s) after)) here
        ∙ ap (λ y. happened_in_piece work.piece (continues k (step_of code i y chosen work) after)) (sym is)

    pub one_tick : (k : Chain) → ticks_from code i chosen work k ≡ tick_of x + counted_after k (step_of code i x chosen work) ticks_after
    one_tick k =
        let here : length code.instrs - suc (length (drop (i + 1) code.instrs)) ≡ i = omega (arith, length-drop (i + 1) code.instrs) in
        let s = state_of chosen work in let ops = operands_of work in let entries = entries_of code.procedures in
        ap (λ l. ticks entries (constants_of code) (length code.instrs) l ops s k) (drop_more code.instrs i x inside)
        ∙ ap (λ h. tick_of (get_or code.instrs i x) + counted_after k (step entries (constants_of code) h (get_or code.instrs i x) ops s) ticks_after) here
        ∙ ap (λ y. tick_of y + counted_after k (step_of code i y chosen work) ticks_after) (sym is)

    -- where the instruction leads
    module _ (new : Workspace) (m n : Moved) (same : m ≡ n) where
      pub goes : ((k : Chain) (go : List Value → State → Chain → Happened) → happened_in_piece work.piece (continues k (step_of code i x chosen work) go) ≡ moved_to code x m chosen new k go) →
          (k : Chain) → rest_of code i chosen work k ≡ moved_to code x n chosen new k after
      goes leads k = one_more k ∙ leads k after ∙ ap (λ (o : Moved). moved_to code x o chosen new k after) same

      pub counts : ((k : Chain) (go : List Value → State → Chain → ℕ) → counted_after k (step_of code i x chosen work) go ≡ moved_ticks code x m chosen new k go) →
          (before now : ℕ) → now ≡ before + tick_of x → (k : Chain) → now + moved_ticks code x n chosen new k ticks_after ≡ before + ticks_from code i chosen work k
      counts ticks before now e k =
          tick_on before now (tick_of x) _ _ _ e (one_tick k) (ticks k ticks_after ∙ ap (λ (o : Moved). moved_ticks code x o chosen new k ticks_after) same)

module _ (entries : List ℕ) (constants : Constants) (total : ℕ) (s : State) (k : Chain) where
  begins_at : (instrs : List Instr) (place piece : ℕ) → piece_of (slice_get instrs place) ≡ Some piece →
      begins entries constants total (drop place instrs) s k ≡ happened_in_piece piece (stretch entries constants total (drop (suc place) instrs) [] s k)
  begins_at [] place piece h = absurd cc
  begins_at (Turn p ∷ rest) zero piece h = let same : p ≡ piece = cc in ap (λ q. happened_in_piece q (stretch entries constants total rest [] s k)) same
  begins_at (x ∷ rest) (suc n) piece h = begins_at rest n piece h
  begins_at (_ ∷ rest) zero piece h = absurd cc

  begins_ticks_at : (instrs : List Instr) (place piece : ℕ) → piece_of (slice_get instrs place) ≡ Some piece →
      begin_ticks entries constants total (drop place instrs) s k ≡ 1 + ticks entries constants total (drop (suc place) instrs) [] s k
  begins_ticks_at [] place piece h = absurd cc
  begins_ticks_at (Turn p ∷ rest) zero piece h = refl
  begins_ticks_at (x ∷ rest) (suc n) piece h = begins_ticks_at rest n piece h
  begins_ticks_at (_ ∷ rest) zero piece h = absurd cc

  lacks_at : (instrs : List Instr) (place : ℕ) → piece_of (slice_get instrs place) ≡ None → begins entries constants total (drop place instrs) s k ≡ Lacks []
  lacks_at [] zero h = refl
  lacks_at [] (suc n) h = refl
  lacks_at (Turn p ∷ rest) zero h = absurd cc
  lacks_at (x ∷ rest) (suc n) h = lacks_at rest n h
  lacks_at (_ ∷ rest) zero h = refl

  lacks_ticks_at : (instrs : List Instr) (place : ℕ) → piece_of (slice_get instrs place) ≡ None → begin_ticks entries constants total (drop place instrs) s k ≡ 0
  lacks_ticks_at [] zero h = refl
  lacks_ticks_at [] (suc n) h = refl
  lacks_ticks_at (Turn p ∷ rest) zero h = absurd cc
  lacks_ticks_at (x ∷ rest) (suc n) h = lacks_ticks_at rest n h
  lacks_ticks_at (_ ∷ rest) zero h = refl

-- the turn of a piece that begins at a place
module _ (code : CodeLists) (place piece : ℕ) (chosen : List ℕ) (work : Workspace) (none : work.operands.items ≡ []) (h : piece_of (slice_get code.instrs place) ≡ Some piece) (k : Chain) where
  pub turn_begins : turn_at code place (state_of chosen work) k ≡ rest_of code (place + 1) chosen (record work { piece = piece }) k
  turn_begins =
      begins_at (entries_of code.procedures) (constants_of code) (length code.instrs) (state_of chosen work) k code.instrs place piece h
      ∙ ap (λ (n : ℕ). happened_in_piece piece (stretch (entries_of code.procedures) (constants_of code) (length code.instrs) (drop n code.instrs) [] (state_of chosen work) k)) (sym (add-one place))
      ∙ ap (λ (ops : List Value). happened_in_piece piece (stretch (entries_of code.procedures) (constants_of code) (length code.instrs) (drop (place + 1) code.instrs)
      (reverse ops) (state_of chosen work) k)) (sym none)

  pub turn_ticks_begin : ticks_at code place (state_of chosen work) k ≡ 1 + ticks_from code (place + 1) chosen (record work { piece = piece }) k
  turn_ticks_begin =
      begins_ticks_at (entries_of code.procedures) (constants_of code) (length code.instrs) (state_of chosen work) k code.instrs place piece h
      ∙ ap (λ (n : ℕ). 1 + ticks (entries_of code.procedures) (constants_of code) (length code.instrs) (drop n code.instrs) [] (state_of chosen work) k) (sym (add-one place))
      ∙ ap (λ (ops : List Value). 1 + ticks (entries_of code.procedures) (constants_of code) (length code.instrs) (drop (place + 1) code.instrs) (reverse ops) (state_of chosen work) k) (sym none)

-- and where none begins
pub turn_lacks : (code : CodeLists) (place : ℕ) (s : State) → piece_of (slice_get code.instrs place) ≡ None → (k : Chain) → turn_at code place s k ≡ Lacks []
turn_lacks code place s h k = lacks_at (entries_of code.procedures) (constants_of code) (length code.instrs) s k code.instrs place h

pub turn_ticks_lack : (code : CodeLists) (place : ℕ) (s : State) → piece_of (slice_get code.instrs place) ≡ None → (k : Chain) → ticks_at code place s k ≡ 0
turn_ticks_lack code place s h k = lacks_ticks_at (entries_of code.procedures) (constants_of code) (length code.instrs) s k code.instrs place h

pub one_tick_more : (a s v u : ℕ) → s ≡ a + 1 → v ≡ 1 + u → s + u ≡ a + v
one_tick_more a s v u e f = omega arith

pub no_tick : (a v : ℕ) → v ≡ 0 → a + 0 ≡ a + v
no_tick a v e = omega arith

pub none_over : (n x a : ℕ) → n + x ≡ a → n ≤ a
none_over n x a e = omega arith
