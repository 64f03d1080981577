-- One instruction of a valid code leads where it may, and the records keep the places of their procedures.
use Rattle.std.proofs.Common.{◌≡◌, ℕ, suc, ◌+◌, ◌<◌, Bool, true, false, List, [], ◌∷◌, Option, Some, None, length, slice_get, arith, refl, sym, subst, Contains}
use Rattle.std.specs.Prelude.{ℤ, pos, nat_lt, ◌==◌, ◌+ℤ◌}
use Rattle.std.specs.Int.{int_wrap, w32}
use Rattle.std.specs.Ordering.{int_eq}
use Rattle.stapl_meaning.specs.Deeds.{Deed}
use Rattle.stapl_meaning.specs.declared.events.RunFault.TheVariants.{ZeroStep, RecordsFull}
use Rattle.stapl_meaning.specs.declared.values.Held.{Held}
use Rattle.stapl_meaning.specs.declared.values.Value.{Value}
use Rattle.stapl_meaning.specs.declared.values.Value.TheVariants.{Int, Bit}
use Rattle.stapl_meaning.specs.declared.values.ValueKind.{ValueKind}
use Rattle.stapl_meaning.specs.declared.records.Loop.{Loop}
use Rattle.stapl_meaning.specs.declared.records.Record.{Record}
use Rattle.stapl_meaning.specs.declared.records.Record.TheVariants.{Pushed, Called, Looped}
use Rattle.stapl_meaning.specs.Values.{Got, Known, Faults, Stuck, then_get}
use Rattle.stapl_meaning.specs.States.{State, Did, Turned, Leads, Over, Broken, Scanning, NoTurn, next_chosen, jumps_to}
use Rattle.stapl_meaning.specs.States as did
use Rattle.stapl_meaning.specs.Effects.{scalar_written, IntoWhole, with_variables, jumped, way_of, parted, record_limit, with_records, with_room, number_of, pushed, topmost, called, returned_from, returned, with_loop, looped, nearest_loop, is_over, integer_held, went_round, repeated}
use Rattle.stapl_code.specs.declared.raw.CodeLists.{CodeLists}
use Rattle.stapl_code.specs.declared.instr.Instr.{Instr}
use Rattle.stapl_code.specs.declared.instr.Instr.TheVariants.{Turn, Push, PushBit, Load, LoadAt, CheckIndex, CheckRange, Store, StoreAt, Unary, Binary, ToInt, CopyBits, SetBits, SetInts, For, Next, PushRecord, PopRecord, Call, Jump, JumpIfZero, EndProc, Print, Export, CheckChar, Exit, Scan as Scans, Stop, Pad, State as GoThrough, Wait, Frequency}
use Rattle.stapl_code.specs.Machine.{Made, Puts, PutsFrom, PutsTwo, Does, puts, does, one, two, unrecorded, kept, target_of, known_text, known_literal, known_source, known_given, known_scan, takes, made, Step, Falls, Acts, Scanned, Stops, Faulted, Wrong, taken, on_taken, acted, entry_of, lands, on_made, step}
use Rattle.stapl_code.specs.Ranges.{IsInRange}
use Rattle.stapl_code.specs.Valid.{IsValid}
use Rattle.stapl_code.specs.Safe.{entries_of, constants_of}
use Rattle.code_rules.specs.Places.{StandsAt, BeginsAt, IsOfProcedure}
use Rattle.code_rules.specs.Instructions.{IsEndProc}
use Rattle.code_rules.specs.Leads.{FollowsCall, MayLead, goes_inside, calls, goes_back, begins_next}
use Rattle.code_rules.proofs.KeptRecords.{IfKnown, known_then, known_if, HasSameRecords, KeepsRecords, assigned_keeps, element_keeps, copied_keeps, set_keeps, printed_keeps, part_keeps, moved_keeps, waited_keeps, tuned_keeps, exited_keeps, scanned_keeps, surrounded_keeps, stopped_keeps}
use Rattle.code_rules.proofs.ValidFacts.{IsTurnIn, turn_follows, turn_at_entry, target_in, entry_at, in_range}

known_next : {A B : Type 0} (P : A → Type 0) (Q : B → Type 0) (g : Got A) (go : A → Got B) → IfKnown P g → ((x : A) → P x → IfKnown Q (go x)) →
    IfKnown Q (then_get g go)
known_next P Q (Known x) go h f = f x h
known_next P Q (Faults k) go h f = tt
known_next P Q Stuck go h f = tt

module _ (code : CodeLists) (chosen : List ℕ) where
  -- these procedures exist, and are chosen
  abbrev pub EachChosen : List ℕ → Type 0
  EachChosen [] = Unit {0}
  EachChosen (p ∷ ps) = (p < length code.procedures) × Contains chosen p × EachChosen ps

  -- The records when the procedure of this entry runs: its loops are above the nearest Call, which called it, and below
  -- that are the records of its caller.
  abbrev pub RunsIn : ℕ → List Record → Type 0
  RunsIn entry [] = Unit {0}
  RunsIn entry (Pushed z ∷ records) = RunsIn entry records
  RunsIn entry (Looped l ∷ records) = IsTurnIn code entry l.place × RunsIn entry records
  RunsIn entry (Called place ∷ records) =
      FollowsCall code entry place × ((caller : ℕ) × IsTurnIn code caller place × RunsIn caller records)

  -- the procedure of this entry runs
  pub record IsRunning (entry : ℕ) (s : State) : Type 0 where
    pub records_run : RunsIn entry s.records
    pub chosen_are : EachChosen s.chosen

  -- the turn that begins at the first place leads to the second one, where a procedure runs
  pub record Arrives (from place : ℕ) (s : State) : Type 0 where
    pub may : MayLead code chosen from place
    pub entry : ℕ
    pub turn : IsTurnIn code entry place
    pub runs : IsRunning entry s

  abbrev pub TurnedLeads : ℕ → Turned → Type 0
  TurnedLeads from (Leads deeds place s) = Arrives from place s
  TurnedLeads from (Scanning deeds scan rest) = ⊥
  TurnedLeads from _ = Unit {0}

  -- what one instruction does in the procedure of this entry, in a turn that begins at a place
  abbrev pub StepLeads : ℕ → ℕ → Instr → Step → Type 0
  StepLeads entry from x (Falls ops t) = (IsEndProc x → ⊥) × IsRunning entry t
  StepLeads entry from x (Acts deeds ops t) = (IsEndProc x → ⊥) × IsRunning entry t
  StepLeads entry from x (Scanned scan ops lands) = (IsEndProc x → ⊥) × ((bits : List Bool) → IsRunning entry (lands bits))
  StepLeads entry from x (Stops ops t) = TurnedLeads from t
  StepLeads entry from x (Faulted k s) = Unit {0}
  StepLeads entry from x Wrong = Unit {0}

  abbrev DidLeads : ℕ → ℕ → ℕ → Instr → Did → Type 0
  DidLeads entry from here x (did.Falls deeds t) = (IsEndProc x → ⊥) × IsRunning entry t
  DidLeads entry from here x (did.Captures scan land) = (IsEndProc x → ⊥) × ((bits : List Bool) → IsRunning entry (land bits))
  DidLeads entry from here x (did.Jumps t) = (to : ℕ) → lands (entries_of code.procedures) here x ≡ Some to → Arrives from to t
  DidLeads entry from here x (did.Resumes place t) = Arrives from place t
  DidLeads entry from here x (did.Returns t) = (t.records ≡ []) × EachChosen t.chosen
  DidLeads entry from here x (did.Ends ending t) = Unit {0}

  abbrev MadeLeads : ℕ → ℕ → ℕ → Instr → Made → Type 0
  MadeLeads entry from here x (Puts v) = IsEndProc x → ⊥
  MadeLeads entry from here x (PutsFrom v t) = (IsEndProc x → ⊥) × IsRunning entry t
  MadeLeads entry from here x (PutsTwo v w) = IsEndProc x → ⊥
  MadeLeads entry from here x (Does d) = DidLeads entry from here x d

  kept_runs : (entry : ℕ) (s t : State) → IsRunning entry s → HasSameRecords s t → IsRunning entry t
  kept_runs entry s t r k = record {
    records_run = subst (RunsIn entry) (sym k.records_are) r.records_run;
    chosen_are = subst EachChosen (sym k.chosen_are) r.chosen_are;
  }

  module _ (range : IsInRange code) (valid : IsValid code) where
    begins_of : (p : ℕ) → p < length code.procedures → BeginsAt code (entry_of (entries_of code.procedures) p)
    begins_of p h = record { procedure = p; entry_is = entry_at code range valid p h }

    -- the next chosen procedure begins
    pub chosen_leads : (from : ℕ) (t : State) (ps : List ℕ) → t.records ≡ [] → EachChosen ps →
        TurnedLeads from (next_chosen (entry_of (entries_of code.procedures)) t ps)
    chosen_leads from t [] e below = tt
    chosen_leads from t (p ∷ ps) e below =
        let begins = begins_of p below.0 in
        record {
          may = begins_next p below.1 (entry_at code range valid p below.0);
          entry = entry_of (entries_of code.procedures) p;
          turn = turn_at_entry code range valid (entry_of (entries_of code.procedures) p) begins;
          runs = record { records_run = subst (RunsIn (entry_of (entries_of code.procedures) p)) (sym e) tt; chosen_are = below.2 };
        }

    module _ (entry from : ℕ) (own : IsOfProcedure code entry from) where
      to_turn : (place : ℕ) (s : State) → IsTurnIn code entry place → IsRunning entry s → Arrives from place s
      to_turn place s t r = record {
        may = goes_inside (record { entry = entry; piece = t.piece; here = own; there = t.within; turn = t.turn });
        entry = entry;
        turn = t;
        runs = r;
      }

      jump_leads : (here : ℕ) (x : Instr) (to : Option ℕ) (t : State) → lands (entries_of code.procedures) here x ≡ to →
          DidLeads entry from here x (did.Jumps t) → TurnedLeads from (jumps_to to t)
      jump_leads here x None t e h = tt
      jump_leads here x (Some to) t e h = h to e

      act_leads : (here : ℕ) (x : Instr) (deeds : List Deed) (below : List Value) (t : State) → (IsEndProc x → ⊥) × IsRunning entry t →
          StepLeads entry from x (acted deeds below t)
      act_leads here x [] below t h = h
      act_leads here x (d ∷ deeds) below t h = h

      made_leads : (here : ℕ) (x : Instr) (to : Option ℕ) (below : List Value) (s : State) (g : Got Made) → lands (entries_of code.procedures) here x ≡ to →
          IsRunning entry s → IfKnown (MadeLeads entry from here x) g → StepLeads entry from x (on_made (entries_of code.procedures) to below s g)
      made_leads here x to below s (Known (Puts v)) e r h = (h, r)
      made_leads here x to below s (Known (PutsFrom v t)) e r h = h
      made_leads here x to below s (Known (PutsTwo v w)) e r h = (h, r)
      made_leads here x to below s (Known (Does (did.Falls deeds t))) e r h = act_leads here x deeds below t h
      made_leads here x to below s (Known (Does (did.Captures scan land))) e r h = h
      made_leads here x to below s (Known (Does (did.Jumps t))) e r h = jump_leads here x to t e h
      made_leads here x to below s (Known (Does (did.Resumes place t))) e r h = h
      made_leads here x to below s (Known (Does (did.Returns t))) e r h = chosen_leads from t t.chosen h.0 h.1
      made_leads here x to below s (Known (Does (did.Ends ending t))) e r h = tt
      made_leads here x to below s (Faults k) e r h = tt
      made_leads here x to below s Stuck e r h = tt

      module _ (here : ℕ) (x : Instr) where
        does_leads : (g : Got Did) → IfKnown (DidLeads entry from here x) g → IfKnown (MadeLeads entry from here x) (does g)
        does_leads (Known d) h = h
        does_leads (Faults k) h = tt
        does_leads Stuck h = tt

        keeping_leads : (s : State) → IsRunning entry s → (IsEndProc x → ⊥) → (d : Did) → KeepsRecords s d → DidLeads entry from here x d
        keeping_leads s r n (did.Falls deeds t) k = (n, kept_runs entry s t r k)
        keeping_leads s r n (did.Captures scan land) k = (n, λ bits. kept_runs entry s (land bits) r (k bits))
        keeping_leads s r n (did.Jumps t) k = absurd k
        keeping_leads s r n (did.Resumes place t) k = absurd k
        keeping_leads s r n (did.Returns t) k = absurd k
        keeping_leads s r n (did.Ends ending t) k = tt

        keeps : (s : State) → IsRunning entry s → (IsEndProc x → ⊥) → (g : Got Did) → IfKnown (KeepsRecords s) g → IfKnown (MadeLeads entry from here x) (does g)
        keeps s r n (Known d) k = keeping_leads s r n d k
        keeps s r n (Faults f) k = tt
        keeps s r n Stuck k = tt

        puts_on : (IsEndProc x → ⊥) → (g : Got Value) → IfKnown (MadeLeads entry from here x) (puts g)
        puts_on n (Known v) = n
        puts_on n (Faults k) = tt
        puts_on n Stuck = tt

        one_puts : (IsEndProc x → ⊥) → (vs : List Value) (go : Value → Got Value) → IfKnown (MadeLeads entry from here x) (one vs go)
        one_puts n [] go = tt
        one_puts n (v ∷ []) go = puts_on n (go v)
        one_puts n (v ∷ w ∷ vs) go = tt

        two_put : (IsEndProc x → ⊥) → (vs : List Value) (go : Value → Value → Got Value) → IfKnown (MadeLeads entry from here x) (two vs go)
        two_put n [] go = tt
        two_put n (v ∷ []) go = tt
        two_put n (v ∷ w ∷ []) go = puts_on n (go v w)
        two_put n (v ∷ w ∷ u ∷ vs) go = tt

        tested : (IsEndProc x → ⊥) → (v w : Value) (g : Got Value) → IfKnown (MadeLeads entry from here x) (then_get g (λ z. Known (PutsTwo v w)))
        tested n v w (Known z) = n
        tested n v w (Faults k) = tt
        tested n v w Stuck = tt

        kept_puts : (IsEndProc x → ⊥) → (vs : List Value) (test : Value → Value → Got Value) → IfKnown (MadeLeads entry from here x) (kept vs test)
        kept_puts n [] test = tt
        kept_puts n (v ∷ []) test = tt
        kept_puts n (v ∷ w ∷ []) test = tested n v w (test v w)
        kept_puts n (v ∷ w ∷ u ∷ vs) test = tt

        -- records
        push_leads : (s : State) → IsRunning entry s → (IsEndProc x → ⊥) → (vs : List Value) → IfKnown (DidLeads entry from here x) (pushed vs s)
        push_leads s r n (v ∷ []) =
            known_if (DidLeads entry from here x) (nat_lt (length s.records) record_limit)
            (Known (did.Falls [] (with_records s (Pushed (number_of v) ∷ s.records)))) (Faults RecordsFull)
            (n, record { records_run = r.records_run; chosen_are = r.chosen_are }) tt
        push_leads s r n _ = tt

        top_runs : (kind : ValueKind) (records : List Record) → RunsIn entry records →
            IfKnown (λ (both : Value × List Record). RunsIn entry both.1) (topmost kind records)
        top_runs kind (Pushed z ∷ records) r = r
        top_runs kind _ r = tt

        pop_leads : (s : State) → IsRunning entry s → (IsEndProc x → ⊥) → (g : Got (Value × List Record)) →
            IfKnown (λ (both : Value × List Record). RunsIn entry both.1) g → IfKnown (MadeLeads entry from here x) (unrecorded g s)
        pop_leads s r n (Known both) k = (n, record { records_run = k; chosen_are = r.chosen_are })
        pop_leads s r n (Faults f) k = tt
        pop_leads s r n Stuck k = tt

        loop_runs : (l : Loop) (records : List Record) (z : ℤ) (s : State) → IsTurnIn code entry l.place → RunsIn entry records →
            EachChosen s.chosen → IfKnown (IsRunning entry) (with_loop l records z s)
        loop_runs l records z s t r c =
            known_then (IsRunning entry) (scalar_written s.store.variables l.variable (slice_get s.store.variables l.variable) (Int z))
            (λ (variables : List Held). Known (with_variables (with_records s (Looped l ∷ records)) variables))
            (λ variables. record { records_run = (t, r); chosen_are = c })

        for_leads : (n body : ℕ) (s : State) → IsRunning entry s → (IsEndProc x → ⊥) → IsTurnIn code entry body → (vs : List Value) →
            IfKnown (DidLeads entry from here x) (looped n body vs s)
        for_leads n body s r e t (Int first ∷ Int limit ∷ Int step ∷ []) =
            let l : Loop = record { variable = n; limit = limit; step = step; place = body } in
            let run : Got Did = then_get (with_loop l s.records first s) (λ t. Known (did.Falls [] t)) in
            known_if (DidLeads entry from here x) (int_eq step (pos 0)) (Faults ZeroStep) (with_room s run) tt
            (known_if (DidLeads entry from here x) (nat_lt (length s.records) record_limit) run (Faults RecordsFull)
            (known_next (IsRunning entry) (DidLeads entry from here x) (with_loop l s.records first s) (λ t. Known (did.Falls [] t))
            (loop_runs l s.records first s t r.records_run r.chosen_are) (λ u runs. (e, runs))) tt)
        for_leads n body s r e t _ = tt

        abbrev IsLoop : Loop × List Record → Type 0
        IsLoop top = IsTurnIn code entry top.0.place × RunsIn entry top.1

        nearest_runs : (n : ℕ) (records : List Record) → RunsIn entry records → IfKnown IsLoop (nearest_loop n records)
        nearest_runs n (Looped l ∷ records) r =
            known_if IsLoop (l.variable == n) (Known (l, records)) (nearest_loop n records) (r.0, r.1) (nearest_runs n records r.1)
        nearest_runs n _ r = tt

        round_leads : (l : Loop) (records : List Record) (z : ℤ) (s : State) → IsRunning entry s → (IsEndProc x → ⊥) → IsLoop (l, records) →
            IfKnown (DidLeads entry from here x) (went_round l records z s)
        round_leads l records z s r e h =
            let next : ℤ = int_wrap w32 (z +ℤ l.step) in
            known_if (DidLeads entry from here x) (is_over l z) (Known (did.Falls [] (with_records s records)))
            (then_get (with_loop l records next s) (λ t. Known (did.Resumes l.place t)))
            (e, record { records_run = h.1; chosen_are = r.chosen_are })
            (known_next (IsRunning entry) (DidLeads entry from here x) (with_loop l records next s) (λ t. Known (did.Resumes l.place t))
            (loop_runs l records next s h.0 h.1 r.chosen_are) (λ u runs. to_turn l.place u h.0 runs))

        next_leads : (n : ℕ) (s : State) → IsRunning entry s → (IsEndProc x → ⊥) → (vs : List Value) → IfKnown (DidLeads entry from here x) (repeated n vs s)
        next_leads n s r e [] =
            known_next IsLoop (DidLeads entry from here x) (nearest_loop n s.records)
            (λ top. then_get (integer_held (slice_get s.store.variables n)) (λ z. went_round top.0 top.1 z s)) (nearest_runs n s.records r.records_run)
            (λ top h. known_then (DidLeads entry from here x) (integer_held (slice_get s.store.variables n)) (λ z. went_round top.0 top.1 z s)
            (λ z. round_leads top.0 top.1 z s r e h))
        next_leads n s r e _ = tt

        return_leads : (records : List Record) (s : State) → RunsIn entry records → EachChosen s.chosen →
            DidLeads entry from here x (returned_from records s)
        return_leads [] s r c = (refl, c)
        return_leads (Pushed z ∷ records) s r c = return_leads records s r c
        return_leads (Looped l ∷ records) s r c = return_leads records s r.1 c
        return_leads (Called place ∷ records) s r c = record {
          may = goes_back entry own r.0;
          entry = r.1.0;
          turn = r.1.1;
          runs = record { records_run = r.1.2; chosen_are = c };
        }

        end_leads : (s : State) → IsRunning entry s → (vs : List Value) → IfKnown (DidLeads entry from here x) (returned vs s)
        end_leads s r [] = return_leads s.records s r.records_run r.chosen_are
        end_leads s r _ = tt

        -- jumps to a Turn of the procedure
        jumped_leads : (s : State) → IsRunning entry s → ((to : ℕ) → lands (entries_of code.procedures) here x ≡ Some to → IsTurnIn code entry to) →
            (vs : List Value) → IfKnown (DidLeads entry from here x) (jumped vs s)
        jumped_leads s r t [] = λ to e. to_turn to s (t to e) r
        jumped_leads s r t _ = tt

        way_leads : (s : State) → IsRunning entry s → (IsEndProc x → ⊥) →
            ((to : ℕ) → lands (entries_of code.procedures) here x ≡ Some to → IsTurnIn code entry to) → (b : Bool) → DidLeads entry from here x (way_of b s)
        way_leads s r n t true = (n, r)
        way_leads s r n t false = λ to e. to_turn to s (t to e) r

        parted_leads : (s : State) → IsRunning entry s → (IsEndProc x → ⊥) →
            ((to : ℕ) → lands (entries_of code.procedures) here x ≡ Some to → IsTurnIn code entry to) → (vs : List Value) →
            IfKnown (DidLeads entry from here x) (parted vs s)
        parted_leads s r n t (Bit b ∷ []) = way_leads s r n t b
        parted_leads s r n t _ = tt

      call_leads : (here p : ℕ) (s : State) → StandsAt code here (Call p) → IsOfProcedure code entry here → IsRunning entry s → (vs : List Value) →
          IfKnown (DidLeads entry from here (Call p)) (called (suc here) vs s)
      call_leads here p s at within r [] =
          let after : here + 1 ≡ suc here = omega arith in
          let there = in_range code range valid here (Call p) at in
          let begins = begins_of p there in
          let called_here : FollowsCall code (entry_of (entries_of code.procedures) p) (suc here) =
          record { before = here; procedure = p; entry_is = entry_at code range valid p there; call = at; next = after } in
          let comes_back = subst (IsTurnIn code entry) after (turn_follows code range valid entry here (Call p) at within (λ h. h) tt) in
          let arrives : Arrives from (entry_of (entries_of code.procedures) p) (with_records s (Called (suc here) ∷ s.records)) = record {
            may = calls entry here p own within at (entry_at code range valid p there);
            entry = entry_of (entries_of code.procedures) p;
            turn = turn_at_entry code range valid (entry_of (entries_of code.procedures) p) begins;
            runs = record { records_run = (called_here, (entry, comes_back, r.records_run)); chosen_are = r.chosen_are };
          } in
          known_if (DidLeads entry from here (Call p)) (nat_lt (length s.records) record_limit)
          (Known (did.Jumps (with_records s (Called (suc here) ∷ s.records)))) (Faults RecordsFull)
          (λ to e. let same : entry_of (entries_of code.procedures) p ≡ to = cc in
          subst (λ (n : ℕ). Arrives from n (with_records s (Called (suc here) ∷ s.records))) same arrives) tt
      call_leads here p s at within r _ = tt

      -- the table of instructions
      row_leads : (here : ℕ) (x : Instr) (vs : List Value) (s : State) → StandsAt code here x → IsOfProcedure code entry here → IsRunning entry s →
          IfKnown (MadeLeads entry from here x) (made (entries_of code.procedures) (constants_of code) here x vs s)
      row_leads here (Turn piece) vs s at within r =
          does_leads here (Turn piece) _ (jumped_leads here (Turn piece) s r (λ to e.
          let same : here ≡ to = cc in
          subst (IsTurnIn code entry) same (record { within = within; piece = piece; turn = at })) vs)
      row_leads here (Push z) vs s at within r = λ h. h
      row_leads here (PushBit b) vs s at within r = puts_on here (PushBit b) (λ h. h) _
      row_leads here (Load n) vs s at within r = puts_on here (Load n) (λ h. h) _
      row_leads here (LoadAt n) vs s at within r = one_puts here (LoadAt n) (λ h. h) vs _
      row_leads here (CheckIndex n) vs s at within r = one_puts here (CheckIndex n) (λ h. h) vs _
      row_leads here (CheckRange n) vs s at within r = kept_puts here (CheckRange n) (λ h. h) vs _
      row_leads here (Store n) vs s at within r = keeps here (Store n) s r (λ h. h) _ (assigned_keeps s n vs)
      row_leads here (StoreAt n) vs s at within r = keeps here (StoreAt n) s r (λ h. h) _ (element_keeps s n vs)
      row_leads here (Unary op) vs s at within r = one_puts here (Unary op) (λ h. h) vs _
      row_leads here (Binary op) vs s at within r = two_put here (Binary op) (λ h. h) vs _
      row_leads here (ToInt source) vs s at within r = puts_on here (ToInt source) (λ h. h) _
      row_leads here (CopyBits dest source) vs s at within r =
          keeps here (CopyBits dest source) s r (λ h. h) _
          (known_then (KeepsRecords s) (known_source (constants_of code) source) _ (λ from. copied_keeps s (target_of code.profile dest) from vs))
      row_leads here (SetBits n literal) vs s at within r =
          keeps here (SetBits n literal) s r (λ h. h) _
          (known_then (KeepsRecords s) (known_literal (slice_get code.literals literal)) _ (λ from. copied_keeps s (IntoWhole n) from vs))
      row_leads here (SetInts n list) vs s at within r = keeps here (SetInts n list) s r (λ h. h) _ (set_keeps s n list vs)
      row_leads here (For n body) vs s at within r =
          does_leads here (For n body) _ (for_leads here (For n body) n body s r (λ h. h) (target_in code range valid entry here body (For n body) at within refl) vs)
      row_leads here (Next n) vs s at within r = does_leads here (Next n) _ (next_leads here (Next n) n s r (λ h. h) vs)
      row_leads here (PushRecord kind) vs s at within r = does_leads here (PushRecord kind) _ (push_leads here (PushRecord kind) s r (λ h. h) vs)
      row_leads here (PopRecord kind) vs s at within r =
          pop_leads here (PopRecord kind) s r (λ h. h) (topmost kind s.records) (top_runs here (PopRecord kind) kind s.records r.records_run)
      row_leads here (Call p) vs s at within r = does_leads here (Call p) _ (call_leads here p s at within r vs)
      row_leads here (Jump target) vs s at within r =
          does_leads here (Jump target) _ (jumped_leads here (Jump target) s r (λ to e. target_in code range valid entry here to (Jump target) at within cc) vs)
      row_leads here (JumpIfZero target) vs s at within r =
          does_leads here (JumpIfZero target) _
          (parted_leads here (JumpIfZero target) s r (λ h. h) (λ to e. target_in code range valid entry here to (JumpIfZero target) at within cc) vs)
      row_leads here EndProc vs s at within r = does_leads here EndProc _ (end_leads here EndProc s r vs)
      row_leads here (Print list) vs s at within r = keeps here (Print list) s r (λ h. h) _ (printed_keeps s _)
      row_leads here (Export key part) vs s at within r =
          keeps here (Export key part) s r (λ h. h) _
          (known_then (KeepsRecords s) (known_text (slice_get code.texts key)) _ (λ bytes. part_keeps s (constants_of code) part bytes vs))
      row_leads here CheckChar vs s at within r = one_puts here CheckChar (λ h. h) vs _
      row_leads here Exit vs s at within r = keeps here Exit s r (λ h. h) _ (exited_keeps s vs)
      row_leads here (Scans scan) vs s at within r =
          keeps here (Scans scan) s r (λ h. h) _ (known_then (KeepsRecords s) (known_scan (constants_of code) scan) _ (λ parts. scanned_keeps s parts vs))
      row_leads here (Stop register tap) vs s at within r = keeps here (Stop register tap) s r (λ h. h) _ (stopped_keeps s register tap vs)
      row_leads here (Pad which source) vs s at within r =
          keeps here (Pad which source) s r (λ h. h) _
          (known_then (KeepsRecords s) (known_given (constants_of code) source) _ (λ from. surrounded_keeps s which from vs))
      row_leads here (GoThrough states) vs s at within r = keeps here (GoThrough states) s r (λ h. h) _ (moved_keeps s states vs)
      row_leads here (Wait at_state kind last) vs s at within r = keeps here (Wait at_state kind last) s r (λ h. h) _ (waited_keeps s kind at_state last vs)
      row_leads here (Frequency stated) vs s at within r = keeps here (Frequency stated) s r (λ h. h) _ (tuned_keeps s vs)

      -- one instruction
      pub step_leads : (here : ℕ) (x : Instr) (ops : List Value) (s : State) → StandsAt code here x → IsOfProcedure code entry here → IsRunning entry s →
          StepLeads entry from x (step (entries_of code.procedures) (constants_of code) here x ops s)
      step_leads here x ops s at within r = by (taken (length (takes x)) ops)
        where
          by : (o : Option (List Value × List Value)) → StepLeads entry from x (on_taken o (λ vs below.
              on_made (entries_of code.procedures) (lands (entries_of code.procedures) here x) below s
              (made (entries_of code.procedures) (constants_of code) here x vs s)))
          by None = tt
          by (Some both) =
              made_leads here x (lands (entries_of code.procedures) here x) both.1 s
              (made (entries_of code.procedures) (constants_of code) here x both.0 s) refl r (row_leads here x both.0 s at within r)
