-- The turns and the plays of a valid code lead where they may.
use Rattle.std.proofs.Common.{◌≡◌, ℕ, zero, suc, ◌+◌, ◌-◌, ◌<◌, ◌≤◌, ◌⊎◌, inl, inr, Bool, true, false, List, [], ◌∷◌, Option, Some, None, length, drop, slice_get, arith, refl, sym, ap, subst, ◌∙◌, add-one, length-drop}
use Rattle.std.specs.Prelude.{if◌then◌else◌}
use Rattle.std.proofs.lemmas.Bool.{cases_lt}
use Rattle.std.proofs.lemmas.Option.{slice_get_within, get_or_from_slice_get}
use Rattle.tap_states.specs.Tap.{is_stable_state}
use Rattle.stapl_meaning.specs.Deeds.{Deed, Scans, Chain, deed_events, deed_chain, deeds_events, deeds_chain, captured_on}
use Rattle.stapl_meaning.specs.declared.events.Event.{Event}
use Rattle.stapl_meaning.specs.declared.values.Held.{Held}
use Rattle.stapl_meaning.specs.declared.values.Value.{Value}
use Rattle.stapl_meaning.specs.Values.{Got, Known, Faults, Stuck}
use Rattle.stapl_meaning.specs.States.{State, Did, Turned, Leads, Over, Broken, Scanning, NoTurn, next_chosen, Happened, Led, Finished, Broke, Lacks, happens, with_events, scanned_on, happened_in_piece}
use Rattle.stapl_meaning.specs.States as did
use Rattle.stapl_meaning.specs.Effects.{IntoWhole, jumped}
use Rattle.stapl_meaning.specs.Plays.{Going, goes_on, start}
use Rattle.stapl_code.specs.declared.raw.CodeLists.{CodeLists}
use Rattle.stapl_code.specs.declared.instr.Instr.{Instr}
use Rattle.stapl_code.specs.declared.instr.Instr.TheVariants.{Turn, Push, PushBit, Store, SetBits, SetInts}
use Rattle.stapl_code.specs.Machine.{puts, does, bit_of, known_literal, takes, made, Step, Falls, Acts, Scanned, Stops, Faulted, Wrong, taken, on_taken, acted, entry_of, lands, on_made, step, at_end, continues, begins_chosen, stretch, begins, code_turn, code_run, code_beginning}
use Rattle.stapl_code.specs.Ranges.{IsInRange}
use Rattle.stapl_code.specs.Valid.{sets_up, IsValid}
use Rattle.stapl_code.specs.Safe.{entries_of, constants_of, AllBelow}
use Rattle.stapl_code.proofs.Heads.{head_of, get_head, drop_tail}
use Rattle.code_rules.specs.Places.{StandsAt, IsEntryOf, BeginsAt, IsOfPrologue, IsOfProcedure}
use Rattle.code_rules.specs.Instructions.{IsTurnInstr, IsEndProc, SetsUp}
use Rattle.code_rules.specs.Rules.{foreign_in_prologue}
use Rattle.code_rules.specs.Leads.{MayLead, ArePlayable, outcome_after}
use Rattle.code_rules.proofs.InstructionTests.{denied, decided, set_up_agrees}
use Rattle.code_rules.proofs.PartLemmas.{same_instr}
use Rattle.code_rules.proofs.FirstBreaks.{prologue_end, all_after, part_ends}
use Rattle.code_rules.proofs.KeptRecords.{IfKnown, known_then, HasSameRecords, KeepsRecords, assigned_keeps, copied_keeps, set_keeps}
use Rattle.code_rules.proofs.ValidFacts.{IsTurnIn, none_breaks, goes_on_in, turn_at_entry, entry_at}
use Rattle.code_rules.proofs.StepLeads.{EachChosen, RunsIn, IsRunning, Arrives, TurnedLeads, StepLeads, step_leads}

module _ (code : CodeLists) (chosen : List ℕ) where
  abbrev total : ℕ
  total = length code.instrs

  -- what is at the front of the rest of the instructions
  front : (i : ℕ) (x : Instr) (rest : List Instr) → drop i code.instrs ≡ x ∷ rest →
      StandsAt code i x × (total - suc (length rest) ≡ i) × (drop (i + 1) code.instrs ≡ rest)
  front i x rest d =
      (get_head i code.instrs ∙ ap head_of d, omega (arith, ap length d, length-drop i code.instrs), rw add-one (drop_tail i code.instrs ∙ ap (drop 1) d))

  -- what happened in a turn that began at this place
  abbrev LeadsOn : ℕ → Happened → Type 0
  LeadsOn from (Led events place s k) = Arrives code chosen from place s
  LeadsOn from _ = Unit {0}

  with_leads : (from : ℕ) (events : List Event) (h : Happened) → LeadsOn from h → LeadsOn from (with_events events h)
  with_leads from events (Led more place s k) a = a
  with_leads from events (Finished more ending s k) a = tt
  with_leads from events (Broke more f s k) a = tt
  with_leads from events (Lacks more) a = tt

  piece_leads : (from piece : ℕ) (h : Happened) → LeadsOn from h → LeadsOn from (happened_in_piece piece h)
  piece_leads from piece (Led events place s k) a = a
  piece_leads from piece (Finished events ending s k) a = tt
  piece_leads from piece (Broke events f s k) a = tt
  piece_leads from piece (Lacks events) a = tt

  happens_leads : (from : ℕ) (k : Chain) (t : Turned) → TurnedLeads code chosen from t → LeadsOn from (happens k t)
  happens_leads from k (Leads deeds place s) a = a
  happens_leads from k (Over deeds ending s) a = tt
  happens_leads from k (Broken deeds f s) a = tt
  happens_leads from k (Scanning deeds scan rest) a = absurd a
  happens_leads from k (NoTurn deeds) a = tt

  end_leads : (from : ℕ) (ops : List Value) (h : Happened) → LeadsOn from h → LeadsOn from (at_end ops h)
  end_leads from [] h a = a
  end_leads from (v ∷ ops) h a = tt

  if_leads : (from : ℕ) (b : Bool) (h : Happened) → LeadsOn from h → LeadsOn from (if b then h else Lacks [])
  if_leads from true h a = a
  if_leads from false h a = tt

  continue_leads : (entry from : ℕ) (x : Instr) (k : Chain) (st : Step) (go : List Value → State → Chain → Happened) → StepLeads code chosen entry from x st →
      ((ops : List Value) (t : State) (l : Chain) → (IsEndProc x → ⊥) → IsRunning code chosen entry t → LeadsOn from (go ops t l)) → LeadsOn from (continues k st go)
  continue_leads entry from x k (Falls ops t) go a rest = rest ops t k a.0 a.1
  continue_leads entry from x k (Acts deeds ops t) go a rest =
      let l = deeds_chain k deeds in with_leads from (deeds_events k deeds) (go ops t l) (rest ops t l a.0 a.1)
  continue_leads entry from x k (Scanned scan ops land) go a rest =
      let l = deed_chain k (Scans scan) in
      let bits = captured_on k scan in
      if_leads from (is_stable_state k.tap) (with_events (deed_events k (Scans scan)) (go ops (land bits) l))
      (with_leads from (deed_events k (Scans scan)) (go ops (land bits) l) (rest ops (land bits) l a.0 (a.1 bits)))
  continue_leads entry from x k (Stops ops t) go a rest = end_leads from ops (happens k t) (happens_leads from k t a)
  continue_leads entry from x k (Faulted f t) go a rest = tt
  continue_leads entry from x k Wrong go a rest = tt

  module _ (range : IsInRange code) (valid : IsValid code) where
    -- the rest of a turn, in the procedure of this entry
    stretch_leads : (entry from : ℕ) → IsOfProcedure code entry from → (l : List Instr) (i : ℕ) (ops : List Value) (s : State) (k : Chain) →
        drop i code.instrs ≡ l → IsOfProcedure code entry i → IsRunning code chosen entry s →
        LeadsOn from (stretch (entries_of code.procedures) (constants_of code) total l ops s k)
    stretch_leads entry from own [] i ops s k d within r = tt
    stretch_leads entry from own (x ∷ rest) i ops s k d within r =
        let f = front i x rest d in
        let here : ℕ = total - suc (length rest) in
        let at = subst (λ (n : ℕ). StandsAt code n x) (sym f.1) f.0 in
        let inside = subst (IsOfProcedure code entry) (sym f.1) within in
        continue_leads entry from x k (step (entries_of code.procedures) (constants_of code) here x ops s)
        (stretch (entries_of code.procedures) (constants_of code) total rest)
        (step_leads code chosen range valid entry from own here x ops s at inside r)
        (λ o t l n runs. stretch_leads entry from own rest (i + 1) o t l f.2 (goes_on_in code range valid entry i x f.0 within n).0 runs)

    turn_leads : (entry place : ℕ) (s : State) (k : Chain) → IsTurnIn code entry place → IsRunning code chosen entry s →
        LeadsOn place (code_turn (entries_of code.procedures) (constants_of code) code.instrs place s k)
    turn_leads entry place s k t r = by (drop place code.instrs) refl
      where
        by : (l : List Instr) → drop place code.instrs ≡ l → LeadsOn place (begins (entries_of code.procedures) (constants_of code) total l s k)
        by (Turn piece ∷ rest) d =
            let f = front place (Turn piece) rest d in
            piece_leads place piece (stretch (entries_of code.procedures) (constants_of code) total rest [] s k)
            (stretch_leads entry place t.within rest (place + 1) [] s k f.2 (goes_on_in code range valid entry place (Turn piece) f.0 t.within (λ h. h)).0 r)
        by _ d = tt

    -- a turn has led to a place where a procedure runs
    abbrev IsGoing : Happened → Type 0
    IsGoing (Led events place s k) = (entry : ℕ) × IsTurnIn code entry place × IsRunning code chosen entry s
    IsGoing _ = Unit {0}

    going_on : (from : ℕ) (h : Happened) → LeadsOn from h → IsGoing h
    going_on from (Led events place s k) a = (a.entry, a.turn, a.runs)
    going_on from (Finished events ending s k) a = tt
    going_on from (Broke events f s k) a = tt
    going_on from (Lacks events) a = tt

    abbrev next_of : ℕ → State → Chain → Happened
    next_of place s k = code_turn (entries_of code.procedures) (constants_of code) code.instrs place s k

    -- where a run stands, a turn begins
    run_at : (n : ℕ) (h : Happened) (s : State) (k : Chain) (place : ℕ) → IsGoing h →
        (goes_on h s k (code_run (entries_of code.procedures) (constants_of code) code.instrs n)).outcome ≡ Going place →
        (entry : ℕ) × IsTurnIn code entry place
    run_at n (Finished events ending u l) s k place g e = absurd cc
    run_at n (Broke events f u l) s k place g e = absurd cc
    run_at n (Lacks events) s k place g e = absurd cc
    run_at zero (Led events p u l) s k place g e = let same : p ≡ place = cc in (g.0, subst (IsTurnIn code g.0) same g.1)
    run_at (suc n) (Led events p u l) s k place g e =
        run_at n (next_of p u l) u l place (going_on p (next_of p u l) (turn_leads g.0 p u l g.1 g.2)) e

    one_leads : (from : ℕ) (h : Happened) (s : State) (k : Chain) (to : ℕ) → LeadsOn from h →
        (goes_on h s k (code_run (entries_of code.procedures) (constants_of code) code.instrs 0)).outcome ≡ Going to → MayLead code chosen from to
    one_leads from (Led events p u l) s k to a e = let same : p ≡ to = cc in subst (MayLead code chosen from) same a.may
    one_leads from (Finished events ending u l) s k to a e = absurd cc
    one_leads from (Broke events f u l) s k to a e = absurd cc
    one_leads from (Lacks events) s k to a e = absurd cc

    -- from where a run stands the next turn leads where it may
    run_leads : (n : ℕ) (h : Happened) (s : State) (k : Chain) (from to : ℕ) → IsGoing h →
        (goes_on h s k (code_run (entries_of code.procedures) (constants_of code) code.instrs n)).outcome ≡ Going from →
        (goes_on h s k (code_run (entries_of code.procedures) (constants_of code) code.instrs (suc n))).outcome ≡ Going to → MayLead code chosen from to
    run_leads n (Finished events ending u l) s k from to g e f = absurd cc
    run_leads n (Broke events b u l) s k from to g e f = absurd cc
    run_leads n (Lacks events) s k from to g e f = absurd cc
    run_leads zero (Led events p u l) s k from to g e f =
        let same : p ≡ from = cc in
        subst (λ (m : ℕ). MayLead code chosen m to) same (one_leads p (next_of p u l) u l to (turn_leads g.0 p u l g.1 g.2) f)
    run_leads (suc n) (Led events p u l) s k from to g e f =
        run_leads n (next_of p u l) u l from to (going_on p (next_of p u l) (turn_leads g.0 p u l g.1 g.2)) e f

    -- The prologue keeps the records, of which there are none, and the chosen procedures.
    record IsUntouched (s : State) : Type 0 where
      none : s.records ≡ []
      chosen_is : s.chosen ≡ chosen

    kept_clean : (s t : State) → IsUntouched s → HasSameRecords s t → IsUntouched t
    kept_clean s t c k = record { none = k.records_are ∙ c.none; chosen_is = k.chosen_are ∙ c.chosen_is }

    abbrev TurnedClean : Turned → Type 0
    TurnedClean (Leads deeds place s) = IsUntouched s
    TurnedClean (Scanning deeds scan rest) = ⊥
    TurnedClean _ = Unit {0}

    abbrev StepClean : Instr → Step → Type 0
    StepClean x (Falls ops t) = SetsUp x × IsUntouched t
    StepClean x (Acts deeds ops t) = SetsUp x × IsUntouched t
    StepClean x (Scanned scan ops land) = SetsUp x × ((bits : List Bool) → IsUntouched (land bits))
    StepClean x (Stops ops t) = TurnedClean t
    StepClean x _ = Unit {0}

    acted_clean : (x : Instr) (deeds : List Deed) (below : List Value) (t : State) → SetsUp x × IsUntouched t → StepClean x (acted deeds below t)
    acted_clean x [] below t c = c
    acted_clean x (d ∷ deeds) below t c = c

    did_clean : (x : Instr) (below : List Value) (s : State) (g : Got Did) → SetsUp x → IsUntouched s → IfKnown (KeepsRecords s) g →
        StepClean x (on_made (entries_of code.procedures) None below s (does g))
    did_clean x below s (Known (did.Falls deeds t)) u c k = acted_clean x deeds below t (u, kept_clean s t c k)
    did_clean x below s (Known (did.Captures scan land)) u c k = (u, λ bits. kept_clean s (land bits) c (k bits))
    did_clean x below s (Known (did.Jumps t)) u c k = absurd k
    did_clean x below s (Known (did.Resumes place t)) u c k = absurd k
    did_clean x below s (Known (did.Returns t)) u c k = absurd k
    did_clean x below s (Known (did.Ends ending t)) u c k = tt
    did_clean x below s (Faults f) u c k = tt
    did_clean x below s Stuck u c k = tt

    bit_clean : (b : ℕ) (below : List Value) (s : State) (g : Got Value) → IsUntouched s →
        StepClean (PushBit b) (on_made (entries_of code.procedures) None below s (puts g))
    bit_clean b below s (Known v) c = (tt, c)
    bit_clean b below s (Faults f) c = tt
    bit_clean b below s Stuck c = tt

    turn_clean : (here piece : ℕ) (below vs : List Value) (s : State) → IsUntouched s →
        StepClean (Turn piece) (on_made (entries_of code.procedures) (Some here) below s (does (jumped vs s)))
    turn_clean here piece below [] s c = c
    turn_clean here piece below (v ∷ vs) s c = tt

    -- an instruction that sets up, or the first Turn
    made_clean : (here : ℕ) (x : Instr) (vs below : List Value) (s : State) → SetsUp x ⊎ IsTurnInstr x → IsUntouched s →
        StepClean x (on_made (entries_of code.procedures) (lands (entries_of code.procedures) here x) below s
        (made (entries_of code.procedures) (constants_of code) here x vs s))
    made_clean here (Turn piece) vs below s h c = turn_clean here piece below vs s c
    made_clean here (Push z) vs below s h c = (tt, c)
    made_clean here (PushBit b) vs below s h c = bit_clean b below s (bit_of b) c
    made_clean here (Store n) vs below s h c = did_clean (Store n) below s _ tt c (assigned_keeps s n vs)
    made_clean here (SetBits n literal) vs below s h c =
        did_clean (SetBits n literal) below s _ tt c
        (known_then (KeepsRecords s) (known_literal (slice_get code.literals literal)) _ (λ from. copied_keeps s (IntoWhole n) from vs))
    made_clean here (SetInts n list) vs below s h c = did_clean (SetInts n list) below s _ tt c (set_keeps s n list vs)
    made_clean here _ vs below s h c = absurd (elim h [ inl a ↦ a | inr b ↦ b ])

    step_clean : (here : ℕ) (x : Instr) (ops : List Value) (s : State) → SetsUp x ⊎ IsTurnInstr x → IsUntouched s →
        StepClean x (step (entries_of code.procedures) (constants_of code) here x ops s)
    step_clean here x ops s h c = by (taken (length (takes x)) ops)
      where
        by : (o : Option (List Value × List Value)) → StepClean x (on_taken o (λ vs below.
            on_made (entries_of code.procedures) (lands (entries_of code.procedures) here x) below s
            (made (entries_of code.procedures) (constants_of code) here x vs s)))
        by None = tt
        by (Some both) = made_clean here x both.0 both.1 s h c

    abbrev EndsClean : Happened → Type 0
    EndsClean (Led events place s k) = IsUntouched s
    EndsClean _ = Unit {0}

    with_clean : (events : List Event) (h : Happened) → EndsClean h → EndsClean (with_events events h)
    with_clean events (Led more place s k) c = c
    with_clean events (Finished more ending s k) c = tt
    with_clean events (Broke more f s k) c = tt
    with_clean events (Lacks more) c = tt

    happens_clean : (k : Chain) (t : Turned) → TurnedClean t → EndsClean (happens k t)
    happens_clean k (Leads deeds place s) c = c
    happens_clean k (Over deeds ending s) c = tt
    happens_clean k (Broken deeds f s) c = tt
    happens_clean k (Scanning deeds scan rest) c = absurd c
    happens_clean k (NoTurn deeds) c = tt

    end_clean : (ops : List Value) (h : Happened) → EndsClean h → EndsClean (at_end ops h)
    end_clean [] h c = c
    end_clean (v ∷ ops) h c = tt

    if_clean : (b : Bool) (h : Happened) → EndsClean h → EndsClean (if b then h else Lacks [])
    if_clean true h c = c
    if_clean false h c = tt

    continue_clean : (x : Instr) (k : Chain) (st : Step) (go : List Value → State → Chain → Happened) → StepClean x st →
        ((ops : List Value) (t : State) (l : Chain) → SetsUp x → IsUntouched t → EndsClean (go ops t l)) → EndsClean (continues k st go)
    continue_clean x k (Falls ops t) go c rest = rest ops t k c.0 c.1
    continue_clean x k (Acts deeds ops t) go c rest =
        let l = deeds_chain k deeds in with_clean (deeds_events k deeds) (go ops t l) (rest ops t l c.0 c.1)
    continue_clean x k (Scanned scan ops land) go c rest =
        let l = deed_chain k (Scans scan) in
        let bits = captured_on k scan in
        if_clean (is_stable_state k.tap) (with_events (deed_events k (Scans scan)) (go ops (land bits) l))
        (with_clean (deed_events k (Scans scan)) (go ops (land bits) l) (rest ops (land bits) l c.0 (c.1 bits)))
    continue_clean x k (Stops ops t) go c rest = end_clean ops (happens k t) (happens_clean k t c)
    continue_clean x k (Faulted f t) go c rest = tt
    continue_clean x k Wrong go c rest = tt

    -- the prologue, and the Turn after it
    sets_up_before : (i : ℕ) (x : Instr) → StandsAt code i x → i < prologue_end code range → SetsUp x
    sets_up_before i x at less = elim (decided (sets_up x)) [
      | inl sets ↦ (set_up_agrees x).yes sets
      | inr foreign ↦ absurd (none_breaks code range valid i x at (foreign_in_prologue mine (denied (set_up_agrees x) foreign)))
    ]
      where
        mine : IsOfPrologue code i
        mine = λ entry b. omega (arith, less, all_after code range entry b)

    turn_after : (i : ℕ) (x : Instr) → StandsAt code i x → i ≡ prologue_end code range → IsTurnInstr x
    turn_after i x at e = elim (part_ends code range code.procedures 0 refl) [
      | inr past ↦ absurd (let within = slice_get_within code.instrs i x at in omega arith)
      | inl begins ↦ first (subst (BeginsAt code) (sym e) begins)
    ]
      where
        first : BeginsAt code i → IsTurnInstr x
        first b = let t = turn_at_entry code range valid i b in subst IsTurnInstr (same_instr code i (Turn t.piece) x t.turn at) tt

    both_not : (x : Instr) → IsTurnInstr x → SetsUp x → ⊥
    both_not (Turn piece) t s = s
    both_not _ t s = t

    -- up to the first Turn instructions set up
    front_is : (i : ℕ) (x : Instr) → StandsAt code i x → i ≤ prologue_end code range → (SetsUp x × (i < prologue_end code range)) ⊎ IsTurnInstr x
    front_is i x at h = elim (cases_lt i (prologue_end code range)) [
      | inl less ↦ inl (sets_up_before i x at less, less)
      | inr most ↦ inr (turn_after i x at (omega arith))
    ]

    one_of_both : (i : ℕ) (x : Instr) → (SetsUp x × (i < prologue_end code range)) ⊎ IsTurnInstr x → SetsUp x ⊎ IsTurnInstr x
    one_of_both i x (inl both) = inl both.0
    one_of_both i x (inr turn) = inr turn

    still_before : (i : ℕ) (x : Instr) → (SetsUp x × (i < prologue_end code range)) ⊎ IsTurnInstr x → SetsUp x → i + 1 ≤ prologue_end code range
    still_before i x (inl both) sets = omega (arith, both.1)
    still_before i x (inr turn) sets = absurd (both_not x turn sets)

    prologue_clean : (l : List Instr) (i : ℕ) (ops : List Value) (s : State) (k : Chain) → drop i code.instrs ≡ l → i ≤ prologue_end code range → IsUntouched s →
        EndsClean (stretch (entries_of code.procedures) (constants_of code) total l ops s k)
    prologue_clean [] i ops s k d h c = tt
    prologue_clean (x ∷ rest) i ops s k d h c =
        let f = front i x rest d in
        let here : ℕ = total - suc (length rest) in
        let either = front_is i x f.0 h in
        continue_clean x k (step (entries_of code.procedures) (constants_of code) here x ops s)
        (stretch (entries_of code.procedures) (constants_of code) total rest) (step_clean here x ops s (one_of_both i x either) c)
        (λ o t l sets clean. prologue_clean rest (i + 1) o t l f.2 (still_before i x either sets) clean)

    -- the first chosen procedure has begun
    record HasBegunFirst (place : ℕ) (s : State) : Type 0 where
      procedure : ℕ
      first : slice_get chosen 0 ≡ Some procedure
      entry_is : IsEntryOf code procedure place
      runs : IsRunning code chosen place s

    abbrev HasBegun : Happened → Type 0
    HasBegun (Led events place s k) = HasBegunFirst place s
    HasBegun _ = Unit {0}

    chosen_begun : (events : List Event) (s : State) (k : Chain) (ps : List ℕ) → s.records ≡ [] → ps ≡ chosen → EachChosen code chosen ps →
        HasBegun (with_events events (happens k (next_chosen (entry_of (entries_of code.procedures)) s ps)))
    chosen_begun events s k [] e same each = tt
    chosen_begun events s k (p ∷ ps) e same each = record {
      procedure = p;
      first = ap (λ l. slice_get l 0) (sym same);
      entry_is = entry_at code range valid p each.0;
      runs = record { records_run = subst (RunsIn code chosen (entry_of (entries_of code.procedures) p)) (sym e) tt; chosen_are = each.2 };
    }

    -- each chosen procedure exists
    each_from : (ps : List ℕ) (n : ℕ) → drop n chosen ≡ ps → AllBelow (length code.procedures) ps → EachChosen code chosen ps
    each_from [] n d below = tt
    each_from (p ∷ ps) n d below =
        let at = get_head n chosen ∙ ap head_of d in
        let after : drop (n + 1) chosen ≡ ps = rw add-one (drop_tail n chosen ∙ ap (drop 1) d) in
        (below.0, (n, slice_get_within chosen n p at, get_or_from_slice_get chosen n p p at), each_from ps (n + 1) after below.1)

    begun : (h : Happened) → AllBelow (length code.procedures) chosen → EndsClean h → HasBegun (begins_chosen (entry_of (entries_of code.procedures)) h)
    begun (Led events place s k) below c =
        chosen_begun events s k s.chosen c.none c.chosen_is (subst (EachChosen code chosen) (sym c.chosen_is) (each_from chosen 0 refl below))
    begun (Finished events ending s k) below c = tt
    begun (Broke events f s k) below c = tt
    begun (Lacks events) below c = tt

    going : (h : Happened) → HasBegun h → IsGoing h
    going (Led events place s k) b = (place, turn_at_entry code range valid place (record { procedure = b.procedure; entry_is = b.entry_is }), b.runs)
    going (Finished events ending s k) b = tt
    going (Broke events f s k) b = tt
    going (Lacks events) b = tt

    first_begins : (h : Happened) (s : State) (k : Chain) (place : ℕ) → HasBegun h →
        (goes_on h s k (code_run (entries_of code.procedures) (constants_of code) code.instrs 0)).outcome ≡ Going place →
        (p : ℕ) × (slice_get chosen 0 ≡ Some p) × IsEntryOf code p place
    first_begins (Led events p u l) s k place b e =
        let same : p ≡ place = cc in (b.procedure, b.first, subst (IsEntryOf code b.procedure) same b.entry_is)
    first_begins (Finished events ending u l) s k place b e = absurd cc
    first_begins (Broke events f u l) s k place b e = absurd cc
    first_begins (Lacks events) s k place b e = absurd cc

module _ (code : CodeLists) (chosen : List ℕ) (played : ArePlayable code chosen) (variables : List Held) (k : Chain) where
  abbrev beginning : Happened
  beginning = code_beginning (entries_of code.procedures) (constants_of code) code.instrs chosen variables k

  has_begun : HasBegun code chosen played.range played.valid beginning
  has_begun =
      begun code chosen played.range played.valid
      (stretch (entries_of code.procedures) (constants_of code) (length code.instrs) code.instrs [] (start chosen variables) k) played.exist
      (prologue_clean code chosen played.range played.valid code.instrs 0 [] (start chosen variables) k refl (omega arith)
      (record { none = refl; chosen_is = refl }))

  is_going : IsGoing code chosen played.range played.valid beginning
  is_going = going code chosen played.range played.valid beginning has_begun

  pub first_turn_begins : (place : ℕ) → outcome_after code chosen variables k 0 ≡ Going place →
      (p : ℕ) × (slice_get chosen 0 ≡ Some p) × IsEntryOf code p place
  first_turn_begins place e = first_begins code chosen played.range played.valid beginning (start chosen variables) k place has_begun e

  pub turns_begin : (n place : ℕ) → outcome_after code chosen variables k n ≡ Going place → (piece : ℕ) × StandsAt code place (Turn piece)
  turns_begin n place e =
      let r = run_at code chosen played.range played.valid n beginning (start chosen variables) k place is_going e in (r.1.piece, r.1.turn)

  pub turns_lead : (n from to : ℕ) → outcome_after code chosen variables k n ≡ Going from →
      outcome_after code chosen variables k (n + 1) ≡ Going to → MayLead code chosen from to
  turns_lead n from to e f =
      let next : n + 1 ≡ suc n = omega arith in
      run_leads code chosen played.range played.valid n beginning (start chosen variables) k from to is_going e
      (ap (outcome_after code chosen variables k) (sym next) ∙ f)
