-- Runs of a valid code.
use Rattle.std.proofs.Common.{◌≡◌, ◌≢◌, ℕ, zero, suc, ◌+◌, ◌-◌, ◌<◌, ◌≤◌, Bool, true, false, List, [], ◌∷◌, ◌++◌, Option, Some, None, length, take, drop, arith, refl, sym, ap, ◌∙◌, subst, length-drop, length-take, add-one}
use Rattle.std.specs.Prelude.{ℤ, slice_get, slice_range, ◌&&◌, ◌||◌, not, nat_lt, nat_le, All, AllPairs, if◌then◌else◌}
use Rattle.std.specs.List.{list_all}
use Rattle.std.proofs.lemmas.Bool.Decides.{nat_tests}
use Rattle.std.proofs.lemmas.List.{take-append-drop, drop-append-le, drop-drop}
use Rattle.tap_states.specs.Tap.{is_stable_state}
use Rattle.stapl_meaning.specs.Deeds.{Scans, Chain, deed_events, deed_chain, deeds_events, deeds_chain, captured_on}
use Rattle.stapl_meaning.specs.declared.events.Event.{Event}
use Rattle.stapl_meaning.specs.declared.values.Held.{Held}
use Rattle.stapl_meaning.specs.declared.values.Held.TheVariants as held
use Rattle.stapl_meaning.specs.declared.values.Value.{Value}
use Rattle.stapl_meaning.specs.declared.values.Value.TheVariants as values
use Rattle.stapl_meaning.specs.declared.records.Record.{Record}
use Rattle.stapl_meaning.specs.declared.records.Record.TheVariants.{Pushed, Called, Looped}
use Rattle.stapl_meaning.specs.States.{State, Turned, Leads, Over, Broken, Scanning, NoTurn, next_chosen, Happened, Led, Finished, Broke, Lacks, happens, with_events, happened_in_piece}
use Rattle.stapl_meaning.specs.Effects.{scalar_written, written, replaced, span_written, with_integers, returned_from}
use Rattle.stapl_meaning.specs.Values.{Known, then_get, bits_held, whole_span}
use Rattle.stapl_meaning.specs.Plays.{goes_on, Stopped, start}
use Rattle.stapl_meaning.specs.declared.values.ValueKind.{ValueKind}
use Rattle.stapl_code.specs.declared.raw.VarDef.{VarDef}
use Rattle.stapl_code.specs.declared.raw.ProcDef.{ProcDef}
use Rattle.stapl_code.specs.declared.raw.CodeLists.{CodeLists}
use Rattle.stapl_code.specs.declared.instr.Instr.{Instr}
use Rattle.stapl_code.specs.declared.instr.Instr.TheVariants.{Turn, Push, PushBit, Store, SetBits, SetInts, EndProc}
use Rattle.stapl_code.specs.Machine.{Does, does, puts, bit_of, known_literal, Step, Falls, Acts, Scanned, Stops, Faulted, Wrong, on_made, entry_of, step, at_end, continues, begins_chosen, stretch, begins, code_turn, code_run, code_beginning, code_play}
use Rattle.stapl_code.specs.Ranges.{IsInstr, IsInRange}
use Rattle.stapl_code.specs.Kinds.{kinds_after}
use Rattle.stapl_code.specs.Valid.{is_turn, is_end, sets_up, departs, is_last, agree, kinds_kept, judged, first_of, is_target, leads_well, rests_well, stands_well, prologue_break, rest_break, procedure_break, next_entry, procedures_break, entry_break, IsValid}
use Rattle.stapl_code.specs.Safe.{AllFit, AllBelow, entries_of, constants_of}
use Rattle.stapl_code.specs.Ticks.{counted_after, counted_then}
use Rattle.stapl_code.specs.Depth.{on_kinds, deepest, procedures_depth, depth_of, held, begin_held, turn_held, run_held, play_held}
use Rattle.stapl_code.proofs.Operands.{kinds_of}
use Rattle.stapl_code.proofs.ScanSteps.{captured_count}
use Rattle.stapl_code.proofs.OneStep.{Good, TurnedGood, StepGood, step_good, chosen_good}
use Rattle.stapl_code.proofs.Heads.{head_of, get_head, drop_tail}

all_dropped : {A : Type 0} (P : A → Type 0) (i : ℕ) (xs : List A) (x : A) (rest : List A) → All P xs → drop i xs ≡ x ∷ rest → P x
all_dropped P i [] x rest all e = absurd (none i e)
  where
    none : (j : ℕ) → drop j [] ≡ x ∷ rest → ⊥
    none zero e = cc
    none (suc j) e = cc
all_dropped P zero (y ∷ ys) x rest all e = let same : y ≡ x = cc in subst P same (all 0 y (omega arith))
all_dropped P (suc i) (y ∷ ys) x rest all e = all_dropped P i ys x rest (λ k d h. all (suc k) d (omega arith)) e

and_left : (a b : Bool) → a && b ≡ true → a ≡ true
and_left true b e = refl
and_left false b e = e

pub and_right : (a b : Bool) → a && b ≡ true → b ≡ true
and_right true b e = e
and_right false b e = absurd cc

pub first_none : (a b : Option ℕ) → first_of a b ≡ None → (a ≡ None) × (b ≡ None)
first_none None b e = (refl, e)
first_none (Some i) b e = absurd cc

pub judged_none : (o : Option (List ValueKind)) (well : Bool) (i : ℕ) (go : List ValueKind → Option ℕ) → judged o well i go ≡ None → (after : List ValueKind) ×
    (o ≡ Some after) × (well ≡ true) × (go after ≡ None)
judged_none None well i go e = absurd cc
judged_none (Some after) true i go e = (after, refl, refl, e)
judged_none (Some after) false i go e = absurd cc

turn_if : (must turn : Bool) → not must || turn ≡ true → must ≡ true → turn ≡ true
turn_if true turn e m = e
turn_if false turn e m = absurd cc

not_last : (end last : Bool) → agree end last ≡ true → end ≡ false → last ≡ false
not_last true last e f = absurd cc
not_last false true e f = absurd cc
not_last false false e f = refl

more_follow : (rest : List Instr) → is_last rest ≡ false → 0 < length rest
more_follow [] e = absurd cc
more_follow (x ∷ rest) e = omega arith

turn_is_no_end : (x : Instr) → is_turn (Some x) ≡ true → is_end x ≡ false
turn_is_no_end (Turn piece) e = refl
turn_is_no_end _ e = absurd cc

departs_is_no_end : (x : Instr) → departs x ≡ true → agree (is_end x) true ≡ true → ⊥
departs_is_no_end EndProc e f = absurd cc
departs_is_no_end _ e f = absurd cc

is_a_turn : (x : Instr) → is_turn (Some x) ≡ true → (piece : ℕ) × (x ≡ Turn piece)
is_a_turn (Turn piece) e = (piece, refl)
is_a_turn _ e = absurd cc

-- no operand is left before a Turn, and none after it
no_kinds : (variables : List VarDef) (piece : ℕ) (ks after : List ValueKind) → kinds_after variables (Turn piece) ks ≡ Some after →
    ◌≡◌ {A = List ValueKind} after []
no_kinds variables piece [] after e = cc
no_kinds variables piece (k ∷ ks) after e = absurd cc

-- what an instruction is that stands well
module _ (entry : ℕ) (procedure : List Instr) (must : Bool) (x : Instr) (last : Bool) (well : stands_well entry procedure must x last ≡ true) where
  first_three : (not must || is_turn (Some x)) && agree (is_end x) last && leads_well entry procedure x ≡ true
  first_three = and_left ((not must || is_turn (Some x)) && agree (is_end x) last && leads_well entry procedure x) (rests_well x) well

  first_two : (not must || is_turn (Some x)) && agree (is_end x) last ≡ true
  first_two = and_left ((not must || is_turn (Some x)) && agree (is_end x) last) (leads_well entry procedure x) first_three

  turn_stands : must ≡ true → is_turn (Some x) ≡ true
  turn_stands m = turn_if must (is_turn (Some x)) (and_left (not must || is_turn (Some x)) (agree (is_end x) last) first_two) m

  pub end_stands : agree (is_end x) last ≡ true
  end_stands = and_right (not must || is_turn (Some x)) (agree (is_end x) last) first_two

  target_stands : leads_well entry procedure x ≡ true
  target_stands = and_right ((not must || is_turn (Some x)) && agree (is_end x) last) (leads_well entry procedure x) first_three

  rest_stands : rests_well x ≡ true
  rest_stands = and_right ((not must || is_turn (Some x)) && agree (is_end x) last && leads_well entry procedure x) (rests_well x) well

-- an EndProc never falls to the instruction after it
abbrev FallsOnly : Bool → Step → Type 0
FallsOnly end (Falls ops s) = end ≡ false
FallsOnly end (Acts deeds ops s) = end ≡ false
FallsOnly end (Scanned scan ops lands) = end ≡ false
FallsOnly end _ = Unit {0}

never_an_end : (st : Step) → FallsOnly false st
never_an_end (Falls ops s) = refl
never_an_end (Acts deeds ops s) = refl
never_an_end (Scanned scan ops lands) = refl
never_an_end _ = tt

-- the prologue's instructions never end a turn, never fault, and never scan
abbrev NeverStops : Step → Type 0
NeverStops (Stops ops t) = ⊥
NeverStops (Faulted k s) = ⊥
NeverStops (Scanned scan ops lands) = ⊥
NeverStops _ = Unit {0}

module _ (entries : List ℕ) (to : Option ℕ) (ops : List Value) (s : State) where
  bit_never_stops : (b : ℕ) → NeverStops (on_made entries to ops s (puts (bit_of b)))
  bit_never_stops zero = tt
  bit_never_stops (suc zero) = tt
  bit_never_stops (suc (suc b)) = tt

  write_never_stops : (variables : List Held) (n : ℕ) (o : Option Held) (v : Value) →
      NeverStops (on_made entries to ops s (does (written s (scalar_written variables n o v))))
  write_never_stops variables n None v = tt
  write_never_stops variables n (Some (held.Int old)) (values.Int z) = tt
  write_never_stops variables n (Some (held.Int old)) (values.Bit b) = tt
  write_never_stops variables n (Some (held.Bit old)) (values.Int z) = tt
  write_never_stops variables n (Some (held.Bit old)) (values.Bit b) = tt
  write_never_stops variables n (Some (held.Ints zs)) v = tt
  write_never_stops variables n (Some (held.Bits bs)) v = tt

  bits_never_stop : (n : ℕ) (o : Option (List Bool)) (h : Option Held) →
      NeverStops (on_made entries to ops s (does
      (then_get (known_literal o) (λ from. then_get (bits_held h) (λ old. span_written n old from [] s (whole_span (length old)))))))
  bits_never_stop n None h = tt
  bits_never_stop n (Some bits) None = tt
  bits_never_stop n (Some bits) (Some (held.Bits old)) = tt
  bits_never_stop n (Some bits) (Some _) = tt

  integers_never_stop : (variables : List Held) (n : ℕ) (zs : List ℤ) (h : Option Held) →
      NeverStops (on_made entries to ops s (does (written s (replaced variables n (with_integers zs h)))))
  integers_never_stop variables n zs None = tt
  integers_never_stop variables n zs (Some (held.Ints old)) = tt
  integers_never_stop variables n zs (Some _) = tt

kinds_count : (ops : List Value) → length (kinds_of ops) ≡ length ops
kinds_count [] = refl
kinds_count (v ∷ ops) = ap suc (kinds_count ops)

module _ (code : CodeLists) where
  abbrev total : ℕ
  total = length code.instrs

  -- what is held from an instruction on is at least what is there, and what is held after it
  pub deeper : (x : Instr) (ks after : List ValueKind) (rest : List Instr) → kinds_after code.variables x ks ≡ Some after →
      (length ks ≤ deepest code.variables ks (x ∷ rest)) × (deepest code.variables after rest ≤ deepest code.variables ks (x ∷ rest))
  deeper x ks after rest e =
      let beyond : on_kinds (kinds_after code.variables x ks) (λ after. deepest code.variables after rest) ≡ deepest code.variables after rest =
      ap (λ o. on_kinds o (λ after. deepest code.variables after rest)) e in
      (omega arith, omega (arith, beyond))

  -- a turn begins at the place, in a procedure that breaks no rule
  record IsPlace (place : ℕ) : Type 0 where
    entry : ℕ
    procedure : List Instr
    beyond : List Instr
    whole : procedure_break code.variables entry procedure ≡ None
    stands : drop entry code.instrs ≡ procedure ++ beyond
    from : entry ≤ place
    turn : is_turn (slice_get procedure (place - entry)) ≡ true
    deep : deepest code.variables [] procedure ≤ depth_of code

  abbrev Ready : State → Type 0
  Ready s = Good code.variables (length code.procedures) (entries_of code.procedures) (constants_of code) IsPlace s

  abbrev Ends : Turned → Type 0
  Ends t = TurnedGood code.variables (length code.procedures) (entries_of code.procedures) (constants_of code) IsPlace t

  abbrev Follows : List ValueKind → Step → Type 0
  Follows after st = StepGood code.variables (length code.procedures) (entries_of code.procedures) (constants_of code) IsPlace after st

  -- the chain is in a stable state
  abbrev IsStable : Chain → Type 0
  IsStable k = is_stable_state k.tap ≡ true

  -- what happened is a turn that ends well
  abbrev EndsWell : Happened → Type 0
  EndsWell (Led events place s k) = IsPlace place × Ready s × IsStable k
  EndsWell (Finished events ending s k) = Unit {0}
  EndsWell (Broke events f s k) = Unit {0}
  EndsWell (Lacks events) = ⊥

  happens_well : (k : Chain) (t : Turned) → IsStable k → Ends t → EndsWell (happens k t)
  happens_well k (Leads deeds place s) stable g = (g.0, g.1, g.2 k stable)
  happens_well k (Over deeds ending s) stable g = g
  happens_well k (Broken deeds f s) stable g = g
  happens_well k (Scanning deeds scan rest) stable g = absurd g
  happens_well k (NoTurn deeds) stable g = g

  -- the rest of a turn that ends well, and so many operands
  abbrev Safe : Happened → ℕ → Type 0
  Safe h n = EndsWell h × (n ≤ depth_of code)

  -- the turn of a piece that ends well: a fault has become its ending
  abbrev EndsPiece : Happened → Type 0
  EndsPiece (Led events place s k) = IsPlace place × Ready s × IsStable k
  EndsPiece (Finished events ending s k) = Unit {0}
  EndsPiece (Broke events f s k) = ⊥
  EndsPiece (Lacks events) = ⊥

  abbrev SafePiece : Happened → ℕ → Type 0
  SafePiece h n = EndsPiece h × (n ≤ depth_of code)

  target_place : (entry : ℕ) (procedure beyond : List Instr) → procedure_break code.variables entry procedure ≡ None → drop entry code.instrs ≡ procedure ++ beyond →
      deepest code.variables [] procedure ≤ depth_of code → (to : ℕ) → is_target entry procedure to ≡ true → IsPlace to
  target_place entry procedure beyond whole stands deep to e = record {
    entry = entry;
    procedure = procedure;
    beyond = beyond;
    whole = whole;
    stands = stands;
    from = (let le = and_left (nat_le entry to) _ e in grind (arith, nat_tests));
    turn = and_right (nat_le entry to) _ e;
    deep = deep;
  }

  -- each instruction of a procedure is reached by the search for a break
  reached : (entry : ℕ) (procedure : List Instr) (n i : ℕ) (must : Bool) (ks : List ValueKind) (l : List Instr) →
      rest_break code.variables entry procedure i must ks l ≡ None → (must' : Bool) × (ks' : List ValueKind) ×
      (rest_break code.variables entry procedure (i + n) must' ks' (drop n l) ≡ None) × (deepest code.variables ks' (drop n l) ≤ deepest code.variables ks l)
  reached entry procedure zero i must ks l e = (must, ks, ap (λ j. rest_break code.variables entry procedure j must ks l) (omega arith) ∙ e, omega arith)
  reached entry procedure (suc n) i must ks [] e = (must, ks, refl, omega arith)
  reached entry procedure (suc n) i must ks (x ∷ rest) e =
      let j = judged_none (kinds_after code.variables x ks) (stands_well entry procedure must x (is_last rest)) i
      (λ after. rest_break code.variables entry procedure (i + 1) (departs x) after rest) e in
      let r = reached entry procedure n (i + 1) (departs x) j.0 rest j.3 in
      (r.0, r.1, ap (λ k. rest_break code.variables entry procedure k r.0 r.1 (drop n rest)) (omega arith) ∙ r.2, omega (arith, r.3, (deeper x ks j.0 rest j.1).1))

  -- a procedure begins with a Turn
  begins_with_turn : (entry : ℕ) (procedure l : List Instr) → rest_break code.variables entry procedure entry true [] l ≡ None → 0 < length l → is_turn (slice_get l 0) ≡ true
  begins_with_turn entry procedure [] e h = absurd (omega arith)
  begins_with_turn entry procedure (x ∷ rest) e h =
      let j = judged_none (kinds_after code.variables x []) (stands_well entry procedure true x (is_last rest)) entry
      (λ after. rest_break code.variables entry procedure (entry + 1) (departs x) after rest) e in
      turn_stands entry procedure true x (is_last rest) j.2 refl

  -- a procedure by its number
  record Procedure (procedures : List ProcDef) (p : ℕ) : Type 0 where
    entry : ℕ
    end : ℕ
    entry_is : entry_of (entries_of procedures) p ≡ entry
    some : entry < end
    most : end ≤ total
    whole : procedure_break code.variables entry (slice_range code.instrs entry end) ≡ None
    deep : deepest code.variables [] (slice_range code.instrs entry end) ≤ procedures_depth code.variables code.instrs procedures

  pub before_next : (p : ProcDef) (ps : List ProcDef) → AllPairs (λ (a b : ProcDef). a.entry < b.entry) (p ∷ ps) →
      list_all (λ (a : ProcDef). nat_lt a.entry total) (p ∷ ps) ≡ true → (p.entry < next_entry total ps) × (next_entry total ps ≤ total)
  before_next p [] order within =
      let here = and_left (nat_lt p.entry total) _ within in
      let less : p.entry < total = grind (arith, nat_tests) in
      (less, omega arith)
  before_next p (q ∷ ps) order within =
      let there = and_left (nat_lt q.entry total) _ (and_right (nat_lt p.entry total) _ within) in
      let less : q.entry < total = grind (arith, nat_tests) in
      (order 0 1 p (omega arith) (omega arith), omega arith)

  procedure_at : (ps : List ProcDef) (p : ℕ) → p < length ps → AllPairs (λ (a b : ProcDef). a.entry < b.entry) ps →
      list_all (λ (a : ProcDef). nat_lt a.entry total) ps ≡ true → procedures_break code.variables code.instrs ps ≡ None → Procedure ps p
  procedure_at [] p h order within e = absurd (omega arith)
  procedure_at (x ∷ ps) zero h order within e =
      let bounds = before_next x ps order within in
      record {
        entry = x.entry;
        end = next_entry total ps;
        entry_is = refl;
        some = bounds.0;
        most = bounds.1;
        whole = (first_none (procedure_break code.variables x.entry (slice_range code.instrs x.entry (next_entry total ps))) (procedures_break code.variables code.instrs ps) e).0;
        deep = omega arith;
      }
  procedure_at (x ∷ ps) (suc p) h order within e =
      let r = procedure_at ps p (omega arith) (λ i j d less inside. order (suc i) (suc j) d (omega arith) (omega arith)) (and_right (nat_lt x.entry total) _ within)
      (first_none (procedure_break code.variables x.entry (slice_range code.instrs x.entry (next_entry total ps))) (procedures_break code.variables code.instrs ps) e).1 in
      record { entry = r.entry; end = r.end; entry_is = r.entry_is; some = r.some; most = r.most; whole = r.whole; deep = omega (arith, r.deep) }

  procedure_place : (entry end : ℕ) → entry < end → end ≤ total → procedure_break code.variables entry (slice_range code.instrs entry end) ≡ None →
      deepest code.variables [] (slice_range code.instrs entry end) ≤ depth_of code → IsPlace entry
  procedure_place entry end some most whole deep =
      let procedure = slice_range code.instrs entry end in
      let count : length procedure ≡ end - entry = omega (arith, length-take (end - entry) (drop entry code.instrs), length-drop entry code.instrs) in
      let first = begins_with_turn entry procedure procedure whole (omega arith) in
      record {
        entry = entry;
        procedure = procedure;
        beyond = drop (end - entry) (drop entry code.instrs);
        whole = whole;
        stands = sym (take-append-drop (end - entry) (drop entry code.instrs));
        from = omega arith;
        turn = ap (λ (n : ℕ). is_turn (slice_get procedure n)) (omega arith) ∙ first;
        deep = deep;
      }

  all_within : (o : Bool) → (if o then None else Some (total - 1)) ≡ None → o ≡ true
  all_within true e = refl
  all_within false e = absurd cc

  module _ (range : IsInRange code) (valid : IsValid code) where
    pub prologue_ok : prologue_break code.variables 0 [] (slice_range code.instrs 0 (next_entry total code.procedures)) ≡ None
    prologue_ok = (first_none (prologue_break code.variables 0 [] (slice_range code.instrs 0 (next_entry total code.procedures)))
        (first_of (procedures_break code.variables code.instrs code.procedures) (entry_break total code.procedures)) valid).0

    pub rest_ok : (procedures_break code.variables code.instrs code.procedures ≡ None) × (entry_break total code.procedures ≡ None)
    rest_ok = first_none (procedures_break code.variables code.instrs code.procedures) (entry_break total code.procedures)
        (first_none (prologue_break code.variables 0 [] (slice_range code.instrs 0 (next_entry total code.procedures)))
        (first_of (procedures_break code.variables code.instrs code.procedures) (entry_break total code.procedures)) valid).1

    pub within : list_all (λ (p : ProcDef). nat_lt p.entry total) code.procedures ≡ true
    within = all_within (list_all (λ (p : ProcDef). nat_lt p.entry total) code.procedures) rest_ok.1

    begin : (p : ℕ) → p < length code.procedures → IsPlace (entry_of (entries_of code.procedures) p)
    begin p h =
        let r = procedure_at code.procedures p h (λ i j d less inside. (range.procedures.in_order i j d less inside).1) within rest_ok.0 in
        subst IsPlace (sym r.entry_is) (procedure_place r.entry r.end r.some r.most r.whole (omega (arith, r.deep)))

    returns_only : (ops : List Value) (s : State) (records : List Record) →
        FallsOnly true (on_made (entries_of code.procedures) None ops s (Known (Does (returned_from records s))))
    returns_only ops s [] = tt
    returns_only ops s (Pushed z ∷ records) = returns_only ops s records
    returns_only ops s (Called place ∷ records) = tt
    returns_only ops s (Looped l ∷ records) = returns_only ops s records

    falls_inside : (here : ℕ) (x : Instr) (ops : List Value) (s : State) → FallsOnly (is_end x) (step (entries_of code.procedures) (constants_of code) here x ops s)
    falls_inside here EndProc ops s = returns_only ops s s.records
    falls_inside here x ops s = never_an_end (step (entries_of code.procedures) (constants_of code) here x ops s)

    with_good : (events : List Event) (h : Happened) → EndsWell h → EndsWell (with_events events h)
    with_good events (Led more place s k) g = g
    with_good events (Finished more ending s k) g = g
    with_good events (Broke more f s k) g = g
    with_good events (Lacks more) g = g

    piece_good : (piece : ℕ) (h : Happened) → EndsWell h → EndsPiece (happened_in_piece piece h)
    piece_good piece (Led events place s k) g = g
    piece_good piece (Finished events ending s k) g = g
    piece_good piece (Broke events f s k) g = tt
    piece_good piece (Lacks events) g = g

    continue_good : (end : Bool) (after : List ValueKind) (k : Chain) (st : Step) (go : List Value → State → Chain → Happened)
        (count : List Value → State → Chain → ℕ) → IsStable k → Follows after st → FallsOnly end st →
        ((ops : List Value) (t : State) (l : Chain) → end ≡ false → kinds_of ops ≡ after → Ready t → IsStable l → Safe (go ops t l) (count ops t l)) →
        Safe (continues k st go) (counted_after k st count)
    continue_good end after k (Falls ops t) go count stable g f rest = rest ops t k f g.0 g.1 stable
    continue_good end after k (Acts deeds ops t) go count stable g f rest =
        let l = deeds_chain k deeds in
        let r = rest ops t l f g.0 g.1 (g.2 k stable) in
        (with_good (deeds_events k deeds) (go ops t l) r.0, r.1)
    continue_good end after k (Scanned scan ops lands) go count stable g f rest =
        let l = deed_chain k (Scans scan) in
        let bits = captured_on k scan in
        let r = rest ops (lands bits) l f g.0 (g.2 bits (captured_count k scan)) g.1 in
        subst (λ (b : Bool). Safe (if b then with_events (deed_events k (Scans scan)) (go ops (lands bits) l) else Lacks []) (if b then count ops (lands bits) l else 0))
        (sym stable) (with_good (deed_events k (Scans scan)) (go ops (lands bits) l) r.0, r.1)
    continue_good end after k (Stops ops t) go count stable g f rest =
        (subst (λ o. EndsWell (at_end o (happens k t))) (sym g.0) (happens_well k t stable g.1), omega arith)
    continue_good end after k (Faulted x t) go count stable g f rest = (tt, omega arith)
    continue_good end after k Wrong go count stable g f rest = absurd g

    module _ (entry : ℕ) (procedure beyond : List Instr) (whole : procedure_break code.variables entry procedure ≡ None)
        (stands : drop entry code.instrs ≡ procedure ++ beyond) (deep : deepest code.variables [] procedure ≤ depth_of code) where
      turn_place : (j : ℕ) (x : Instr) (rest : List Instr) → drop j procedure ≡ x ∷ rest → is_turn (Some x) ≡ true → IsPlace (entry + j)
      turn_place j x rest d e = record {
        entry = entry;
        procedure = procedure;
        beyond = beyond;
        whole = whole;
        stands = stands;
        from = omega arith;
        turn = ap (λ (n : ℕ). is_turn (slice_get procedure n)) (omega arith) ∙ ap is_turn (get_head j procedure ∙ ap head_of d) ∙ e;
        deep = deep;
      }

      -- after an instruction that departs a turn begins
      turn_after : (j : ℕ) (x : Instr) (rest : List Instr) → drop j procedure ≡ x ∷ rest → (must : Bool) (ks after : List ValueKind) →
          departs x ≡ true → stands_well entry procedure must x (is_last rest) ≡ true →
          rest_break code.variables entry procedure (entry + j + 1) (departs x) after rest ≡ None → IsPlace (suc (entry + j))
      turn_after j x [] d must ks after leaves well e = absurd (departs_is_no_end x leaves (end_stands entry procedure must x true well))
      turn_after j x (y ∷ rest) d must ks after leaves well e =
          let next : drop (j + 1) procedure ≡ y ∷ rest = rw add-one (drop_tail j procedure ∙ ap (drop 1) d) in
          let judged = judged_none (kinds_after code.variables y after) (stands_well entry procedure (departs x) y (is_last rest)) (entry + j + 1)
          (λ a. rest_break code.variables entry procedure (entry + j + 1 + 1) (departs y) a rest) e in
          let turn = turn_stands entry procedure (departs x) y (is_last rest) judged.2 leaves in
          let one : entry + (j + 1) ≡ suc (entry + j) = omega arith in
          subst IsPlace one (turn_place (j + 1) y rest next turn)

      -- the rest of a turn
      rest_good : (rest : List Instr) (j : ℕ) (must : Bool) (ops : List Value) (s : State) (k : Chain) → Ready s → IsStable k → drop j procedure ≡ rest →
          drop (entry + j) code.instrs ≡ rest ++ beyond → 0 < length rest → rest_break code.variables entry procedure (entry + j) must (kinds_of ops) rest ≡ None →
          deepest code.variables (kinds_of ops) rest ≤ depth_of code →
          Safe (stretch (entries_of code.procedures) (constants_of code) total (rest ++ beyond) ops s k) (held (entries_of code.procedures) (constants_of code) total (rest ++ beyond) ops s k)
      rest_good [] j must ops s k good stable d at some e below = absurd (omega arith)
      rest_good (x ∷ rest) j must ops s chain good stable d at some e below =
          let k = judged_none (kinds_after code.variables x (kinds_of ops)) (stands_well entry procedure must x (is_last rest)) (entry + j)
          (λ after. rest_break code.variables entry procedure (entry + j + 1) (departs x) after rest) e in
          let here : total - suc (length (rest ++ beyond)) ≡ entry + j = omega (arith, ap length at, length-drop (entry + j) code.instrs) in
          let more : drop (j + 1) procedure ≡ rest = rw add-one (drop_tail j procedure ∙ ap (drop 1) d) in
          let one : entry + (j + 1) ≡ suc (entry + j) = omega arith in
          let again : entry + (j + 1) ≡ entry + j + 1 = omega arith in
          let next : drop (entry + (j + 1)) code.instrs ≡ rest ++ beyond = ap (λ (n : ℕ). drop n code.instrs) one ∙ drop_tail (entry + j) code.instrs ∙ ap (drop 1) at in
          let r = all_dropped (IsInstr code.variables (length code.literals) (length code.texts) (length code.procedures)) (entry + j) code.instrs x (rest ++ beyond) range.instrs at in
          let sg = step_good code.variables (length code.procedures) (entries_of code.procedures) (constants_of code) IsPlace
          (total - suc (length (rest ++ beyond))) begin entry procedure (target_place entry procedure beyond whole stands deep) s good k.0 x ops k.1
          (target_stands entry procedure must x (is_last rest) k.2) (rest_stands entry procedure must x (is_last rest) k.2) r
          (λ t. subst IsPlace (sym here) (turn_place j x rest d t)) (λ t. subst IsPlace (ap suc (sym here)) (turn_after j x rest d must (kinds_of ops) k.0 t k.2 k.3)) in
          let under = deeper x (kinds_of ops) k.0 rest k.1 in
          let c = continue_good (is_end x) k.0 chain (step (entries_of code.procedures) (constants_of code) (total - suc (length (rest ++ beyond))) x ops s)
          (stretch (entries_of code.procedures) (constants_of code) total (rest ++ beyond))
          (held (entries_of code.procedures) (constants_of code) total (rest ++ beyond)) stable sg (falls_inside _ x ops s) (λ o t l end kinds g stays.
          rest_good rest (j + 1) (departs x) o t l g stays more next (more_follow rest (not_last (is_end x) (is_last rest) (end_stands entry procedure must x (is_last rest) k.2) end))
          (ap (λ n. rest_break code.variables entry procedure n (departs x) (kinds_of o) rest) again ∙ ap
          (λ ks. rest_break code.variables entry procedure (entry + j + 1) (departs x) ks rest) kinds ∙ k.3)
          (subst (λ ks. deepest code.variables ks rest ≤ depth_of code) (sym kinds) (omega (arith, under.1, below)))) in
          let few : length ops ≤ depth_of code = omega (arith, under.0, below, kinds_count ops) in
          (c.0, omega (arith, c.1, few))

      -- a turn that begins in the procedure
      turn_from : (j : ℕ) (s : State) (k : Chain) → Ready s → IsStable k → is_turn (slice_get procedure j) ≡ true →
          SafePiece (code_turn (entries_of code.procedures) (constants_of code) code.instrs (entry + j) s k) (turn_held (entries_of code.procedures) (constants_of code) code.instrs (entry + j) s k)
      turn_from j s k good stable e = from (drop j procedure) refl
        where
          some : (l : List Instr) → drop j procedure ≡ l → is_turn (head_of l) ≡ true
          some l d = ap is_turn (sym (get_head j procedure ∙ ap head_of d)) ∙ e

          at_most : (l : List Instr) → drop j procedure ≡ l → 0 < length l → j ≤ length procedure
          at_most l d h = omega (arith, ap length d, length-drop j procedure)

          by_turn : (piece : ℕ) (rest : List Instr) → drop j procedure ≡ Turn piece ∷ rest → drop (entry + j) code.instrs ≡ Turn piece ∷ rest ++ beyond →
              SafePiece (begins (entries_of code.procedures) (constants_of code) total (Turn piece ∷ rest ++ beyond) s k)
              (begin_held (entries_of code.procedures) (constants_of code) total (Turn piece ∷ rest ++ beyond) s k)
          by_turn piece rest d at =
              let r = reached entry procedure j entry true [] procedure whole in
              let own = judged_none (kinds_after code.variables (Turn piece) r.1) (stands_well entry procedure r.0 (Turn piece) (is_last rest)) (entry + j)
              (λ after. rest_break code.variables entry procedure (entry + j + 1) (departs (Turn piece)) after rest)
              (ap (rest_break code.variables entry procedure (entry + j) r.0 r.1) (sym d) ∙ r.2) in
              let more : drop (j + 1) procedure ≡ rest = rw add-one (drop_tail j procedure ∙ ap (drop 1) d) in
              let one : entry + (j + 1) ≡ suc (entry + j) = omega arith in
              let again : entry + (j + 1) ≡ entry + j + 1 = omega arith in
              let next : drop (entry + (j + 1)) code.instrs ≡ rest ++ beyond = ap (λ (n : ℕ). drop n code.instrs) one ∙ drop_tail (entry + j) code.instrs ∙ ap (drop 1) at in
              let none = no_kinds code.variables piece r.1 own.0 own.1 in
              let there : deepest code.variables r.1 (Turn piece ∷ rest) ≤ depth_of code = subst (λ l. deepest code.variables r.1 l ≤ depth_of code) d (omega (arith, r.3, deep)) in
              let below : deepest code.variables own.0 rest ≤ depth_of code = omega (arith, (deeper (Turn piece) r.1 own.0 rest own.1).1, there) in
              let r = rest_good rest (j + 1) false [] s k good stable more next
              (more_follow rest (not_last false (is_last rest) (end_stands entry procedure r.0 (Turn piece) (is_last rest) own.2) refl))
              (ap (λ n. rest_break code.variables entry procedure n false [] rest) again ∙ ap (λ ks. rest_break code.variables entry procedure (entry + j + 1) false ks rest) (sym none) ∙ own.3)
              (subst (λ ks. deepest code.variables ks rest ≤ depth_of code) none below) in
              (piece_good piece (stretch (entries_of code.procedures) (constants_of code) total (rest ++ beyond) [] s k) r.0, r.1)

          from : (l : List Instr) → drop j procedure ≡ l → SafePiece (begins (entries_of code.procedures) (constants_of code) total (drop (entry + j) code.instrs) s k)
              (begin_held (entries_of code.procedures) (constants_of code) total (drop (entry + j) code.instrs) s k)
          from [] d = absurd (let a = some [] d in cc)
          from (x ∷ rest) d =
              let t = is_a_turn x (some (x ∷ rest) d) in
              let is : drop j procedure ≡ Turn t.0 ∷ rest = d ∙ ap (λ y. y ∷ rest) t.1 in
              let at : drop (entry + j) code.instrs ≡ Turn t.0 ∷ rest ++ beyond =
              sym (drop-drop j entry code.instrs) ∙ ap (drop j) stands ∙ drop-append-le j procedure beyond (at_most (x ∷ rest) d (omega arith)) ∙ ap (λ l. l ++ beyond) is in
              subst (λ l. SafePiece (begins (entries_of code.procedures) (constants_of code) total l s k)
              (begin_held (entries_of code.procedures) (constants_of code) total l s k)) (sym at) (by_turn t.0 rest is at)

    turn_good : (place : ℕ) (s : State) (k : Chain) → IsPlace place → Ready s → IsStable k →
        SafePiece (code_turn (entries_of code.procedures) (constants_of code) code.instrs place s k) (turn_held (entries_of code.procedures) (constants_of code) code.instrs place s k)
    turn_good place s k at good stable =
        let same : at.entry + (place - at.entry) ≡ place = omega (arith, at.from) in
        subst (λ n. SafePiece (code_turn (entries_of code.procedures) (constants_of code) code.instrs n s k)
        (turn_held (entries_of code.procedures) (constants_of code) code.instrs n s k)) same
        (turn_from at.entry at.procedure at.beyond at.whole at.stands at.deep (place - at.entry) s k good stable at.turn)

    place_turn : (place : ℕ) → IsPlace place → is_turn (head_of (drop place code.instrs)) ≡ true
    place_turn place at = from (drop j at.procedure) refl
      where
        j : ℕ
        j = place - at.entry

        some : (l : List Instr) → drop j at.procedure ≡ l → is_turn (head_of l) ≡ true
        some l d = ap is_turn (sym (get_head j at.procedure ∙ ap head_of d)) ∙ at.turn

        from : (l : List Instr) → drop j at.procedure ≡ l → is_turn (head_of (drop place code.instrs)) ≡ true
        from [] d = absurd (let a = some [] d in cc)
        from (x ∷ rest) d =
            let within : j ≤ length at.procedure = omega (arith, ap length d, length-drop j at.procedure) in
            let same : place ≡ at.entry + j = omega (arith, at.from) in
            let is : drop place code.instrs ≡ x ∷ rest ++ at.beyond = ap (λ (n : ℕ). drop n code.instrs) same ∙ sym (drop-drop j at.entry code.instrs) ∙ ap
            (drop j) at.stands ∙ drop-append-le j at.procedure at.beyond within ∙ ap (λ l. l ++ at.beyond) d in
            ap (λ l. is_turn (head_of l)) is ∙ some (x ∷ rest) d

    -- the prologue falls into the first Turn
    abbrev Begins : Happened → Type 0
    Begins (Led events place s k) = Ready s × IsStable k
    Begins (Finished events ending s k) = ⊥
    Begins (Broke events f s k) = ⊥
    Begins (Lacks events) = ⊥

    abbrev BeginsSafe : Happened → ℕ → Type 0
    BeginsSafe h n = Begins h × (n ≤ depth_of code)

    with_begins : (events : List Event) (h : Happened) → Begins h → Begins (with_events events h)
    with_begins events (Led more place s k) g = g
    with_begins events (Finished more ending s k) g = g
    with_begins events (Broke more f s k) g = g
    with_begins events (Lacks more) g = g

    continue_begins : (after : List ValueKind) (k : Chain) (st : Step) (go : List Value → State → Chain → Happened)
        (count : List Value → State → Chain → ℕ) → IsStable k → Follows after st → NeverStops st →
        ((ops : List Value) (t : State) (l : Chain) → kinds_of ops ≡ after → Ready t → IsStable l → BeginsSafe (go ops t l) (count ops t l)) →
        BeginsSafe (continues k st go) (counted_after k st count)
    continue_begins after k (Falls ops t) go count stable g f rest = rest ops t k g.0 g.1 stable
    continue_begins after k (Acts deeds ops t) go count stable g f rest =
        let l = deeds_chain k deeds in
        let r = rest ops t l g.0 g.1 (g.2 k stable) in
        (with_begins (deeds_events k deeds) (go ops t l) r.0, r.1)
    continue_begins after k (Scanned scan ops lands) go count stable g f rest = absurd f
    continue_begins after k (Stops ops t) go count stable g f rest = absurd f
    continue_begins after k (Faulted x t) go count stable g f rest = absurd f
    continue_begins after k Wrong go count stable g f rest = absurd g

    store_never_stops : (n here : ℕ) (ops : List Value) (s : State) → NeverStops (step (entries_of code.procedures) (constants_of code) here (Store n) ops s)
    store_never_stops n here [] s = tt
    store_never_stops n here (v ∷ ops) s =
        write_never_stops (entries_of code.procedures) None ops s s.store.variables n (slice_get s.store.variables n) v

    never_stops : (x : Instr) (here : ℕ) (ops : List Value) (s : State) → sets_up x ≡ true → NeverStops (step (entries_of code.procedures) (constants_of code) here x ops s)
    never_stops (Push z) here ops s e = tt
    never_stops (PushBit b) here ops s e = bit_never_stops (entries_of code.procedures) None ops s b
    never_stops (Store n) here ops s e = store_never_stops n here ops s
    never_stops (SetBits n literal) here ops s e =
        bits_never_stop (entries_of code.procedures) None ops s n (slice_get code.literals literal) (slice_get s.store.variables n)
    never_stops (SetInts n list) here ops s e =
        integers_never_stop (entries_of code.procedures) None ops s s.store.variables n list (slice_get s.store.variables n)
    never_stops _ here ops s e = absurd cc

    rests_nowhere : (x : Instr) → sets_up x ≡ true → rests_well x ≡ true
    rests_nowhere (Push z) e = refl
    rests_nowhere (PushBit b) e = refl
    rests_nowhere (Store n) e = refl
    rests_nowhere (SetBits n literal) e = refl
    rests_nowhere (SetInts n list) e = refl
    rests_nowhere _ e = absurd cc

    leads_nowhere : (x : Instr) → sets_up x ≡ true → leads_well 0 [] x ≡ true
    leads_nowhere (Push z) e = refl
    leads_nowhere (PushBit b) e = refl
    leads_nowhere (Store n) e = refl
    leads_nowhere (SetBits n literal) e = refl
    leads_nowhere (SetInts n list) e = refl
    leads_nowhere _ e = absurd cc

    no_turn : (x : Instr) → sets_up x ≡ true → is_turn (Some x) ≡ true → ⊥
    no_turn (Turn piece) e t = cc
    no_turn _ e t = cc

    no_departure : (x : Instr) → sets_up x ≡ true → departs x ≡ true → ⊥
    no_departure (Push z) e t = absurd cc
    no_departure (PushBit b) e t = absurd cc
    no_departure (Store n) e t = absurd cc
    no_departure (SetBits n literal) e t = absurd cc
    no_departure (SetInts n list) e t = absurd cc
    no_departure _ e t = absurd cc

    no_target : (to : ℕ) → is_target 0 [] to ≡ true → IsPlace to
    no_target to e = absurd (let a = and_right (nat_le 0 to) (is_turn (slice_get [] (to - 0))) e in cc)

    -- after the last instruction of the prologue no operand is left
    pub none_kept : (rest : List Instr) (o : Option (List ValueKind)) (after : List ValueKind) → kinds_kept (is_last rest) o ≡ Some after → (o ≡ Some after) × (rest ≡ [] → after ≡ [])
    none_kept [] (Some []) after e = (cc, λ _. cc)
    none_kept [] (Some (k ∷ ks)) after e = absurd cc
    none_kept [] None after e = absurd cc
    none_kept (x ∷ rest) o after e = (e, λ f. absurd cc)

    no_operands : (ops : List Value) → kinds_of ops ≡ [] → ops ≡ []
    no_operands [] e = refl
    no_operands (v ∷ ops) e = absurd cc

    prologue_good : (prologue beyond : List Instr) (i : ℕ) (ops : List Value) (s : State) (k : Chain) → is_turn (head_of beyond) ≡ true → Ready s → IsStable k →
        drop i code.instrs ≡ prologue ++ beyond → (prologue ≡ [] → ops ≡ []) → prologue_break code.variables i (kinds_of ops) prologue ≡ None →
        deepest code.variables (kinds_of ops) prologue ≤ depth_of code →
        BeginsSafe (stretch (entries_of code.procedures) (constants_of code) total (prologue ++ beyond) ops s k)
        (held (entries_of code.procedures) (constants_of code) total (prologue ++ beyond) ops s k)
    prologue_good [] [] i ops s k turn good stable at none e below = absurd cc
    prologue_good [] (y ∷ beyond) i ops s k turn good stable at none e below =
        let t = is_a_turn y turn in
        subst (λ o. BeginsSafe (stretch (entries_of code.procedures) (constants_of code) total (y ∷ beyond) o s k)
        (held (entries_of code.procedures) (constants_of code) total (y ∷ beyond) o s k)) (sym (none refl))
        (subst (λ z. BeginsSafe (stretch (entries_of code.procedures) (constants_of code) total (z ∷ beyond) [] s k)
        (held (entries_of code.procedures) (constants_of code) total (z ∷ beyond) [] s k)) (sym t.1) ((good, stable), omega arith))
    prologue_good (x ∷ rest) beyond i ops s chain turn good stable at none e below =
        let k = judged_none (kinds_kept (is_last rest) (kinds_after code.variables x (kinds_of ops))) (sets_up x) i (λ after. prologue_break code.variables (i + 1) after rest) e in
        let kept = none_kept rest (kinds_after code.variables x (kinds_of ops)) k.0 k.1 in
        let next : drop (i + 1) code.instrs ≡ rest ++ beyond = rw add-one (drop_tail i code.instrs ∙ ap (drop 1) at) in
        let r = all_dropped (IsInstr code.variables (length code.literals) (length code.texts) (length code.procedures)) i code.instrs x (rest ++ beyond) range.instrs at in
        let here = total - suc (length (rest ++ beyond)) in
        let sg = step_good code.variables (length code.procedures) (entries_of code.procedures)
        (constants_of code) IsPlace here begin 0 [] no_target s good k.0 x ops kept.0 (leads_nowhere x k.2) (rests_nowhere x k.2) r (λ t. absurd (no_turn x k.2 t))
        (λ t. absurd (no_departure x k.2 t)) in
        let under = deeper x (kinds_of ops) k.0 rest kept.0 in
        let c = continue_begins k.0 chain (step (entries_of code.procedures) (constants_of code) here x ops s)
        (stretch (entries_of code.procedures) (constants_of code) total (rest ++ beyond))
        (held (entries_of code.procedures) (constants_of code) total (rest ++ beyond)) stable sg (never_stops x here ops s k.2) (λ o t l kinds g stays.
        prologue_good rest beyond (i + 1) o t l turn g stays next (λ f. no_operands o (kinds ∙ kept.1 f)) (ap (λ ks. prologue_break code.variables (i + 1) ks rest) kinds ∙ k.3)
        (subst (λ ks. deepest code.variables ks rest ≤ depth_of code) (sym kinds) (omega (arith, under.1, below)))) in
        let few : length ops ≤ depth_of code = omega (arith, under.0, below, kinds_count ops) in
        (c.0, omega (arith, c.1, few))

    chosen_begins : (events : List Event) (s : State) (k : Chain) → Ready s → IsStable k → (ps : List ℕ) → AllBelow (length code.procedures) ps →
        EndsPiece (with_events events (happens k (next_chosen (entry_of (entries_of code.procedures)) s ps)))
    chosen_begins events s k g stable [] below = tt
    chosen_begins events s k g stable (p ∷ ps) below =
        happens_well k (next_chosen (entry_of (entries_of code.procedures)) s (p ∷ ps)) stable
        (chosen_good code.variables (length code.procedures) (entries_of code.procedures) (constants_of code) IsPlace begin s g (p ∷ ps) below)

    begun_good : (h : Happened) → Begins h → EndsPiece (begins_chosen (entry_of (entries_of code.procedures)) h)
    begun_good (Led events place s k) g = chosen_begins events s k g.0 g.1 s.chosen g.0.chosen_below
    begun_good (Finished events ending s k) g = absurd g
    begun_good (Broke events f s k) g = absurd g
    begun_good (Lacks events) g = absurd g

    first_turn : is_turn (head_of (drop (next_entry total code.procedures) code.instrs)) ≡ true
    first_turn = at_first code.procedures refl
      where
        at_first : (ps : List ProcDef) → code.procedures ≡ ps → is_turn (head_of (drop (next_entry total ps) code.instrs)) ≡ true
        at_first [] is = absurd (omega (arith, range.procedures.some, ap length is))
        at_first (p ∷ ps) is =
            let at = begin 0 (omega (arith, range.procedures.some)) in
            let first : entry_of (entries_of code.procedures) 0 ≡ p.entry = ap (λ qs. entry_of (entries_of qs) 0) is in
            subst (λ (n : ℕ). is_turn (head_of (drop n code.instrs)) ≡ true) first (place_turn (entry_of (entries_of code.procedures) 0) at)

    never_stopped : (n : ℕ) (h : Happened) (s : State) (k : Chain) → EndsPiece h →
        (goes_on h s k (code_run (entries_of code.procedures) (constants_of code) code.instrs n)).outcome ≢ Stopped
    never_stopped n (Lacks events) s k g e = g
    never_stopped n (Broke events f u l) s k g e = g
    never_stopped n (Finished events ending u l) s k g e = cc
    never_stopped zero (Led events place u l) s k g e = cc
    never_stopped (suc n) (Led events place u l) s k g e =
        never_stopped n (code_turn (entries_of code.procedures) (constants_of code) code.instrs place u l) u l (turn_good place u l g.0 g.1 g.2).0 e

    run_within : (n : ℕ) (h : Happened) → EndsPiece h →
        counted_then h (run_held (entries_of code.procedures) (constants_of code) code.instrs n) ≤ depth_of code
    run_within n (Lacks events) g = absurd g
    run_within n (Broke events f s k) g = absurd g
    run_within n (Finished events ending s k) g = omega arith
    run_within zero (Led events place s k) g = omega arith
    run_within (suc n) (Led events place s k) g =
        let t = turn_good place s k g.0 g.1 g.2 in
        omega (arith, t.1, run_within n (code_turn (entries_of code.procedures) (constants_of code) code.instrs place s k) t.0)

    module _ (chosen : List ℕ) (below : AllBelow (length code.procedures) chosen) (variables : List Held) (fit : AllFit code.variables variables) where
      prologue_runs : (k : Chain) → IsStable k → BeginsSafe (stretch (entries_of code.procedures) (constants_of code) total code.instrs [] (start chosen variables) k)
          (held (entries_of code.procedures) (constants_of code) total code.instrs [] (start chosen variables) k)
      prologue_runs k stable =
          let s : State = start chosen variables in
          let good : Ready s = record { variables_fit = fit; chosen_below = below; records_placed = tt; ir_stable = refl; dr_stable = refl } in
          let first = next_entry total code.procedures in
          let prologue = slice_range code.instrs 0 first in
          let from : first - 0 ≡ first = omega arith in
          let whole : prologue ++ drop first code.instrs ≡ code.instrs = ap (λ (n : ℕ). take n code.instrs ++ drop first code.instrs) from ∙ take-append-drop first code.instrs in
          let deep : deepest code.variables [] prologue ≤ depth_of code = omega arith in
          subst (λ l. BeginsSafe (stretch (entries_of code.procedures) (constants_of code) total l [] s k) (held (entries_of code.procedures) (constants_of code) total l [] s k)) whole
          (prologue_good prologue (drop first code.instrs) 0 [] s k first_turn good stable (sym whole) (λ _. refl) prologue_ok deep)

      pub never_stuck : (n : ℕ) (k : Chain) → IsStable k →
          (code_play (entries_of code.procedures) (constants_of code) code.instrs chosen variables n k).outcome ≢ Stopped
      never_stuck n k stable =
          never_stopped n (code_beginning (entries_of code.procedures) (constants_of code) code.instrs chosen variables k) (start chosen variables) k
          (begun_good _ (prologue_runs k stable).0)

      pub within_depth : (n : ℕ) (k : Chain) → IsStable k →
          play_held (entries_of code.procedures) (constants_of code) code.instrs chosen variables n k ≤ depth_of code
      within_depth n k stable =
          omega (
            arith,
            (prologue_runs k stable).1,
            run_within n (code_beginning (entries_of code.procedures) (constants_of code) code.instrs chosen variables k) (begun_good _ (prologue_runs k stable).0),
          )
