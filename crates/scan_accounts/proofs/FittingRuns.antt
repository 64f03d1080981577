-- How many bits the runs of a play have. A walk leaves a shift state at its next clock, so its runs have one clock, and
-- the run of a scan has no more bits than the limits of its length and of the paddings allow.
use Rattle.std.proofs.Common.{◌≡◌, ◌<◌, ◌≤◌, ℕ, suc, ◌+◌, ◌-◌, Bool, true, false, cond, take, drop, replicate, List, [], ◌∷◌, ◌++◌, length, Option, Some, None, All, refl, sym, ap, subst, ◌∙◌, arith}
use Rattle.std.specs.Prelude.{is_some, flat_map}
use Rattle.std.proofs.lemmas.Bool.{false≢true}
use Rattle.std.proofs.lemmas.List.{length-append, length-take}
use Rattle.std.proofs.lemmas.List.Elements.{All-nil, All-cons, All-head, All-tail, All-append, All-map, All-weaker}
use Rattle.tap_states.specs.declared.Tap.{Tap}
use Rattle.tap_states.specs.declared.Tap.TheVariants.{Reset, DrShift, IrShift}
use Rattle.tap_states.specs.Tap.{next_of, is_stable_state}
use Rattle.tap_states.specs.Path.{walk, IsShortestPath, path_of}
use Rattle.tap_states.proofs.States.{tap_eq, tap_eq-same}
use Rattle.tap_states.proofs.Shortest.{is_path, path_leads}
use Rattle.dev_card.specs.Board.{Clock}
use Rattle.dev_card.specs.Clocks.{with_zero, rest_tms}
use Rattle.dev_card.specs.Padding.{BaseLengths, base_pre_of, base_post_of, program_bits}
use Rattle.dev_card.specs.Scans.{BoardScan, scan_bits}
use Rattle.dev_card.specs.FarEnds.{FarEnd, far_clocks}
use Rattle.stapl_meaning.specs.declared.events.Event.{Event}
use Rattle.stapl_meaning.specs.Deeds.{Deed, Says, Goes, Stays, Scans, Chain, based, pulses, deed_events, deed_chain, deeds_events, deeds_chain, captured_on}
use Rattle.stapl_meaning.specs.SaidEvents.{SayNoClock, TurnSaysNoClock}
use Rattle.stapl_meaning.specs.States.{ScanSettings, State, Turned, Leads as leads_to, Over, Broken, Scanning, NoTurn, Happened, Led, Finished, Broke, Lacks, with_events, scanned_on, happens}
use Rattle.stapl_meaning.specs.Scans.{scan_limit, padding_limit}
use Rattle.stapl_meaning.specs.Scopes.{Played, zeros_of}
use Rattle.stapl_meaning.specs.Turns.{turn}
use Rattle.stapl_meaning.specs.Plays.{start, beginning, chain_reset}
use Rattle.stapl_meaning.specs.Typed.{IsTyped}
use Rattle.stapl_meaning.proofs.Walks.{KeptTurned}
use Rattle.stapl_meaning.proofs.KeptTurns.{turn_kept}
use Rattle.stapl_meaning.proofs.SaidEvents.{turn_says}
use Rattle.padded_plays.proofs.StableStays.{StayInStable, TurnStays, turn_stays}
use Rattle.scan_accounts.specs.ShiftRuns.{shifting, ShiftRun, one_clock, with_clock, runs_with, shift_runs}
use Rattle.scan_accounts.specs.MadeTurns.{MadeTurn, scans_at, happened_events, made_turn, begins, made_play, clocks_among}
use Rattle.scan_accounts.specs.Accounts.{Passage, said_run, passages_of, passages, most_bits}
use Rattle.scan_accounts.proofs.JoinedRuns.{tms_of, shifts}
use Rattle.scan_accounts.proofs.WalkedTurns.{tms_among, tms_both, tms_of_pulses, tms_with_zero, stays, scan_walks, clock_not_said, deeds_walk}
use Rattle.scan_accounts.proofs.ScanRuns.{RunsNone}
use Rattle.scan_accounts.proofs.ScanPassages.{scan_run, one_run, all_counted}
use Rattle.scan_accounts.proofs.RowWalks.{RowRule, plain_rows, StatementRule}
use Rattle.scan_accounts.proofs.TurnWalks.{TurnOk, moves_at, turn_ok, beginning_ok}
use Rattle.scan_accounts.proofs.StableTurns.{deeds_end, TurnEnds, turn_ends, stopping, pads_stop, LeadsTo, leads_after, leads_if, Stands, turn_stands}
use Rattle.scan_accounts.proofs.StableStarts.{play_begins}
use Rattle.scan_accounts.proofs.AllTurns.{all_of_play}
use Rattle.scan_accounts.proofs.RunsOrLines.{stable_stay, runs_then, events_after}

-- ---- a run has as many bits out as bits in

abbrev pub AsMany : ShiftRun → Type 0
AsMany run = length run.bits_out ≡ length run.bits_in

as_many_with : (o : Option Bool) (goes_on : Bool) (k : Clock) (runs : List ShiftRun) → All AsMany runs →
    All AsMany (runs_with o goes_on k runs)
as_many_with None goes_on k runs h = h
as_many_with (Some ir) false k runs h = All-cons AsMany (one_clock ir k) runs refl h
as_many_with (Some ir) true k [] h = All-cons AsMany (one_clock ir k) [] refl h
as_many_with (Some ir) true k (run ∷ runs) h =
    All-cons AsMany (with_clock k run) runs (ap suc (All-head AsMany run runs h)) (All-tail AsMany run runs h)

pub runs_have_as_many : (ks : List Clock) (at : Tap) → All AsMany (shift_runs at ks)
runs_have_as_many [] at = All-nil AsMany
runs_have_as_many (k ∷ ks) at =
    let next : Tap = next_of at k.tms in
    as_many_with (shifting at) (shifts next) k (shift_runs next ks) (runs_have_as_many ks next)

-- ---- walks that leave a shift state at its next clock have runs of one clock

abbrev pub LeavesShift : Tap → List Bool → Type 0
LeavesShift at [] = Unit {0}
LeavesShift at (m ∷ ms) = (shifts at ≡ true → m ≡ true) × LeavesShift (next_of at m) ms

abbrev OneClock : ShiftRun → Type 0
OneClock run = length run.bits_in ≤ 1

left : (at : Tap) → shifts at ≡ true → shifts (next_of at true) ≡ false
left DrShift e = refl
left IrShift e = refl
left _ e = absurd (false≢true e)

still : (at : Tap) → shifts at ≡ true → next_of at false ≡ at
still DrShift e = refl
still IrShift e = refl
still _ e = absurd (false≢true e)

one_clock_with : (o : Option Bool) (goes_on : Bool) (k : Clock) (runs : List ShiftRun) →
    (is_some o ≡ true → goes_on ≡ false) → All OneClock runs → All OneClock (runs_with o goes_on k runs)
one_clock_with None goes_on k runs e h = h
one_clock_with (Some ir) false k runs e h = All-cons OneClock (one_clock ir k) runs (omega arith) h
one_clock_with (Some ir) true k runs e h = absurd (false≢true (sym (e refl)))

one_clock_each : (ks : List Clock) (at : Tap) → LeavesShift at (tms_of ks) → All OneClock (shift_runs at ks)
one_clock_each [] at h = All-nil OneClock
one_clock_each (k ∷ ks) at h =
    let next : Tap = next_of at k.tms in
    one_clock_with (shifting at) (shifts next) k (shift_runs next ks)
    (λ e. ap (λ m. shifts (next_of at m)) (h.0 e) ∙ left at e) (one_clock_each ks next h.1)

leave_both : (xs ys : List Bool) (at : Tap) → LeavesShift at xs → LeavesShift (walk at xs) ys →
    LeavesShift at (xs ++ ys)
leave_both [] ys at p q = q
leave_both (x ∷ xs) ys at p q = (p.0, leave_both xs ys (next_of at x) p.1 q)

none_leaves : (ms : List Bool) (at : Tap) → RunsNone at ms → LeavesShift at ms
none_leaves [] at h = tt
none_leaves (m ∷ ms) at h = (λ e. absurd (false≢true (sym h.0 ∙ e)), none_leaves ms (next_of at m) h.1)

-- a shortest path leaves it, since it would be shorter without a clock that leads back to its state
abbrev NoneShorter : Tap → List Bool → Type 0
NoneShorter at ms = (other : List Bool) → walk at other ≡ walk at ms → length ms ≤ length other

later : (m : Bool) (ms : List Bool) (at : Tap) → NoneShorter at (m ∷ ms) → NoneShorter (next_of at m) ms
later m ms at h other e = let le = h (m ∷ other) e in omega (arith, le)

shortest_leaves : (ms : List Bool) (at : Tap) → NoneShorter at ms → LeavesShift at ms
shortest_leaves [] at h = tt
shortest_leaves (true ∷ ms) at h = (λ e. refl, shortest_leaves ms (next_of at true) (later true ms at h))
shortest_leaves (false ∷ ms) at h = (
  λ e. absurd (too_long (h ms (ap (λ t. walk t ms) (sym (still at e))))),
  shortest_leaves ms (next_of at false) (later false ms at h),
)
  where
    too_long : suc (length ms) ≤ length ms → ⊥
    too_long le = omega (arith, le)

path_leaves : (at to : Tap) → LeavesShift at (path_of at to)
path_leaves at to = by (tap_eq to Reset) refl
  where
    no_reset : tap_eq to Reset ≡ false → ¬ (to ≡ Reset)
    no_reset h e = false≢true (sym h ∙ ap (λ t. tap_eq t Reset) e)

    by : (b : Bool) → tap_eq to Reset ≡ b → LeavesShift at (path_of at to)
    by true h =
        subst (λ t. LeavesShift at (path_of at t)) (sym (tap_eq-same to Reset h))
        (λ e. refl, (λ e. refl, (λ e. refl, (λ e. refl, (λ e. refl, tt)))))
    by false h =
        let p : IsShortestPath at to (path_of at to) = (is_path at to).elsewhere (no_reset h) in
        shortest_leaves (path_of at to) at (λ other e. p.shortest other (e ∙ p.leads))

leave_then : (at to : Tap) (far : FarEnd) (ms : List Bool) (es : List Event) → LeavesShift at ms → walk at ms ≡ to →
    LeavesShift to (tms_among es) → LeavesShift at (tms_among (pulses (far_clocks far (with_zero ms)) ++ es))
leave_then at to far ms es own leads h =
    let first : List Event = pulses (far_clocks far (with_zero ms)) in
    let tms : tms_among first ≡ ms = tms_of_pulses far (with_zero ms) ∙ tms_with_zero ms in
    subst (LeavesShift at) (sym (tms_both first es ∙ ap (λ t. t ++ tms_among es) tms))
    (leave_both ms (tms_among es) at own (subst (λ t. LeavesShift t (tms_among es)) (sym leads) h))

deeds_leave : (ds : List Deed) (b : Bool) (k : Chain) → (b ≡ true → is_stable_state k.tap ≡ true) → StayInStable b ds →
    SayNoClock ds → LeavesShift k.tap (tms_among (deeds_events k ds))
deeds_leave [] b k st w q = tt
deeds_leave (Says event ∷ ds) b k st w q =
    let rest : List Event = deeds_events k ds in
    subst (LeavesShift k.tap)
    (sym (tms_both (event ∷ []) rest ∙ ap (λ ks. tms_of ks ++ tms_among rest) (clock_not_said event q.0)))
    (deeds_leave ds b k st w q.1)
deeds_leave (Goes to ∷ ds) b k st w q =
    let l : Chain = deed_chain k (Goes to) in
    let path : List Bool = path_of k.tap to in
    leave_then k.tap to k.far path (deeds_events l ds) (path_leaves k.tap to)
    (path_leads k.tap to path (is_path k.tap to)) (deeds_leave ds (is_stable_state to) l (λ e. e) w q)
deeds_leave (Stays n ∷ ds) b k st w q =
    let l : Chain = deed_chain k (Stays n) in
    let tms : List Bool = replicate n (rest_tms k.tap) in
    leave_then k.tap k.tap k.far tms (deeds_events l ds) (none_leaves tms k.tap (stable_stay k.tap n (st w.0)))
    (stays k.tap n (st w.0)) (deeds_leave ds b l st w.1 q)
deeds_leave (Scans scan ∷ ds) b k st w q = absurd w

-- ---- runs that fit, true if the statement scans

abbrev pub RunFits : BaseLengths → Bool → ShiftRun → Type 0
RunFits base true run = length run.bits_in ≤ most_bits true + (base_pre_of run.ir base + base_post_of run.ir base)
RunFits base false run = length run.bits_in ≤ most_bits false

abbrev pub RunsFit : BaseLengths → Bool → Tap → List Event → Type 0
RunsFit base f at es = All (RunFits base f) (shift_runs at (clocks_among es))

one_fits : (base : BaseLengths) (f : Bool) (run : ShiftRun) → OneClock run → RunFits base f run
one_fits base true run le = omega (arith, le)
one_fits base false run le = le

deeds_fit : (base : BaseLengths) (f : Bool) (ds : List Deed) (k : Chain) → StayInStable false ds → SayNoClock ds →
    RunsFit base f k.tap (deeds_events k ds)
deeds_fit base f ds k w q =
    All-weaker OneClock (RunFits base f) (one_fits base f) (shift_runs k.tap (clocks_among (deeds_events k ds)))
    (one_clock_each (clocks_among (deeds_events k ds)) k.tap (deeds_leave ds false k (λ e. absurd (false≢true e)) w q))

fit_before : (base : BaseLengths) (f : Bool) (at to : Tap) (xs : List Event) (h : Happened) →
    walk at (tms_among xs) ≡ to → is_stable_state to ≡ true → RunsFit base f at xs →
    RunsFit base f to (happened_events h) → RunsFit base f at (happened_events (with_events xs h))
fit_before base f at to xs h leads e first rest =
    subst (RunsFit base f at) (sym (events_after xs h))
    (subst (All (RunFits base f)) (sym (runs_then at to xs (happened_events h) leads e))
    (All-append (RunFits base f) (shift_runs at (clocks_among xs)) (shift_runs to (clocks_among (happened_events h)))
    first rest))

fit_if : (base : BaseLengths) (f b : Bool) (at : Tap) (h : Happened) → RunsFit base f at (happened_events h) →
    RunsFit base f at (happened_events (cond b h (Lacks [])))
fit_if base f true at h p = p
fit_if base f false at h p = All-nil (RunFits base f)

-- ---- scans

-- the paddings of the program keep their limit
abbrev pub PadsFit : ScanSettings → Type 0
PadsFit x = (length x.pre ≤ padding_limit) × (length x.post ≤ padding_limit)

abbrev pub ScanFits : BoardScan → Type 0
ScanFits job =
    (length job.paddings.pre ≤ padding_limit) × (length job.paddings.post ≤ padding_limit)
    × (length job.bits ≤ scan_limit)

abbrev pub fitting : Bool → RowRule
fitting f = record plain_rows {
  JobOk = λ job. (f ≡ true) × ScanFits job;
  SettingsOk = PadsFit;
  pre_ok = λ x bits le h. (le, h.1);
  post_ok = λ x bits le h. (h.0, le);
  stop_ok = λ x tap e h. h;
}

statements_fit : (moves scans : Bool) → StatementRule (fitting scans) moves scans
statements_fit moves scans = record {
  says_ok = λ m n event ds e h. tt;
  goes_ok = λ m n to ds e h. tt;
  stays_ok = λ m n c ds h. tt;
  moves_ok = λ m states last. tt;
  scans_ok = λ e register x bits h few. (e, (h.0, h.1, few));
}

within_room : (limit pad front own back before after shifted whole : ℕ) → front ≤ pad → back ≤ pad → own ≤ limit →
    shifted ≡ front + (own + back) → whole ≡ before + (shifted + after) → whole ≤ limit + (pad + pad) + (before + after)
within_room limit pad front own back before after shifted whole a b c d e = omega arith

module _ (l : Chain) (job : BoardScan) (stable : is_stable_state l.tap ≡ true) (stops : is_stable_state job.stop ≡ true)
    (some : 0 < length job.bits) (fits : ScanFits job) where
  scan_run_fits : RunFits l.base true (scan_run l job stable stops some)
  scan_run_fits =
      let p = job.paddings in
      within_room scan_limit padding_limit (length p.pre) (length job.bits) (length p.post) (base_pre_of job.ir l.base)
      (base_post_of job.ir l.base) (length (program_bits p job.bits)) (length (scan_bits (based l.base job)))
      fits.0 fits.1 fits.2
      (length-append p.pre (job.bits ++ p.post) ∙ ap (λ n. length p.pre + n) (length-append job.bits p.post))
      (all_counted l job stable stops some)

  scan_fits : (base : BaseLengths) (f : Bool) → l.base ≡ base → f ≡ true →
      RunsFit base f l.tap (deed_events l (Scans job))
  scan_fits base f same e =
      let run : ShiftRun = scan_run l job stable stops some in
      let own : RunFits base f run =
      subst (λ g. RunFits base g run) (sym e) (subst (λ b. RunFits b true run) same scan_run_fits) in
      subst (All (RunFits base f)) (sym (one_run l job stable stops some))
      (All-cons (RunFits base f) run [] own (All-nil (RunFits base f)))

-- ---- turns

bases_kept : (ds : List Deed) (k : Chain) → (deeds_chain k ds).base ≡ k.base
bases_kept [] k = refl
bases_kept (Says event ∷ ds) k = bases_kept ds k
bases_kept (Goes to ∷ ds) k = bases_kept ds (deed_chain k (Goes to))
bases_kept (Stays n ∷ ds) k = bases_kept ds (deed_chain k (Stays n))
bases_kept (Scans scan ∷ ds) k = bases_kept ds (deed_chain k (Scans scan))

module _ (base : BaseLengths) (f : Bool) (J : BoardScan → Type 0) where
  turn_fits : (t : Turned) (k : Chain) → k.base ≡ base → is_stable_state k.tap ≡ true → TurnStays t →
      TurnSaysNoClock t → TurnEnds J t → KeptTurned stopping t → TurnOk (fitting f) t →
      RunsFit base f k.tap (happened_events (happens k t))
  turn_fits (leads_to ds place s) k same e w q ends kept ok = deeds_fit base f ds k w q
  turn_fits (Over ds ending s) k same e w q ends kept ok = deeds_fit base f ds k w q
  turn_fits (Broken ds fault s) k same e w q ends kept ok = deeds_fit base f ds k w q
  turn_fits (Scanning ds job rest) k same e w q ends kept ok =
      let l : Chain = deeds_chain k ds in
      let l1 : Chain = deed_chain l (Scans job) in
      let bits : List Bool = captured_on l job in
      let then : Happened = happens l1 (rest bits) in
      let stable : is_stable_state l.tap ≡ true = deeds_end ds k ends.0 e in
      let kept_base : l.base ≡ base = bases_kept ds k ∙ same in
      fit_before base f k.tap l.tap (deeds_events k ds) (scanned_on l job (λ bits c. happens c (rest bits)))
      (deeds_walk ds false k (λ e. absurd (false≢true e)) w.0 q.0) stable (deeds_fit base f ds k w.0 q.0)
      (fit_if base f (is_stable_state l.tap) l.tap (with_events (deed_events l (Scans job)) then)
      (fit_before base f l.tap job.stop (deed_events l (Scans job)) then (scan_walks l job stable w.1) kept.1
      (scan_fits l job stable kept.1 w.1 ok.1.1 base f kept_base ok.1.0)
      (turn_fits (rest bits) l1 kept_base kept.1 (w.2 bits) (q.1 bits) (ends.2 bits) (kept.2 bits) (ok.2 bits))))
  turn_fits (NoTurn ds) k same e w q ends kept ok = deeds_fit base f ds k w q

-- what is kept of the settings of scans, and of the base padding
abbrev Fitting : BaseLengths → State → Chain → Type 0
Fitting base s l = (PadsFit s.ir × PadsFit s.dr) × (l.base ≡ base)

turn_leads : (base : BaseLengths) (f : Bool) (t : Turned) (k : Chain) → k.base ≡ base → TurnOk (fitting f) t →
    LeadsTo (Fitting base) (happens k t)
turn_leads base f (leads_to ds place s) k same ok = (ok.1, bases_kept ds k ∙ same)
turn_leads base f (Over ds ending s) k same ok = tt
turn_leads base f (Broken ds fault s) k same ok = tt
turn_leads base f (Scanning ds job rest) k same ok =
    let l : Chain = deeds_chain k ds in
    let l1 : Chain = deed_chain l (Scans job) in
    let bits : List Bool = captured_on l job in
    let then : Happened = happens l1 (rest bits) in
    leads_after (Fitting base) (deeds_events k ds) (scanned_on l job (λ bits c. happens c (rest bits)))
    (leads_if (Fitting base) (is_stable_state l.tap) (with_events (deed_events l (Scans job)) then)
    (leads_after (Fitting base) (deed_events l (Scans job)) then
    (turn_leads base f (rest bits) l1 (bases_kept ds k ∙ same) (ok.2 bits))))
turn_leads base f (NoTurn ds) k same ok = tt

both_lead : (I J : State → Chain → Type 0) (h : Happened) → LeadsTo I h → LeadsTo J h →
    LeadsTo (λ s l. I s l × J s l) h
both_lead I J (Led es place s l) p q = (p, q)
both_lead I J (Finished es ending s l) p q = tt
both_lead I J (Broke es f s l) p q = tt
both_lead I J (Lacks es) p q = tt

-- ---- plays

abbrev TurnFits : BaseLengths → MadeTurn → Type 0
TurnFits base t = RunsFit base t.scans t.from t.events

module _ (program : Played) (typed : IsTyped program) (base : BaseLengths) where
  abbrev Before : State → Chain → Type 0
  Before s k = Stands s k × Fitting base s k

  of_turn : (i : ℕ) (s : State) → PadsFit s.ir × PadsFit s.dr → TurnOk (fitting (scans_at program i)) (turn program i s)
  of_turn i s pads =
      turn_ok program typed (fitting (scans_at program i)) i s
      (statements_fit (moves_at program i) (scans_at program i))
      pads

  made_turn_fits : (i : ℕ) (s : State) (k : Chain) → Before s k → TurnFits base (made_turn program i s k)
  made_turn_fits i s k h =
      turn_fits base (scans_at program i) (λ job. scans_at program i ≡ true) (turn program i s) k h.1.1 h.0.0
      (turn_stays program i s) (turn_says program i s) (turn_ends program typed i s)
      (turn_kept stopping pads_stop (λ p ps h. tt) program i s h.0.1) (of_turn i s h.1.0)

  kept_by_turn : (i : ℕ) (s : State) (k : Chain) → Before s k → LeadsTo Before (happens k (turn program i s))
  kept_by_turn i s k h =
      let t : Turned = turn program i s in
      both_lead Stands (Fitting base) (happens k t) (turn_stands program typed i s k h.0.1 h.0.0)
      (turn_leads base (scans_at program i) t k h.1.1 (of_turn i s h.1.0))

  pub turns_fit : (chosen : List ℕ) (n : ℕ) (far : FarEnd) →
      All (TurnFits base) (made_play program chosen n base far).turns
  turns_fit chosen n far =
      let k : Chain = chain_reset base far in
      let s : State = start chosen (zeros_of program) in
      let few : 0 ≤ padding_limit = omega arith in
      all_of_play program Before (TurnFits base) made_turn_fits kept_by_turn chosen n base far
      (both_lead Stands (Fitting base) (begins program chosen k) (play_begins program typed chosen base far)
      (turn_leads base false (beginning program s) k refl
      (beginning_ok program typed (fitting false) s ((few, few), (few, few)))))

-- ---- what is said of them

said_fits : (base : BaseLengths) (f : Bool) (run : ShiftRun) → RunFits base f run →
    length (said_run base f run).bits_in ≤ most_bits f
said_fits base false run h = h
said_fits base true run h =
    let pre : ℕ = base_pre_of run.ir base in
    let post : ℕ = base_post_of run.ir base in
    taken (most_bits true) (length run.bits_in) (pre + post) (drop pre run.bits_in) h
  where
    taken : (most count pads : ℕ) (bits : List Bool) → count ≤ most + pads → length (take (count - pads) bits) ≤ most
    taken most count pads bits le = let l = length-take (count - pads) bits in omega (arith, l, le)

abbrev PassageFits : Passage → Type 0
PassageFits p = length p.run.bits_in ≤ most_bits p.scan

passages_fit : (base : BaseLengths) (t : MadeTurn) → TurnFits base t → All PassageFits (passages_of base t)
passages_fit base t h =
    let runs : List ShiftRun = shift_runs t.from (clocks_among t.events) in
    All-map PassageFits (λ run. record { place = t.place; scan = t.scans; run = said_run base t.scans run }) runs
    (All-weaker (RunFits base t.scans) _ (said_fits base t.scans) runs h)

all_passages_fit : (base : BaseLengths) (ts : List MadeTurn) → All (TurnFits base) ts →
    All PassageFits (flat_map (passages_of base) ts)
all_passages_fit base [] h = All-nil PassageFits
all_passages_fit base (t ∷ ts) h =
    All-append PassageFits (passages_of base t) (flat_map (passages_of base) ts)
    (passages_fit base t (All-head (TurnFits base) t ts h)) (all_passages_fit base ts (All-tail (TurnFits base) t ts h))

pub said_runs_fit : (program : Played) → IsTyped program → (chosen : List ℕ) (n : ℕ) (base : BaseLengths)
    (far : FarEnd) → All PassageFits (passages (made_play program chosen n base far))
said_runs_fit program typed chosen n base far =
    all_passages_fit base (made_play program chosen n base far).turns (turns_fit program typed base chosen n far)

-- with their base padding
abbrev pub WholeFits : BaseLengths → ShiftRun → Type 0
WholeFits base run = length run.bits_in ≤ most_bits true + (base_pre_of run.ir base + base_post_of run.ir base)

whole_fits : (base : BaseLengths) (f : Bool) (run : ShiftRun) → RunFits base f run → WholeFits base run
whole_fits base true run h = h
whole_fits base false run h = omega (arith, h)

pub whole_runs_fit : (program : Played) → IsTyped program → (chosen : List ℕ) (n : ℕ) (base : BaseLengths)
    (far : FarEnd) → All (λ (t : MadeTurn). All (WholeFits base) (shift_runs t.from (clocks_among t.events)))
    (made_play program chosen n base far).turns
whole_runs_fit program typed chosen n base far =
    All-weaker (TurnFits base) _ (λ t. All-weaker (RunFits base t.scans) (WholeFits base) (whole_fits base t.scans)
    (shift_runs t.from (clocks_among t.events))) (made_play program chosen n base far).turns
    (turns_fit program typed base chosen n far)
