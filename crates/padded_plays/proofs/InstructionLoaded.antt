-- That an instruction was loaded is that a scan of the instruction registers was made, and no clock since led into
-- reset.
use Rattle.std.proofs.Common.{◌≡◌, ◌≢◌, ◌<◌, ◌||◌, ◌⊎◌, inl, inr, Bool, true, false, List, [], ◌∷◌, ◌++◌, length, replicate, refl, sym, ap, subst, ◌∙◌, arith, ℕ, suc, zero, cond}
use Rattle.std.proofs.lemmas.Bool.{false≢true}
use Rattle.tap_states.specs.declared.Tap.{Tap}
use Rattle.tap_states.specs.declared.Tap.TheVariants.{Reset, Idle, DrPause, IrPause}
use Rattle.tap_states.specs.Tap.{next_of, is_stable_state}
use Rattle.tap_states.specs.Path.{path_of}
use Rattle.dev_card.specs.Board.{Input}
use Rattle.dev_card.specs.Line.{shift_state, exit_state, pause_state}
use Rattle.dev_card.specs.Clocks.{with_zero, rest_tms, entry_inputs, shift_inputs, pause_inputs, stop_inputs}
use Rattle.dev_card.specs.Scans.{BoardScan, scan_bits, inputs_of_scan}
use Rattle.padded_plays.specs.QuietClocks.{loaded_at, loaded_after}
use Rattle.dev_card.specs.declared.desc.Desc.{Desc}
use Rattle.stapl_meaning.specs.Deeds.{Deed, Says, Goes, Stays, Scans, Chain, based, deed_chain, deeds_chain, captured_on}
use Rattle.stapl_meaning.specs.States.{State, Turned, Leads, Over, Broken, Scanning, NoTurn}
use Rattle.stapl_meaning.specs.Scopes.{Played, zeros_of}
use Rattle.stapl_meaning.specs.Turns.{turn}
use Rattle.stapl_meaning.specs.Plays.{start, beginning}
use Rattle.padded_plays.specs.QuietPlays.{IsQuietDeed, loaded_by_deed, AreQuietDeeds, loaded_by_deeds, deeds_of_turn, deeds_of_run, deeds_of_play, first_chain, IsQuietPlay}
use Rattle.padded_plays.specs.LoadedDeeds.{deed_inputs, StaysOutOfReset, StayOutOfReset, IsWholeScan, AreWholeScans, WasLoaded, IsQuietAfter, EachIsQuiet}
use Rattle.padded_plays.proofs.StableStays.{StayInStable, TurnStays, turn_stays, beginning_stays}
use Rattle.padded_plays.proofs.QuietTurns.{quiet_parts}
use Rattle.dev_card.proofs.Scanning.{some_bits}

-- ---- walks

loaded_there : (t : Tap) (l : Bool) → loaded_at t l ≡ true → (l ≡ true) × (t ≢ Reset)
loaded_there Reset l e = absurd (false≢true e)
loaded_there _ l e = (e, λ x. cc)

stays_loaded : (t : Tap) (l : Bool) → l ≡ true → t ≢ Reset → loaded_at t l ≡ true
stays_loaded Reset l e n = absurd (n refl)
stays_loaded _ l e n = e

walk_was_loaded : (at : Tap) (ms : List Bool) (l : Bool) → loaded_after at ms l ≡ true → (l ≡ true) × StaysOutOfReset at (with_zero ms)
walk_was_loaded at [] l e = (e, tt)
walk_was_loaded at (m ∷ ms) l e =
    let r = walk_was_loaded (next_of at m) ms (loaded_at (next_of at m) l) e in
    let h = loaded_there (next_of at m) l r.0 in
    (h.0, (h.1, r.1))

walk_stays_loaded : (at : Tap) (ms : List Bool) (l : Bool) → l ≡ true → StaysOutOfReset at (with_zero ms) → loaded_after at ms l ≡ true
walk_stays_loaded at [] l e h = e
walk_stays_loaded at (m ∷ ms) l e h = walk_stays_loaded (next_of at m) ms (loaded_at (next_of at m) l) (stays_loaded (next_of at m) l e h.0) h.1

-- ---- scans

abbrev led_by : Tap → List Input → Tap
led_by at [] = at
led_by at (i ∷ is) = led_by (next_of at i.tms) is

out_of_both : (at : Tap) (xs ys : List Input) → StaysOutOfReset at xs → StaysOutOfReset (led_by at xs) ys → StaysOutOfReset at (xs ++ ys)
out_of_both at [] ys h k = k
out_of_both at (x ∷ xs) ys h k = (h.0, out_of_both (next_of at x.tms) xs ys h.1 k)

out_after : (at : Tap) (xs ys : List Input) → StaysOutOfReset at (xs ++ ys) → StaysOutOfReset (led_by at xs) ys
out_after at [] ys h = h
out_after at (x ∷ xs) ys h = out_after (next_of at x.tms) xs ys h.1

pub entry_is_out : (at : Tap) (ir : Bool) → is_stable_state at ≡ true → StaysOutOfReset at (entry_inputs at ir)
entry_is_out Reset false e = (λ x. cc, (λ x. cc, (λ x. cc, (λ x. cc, tt))))
entry_is_out Reset true e = (λ x. cc, (λ x. cc, (λ x. cc, (λ x. cc, (λ x. cc, tt)))))
entry_is_out Idle false e = (λ x. cc, (λ x. cc, (λ x. cc, tt)))
entry_is_out Idle true e = (λ x. cc, (λ x. cc, (λ x. cc, (λ x. cc, tt))))
entry_is_out DrPause false e = (λ x. cc, (λ x. cc, (λ x. cc, (λ x. cc, (λ x. cc, tt)))))
entry_is_out DrPause true e = (λ x. cc, (λ x. cc, (λ x. cc, (λ x. cc, (λ x. cc, (λ x. cc, tt))))))
entry_is_out IrPause false e = (λ x. cc, (λ x. cc, (λ x. cc, (λ x. cc, (λ x. cc, tt)))))
entry_is_out IrPause true e = (λ x. cc, (λ x. cc, (λ x. cc, (λ x. cc, (λ x. cc, (λ x. cc, tt))))))
entry_is_out _ ir e = absurd (false≢true e)

entry_leads : (at : Tap) (ir : Bool) → is_stable_state at ≡ true → led_by at (entry_inputs at ir) ≡ shift_state ir
entry_leads Reset false e = refl
entry_leads Reset true e = refl
entry_leads Idle false e = refl
entry_leads Idle true e = refl
entry_leads DrPause false e = refl
entry_leads DrPause true e = refl
entry_leads IrPause false e = refl
entry_leads IrPause true e = refl
entry_leads _ ir e = absurd (false≢true e)

shift_is_out : (ir : Bool) (bits : List Bool) → 0 < length bits → StaysOutOfReset (shift_state ir) (shift_inputs bits) × (led_by (shift_state ir) (shift_inputs bits) ≡ exit_state ir)
shift_is_out ir [] h = absurd (omega arith)
shift_is_out true (b ∷ []) h = ((λ x. cc, tt), refl)
shift_is_out false (b ∷ []) h = ((λ x. cc, tt), refl)
shift_is_out true (b ∷ c ∷ bs) h = let r = shift_is_out true (c ∷ bs) (omega arith) in ((λ x. cc, r.0), r.1)
shift_is_out false (b ∷ c ∷ bs) h = let r = shift_is_out false (c ∷ bs) (omega arith) in ((λ x. cc, r.0), r.1)

pause_is_out : (ir : Bool) → StaysOutOfReset (exit_state ir) pause_inputs × (led_by (exit_state ir) pause_inputs ≡ pause_state ir)
pause_is_out true = ((λ x. cc, tt), refl)
pause_is_out false = ((λ x. cc, tt), refl)

rest_is_out : (ir : Bool) (stop : Tap) → StaysOutOfReset (pause_state ir) (stop_inputs ir stop) → StaysOutOfReset (exit_state ir) (pause_inputs ++ stop_inputs ir stop)
rest_is_out ir stop h =
    let p = pause_is_out ir in
    out_of_both (exit_state ir) pause_inputs (stop_inputs ir stop) p.0 (subst (λ t. StaysOutOfReset t (stop_inputs ir stop)) (sym p.1) h)

stop_is_out : (ir : Bool) (stop : Tap) → StaysOutOfReset (exit_state ir) (pause_inputs ++ stop_inputs ir stop) → StaysOutOfReset (pause_state ir) (stop_inputs ir stop)
stop_is_out ir stop h =
    subst (λ t. StaysOutOfReset t (stop_inputs ir stop)) (pause_is_out ir).1 (out_after (exit_state ir) pause_inputs (stop_inputs ir stop) h)

scan_is_out : (at : Tap) (s : BoardScan) → is_stable_state at ≡ true → 0 < length s.bits → StaysOutOfReset (exit_state s.ir) (pause_inputs ++ stop_inputs s.ir s.stop)
    → StaysOutOfReset at (inputs_of_scan at s)
scan_is_out at s st n h =
    let rest : List Input = pause_inputs ++ stop_inputs s.ir s.stop in
    let S : List Input = shift_inputs (scan_bits s) in
    let k = shift_is_out s.ir (scan_bits s) (some_bits s n) in
    let shift : StaysOutOfReset (shift_state s.ir) (S ++ rest) =
    out_of_both (shift_state s.ir) S rest k.0 (subst (λ t. StaysOutOfReset t rest) (sym k.1) h) in
    out_of_both at (entry_inputs at s.ir) (S ++ rest) (entry_is_out at s.ir st) (subst (λ t. StaysOutOfReset t (S ++ rest)) (sym (entry_leads at s.ir st)) shift)

rest_of_scan_is_out : (at : Tap) (s : BoardScan) → is_stable_state at ≡ true → 0 < length s.bits → StaysOutOfReset at (inputs_of_scan at s)
    → StaysOutOfReset (exit_state s.ir) (pause_inputs ++ stop_inputs s.ir s.stop)
rest_of_scan_is_out at s st n h =
    let rest : List Input = pause_inputs ++ stop_inputs s.ir s.stop in
    let S : List Input = shift_inputs (scan_bits s) in
    let shift : StaysOutOfReset (shift_state s.ir) (S ++ rest) =
    subst (λ t. StaysOutOfReset t (S ++ rest)) (entry_leads at s.ir st) (out_after at (entry_inputs at s.ir) (S ++ rest) h) in
    subst (λ t. StaysOutOfReset t rest) (shift_is_out s.ir (scan_bits s) (some_bits s n)).1 (out_after (shift_state s.ir) S rest shift)

-- ---- deeds

one_before : (k : Chain) (d : Deed) (ds : List Deed) → WasLoaded (deed_chain k d) ds → WasLoaded k (d ∷ ds)
one_before k d ds h = record {
  front = d ∷ h.front;
  scan = h.scan;
  back = h.back;
  whole = ap (λ t. d ∷ t) h.whole;
  instruction = h.instruction;
  rest = h.rest;
  since = h.since;
}

scan_was_loaded : (k : Chain) (scan : BoardScan) (ds : List Deed) (l ir : Bool) → scan.ir ≡ ir → IsWholeScan k (Scans scan)
    → ir || l ≡ true → StaysOutOfReset (exit_state scan.ir) (pause_inputs ++ stop_inputs scan.ir scan.stop) → StayOutOfReset (deed_chain k (Scans scan)) ds
    → ((l ≡ true) × StayOutOfReset k (Scans scan ∷ ds)) ⊎ WasLoaded k (Scans scan ∷ ds)
scan_was_loaded k scan ds l true e w x r h = inr (record { front = []; scan = scan; back = ds; whole = refl; instruction = e; rest = r; since = h })
scan_was_loaded k scan ds l false e w x r h = inl (x, (scan_is_out k.tap (based k.base scan) w.0 w.1 r, h))

deed_was_loaded : (k : Chain) (d : Deed) (ds : List Deed) (l : Bool) → IsWholeScan k d → loaded_by_deed l k d ≡ true → StayOutOfReset (deed_chain k d) ds
    → ((l ≡ true) × StayOutOfReset k (d ∷ ds)) ⊎ WasLoaded k (d ∷ ds)
deed_was_loaded k (Says event) ds l w e h = inl (e, (tt, h))
deed_was_loaded k (Goes to) ds l w e h =
    let r = walk_was_loaded k.tap (path_of k.tap to) l e in
    inl (r.0, (r.1, h))
deed_was_loaded k (Stays n) ds l w e h =
    let r = walk_was_loaded k.tap (replicate n (rest_tms k.tap)) l e in
    inl (r.0, (r.1, h))
deed_was_loaded k (Scans scan) ds l w e h =
    let r = walk_was_loaded (pause_state scan.ir) (path_of (pause_state scan.ir) scan.stop) (scan.ir || l) e in
    scan_was_loaded k scan ds l scan.ir refl w r.0 (rest_is_out scan.ir scan.stop r.1) h

deeds_were_loaded : (k : Chain) (ds : List Deed) (l : Bool) → AreWholeScans k ds → loaded_by_deeds l k ds ≡ true → ((l ≡ true) × StayOutOfReset k ds) ⊎ WasLoaded k ds
deeds_were_loaded k [] l w e = inl (e, tt)
deeds_were_loaded k (d ∷ ds) l w e = elim (deeds_were_loaded (deed_chain k d) ds (loaded_by_deed l k d) w.1 e) [
  | inl h ↦ deed_was_loaded k d ds l w.0 h.0 h.1
  | inr h ↦ inr (one_before k d ds h)
]

pub was_loaded : (k : Chain) (ds : List Deed) → AreWholeScans k ds → loaded_by_deeds false k ds ≡ true → WasLoaded k ds
was_loaded k ds w e = elim (deeds_were_loaded k ds false w e) [ inl h ↦ absurd (false≢true h.0) | inr h ↦ h ]

true_or : (ir l : Bool) → l ≡ true → ir || l ≡ true
true_or true l e = refl
true_or false l e = e

ir_or : (ir l : Bool) → ir ≡ true → ir || l ≡ true
ir_or true l e = refl
ir_or false l e = absurd (false≢true e)

deed_stays_loaded : (k : Chain) (d : Deed) (l : Bool) → IsWholeScan k d → l ≡ true → StaysOutOfReset k.tap (deed_inputs k d) → loaded_by_deed l k d ≡ true
deed_stays_loaded k (Says event) l w e h = e
deed_stays_loaded k (Goes to) l w e h = walk_stays_loaded k.tap (path_of k.tap to) l e h
deed_stays_loaded k (Stays n) l w e h = walk_stays_loaded k.tap (replicate n (rest_tms k.tap)) l e h
deed_stays_loaded k (Scans scan) l w e h =
    walk_stays_loaded (pause_state scan.ir) (path_of (pause_state scan.ir) scan.stop) (scan.ir || l) (true_or scan.ir l e)
    (stop_is_out scan.ir scan.stop (rest_of_scan_is_out k.tap (based k.base scan) w.0 w.1 h))

deeds_stay_loaded : (k : Chain) (ds : List Deed) (l : Bool) → AreWholeScans k ds → l ≡ true → StayOutOfReset k ds → loaded_by_deeds l k ds ≡ true
deeds_stay_loaded k [] l w e h = e
deeds_stay_loaded k (d ∷ ds) l w e h = deeds_stay_loaded (deed_chain k d) ds (loaded_by_deed l k d) w.1 (deed_stays_loaded k d l w.0 e h.0) h.1

from_the_scan : (k : Chain) (front : List Deed) (scan : BoardScan) (back : List Deed) (l : Bool) → AreWholeScans k (front ++ (Scans scan ∷ back)) → scan.ir ≡ true
    → StaysOutOfReset (exit_state scan.ir) (pause_inputs ++ stop_inputs scan.ir scan.stop) → StayOutOfReset (deed_chain (deeds_chain k front) (Scans scan)) back
    → loaded_by_deeds l k (front ++ (Scans scan ∷ back)) ≡ true
from_the_scan k [] scan back l w i r h =
    deeds_stay_loaded (deed_chain k (Scans scan)) back (loaded_by_deed l k (Scans scan)) w.1
    (walk_stays_loaded (pause_state scan.ir) (path_of (pause_state scan.ir) scan.stop) (scan.ir || l) (ir_or scan.ir l i) (stop_is_out scan.ir scan.stop r)) h
from_the_scan k (d ∷ ds) scan back l w i r h = from_the_scan (deed_chain k d) ds scan back (loaded_by_deed l k d) w.1 i r h

pub is_taken_for_loaded : (k : Chain) (ds : List Deed) → AreWholeScans k ds → WasLoaded k ds → loaded_by_deeds false k ds ≡ true
is_taken_for_loaded k ds w h =
    ap (loaded_by_deeds false k) h.whole ∙ from_the_scan k h.front h.scan h.back false (subst (λ t. AreWholeScans k t) h.whole w) h.instruction h.rest h.since

-- ---- the scans of a play are whole

no_scans : (b : Bool) (ds : List Deed) (k : Chain) → StayInStable b ds → AreWholeScans k ds
no_scans b [] k h = tt
no_scans b (Says event ∷ ds) k h = (tt, no_scans b ds (deed_chain k (Says event)) h)
no_scans b (Goes to ∷ ds) k h = (tt, no_scans (is_stable_state to) ds (deed_chain k (Goes to)) h)
no_scans b (Stays n ∷ ds) k h = (tt, no_scans b ds (deed_chain k (Stays n)) h.1)
no_scans b (Scans scan ∷ ds) k h = absurd h

whole_both : (k : Chain) (xs ys : List Deed) → AreWholeScans k xs → AreWholeScans (deeds_chain k xs) ys → AreWholeScans k (xs ++ ys)
whole_both k [] ys h w = w
whole_both k (x ∷ xs) ys h w = (h.0, whole_both (deed_chain k x) xs ys h.1 w)

whole_front : (k : Chain) (xs ys : List Deed) → AreWholeScans k (xs ++ ys) → AreWholeScans k xs
whole_front k [] ys h = tt
whole_front k (x ∷ xs) ys h = (h.0, whole_front (deed_chain k x) xs ys h.1)

whole_if : (b : Bool) (k : Chain) (ds : List Deed) → (b ≡ true → AreWholeScans k ds) → AreWholeScans k (cond b ds [])
whole_if true k ds h = h refl
whole_if false k ds h = tt

module _ (go : ℕ → State → Chain → List Deed) (h : (i : ℕ) (s : State) (k : Chain) → AreWholeScans k (go i s k)) where
  whole_turn : (t : Turned) (k : Chain) → TurnStays t → AreWholeScans k (deeds_of_turn k t go)
  whole_turn (Leads ds place s) k w = whole_both k ds (go place s (deeds_chain k ds)) (no_scans false ds k w) (h place s (deeds_chain k ds))
  whole_turn (Over ds ending s) k w = no_scans false ds k w
  whole_turn (Broken ds f s) k w = no_scans false ds k w
  whole_turn (Scanning ds scan rest) k w =
      let l : Chain = deeds_chain k ds in
      let k1 : Chain = deed_chain l (Scans scan) in
      let more : List Deed = deeds_of_turn k1 (rest (captured_on l scan)) go in
      whole_both k ds (cond (is_stable_state l.tap) (Scans scan ∷ more) []) (no_scans false ds k w.0)
      (whole_if (is_stable_state l.tap) l (Scans scan ∷ more) (λ e. ((e, w.1), whole_turn (rest (captured_on l scan)) k1 (w.2 (captured_on l scan)))))
  whole_turn (NoTurn ds) k w = no_scans false ds k w

whole_run : (program : Played) (n i : ℕ) (s : State) (k : Chain) → AreWholeScans k (deeds_of_run program n i s k)
whole_run program zero i s k = tt
whole_run program (suc n) i s k = whole_turn (deeds_of_run program n) (whole_run program n) (turn program i s) k (turn_stays program i s)

pub whole_play : (program : Played) (chosen : List ℕ) (n : ℕ) (k : Chain) → AreWholeScans k (deeds_of_play program chosen n k)
whole_play program chosen n k =
    let s : State = start chosen (zeros_of program) in
    whole_turn (deeds_of_run program n) (whole_run program n) (beginning program s) k (beginning_stays program s)

-- ---- quietness without the flag

quiet_after : (k : Chain) (front : List Deed) (d : Deed) → AreWholeScans k front → IsQuietDeed (loaded_by_deeds false k front) (deeds_chain k front) d → IsQuietAfter k front d
quiet_after k front (Says event) w q = tt
quiet_after k front (Goes to) w q = q
quiet_after k front (Stays n) w q = q
quiet_after k front (Scans scan) w q = record { as_long = q.as_long; loaded_before = λ e. was_loaded k front w (q.loaded_before e); quiet_stop = q.quiet_stop }

quiet_by_flag : (k : Chain) (front : List Deed) (d : Deed) → AreWholeScans k front → IsQuietAfter k front d → IsQuietDeed (loaded_by_deeds false k front) (deeds_chain k front) d
quiet_by_flag k front (Says event) w q = tt
quiet_by_flag k front (Goes to) w q = q
quiet_by_flag k front (Stays n) w q = q
quiet_by_flag k front (Scans scan) w q =
    record { as_long = q.as_long; loaded_before = λ e. is_taken_for_loaded k front w (q.loaded_before e); quiet_stop = q.quiet_stop }

each_is_quiet : (k : Chain) (ds : List Deed) → AreWholeScans k ds → AreQuietDeeds false k ds → EachIsQuiet k ds
each_is_quiet k ds w q front d back e =
    quiet_after k front d (whole_front k front (d ∷ back) (subst (λ t. AreWholeScans k t) e w))
    (quiet_parts front (d ∷ back) false k (subst (λ t. AreQuietDeeds false k t) e q)).1.0

all_by_each : (k : Chain) (ds : List Deed) (l : Bool)
    → ((front : List Deed) (d : Deed) (back : List Deed) → ds ≡ front ++ (d ∷ back) → IsQuietDeed (loaded_by_deeds l k front) (deeds_chain k front) d) → AreQuietDeeds l k ds
all_by_each k [] l h = tt
all_by_each k (d ∷ ds) l h = (h [] d ds refl, all_by_each (deed_chain k d) ds (loaded_by_deed l k d) (λ front c back e. h (d ∷ front) c back (ap (λ t. d ∷ t) e)))

pub quiet_play_by_each : (program : Played) (chosen : List ℕ) (n : ℕ) (run : List Desc) → IsQuietPlay program chosen n run
    → EachIsQuiet (first_chain run) (deeds_of_play program chosen n (first_chain run))
quiet_play_by_each program chosen n run q =
    each_is_quiet (first_chain run) (deeds_of_play program chosen n (first_chain run)) (whole_play program chosen n (first_chain run)) q

pub each_makes_quiet_play : (program : Played) (chosen : List ℕ) (n : ℕ) (run : List Desc) → EachIsQuiet (first_chain run) (deeds_of_play program chosen n (first_chain run))
    → IsQuietPlay program chosen n run
each_makes_quiet_play program chosen n run h =
    let k : Chain = first_chain run in
    let ds : List Deed = deeds_of_play program chosen n k in
    let w : AreWholeScans k ds = whole_play program chosen n k in
    all_by_each k ds false (λ front d back e. quiet_by_flag k front d (whole_front k front (d ∷ back) (subst (λ t. AreWholeScans k t) e w)) (h front d back e))
