-- The deeds of a play, turn by turn: their events are those of the play, and where they are quiet, each turn is.
use Rattle.std.proofs.Common.{◌≡◌, ℕ, zero, suc, Bool, true, false, cond, List, [], ◌∷◌, ◌++◌, refl, sym, ap, subst, ◌∙◌, append_assoc}
use Rattle.tap_states.specs.Tap.{is_stable_state}
use Rattle.dev_card.specs.FarEnds.{FarEnd}
use Rattle.dev_card.specs.Padding.{BaseLengths}
use Rattle.stapl_meaning.specs.declared.events.Event.{Event}
use Rattle.stapl_meaning.specs.Deeds.{Deed, Scans, Chain, deed_events, deed_chain, deeds_events, deeds_chain, captured_on}
use Rattle.stapl_meaning.specs.States.{State, Turned, Leads, Over, Broken, Scanning, NoTurn, Happened, Led, Finished, Broke, Lacks, with_events, scanned_on, happens}
use Rattle.stapl_meaning.specs.Scopes.{Played, zeros_of}
use Rattle.stapl_meaning.specs.Turns.{turn}
use Rattle.stapl_meaning.specs.Plays.{Run, play, after, goes_on, run, start, beginning, chain_reset, reset_events}
use Rattle.padded_plays.specs.QuietPlays.{IsQuietDeed, loaded_by_deed, AreQuietDeeds, loaded_by_deeds, deeds_of_turn, deeds_of_run, deeds_of_play}

-- events before what happened, and before a run
pub with_events_first : (es : List Event) (h : Happened) (s : State) (k : Chain) (go : ℕ → State → Chain → Run)
    → goes_on (with_events es h) s k go ≡ after es (goes_on h s k go)
with_events_first es (Led events place t l) s k go = ap (λ x. record (go place t l) { events = x }) (append_assoc es events (go place t l).events)
with_events_first es (Finished events ending t l) s k go = refl
with_events_first es (Broke events f t l) s k go = refl
with_events_first es (Lacks events) s k go = refl

-- ---- events

events_of_both : (k : Chain) (xs ys : List Deed) → deeds_events k (xs ++ ys) ≡ deeds_events k xs ++ deeds_events (deeds_chain k xs) ys
events_of_both k [] ys = refl
events_of_both k (x ∷ xs) ys =
    ap (λ t. deed_events k x ++ t) (events_of_both (deed_chain k x) xs ys)
    ∙ sym (append_assoc (deed_events k x) (deeds_events (deed_chain k x) xs) (deeds_events (deeds_chain (deed_chain k x) xs) ys))

events_from : (k : Chain) (xs ys : List Deed) (es : List Event) → es ≡ deeds_events (deeds_chain k xs) ys → deeds_events k xs ++ es ≡ deeds_events k (xs ++ ys)
events_from k xs ys es e = ap (λ t. deeds_events k xs ++ t) e ∙ sym (events_of_both k xs ys)

module _ (go : ℕ → State → Chain → Run) (next : ℕ → State → Chain → List Deed) (same : (i : ℕ) (s : State) (k : Chain) → (go i s k).events ≡ deeds_events k (next i s k))
    (s0 : State) (k0 : Chain) where
  events_if : (b : Bool) (k : Chain) (scan_deed : Deed) (h : Happened) (ds : List Deed) → (goes_on h s0 k0 go).events ≡ deeds_events (deed_chain k scan_deed) ds
      → (goes_on (cond b (with_events (deed_events k scan_deed) h) (Lacks [])) s0 k0 go).events ≡ deeds_events k (cond b (scan_deed ∷ ds) [])
  events_if true k d h ds e = ap (λ (r : Run). r.events) (with_events_first (deed_events k d) h s0 k0 go) ∙ ap (λ t. deed_events k d ++ t) e
  events_if false k d h ds e = refl

  events_of_turn : (t : Turned) (k : Chain) → (goes_on (happens k t) s0 k0 go).events ≡ deeds_events k (deeds_of_turn k t next)
  events_of_turn (Leads ds place s) k = events_from k ds (next place s (deeds_chain k ds)) (go place s (deeds_chain k ds)).events (same place s (deeds_chain k ds))
  events_of_turn (Over ds ending s) k = refl
  events_of_turn (Broken ds f s) k = refl
  events_of_turn (Scanning ds scan rest) k =
      let l : Chain = deeds_chain k ds in
      let then : List Bool → Chain → Happened = λ bits m. happens m (rest bits) in
      let k1 : Chain = deed_chain l (Scans scan) in
      let more : List Deed = deeds_of_turn k1 (rest (captured_on l scan)) next in
      ap (λ (r : Run). r.events) (with_events_first (deeds_events k ds) (scanned_on l scan then) s0 k0 go)
      ∙ events_from k ds (cond (is_stable_state l.tap) (Scans scan ∷ more) []) (goes_on (scanned_on l scan then) s0 k0 go).events
      (events_if (is_stable_state l.tap) l (Scans scan) (then (captured_on l scan) k1) more (events_of_turn (rest (captured_on l scan)) k1))
  events_of_turn (NoTurn ds) k = refl

events_of_run : (program : Played) (n i : ℕ) (s : State) (k : Chain) → (run program n i s k).events ≡ deeds_events k (deeds_of_run program n i s k)
events_of_run program zero i s k = refl
events_of_run program (suc n) i s k = events_of_turn (run program n) (deeds_of_run program n) (events_of_run program n) s k (turn program i s) k

pub events_of_play : (program : Played) (chosen : List ℕ) (n : ℕ) (base : BaseLengths) (far : FarEnd)
    → (play program chosen n base far).events ≡ reset_events far ++ deeds_events (chain_reset base far) (deeds_of_play program chosen n (chain_reset base far))
events_of_play program chosen n base far =
    let k : Chain = chain_reset base far in
    let s : State = start chosen (zeros_of program) in
    ap (λ t. reset_events far ++ t) (events_of_turn (run program n) (deeds_of_run program n) (events_of_run program n) s k (beginning program s) k)

-- ---- quiet turns

-- a turn is quiet, and so is what follows it
abbrev pub IsQuietTurn : (Bool → ℕ → State → Chain → Type 0) → Bool → Chain → Turned → Type 0
IsQuietTurn next loaded k (Leads deeds place s) = AreQuietDeeds loaded k deeds × next (loaded_by_deeds loaded k deeds) place s (deeds_chain k deeds)
IsQuietTurn next loaded k (Over deeds ending s) = AreQuietDeeds loaded k deeds
IsQuietTurn next loaded k (Broken deeds fault s) = AreQuietDeeds loaded k deeds
IsQuietTurn next loaded k (Scanning deeds scan rest) =
    let l = deeds_chain k deeds in
    let then = loaded_by_deeds loaded k deeds in
    AreQuietDeeds loaded k deeds
    × (is_stable_state l.tap ≡ true → IsQuietDeed then l (Scans scan)
    × IsQuietTurn next (loaded_by_deed then l (Scans scan)) (deed_chain l (Scans scan)) (rest (captured_on l scan)))
IsQuietTurn next loaded k (NoTurn deeds) = AreQuietDeeds loaded k deeds

abbrev pub IsQuietRun : Played → ℕ → Bool → ℕ → State → Chain → Type 0
IsQuietRun program zero loaded i s k = Unit {0}
IsQuietRun program (suc n) loaded i s k = IsQuietTurn (IsQuietRun program n) loaded k (turn program i s)

pub quiet_parts : (xs ys : List Deed) (loaded : Bool) (k : Chain) → AreQuietDeeds loaded k (xs ++ ys)
    → AreQuietDeeds loaded k xs × AreQuietDeeds (loaded_by_deeds loaded k xs) (deeds_chain k xs) ys
quiet_parts [] ys loaded k q = (tt, q)
quiet_parts (x ∷ xs) ys loaded k q =
    let r = quiet_parts xs ys (loaded_by_deed loaded k x) (deed_chain k x) q.1 in
    ((q.0, r.0), r.1)

pub quiet_turn_of : (next : Bool → ℕ → State → Chain → Type 0) (go : ℕ → State → Chain → List Deed)
    → ((loaded : Bool) (i : ℕ) (s : State) (k : Chain) → AreQuietDeeds loaded k (go i s k) → next loaded i s k)
    → (t : Turned) (loaded : Bool) (k : Chain) → AreQuietDeeds loaded k (deeds_of_turn k t go) → IsQuietTurn next loaded k t
quiet_turn_of next go f (Leads ds place s) loaded k q =
    let r = quiet_parts ds (go place s (deeds_chain k ds)) loaded k q in
    (r.0, f (loaded_by_deeds loaded k ds) place s (deeds_chain k ds) r.1)
quiet_turn_of next go f (Over ds ending s) loaded k q = q
quiet_turn_of next go f (Broken ds b s) loaded k q = q
quiet_turn_of next go f (Scanning ds scan rest) loaded k q =
    let l : Chain = deeds_chain k ds in
    let m : Bool = loaded_by_deeds loaded k ds in
    let k1 : Chain = deed_chain l (Scans scan) in
    let more : List Deed = deeds_of_turn k1 (rest (captured_on l scan)) go in
    let r = quiet_parts ds (cond (is_stable_state l.tap) (Scans scan ∷ more) []) loaded k q in (
      r.0,
      λ st.
          let p : AreQuietDeeds m l (Scans scan ∷ more) = subst (λ b. AreQuietDeeds m l (cond b (Scans scan ∷ more) [])) st r.1 in
          (p.0, quiet_turn_of next go f (rest (captured_on l scan)) (loaded_by_deed m l (Scans scan)) k1 p.1),
    )
quiet_turn_of next go f (NoTurn ds) loaded k q = q

pub quiet_run_of : (program : Played) (n : ℕ) (loaded : Bool) (i : ℕ) (s : State) (k : Chain) → AreQuietDeeds loaded k (deeds_of_run program n i s k) → IsQuietRun program n loaded i s k
quiet_run_of program zero loaded i s k q = tt
quiet_run_of program (suc n) loaded i s k q = quiet_turn_of (IsQuietRun program n) (deeds_of_run program n) (quiet_run_of program n) (turn program i s) loaded k q
