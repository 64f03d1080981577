-- The deeds of a play for more turns: those for fewer turns, and then those of the turns after them.
use Rattle.std.proofs.Common.{◌≡◌, ℕ, zero, suc, ◌+◌, Bool, true, false, cond, List, [], ◌∷◌, ◌++◌, refl, sym, ap, ◌∙◌, append_assoc, arith}
use Rattle.std.proofs.lemmas.List.{append-nil}
use Rattle.tap_states.specs.Tap.{is_stable_state}
use Rattle.stapl_meaning.specs.declared.events.Event.{Event}
use Rattle.stapl_meaning.specs.Deeds.{Deed, Scans, Chain, deed_events, deed_chain, deeds_events, deeds_chain, captured_on}
use Rattle.stapl_meaning.specs.States.{State, Turned, Leads, Over, Broken, Scanning, NoTurn, Happened, Lacks, with_events, scanned_on, happens}
use Rattle.stapl_meaning.specs.Scopes.{Played, zeros_of}
use Rattle.stapl_meaning.specs.Turns.{turn}
use Rattle.stapl_meaning.specs.Plays.{Outcome, Ended, Going, Stopped, Run, goes_on, run, procedures_run, start, beginning}
use Rattle.padded_plays.specs.QuietPlays.{deeds_of_turn, deeds_of_run, deeds_of_play}
use Rattle.padded_plays.proofs.QuietTurns.{with_events_first}

-- the deeds of at most m turns after a run that stands so
abbrev pub deeds_after : Played → ℕ → Outcome → State → Chain → List Deed
deeds_after program m (Ended ending) s k = []
deeds_after program m (Going place) s k = deeds_of_run program m place s k
deeds_after program m Stopped s k = []

abbrev pub deeds_then : Played → ℕ → Run → List Deed
deeds_then program m r = deeds_after program m r.outcome r.state r.chain

module _ (program : Played) (n m : ℕ) (added : (i : ℕ) (s : State) (k : Chain) →
    deeds_of_run program (n + m) i s k ≡ deeds_of_run program n i s k ++ deeds_then program m (run program n i s k)) (s0 : State) (k0 : Chain) where
  added_if : (b : Bool) (es : List Event) (scan : Deed) (h : Happened) (xs ys : List Deed) → xs ≡ ys ++ deeds_then program m (goes_on h s0 k0 (run program n)) →
      cond b (scan ∷ xs) [] ≡ cond b (scan ∷ ys) [] ++ deeds_then program m (goes_on (cond b (with_events es h) (Lacks [])) s0 k0 (run program n))
  added_if true es scan h xs ys e =
      ap (λ t. scan ∷ t) (e ∙ ap (λ r. ys ++ deeds_then program m r) (sym (with_events_first es h s0 k0 (run program n))))
  added_if false es scan h xs ys e = refl

  added_turn : (t : Turned) (k : Chain) → deeds_of_turn k t (deeds_of_run program (n + m))
      ≡ deeds_of_turn k t (deeds_of_run program n) ++ deeds_then program m (goes_on (happens k t) s0 k0 (run program n))
  added_turn (Leads ds place s) k =
      let l : Chain = deeds_chain k ds in
      ap (λ t. ds ++ t) (added place s l) ∙ sym (append_assoc ds (deeds_of_run program n place s l) (deeds_then program m (run program n place s l)))
  added_turn (Over ds ending s) k = sym (append-nil ds)
  added_turn (Broken ds f s) k = sym (append-nil ds)
  added_turn (Scanning ds scan rest) k =
      let l : Chain = deeds_chain k ds in
      let then : List Bool → Chain → Happened = λ bits c. happens c (rest bits) in
      let k1 : Chain = deed_chain l (Scans scan) in
      let bits : List Bool = captured_on l scan in
      let more : List Deed = deeds_of_turn k1 (rest bits) (deeds_of_run program (n + m)) in
      let few : List Deed = deeds_of_turn k1 (rest bits) (deeds_of_run program n) in
      ap (λ t. ds ++ t) (added_if (is_stable_state l.tap) (deed_events l (Scans scan)) (Scans scan) (then bits k1) more few (added_turn (rest bits) k1))
      ∙ sym (append_assoc ds (cond (is_stable_state l.tap) (Scans scan ∷ few) []) (deeds_then program m (goes_on (scanned_on l scan then) s0 k0 (run program n))))
      ∙ ap (λ r. (ds ++ cond (is_stable_state l.tap) (Scans scan ∷ few) []) ++ deeds_then program m r)
      (sym (with_events_first (deeds_events k ds) (scanned_on l scan then) s0 k0 (run program n)))
  added_turn (NoTurn ds) k = sym (append-nil ds)

pub run_added : (program : Played) (n m i : ℕ) (s : State) (k : Chain) →
    deeds_of_run program (n + m) i s k ≡ deeds_of_run program n i s k ++ deeds_then program m (run program n i s k)
run_added program zero m i s k = let none : zero + m ≡ m = omega arith in ap (λ c. deeds_of_run program c i s k) none
run_added program (suc n) m i s k =
    let next : suc n + m ≡ suc (n + m) = omega arith in
    ap (λ c. deeds_of_run program c i s k) next ∙ added_turn program n m (run_added program n m) s k (turn program i s) k

pub play_added : (program : Played) (chosen : List ℕ) (n m : ℕ) (k : Chain) →
    deeds_of_play program chosen (n + m) k ≡ deeds_of_play program chosen n k ++ deeds_then program m (procedures_run program chosen n k)
play_added program chosen n m k =
    let s : State = start chosen (zeros_of program) in
    added_turn program n m (run_added program n m) s k (beginning program s) k
