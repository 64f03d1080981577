-- Each stay of a turn follows a move to a stable state. The deeds of a turn hold no scans: those decide how it goes on,
-- and each has a bit of data.
use Rattle.std.proofs.Common.{◌≡◌, ◌<◌, ℕ, Bool, true, false, List, [], ◌∷◌, ◌++◌, length, map, refl}
use Rattle.tap_states.specs.declared.Tap.{Tap}
use Rattle.tap_states.specs.Tap.{is_stable_state}
use Rattle.stapl_meaning.specs.Deeds.{Deed, Says, Goes, Stays, Scans}
use Rattle.stapl_meaning.specs.States.{State, Turned, Leads, Over, Broken, Scanning, NoTurn}
use Rattle.stapl_meaning.specs.Scopes.{Played}
use Rattle.stapl_meaning.specs.Turns.{turn}
use Rattle.stapl_meaning.specs.Plays.{beginning}
use Rattle.stapl_meaning.proofs.Walks.{WalkRule, plain_rule, KeptTurned}
use Rattle.stapl_meaning.proofs.KeptTurns.{turn_kept, beginning_kept}

-- deeds one after another, true if the controllers are in a stable state before them
abbrev pub StayInStable : Bool → List Deed → Type 0
StayInStable b [] = Unit {0}
StayInStable b (Says event ∷ ds) = StayInStable b ds
StayInStable b (Goes to ∷ ds) = StayInStable (is_stable_state to) ds
StayInStable b (Stays n ∷ ds) = (b ≡ true) × StayInStable b ds
StayInStable b (Scans job ∷ ds) = ⊥

also_from : (b : Bool) (ds : List Deed) → StayInStable false ds → StayInStable b ds
also_from true [] h = tt
also_from true (Says event ∷ ds) h = also_from true ds h
also_from true (Goes to ∷ ds) h = h
also_from true (Stays n ∷ ds) h = (refl, also_from true ds h.1)
also_from true (Scans job ∷ ds) h = h
also_from false ds h = h

both_stay : (b : Bool) (xs ys : List Deed) → StayInStable b xs → StayInStable false ys → StayInStable b (xs ++ ys)
both_stay b [] ys h k = also_from b ys k
both_stay b (Says event ∷ xs) ys h k = both_stay b xs ys h k
both_stay b (Goes to ∷ xs) ys h k = both_stay (is_stable_state to) xs ys h k
both_stay b (Stays n ∷ xs) ys h k = (h.0, both_stay b xs ys h.1 k)
both_stay b (Scans job ∷ xs) ys h k = absurd h

moves_stay : (b : Bool) (states : List Tap) → StayInStable b (map Goes states)
moves_stay b [] = tt
moves_stay b (t ∷ ts) = moves_stay (is_stable_state t) ts

abbrev staying : WalkRule
staying = record plain_rule {
  DeedsOk = StayInStable false;
  JobOk = λ job. 0 < length job.bits;
  both_ok = both_stay false;
  moves_ok = moves_stay false;
  cycles_ok = λ at end c e. (e, tt);
  wait_ok = λ at end c u e. (e, tt);
  ir_job_ok = λ x bits h some. some;
  dr_job_ok = λ x bits h some. some;
}

-- ---- turns

abbrev pub TurnStays : Turned → Type 0
TurnStays (Leads deeds place s) = StayInStable false deeds
TurnStays (Over deeds ending s) = StayInStable false deeds
TurnStays (Broken deeds fault s) = StayInStable false deeds
TurnStays (Scanning deeds job rest) = StayInStable false deeds × (0 < length job.bits) × ((bits : List Bool) → TurnStays (rest bits))
TurnStays (NoTurn deeds) = StayInStable false deeds

stays_of : (t : Turned) → KeptTurned staying t → TurnStays t
stays_of (Leads ds place s) h = h.0
stays_of (Over ds ending s) h = h.0
stays_of (Broken ds f s) h = h.0
stays_of (Scanning ds job rest) h = (h.0, h.1, λ bits. stays_of (rest bits) (h.2 bits))
stays_of (NoTurn ds) h = h

pub turn_stays : (program : Played) (i : ℕ) (s : State) → TurnStays (turn program i s)
turn_stays program i s = stays_of (turn program i s) (turn_kept staying (λ which bits s h. (tt, tt, tt)) (λ p ps h. tt) program i s (tt, tt, tt))

pub beginning_stays : (program : Played) (s : State) → TurnStays (beginning program s)
beginning_stays program s = stays_of (beginning program s) (beginning_kept staying (λ which bits s h. (tt, tt, tt)) (λ p ps h. tt) program s (tt, tt, tt))
