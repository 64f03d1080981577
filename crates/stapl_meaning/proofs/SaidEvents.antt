-- No turn says a clock, and neither does the beginning of a play.
use Rattle.std.proofs.Common.{ℕ, List, [], ◌∷◌, ◌++◌, map, refl}
use Rattle.tap_states.specs.declared.Tap.{Tap}
use Rattle.stapl_meaning.specs.Deeds.{Deed, Says, Goes, Stays, Scans}
use Rattle.stapl_meaning.specs.SaidEvents.{SayNoClock, TurnSaysNoClock}
use Rattle.stapl_meaning.specs.States.{State, Turned, Leads, Over, Broken, Scanning, NoTurn}
use Rattle.stapl_meaning.specs.Scopes.{Played}
use Rattle.stapl_meaning.specs.Turns.{turn}
use Rattle.stapl_meaning.specs.Plays.{beginning}
use Rattle.stapl_meaning.proofs.Walks.{WalkRule, plain_rule, KeptTurned}
use Rattle.stapl_meaning.proofs.KeptTurns.{turn_kept, beginning_kept}

both_say : (xs ys : List Deed) → SayNoClock xs → SayNoClock ys → SayNoClock (xs ++ ys)
both_say [] ys h k = k
both_say (Says event ∷ xs) ys h k = (h.0, both_say xs ys h.1 k)
both_say (Goes to ∷ xs) ys h k = both_say xs ys h k
both_say (Stays n ∷ xs) ys h k = both_say xs ys h k
both_say (Scans job ∷ xs) ys h k = both_say xs ys h k

moves_say : (states : List Tap) → SayNoClock (map Goes states)
moves_say [] = tt
moves_say (t ∷ ts) = moves_say ts

abbrev said : WalkRule
said = record plain_rule {
  DeedsOk = SayNoClock;
  both_ok = both_say;
  says_ok = λ event e. (e, tt);
  moves_ok = moves_say;
  usec_ok = λ at end u. (refl, tt);
  wait_ok = λ at end c u e. (refl, tt);
}

said_by : (t : Turned) → KeptTurned said t → TurnSaysNoClock t
said_by (Leads ds place s) h = h.0
said_by (Over ds ending s) h = h.0
said_by (Broken ds f s) h = h.0
said_by (Scanning ds job rest) h = (h.0, λ bits. said_by (rest bits) (h.2 bits))
said_by (NoTurn ds) h = h

pub turn_says : (program : Played) (i : ℕ) (s : State) → TurnSaysNoClock (turn program i s)
turn_says program i s = said_by (turn program i s) (turn_kept said (λ which bits s h. (tt, tt, tt)) (λ p ps h. tt) program i s (tt, tt, tt))

pub beginning_says : (program : Played) (s : State) → TurnSaysNoClock (beginning program s)
beginning_says program s = said_by (beginning program s) (beginning_kept said (λ which bits s h. (tt, tt, tt)) (λ p ps h. tt) program s (tt, tt, tt))
