-- Each turn is what a play for one turn more has.
use Rattle.std.proofs.Common.{◌≡◌, ℕ, zero, suc, List, [], ◌∷◌, ◌++◌, refl, sym, ap, ◌∙◌, append_assoc, append-nil}
use Rattle.dev_card.specs.Padding.{BaseLengths}
use Rattle.dev_card.specs.FarEnds.{FarEnd}
use Rattle.stapl_meaning.specs.declared.events.Event.{Event}
use Rattle.stapl_meaning.specs.Deeds.{Chain}
use Rattle.stapl_meaning.specs.States.{State, Happened, Led, Finished, Broke, Lacks, happens}
use Rattle.stapl_meaning.specs.Scopes.{Played, zeros_of}
use Rattle.stapl_meaning.specs.Turns.{turn}
use Rattle.stapl_meaning.specs.Plays.{Run, after, goes_on, run, start, play, procedures_run, reset_events, chain_reset}
use Rattle.scan_accounts.specs.MadeTurns.{MadeTurn, happened_events, turns_after, made_turns, begins, made_play}
use Rattle.scan_accounts.specs.TurnByTurn.{AreNextTurns}

-- events before all of the plays
with_front : (es : List Event) (ts : List MadeTurn) (plays : ℕ → Run) → AreNextTurns plays ts → AreNextTurns (λ n. after es (plays n)) ts
with_front es [] plays h = tt
with_front es (t ∷ ts) plays h = (
  record {
    place = h.0.place;
    from = h.0.from;
    events = ap (λ x. es ++ x) h.0.events ∙ sym (append_assoc es (plays 0).events t.events);
  },
  with_front es ts (λ n. plays (suc n)) h.1,
)

-- what happened, and then what follows it
turns_go_on : (h : Happened) (s : State) (k : Chain) (go : ℕ → ℕ → State → Chain → Run) (next : ℕ → State → Chain → List MadeTurn)
    → ((place : ℕ) (u : State) (l : Chain) → AreNextTurns (λ n. go n place u l) (next place u l))
    → AreNextTurns (λ n. goes_on h s k (go n)) (turns_after h next)
turns_go_on (Led es place u l) s k go next h = with_front es (next place u l) (λ n. go n place u l) (h place u l)
turns_go_on (Finished es ending u l) s k go next h = tt
turns_go_on (Broke es f u l) s k go next h = tt
turns_go_on (Lacks es) s k go next h = tt

one_turn : (program : Played) (h : Happened) (s : State) (k : Chain) → (goes_on h s k (run program 0)).events ≡ happened_events h
one_turn program (Led es place u l) s k = append-nil es
one_turn program (Finished es ending u l) s k = refl
one_turn program (Broke es f u l) s k = refl
one_turn program (Lacks es) s k = refl

turns_of_run : (program : Played) (n i : ℕ) (s : State) (k : Chain) → AreNextTurns (λ m. run program m i s k) (made_turns program n i s k)
turns_of_run program zero i s k = tt
turns_of_run program (suc n) i s k =
    let h : Happened = happens k (turn program i s) in
    (record { place = refl; from = refl; events = one_turn program h s k }, turns_go_on h s k (run program) (made_turns program n) (turns_of_run program n))

pub turns_of_play : (program : Played) (chosen : List ℕ) (n : ℕ) (base : BaseLengths) (far : FarEnd)
    → AreNextTurns (λ m. play program chosen m base far) (made_play program chosen n base far).turns
turns_of_play program chosen n base far =
    let k : Chain = chain_reset base far in
    let s : State = start chosen (zeros_of program) in
    let h : Happened = begins program chosen k in
    with_front (reset_events far) (turns_after h (made_turns program n)) (λ m. procedures_run program chosen m k)
    (turns_go_on h s k (run program) (made_turns program n) (turns_of_run program n))
