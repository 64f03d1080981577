-- The events of a play are those of its turns, one after another.
use Rattle.std.proofs.Common.{◌≡◌, ℕ, zero, suc, List, ◌++◌, refl, ap, ◌∙◌, append_assoc, append-nil}
use Rattle.std.specs.Prelude.{flat_map}
use Rattle.dev_card.specs.Padding.{BaseLengths}
use Rattle.dev_card.specs.FarEnds.{FarEnd}
use Rattle.stapl_meaning.specs.declared.events.Event.{Event}
use Rattle.stapl_meaning.specs.Deeds.{Chain}
use Rattle.stapl_meaning.specs.States.{State, Happened, Led, Finished, Broke, Lacks, happens}
use Rattle.stapl_meaning.specs.Scopes.{Played}
use Rattle.stapl_meaning.specs.Turns.{turn}
use Rattle.stapl_meaning.specs.Plays.{Run, goes_on, run, start, play, reset_events, chain_reset}
use Rattle.stapl_meaning.specs.Scopes.{zeros_of}
use Rattle.scan_accounts.specs.MadeTurns.{MadeTurn, happened_events, turns_after, made_turns, begins, made_play, made_events}

abbrev pub turn_events : List MadeTurn → List Event
turn_events ts = flat_map (λ (t : MadeTurn). t.events) ts

events_go_on : (h : Happened) (s : State) (k : Chain) (go : ℕ → State → Chain → Run) (next : ℕ → State → Chain → List MadeTurn)
    → ((place : ℕ) (t : State) (l : Chain) → turn_events (next place t l) ≡ (go place t l).events)
    → happened_events h ++ turn_events (turns_after h next) ≡ (goes_on h s k go).events
events_go_on (Led events place t l) s k go next same = ap (λ x. events ++ x) (same place t l)
events_go_on (Finished events ending t l) s k go next same = append-nil events
events_go_on (Broke events f t l) s k go next same = append-nil events
events_go_on (Lacks events) s k go next same = append-nil events

run_events : (program : Played) (n i : ℕ) (s : State) (k : Chain) → turn_events (made_turns program n i s k) ≡ (run program n i s k).events
run_events program zero i s k = refl
run_events program (suc n) i s k = events_go_on (happens k (turn program i s)) s k (run program n) (made_turns program n) (run_events program n)

pub play_events : (program : Played) (chosen : List ℕ) (n : ℕ) (base : BaseLengths) (far : FarEnd)
    → made_events (made_play program chosen n base far) ≡ (play program chosen n base far).events
play_events program chosen n base far =
    let k : Chain = chain_reset base far in
    let s : State = start chosen (zeros_of program) in
    let h : Happened = begins program chosen k in
    append_assoc (reset_events far) (happened_events h) (turn_events (turns_after h (made_turns program n)))
    ∙ ap (λ x. reset_events far ++ x) (events_go_on h s k (run program n) (made_turns program n) (run_events program n))
