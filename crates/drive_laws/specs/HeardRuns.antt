-- What a play over a wire has heard, and the play on the board of the link at the other end of the wire. A play is
-- given here for each far end of its chain. The link is the one of the protocol remote bitbang; the rules are this
-- profile's.
use Rattle.std.specs.Prelude.{◌≡◌, ℕ, Bool, List, ◌++◌, Some, map}
use Rattle.dev_card.specs.Card.{Card}
use Rattle.dev_card.specs.Board.{Input, tdos}
use Rattle.dev_card.specs.FarEnds.{FarEnd, Told, Heard, far_clocks}
use Rattle.scan_paths.specs.Cables.{clocks_in, input_of}
use Rattle.stapl_meaning.specs.declared.events.Event.{Event}
use Rattle.stapl_meaning.specs.declared.events.Ending.{Ending}
use Rattle.stapl_meaning.specs.Plays.{Run, ending_of}
use Rattle.written_cable.specs.Signals.{signals_of}
use Rattle.link_server.specs.Clients.{answers_of}

-- what goes in at the clocks among events
abbrev pub inputs_in : List Event → List Input
inputs_in events = map input_of (clocks_in (signals_of events))

-- Two far ends answer the clocks with these inputs alike.
abbrev pub AnswerAlike : FarEnd → FarEnd → List Input → Type 0
AnswerAlike a b inputs = far_clocks a inputs ≡ far_clocks b inputs

-- Two runs have the same events, stand alike, and leave the same state. Only their chains may differ.
pub record IsSameRun (r q : Run) : Type 0 where
  pub same_events : q.events ≡ r.events
  pub same_outcome : q.outcome ≡ r.outcome
  pub same_state : q.state ≡ r.state

-- A run has these events and comes to this ending.
pub record HasGone (r : Run) (events : List Event) (ending : Ending) : Type 0 where
  pub events_are : r.events ≡ events
  pub ending_is : ending_of r.outcome ≡ Some ending

-- the far end that gives the TDO bits of the clocks among these events, and then any that may follow
abbrev pub heard_at : List Event → List Bool → FarEnd
heard_at events more = Heard (tdos (clocks_in (signals_of events)) ++ more)

-- A play has these events and comes to this ending where it hears the TDO bits of their clocks, whatever it would hear
-- after them.
abbrev pub HasHeard : (FarEnd → Run) → List Event → Ending → Type 0
HasHeard plays events ending = (more : List Bool) → HasGone (plays (heard_at events more)) events ending

-- The first of these answers are the digits of the clocks among these events, as a client of a link receives them.
pub record HasReceived (events : List Event) (answers : List ℕ) : Type 0 where
  pub unread : List ℕ
  pub parts : answers ≡ answers_of (signals_of events) ++ unread

-- A play has these events and comes to this ending on a board, and leaves it as that one.
pub record HasGoneOn (plays : FarEnd → Run) (board : List Card) (events : List Event) (ending : Ending)
    (left : List Card) : Type 0 where
  pub gone : HasGone (plays (Told board)) events ending
  pub leaves : (plays (Told board)).chain.far ≡ Told left
