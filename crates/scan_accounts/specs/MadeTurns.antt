-- The turns of a play, as they were made on a chain: of each its piece, whether its statement scans, the state of the
-- controllers before it, and what it gave. Source: JESD71, statements, IRSCAN and DRSCAN.
use Rattle.std.specs.Prelude.{ℕ, zero, suc, ◌+◌, Bool, true, false, List, [], ◌∷◌, ◌++◌, slice_get, flat_map}
use Rattle.std.specs.Option.{option_map_or}
use Rattle.tap_states.specs.declared.Tap.{Tap}
use Rattle.dev_card.specs.Board.{Clock}
use Rattle.dev_card.specs.Padding.{BaseLengths}
use Rattle.dev_card.specs.FarEnds.{FarEnd}
use Rattle.stapl_syntax.specs.Trees.{BodyTree, scan, if_then}
use Rattle.stapl_meaning.specs.declared.events.Event.{Event}
use Rattle.stapl_meaning.specs.declared.events.Event.TheVariants.{Print, Export, Usec, Hertz}
use Rattle.stapl_meaning.specs.declared.events.Event.TheVariants as events
use Rattle.stapl_meaning.specs.Deeds.{Chain}
use Rattle.stapl_meaning.specs.States.{State, Happened, Led, Finished, Broke, Lacks, happens}
use Rattle.stapl_meaning.specs.Scopes.{Played, zeros_of}
use Rattle.stapl_meaning.specs.Turns.{turn}
use Rattle.stapl_meaning.specs.Plays.{start, beginning, reset_events, chain_reset}

-- the statement is an IRSCAN or a DRSCAN, or an IF over one
abbrev pub does_scan : BodyTree → Bool
does_scan (scan register count source to compare) = true
does_scan (if_then e body) = does_scan body
does_scan _ = false

-- the statement at this place does
abbrev pub scans_at : Played → ℕ → Bool
scans_at program i = option_map_or (λ st. does_scan st.body) (slice_get program.pieces i) false

-- a turn that was made: the place of its piece, counted from 0, whether its statement scans, the state of the
-- controllers before it, and its events
pub record MadeTurn : Type 0 where
  pub place : ℕ
  pub scans : Bool
  pub from : Tap
  pub events : List Event

-- the events of what happened in a turn
abbrev pub happened_events : Happened → List Event
happened_events (Led events place s k) = events
happened_events (Finished events ending s k) = events
happened_events (Broke events fault s k) = events
happened_events (Lacks events) = events

-- the turn that is made at a place, in a state and on a chain
abbrev pub made_turn : Played → ℕ → State → Chain → MadeTurn
made_turn program i s k = record {
  place = i;
  scans = scans_at program i;
  from = k.tap;
  events = happened_events (happens k (turn program i s));
}

-- the turns that follow what happened: those from the place to which it led, and none if it led to none
abbrev pub turns_after : Happened → (ℕ → State → Chain → List MadeTurn) → List MadeTurn
turns_after (Led events place s k) go = go place s k
turns_after _ go = []

-- the turns of a run, at most n, from a place, a state and a chain on
abbrev pub made_turns : Played → ℕ → ℕ → State → Chain → List MadeTurn
made_turns program zero i s k = []
made_turns program (suc n) i s k =
    made_turn program i s k ∷ turns_after (happens k (turn program i s)) (made_turns program n)

-- A play as it was made: the base padding of its scans, the events before its first turn, which are the five first
-- clocks and what the initial values of DATA blocks give (in each program nothing), and its turns.
pub record MadePlay : Type 0 where
  pub base : BaseLengths
  pub first : List Event
  pub turns : List MadeTurn

-- what happens when the chosen procedures begin, on a chain that was reset
abbrev pub begins : Played → List ℕ → Chain → Happened
begins program chosen k = happens k (beginning program (start chosen (zeros_of program)))

-- the play of the chosen procedures, for at most n turns
abbrev pub made_play : Played → List ℕ → ℕ → BaseLengths → FarEnd → MadePlay
made_play program chosen n base far =
    let begun = begins program chosen (chain_reset base far) in record {
      base = base;
      first = reset_events far ++ happened_events begun;
      turns = turns_after begun (made_turns program n);
    }

-- all its events
abbrev pub made_events : MadePlay → List Event
made_events play = play.first ++ flat_map (λ (t : MadeTurn). t.events) play.turns

-- the clocks among events
abbrev pub clocks_among : List Event → List Clock
clocks_among [] = []
clocks_among (events.Clock tms tdi tdo ∷ es) = record { tms = tms; tdi = tdi; tdo = tdo } ∷ clocks_among es
clocks_among (Print bytes ∷ es) = clocks_among es
clocks_among (Export key value ∷ es) = clocks_among es
clocks_among (Usec n ∷ es) = clocks_among es
clocks_among (Hertz n ∷ es) = clocks_among es

-- the microseconds of the waits among events, together
abbrev pub usec_among : List Event → ℕ
usec_among [] = 0
usec_among (Usec n ∷ es) = n + usec_among es
usec_among (_ ∷ es) = usec_among es
