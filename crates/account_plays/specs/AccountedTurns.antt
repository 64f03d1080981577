-- What a turn of a code does over a cable that never fails, with the account of its runs.
use Rattle.std.specs.Prelude.{◌≡◌, ℕ, ◌+◌, Bool, true, false, List, [], ◌++◌, length, count_by, Result, Ok, Err}
use Rattle.std.specs.Bool.{beq}
use Rattle.tap_states.specs.declared.Tap.{Tap}
use Rattle.tool_io.specs.declared.lines.Lines.{Lines}
use Rattle.tool_io.specs.declared.outside.Failed.{Failed}
use Rattle.tool_io.specs.declared.outside.Sink.{Ghosts as SinkOf}
use Rattle.tool_io.specs.Lines.{Puts, PutsFront}
use Rattle.dev_card.specs.Padding.{BaseLengths}
use Rattle.scan_paths.specs.declared.cable.Cable.{Ghosts as CableOf}
use Rattle.stapl_meaning.specs.declared.events.Event.{Event}
use Rattle.stapl_meaning.specs.Deeds.{Chain}
use Rattle.stapl_meaning.specs.States.{Happened, with_events}
use Rattle.stapl_meaning.specs.Texts.{events_text}
use Rattle.stapl_instructions.specs.declared.control.Went.{Went}
use Rattle.written_cable.specs.Signals.{signals_of}
use Rattle.scan_accounts.specs.ShiftRuns.{ShiftRun, shift_runs}
use Rattle.scan_accounts.specs.MadeTurns.{clocks_among, usec_among, happened_events}
use Rattle.scan_accounts.specs.Rooms.{FitIn}
use Rattle.scan_accounts.specs.AccountTexts.{counted}
use Rattle.account_lines.specs.declared.lines.TurnPlace.{TurnPlace}
use Rattle.run_cable.specs.KeptRuns.{Kept}
use Rattle.account_plays.specs.declared.turns.Turned.{Turned}
use Rattle.account_plays.specs.AccountTurns.{chain_of, chain_heard}
use Rattle.account_plays.specs.RunTexts.{runs_text}

-- the text of a turn from a state of the controllers on: what it writes besides, and then the lines of its runs
abbrev pub turn_text : TurnPlace → BaseLengths → Tap → List Event → List ℕ
turn_text turn base at events = events_text false [] events ++ runs_text turn base (shift_runs at (clocks_among events))

-- how many runs of these registers a turn has that scans, and of none if it does not
abbrev pub scans_if : Bool → ℕ → ℕ
scans_if true n = n
scans_if false n = 0

abbrev pub turn_scans : TurnPlace → Bool → Tap → List Event → ℕ
turn_scans turn ir at events =
    scans_if turn.scans (count_by (λ (r : ShiftRun). beq r.ir ir) (shift_runs at (clocks_among events)))

-- The sums go on by so many clocks, microseconds and scans of both kinds of registers, as they are written, and nothing
-- was lost.
pub record SumsGoOn (old : Kept) (clocks usec ir dr : ℕ) (new : Kept) : Type 0 where
  pub none_lost : new.lost ≡ false
  pub same_room : new.room ≡ old.room
  pub more_clocks : counted new.heard.clocks ≡ counted (old.heard.clocks + clocks)
  pub more_usec : counted new.heard.usec ≡ counted (old.heard.usec + usec)
  pub more_ir : counted new.heard.ir_scans ≡ counted (old.heard.ir_scans + ir)
  pub more_dr : counted new.heard.dr_scans ≡ counted (old.heard.dr_scans + dr)

-- there is room for the runs of events from a state of the controllers on
abbrev pub HasRoomFor : Kept → Tap → List Event → Type 0
HasRoomFor runs at events = FitIn runs.room.bits runs.room.runs (shift_runs at (clocks_among events))

-- and for those of a turn, whatever is still to be heard
abbrev pub TurnFindsRoom : {C : Type 0} → CableOf C → BaseLengths → (Chain → Happened) → Tap → C → Kept → Type 0
TurnFindsRoom cable base turn at old runs =
    (events : List Event) (more : List Bool) → HasRoomFor runs at (happened_events (turn (chain_heard cable base at old events more)))

module _ {C K : Type 0} (cable : CableOf C) (sink : SinkOf K) (base : BaseLengths) (said : TurnPlace) where
  -- The turn was played, and its text was put.
  pub record AccountsTurn (turn : Chain → Happened) (at : Tap) (old : C) (runs : Kept) (out : Lines K) (rest : Chain → Happened)
      (to : Tap) (new : C) (new_runs : Kept) (new_out : Lines K) : Type 0 where
    pub events : List Event
    pub made : cable.made old (signals_of events) new
    pub put : Puts sink out (turn_text said base at events) new_out
    pub does : (more : List Bool) → turn (chain_heard cable base at old events more)
        ≡ with_events events (rest (chain_of cable base to new more))
    pub sums : SumsGoOn runs (length (clocks_among events)) (usec_among events) (turn_scans said true at events)
        (turn_scans said false at events) new_runs

  -- A front of the text was put that the turn has at the far end of the cable.
  pub record AccountsFront (turn : Chain → Happened) (at : Tap) (old : C) (out new_out : Lines K) : Type 0 where
    pub events : List Event
    pub put : (more : List Bool) → PutsFront sink out
        (turn_text said base at (happened_events (turn (chain_heard cable base at old events more)))) new_out

  -- what a call does that plays a turn so, by its result
  abbrev pub HasAccounted : (Chain → Happened) → Tap → C → Kept → Lines K → Result Turned Failed → (Went → Chain → Happened) →
      C → Kept → Lines K → Type 0
  HasAccounted turn at old runs out (Ok t) rest new new_runs new_out =
      AccountsTurn turn at old runs out (rest t.went) t.tap new new_runs new_out
  HasAccounted turn at old runs out (Err failed) rest new new_runs new_out = AccountsFront turn at old out new_out
