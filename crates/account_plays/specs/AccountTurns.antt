-- What one turn of a code does over a cable and a paper, between two states of the controllers. Where the cable tells no
-- board, the TDO bits of its clocks answer, and whatever is still to be heard.
use Rattle.std.specs.Prelude.{◌≡◌, ◌<◌, ◌^◌, ℕ, Bool, false, List, [], ◌++◌, length, Result, Ok, Err}
use Rattle.tap_states.specs.declared.Tap.{Tap}
use Rattle.dev_card.specs.Board.{tdos, AllIn}
use Rattle.dev_card.specs.FarEnds.{far_end}
use Rattle.dev_card.specs.Padding.{BaseLengths}
use Rattle.scan_paths.specs.declared.cable.Cable.{Ghosts as CableOf}
use Rattle.scan_paths.specs.Cables.{clocks_in, whole, WhereTold}
use Rattle.stapl_meaning.specs.declared.events.Event.{Event}
use Rattle.stapl_meaning.specs.Deeds.{Chain}
use Rattle.stapl_meaning.specs.States.{Happened, with_events}
use Rattle.stapl_meaning.specs.Texts.{events_text}
use Rattle.stapl_code.specs.declared.raw.CodeLists.{CodeLists}
use Rattle.machine_memory.specs.declared.memory.Workspace.{Workspace}
use Rattle.machine_memory.specs.Acts.{state_of}
use Rattle.machine_memory.specs.RunRooms.{HasRoom}
use Rattle.stapl_instructions.specs.declared.control.Went.{Went}
use Rattle.written_cable.specs.Papers.{Puts, PutsFront}
use Rattle.written_cable.specs.declared.paper.Paper.{Ghosts as PaperOf}
use Rattle.written_cable.specs.declared.trouble.Trouble.{Trouble}
use Rattle.written_cable.specs.Signals.{signals_of}
use Rattle.run_cable.specs.KeptRuns.{Kept, Hears, HearsIfRoom, begun}
use Rattle.stapl_machine.specs.Turns.{rest_of, ticks_from, turn_at, ticks_at}
use Rattle.account_plays.specs.declared.turns.Part.{Part}
use Rattle.account_plays.specs.declared.turns.Part.TheVariants.{Prologue, Turn}
use Rattle.account_plays.specs.declared.turns.Turned.{Turned}

-- the chain over a cable with all controllers in a state, with TDO bits that are still to be heard
abbrev pub chain_of : {C : Type 0} → CableOf C → BaseLengths → Tap → C → List Bool → Chain
chain_of cable base at now heard = record { tap = at; base = base; far = far_end (cable.board now) heard }

-- the chain before the signals among events that were made
abbrev pub chain_heard : {C : Type 0} → CableOf C → BaseLengths → Tap → C → List Event → List Bool → Chain
chain_heard cable base at old events more = chain_of cable base at old (tdos (clocks_in (signals_of events)) ++ more)

-- nothing of a cable is broken, and if its board is told, all its controllers are in this state
pub record IsOpenCable {C : Type 0} (cable : CableOf C) (at : Tap) (now : C) : Type 0 where
  pub whole_cable : cable.breakage now ≡ whole
  pub in_step : WhereTold (cable.board now) (AllIn at)

-- a part of a play of a code, and how many instructions it takes
abbrev pub part_at : CodeLists → Part → List ℕ → Workspace → Chain → Happened
part_at code Prologue chosen work = rest_of code 0 chosen work
part_at code (Turn place) chosen work = turn_at code place (state_of chosen work)

abbrev pub part_ticks : CodeLists → Part → List ℕ → Workspace → Chain → ℕ
part_ticks code Prologue chosen work = ticks_from code 0 chosen work
part_ticks code (Turn place) chosen work = ticks_at code place (state_of chosen work)

-- a code can be played turn by turn in this workspace
pub record CanPlayTurns (code : CodeLists) (work : Workspace) : Type 0 where
  pub countable : length code.instrs < 2 ^ 32
  pub none : work.operands.items ≡ []
  pub room : HasRoom code work

-- no run any more, from this state on
abbrev pub begun_at : Tap → Kept → Kept
begun_at at runs = record runs { heard = begun at runs.heard }

module _ {C O : Type 0} (cable : CableOf C) (paper : PaperOf O) (base : BaseLengths) where
  -- The events of the turn happened, the signals among them were made, and their text was put. What is left of the
  -- turn is what it led to.
  pub record Turns (turn : Chain → Happened) (at : Tap) (old : C) (out : O) (rest : Chain → Happened) (to : Tap)
      (new : C) (new_out : O) : Type 0 where
    pub events : List Event
    pub made : cable.made old (signals_of events) new
    pub put : Puts paper.shown out (events_text false [] events) new_out
    pub does : (more : List Bool) → turn (chain_heard cable base at old events more)
        ≡ with_events events (rest (chain_of cable base to new more))

  -- The signals among its first events were made, and a front of the text of these was put.
  pub record TurnsFront (turn : Chain → Happened) (at : Tap) (old : C) (out : O) (new : C) (new_out : O) : Type 0 where
    pub events : List Event
    pub made : cable.made old (signals_of events) new
    pub put : PutsFront paper.shown out (events_text false [] events) new_out
    pub rest : List Bool → Happened
    pub does : (more : List Bool) → turn (chain_heard cable base at old events more) ≡ with_events events (rest more)

  -- what a call does that plays a turn, by its result
  abbrev pub HasTurned : (Chain → Happened) → Tap → C → O → Result Turned Trouble → (Went → Chain → Happened) → C → O → Type 0
  HasTurned turn at old out (Ok t) rest new new_out = Turns turn at old out (rest t.went) t.tap new new_out
  HasTurned turn at old out (Err e) rest new new_out = TurnsFront turn at old out new new_out

  -- The same over a cable whose runs are kept: the signals among the events were heard from this state on, and where there
  -- is room for them, nothing is lost.
  pub record TurnsKept (turn : Chain → Happened) (at : Tap) (old : C) (runs : Kept) (out : O) (rest : Chain → Happened)
      (to : Tap) (new : C) (new_runs : Kept) (new_out : O) : Type 0 where
    pub turns : Turns turn at old out rest to new new_out
    pub heard : Hears (begun_at at runs) (signals_of turns.events) new_runs
    pub fits : HearsIfRoom (begun_at at runs) (signals_of turns.events) new_runs

  -- what a call does that plays a turn so, by its result
  abbrev pub HasTurnedKept : (Chain → Happened) → Tap → C → Kept → O → Result Turned Trouble → (Went → Chain → Happened) → C → Kept →
      O → Type 0
  HasTurnedKept turn at old runs out (Ok t) rest new new_runs new_out = TurnsKept turn at old runs out (rest t.went) t.tap new new_runs new_out
  HasTurnedKept turn at old runs out (Err e) rest new new_runs new_out = TurnsFront turn at old out new new_out
