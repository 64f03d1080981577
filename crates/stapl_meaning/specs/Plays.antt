-- Runs and plays on a chain. Source: JESD71, actions and procedures. The bound on turns and the five clocks at the
-- start are this profile's.
use Rattle.std.specs.Prelude.{ℕ, zero, suc, List, [], ◌∷◌, ◌++◌, Option, Some, None}
use Rattle.tap_states.specs.declared.Tap.TheVariants.{Reset, Idle}
use Rattle.tap_states.specs.Path.{five_ones}
use Rattle.dev_card.specs.Board.{Input}
use Rattle.dev_card.specs.Clocks.{with_zero}
use Rattle.dev_card.specs.Padding.{BaseLengths}
use Rattle.dev_card.specs.FarEnds.{FarEnd, far_clocks, far_after}
use Rattle.stapl_meaning.specs.declared.events.Event.{Event}
use Rattle.stapl_meaning.specs.declared.events.Ending.{Ending}
use Rattle.stapl_meaning.specs.declared.events.Ending.TheVariants.{Spent}
use Rattle.stapl_meaning.specs.declared.values.Held.{Held}
use Rattle.stapl_meaning.specs.Deeds.{Chain, pulses}
use Rattle.stapl_meaning.specs.States.{ScanSettings, State, Turned, Leads, begun, Happened, Led, Finished, Broke, Lacks, happens}
use Rattle.stapl_meaning.specs.Scopes.{Preset, Played, entry_from, preset_scope, zeros_of}
use Rattle.stapl_meaning.specs.Turns.{carried, turn}

-- How a run stands: it has ended, it still goes on from a place, or it found nothing to do, which no accepted program
-- meets.
pub data Outcome : Type 0 where
  Ended : Ending → Outcome
  Going : (place : ℕ) → Outcome
  Stopped : Outcome

-- a run: its events, how it stands, and the state and the chain after its last turn
pub record Run : Type 0 where
  pub events : List Event
  pub outcome : Outcome
  pub state : State
  pub chain : Chain

-- events, and then a run
abbrev pub after : List Event → Run → Run
after events run = record run { events = events ++ run.events }

-- what a turn from a state on a chain came to, and then what follows it
abbrev pub goes_on : Happened → State → Chain → (ℕ → State → Chain → Run) → Run
goes_on (Led events place t l) s k go = after events (go place t l)
goes_on (Finished events ending t l) s k go = record { events = events; outcome = Ended ending; state = t; chain = l }
goes_on (Broke events f t l) s k go = record { events = events; outcome = Stopped; state = s; chain = k }
goes_on (Lacks events) s k go = record { events = events; outcome = Stopped; state = s; chain = k }

-- at most n turns from a place, a state and a chain on
abbrev pub run : Played → ℕ → ℕ → State → Chain → Run
run program zero i s k = record { events = []; outcome = Going i; state = s; chain = k }
run program (suc n) i s k = goes_on (happens k (turn program i s)) s k (run program n)

-- a run, and then what follows it where it still goes on
abbrev pub continued : Outcome → Run → (ℕ → State → Chain → Run) → Run
continued (Ended ending) r go = r
continued (Going place) r go = after r.events (go place r.state r.chain)
continued Stopped r go = r

abbrev pub then_runs : Run → (ℕ → State → Chain → Run) → Run
then_runs r go = continued r.outcome r go

-- the state when a play of these procedures starts: scans have no padding, and end in IDLE
abbrev pub first_settings : ScanSettings
first_settings = record { pre = []; post = []; stop = Idle }

abbrev pub start : List ℕ → List Held → State
start chosen variables =
    record { chosen = chosen; records = []; store = record { variables = variables }; ir = first_settings; dr = first_settings }

-- what a piece presets is set, if it does, and then what follows it
abbrev pub preset_done : Played → Option Preset → State → (State → Turned) → Turned
preset_done program None s go = go s
preset_done program (Some preset) s go = carried (preset_scope program preset) preset.body s go

-- The initial values of DATA blocks are set, one after the other. This takes no turn, and leads to no place of its own.
abbrev pub set_up : Played → List (Option Preset) → State → Turned
set_up program [] s = Leads [] 0 s
set_up program (preset ∷ presets) s = preset_done program preset s (set_up program presets)

-- the beginning of a play: DATA blocks are set, and then the first chosen procedure begins
abbrev pub beginning : Played → State → Turned
beginning program s = begun (entry_from program.pieces) (set_up program program.presets s)

-- the chosen procedures on a chain, for at most n turns; beginning them takes no turn
abbrev pub procedures_run : Played → List ℕ → ℕ → Chain → Run
procedures_run program chosen n k =
    let s = start chosen (zeros_of program) in goes_on (happens k (beginning program s)) s k (run program n)

-- A play begins with five clocks with TMS 1, which bring each controller to the reset state, and count no turn.
abbrev pub reset_inputs : List Input
reset_inputs = with_zero five_ones

abbrev pub reset_events : FarEnd → List Event
reset_events far = pulses (far_clocks far reset_inputs)

abbrev pub chain_reset : BaseLengths → FarEnd → Chain
chain_reset base far = record { tap = Reset; base = base; far = far_after far reset_inputs }

-- the play of the chosen procedures, for at most n turns, whose scans have this base padding
abbrev pub play : Played → List ℕ → ℕ → BaseLengths → FarEnd → Run
play program chosen n base far = after (reset_events far) (procedures_run program chosen n (chain_reset base far))

-- the ending of a run that stands so: one that still goes on has spent its turns
abbrev pub ending_of : Outcome → Option Ending
ending_of (Ended ending) = Some ending
ending_of (Going place) = Some Spent
ending_of Stopped = None

-- the run still goes on
abbrev pub IsGoing : Outcome → Type 0
IsGoing (Going place) = Unit {0}
IsGoing _ = ⊥
