-- The machine, and what a code does from zeros.
use Rattle.std.specs.Prelude.{◌≡◌, ◌≢◌, ◌≤◌, ℕ, ◌+◌, Bool, List, [], ◌++◌, reverse, Option, Some, Result, Ok, Err}
use Rattle.tap_states.specs.declared.Tap.TheVariants.{Reset}
use Rattle.dev_card.specs.Card.{Card}
use Rattle.dev_card.specs.Board.{Clock, tdos, AllIn}
use Rattle.dev_card.specs.FarEnds.{far_end}
use Rattle.dev_card.specs.Padding.{BaseLengths}
use Rattle.scan_paths.specs.declared.cable.Cable.{Ghosts as CableOf}
use Rattle.scan_paths.specs.Cables.{whole, clocks_in, WhereTold, HasMadeFront}
use Rattle.stapl_meaning.specs.declared.events.Event.{Event}
use Rattle.stapl_meaning.specs.declared.events.Ending.{Ending}
use Rattle.stapl_meaning.specs.declared.records.Record.{Record}
use Rattle.stapl_meaning.specs.declared.values.Held.{Held}
use Rattle.stapl_meaning.specs.Deeds.{Chain}
use Rattle.stapl_meaning.specs.Plays.{Run, ending_of, reset_inputs}
use Rattle.stapl_meaning.specs.Texts.{events_text}
use Rattle.stapl_code.specs.declared.raw.CodeLists.{CodeLists}
use Rattle.stapl_machine.specs.declared.running.Machine.{Machine}
use Rattle.machine_memory.specs.declared.memory.Workspace.{Workspace}
use Rattle.machine_memory.specs.Acts.{IsUnused}
use Rattle.written_cable.specs.Papers.{Puts, PutsFront}
use Rattle.written_cable.specs.declared.paper.Paper.{Ghosts as PaperOf}
use Rattle.written_cable.specs.declared.trouble.Trouble.{Trouble}
use Rattle.written_cable.specs.Signals.{signals_of}
use Rattle.written_cable.specs.Resets.{IsReset, kept_digits}
use Rattle.machine_memory.specs.RunRooms.{HasRoom}
use Rattle.machine_memory.specs.Zeros.{zeros_of_code}
use Rattle.stapl_machine.specs.Runs.{play_from, play_ticks_from}

-- the play of a code, for at most n turns of the chosen procedures, and how many instructions it takes
abbrev pub play_of : CodeLists → List ℕ → ℕ → Chain → Run
play_of code chosen n = play_from code chosen (zeros_of_code code) n

abbrev pub play_ticks_of : CodeLists → List ℕ → ℕ → Chain → ℕ
play_ticks_of code chosen n = play_ticks_from code chosen (zeros_of_code code) n

-- what the variables of a machine hold
abbrev pub variables_in : Machine → List Held
variables_in machine = machine.work.memory.variables.items

-- the records of a machine, the topmost first
abbrev pub records_in : Machine → List Record
records_in machine = reverse machine.work.memory.records.items

-- what a machine keeps for its run
abbrev pub workspace_in : Machine → Workspace
workspace_in machine = machine.work

-- the digits of the first clocks
abbrev pub digits_in : Machine → List ℕ
digits_in machine = machine.digits

-- the machine is ready for a run of this code
pub record IsReady (code : CodeLists) (machine : Machine) : Type 0 where
  pub variables_are : variables_in machine ≡ zeros_of_code code
  pub none : machine.work.operands.items ≡ []
  pub unused : IsUnused machine.work.memory
  pub room : HasRoom code machine.work

-- the same, and it has made no clock yet
pub record IsPrepared (code : CodeLists) (machine : Machine) : Type 0 where
  pub ready : IsReady code machine
  pub no_digit : digits_in machine ≡ []

-- the chain over a cable with all controllers in the reset state, with TDO bits that are still to be heard where no
-- board is told
abbrev pub chain_at : {C : Type 0} → BaseLengths → (C → Option (List Card)) → C → List Bool → Chain
chain_at base board cable heard = record { tap = Reset; base = base; far = far_end (board cable) heard }

-- Nothing of the cable is broken, and if its board is told, all controllers are in the reset state.
pub record IsResetCable {C : Type 0} (cable : CableOf C) (now : C) : Type 0 where
  pub whole_cable : cable.breakage now ≡ whole
  pub in_reset : WhereTold (cable.board now) (AllIn Reset)

-- The first clocks were made, these are their digits, and they led the cable to the reset state.
pub record Resets {C : Type 0} (cable : CableOf C) (old new : C) (digits : List ℕ) : Type 0 where
  pub reset : IsReset cable.board cable.made old new digits
  pub open_now : IsResetCable cable new

-- A front of the first clocks was made, and the cable is broken.
pub record ResetsFront {C : Type 0} (cable : CableOf C) (old new : C) : Type 0 where
  pub front : HasMadeFront cable.board cable.made old new reset_inputs
  pub broken : cable.breakage new ≢ whole

-- what a call does that makes the first clocks, by its result
abbrev pub HasReset : {C T E : Type 0} → CableOf C → C → C → List ℕ → Result T E → Type 0
HasReset cable old new digits (Ok x) = Resets cable old new digits
HasReset cable old new digits (Err e) = ResetsFront cable old new

-- A run on the far end that the cable is: its board, where that is told, else the TDO bits of the clocks that were
-- made, with any that may follow.
module _ {C O : Type 0} (cable : CableOf C) (paper : PaperOf O)
    (pins : Bool) (digits : List ℕ) (base : BaseLengths) (run : Chain → Run) (count : Chain → ℕ) where
  -- The whole text of the run was put, what was made on the cable are exactly the signals among its events, and the
  -- run, the cable and the machine stand so.
  pub record IsPlayed (old : C) (out : O) (steps : ℕ) (ending : Ending) (new : C) (new_out : O) (now : ℕ) (machine : Machine) : Type 0 where
    pub events : List Event
    pub clocks : List Clock
    pub made : cable.made old (signals_of events) new
    pub clocks_are : clocks_in (signals_of events) ≡ clocks
    pub put : Puts paper.shown out (events_text pins (kept_digits pins digits) events) new_out
    pub runs : (more : List Bool) → (run (chain_at base cable.board old (tdos clocks ++ more))).events ≡ events
    pub ended : (more : List Bool) → ending_of (run (chain_at base cable.board old (tdos clocks ++ more))).outcome ≡ Some ending
    pub far : (more : List Bool) → (run (chain_at base cable.board old (tdos clocks ++ more))).chain.far ≡ far_end (cable.board new) more
    pub variables : (more : List Bool) → (run (chain_at base cable.board old (tdos clocks ++ more))).state.store.variables ≡ variables_in machine
    pub records : (more : List Bool) → (run (chain_at base cable.board old (tdos clocks ++ more))).state.records ≡ records_in machine
    pub ticked : (more : List Bool) → now ≡ steps + count (chain_at base cable.board old (tdos clocks ++ more))

  -- The signals among its first events were made, and a front of the text of these was put.
  pub record IsPlayedFront (old : C) (out : O) (steps : ℕ) (new : C) (new_out : O) (now : ℕ) : Type 0 where
    pub events : List Event
    pub clocks : List Clock
    pub made : cable.made old (signals_of events) new
    pub clocks_are : clocks_in (signals_of events) ≡ clocks
    pub rest : List Bool → List Event
    pub runs : (more : List Bool) → (run (chain_at base cable.board old (tdos clocks ++ more))).events ≡ events ++ rest more
    pub driven : PutsFront paper.shown out (events_text pins (kept_digits pins digits) events) new_out
    pub front : (more : List Bool) → PutsFront paper.shown out (events_text pins (kept_digits pins digits) (run (chain_at base cable.board old (tdos clocks ++ more))).events) new_out
    pub most : (more : List Bool) → now ≤ steps + count (chain_at base cable.board old (tdos clocks ++ more))

  -- what a run is, by its result
  abbrev pub IsPlayedSo : C → O → ℕ → Result Ending Trouble → C → O → ℕ → Machine → Type 0
  IsPlayedSo old out steps (Ok ending) new new_out now machine = IsPlayed old out steps ending new new_out now machine
  IsPlayedSo old out steps (Err trouble) new new_out now machine = IsPlayedFront old out steps new new_out now
