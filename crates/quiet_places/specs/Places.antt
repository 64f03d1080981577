-- Where a run goes on after its turns.
use Rattle.std.specs.Prelude.{◌≡◌, ◌<◌, ◌^◌, ℕ, Bool, List, [], length, Option, Some}
use Rattle.tap_states.specs.declared.Tap.TheVariants.{Reset}
use Rattle.dev_card.specs.Card.{Card}
use Rattle.dev_card.specs.Board.{Clock}
use Rattle.dev_card.specs.FarEnds.{Told}
use Rattle.dev_card.specs.Padding.{BaseLengths}
use Rattle.scan_paths.specs.declared.cable.Cable.{Ghosts as CableOf}
use Rattle.scan_paths.specs.Cables.{Signal}
use Rattle.stapl_meaning.specs.declared.events.Event.{Event}
use Rattle.stapl_meaning.specs.Deeds.{Chain}
use Rattle.stapl_meaning.specs.Plays.{Run, Going, chain_reset}
use Rattle.written_cable.specs.declared.paper.Paper.{Ghosts as PaperOf}
use Rattle.written_cable.specs.declared.pin_cable.PinCable.{PinCable}
use Rattle.written_cable.specs.Pins.{cable_of, IsSamePort}
use Rattle.written_cable.specs.Ports.{IsOpenPort, Passes, chain_before}
use Rattle.stapl_code.specs.declared.raw.CodeLists.{CodeLists}
use Rattle.machine_memory.specs.declared.memory.Workspace.{Workspace}
use Rattle.machine_memory.specs.Acts.{IsUnused}
use Rattle.machine_memory.specs.RunRooms.{HasRoom}
use Rattle.machine_memory.specs.Zeros.{zeros_of_code}

-- The turns of a run can be done from here: the instructions of the code can be counted, nothing of the port is broken,
-- it is in step, and the workspace has room for each turn.
pub record CanTurn {C O : Type 0} (cable : CableOf C) (paper : PaperOf O) (code : CodeLists) (work : Workspace) (port : PinCable C O) : Type 0 where
  pub countable : length code.instrs < 2 ^ 32
  pub open_port : IsOpenPort cable paper port
  pub room : HasRoom code work

-- A workspace is as at the start of a play of a code: its variables hold zeros, it holds neither operand nor record, and
-- it has room for the play.
pub record IsFreshFor (code : CodeLists) (work : Workspace) : Type 0 where
  pub variables : work.memory.variables.items ≡ zeros_of_code code
  pub none : work.operands.items ≡ []
  pub unused : IsUnused work.memory
  pub room : HasRoom code work

-- A run over a port goes on at this place after its turns.
pub record GoesOnAt {C O : Type 0} (cable : CableOf C) (paper : PaperOf O)
    (all : Chain → Run) (old : PinCable C O) (place : ℕ) (new : PinCable C O) : Type 0 where
  pub events : List Event
  pub clocks : List Clock
  pub passed : Passes cable paper old events clocks new
  pub goes : (more : List Bool) → (all (chain_before cable paper old clocks more)).outcome ≡ Going place

-- Signals were made on the cable of a port, and the port stands over the same parts.
pub record MakesOn {C O : Type 0} (makes : C → List Signal → C → Type 0) (old new : PinCable C O) : Type 0 where
  pub same : IsSamePort old new
  pub signals : List Signal
  pub made : makes (cable_of old) signals (cable_of new)

-- where the cable tells its board, whose controllers are in the reset state, a run on it goes on at this place
abbrev pub GoesOnOver : {C : Type 0} → (C → Option (List Card)) → BaseLengths → (Chain → Run) → C → ℕ → Type 0
GoesOnOver board base run cable place =
    (cs : List Card) → board cable ≡ Some cs →
    (run (record { tap = Reset; base = base; far = Told cs })).outcome ≡ Going place

-- the same of a play over a cable that makes the first clocks
abbrev pub GoesOnTold : {C : Type 0} → (C → Option (List Card)) → BaseLengths → (Chain → Run) → C → ℕ → Type 0
GoesOnTold board base run cable place =
    (cs : List Card) → board cable ≡ Some cs → (run (chain_reset base (Told cs))).outcome ≡ Going place
