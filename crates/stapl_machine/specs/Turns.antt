-- What the machine does in a turn on a chain, and how many instructions it takes.
use Rattle.std.specs.Prelude.{ℕ, ◌+◌, ◌<◌, ◌^◌, List, length, drop, Option, Some, None}
use Rattle.stapl_meaning.specs.Deeds.{Chain}
use Rattle.stapl_meaning.specs.States.{State, Happened, happened_in_piece}
use Rattle.stapl_code.specs.declared.instr.Instr.{Instr}
use Rattle.stapl_code.specs.declared.instr.Instr.TheVariants.{Turn}
use Rattle.stapl_code.specs.declared.raw.CodeLists.{CodeLists}
use Rattle.stapl_code.specs.Machine.{stretch, code_turn}
use Rattle.stapl_code.specs.Ticks.{ticks, turn_ticks}
use Rattle.stapl_code.specs.Safe.{entries_of, constants_of}
use Rattle.machine_memory.specs.declared.memory.Workspace.{Workspace}
use Rattle.stapl_instructions.specs.declared.control.Went.{Went}
use Rattle.machine_memory.specs.Acts.{state_of, operands_of}
use Rattle.stapl_instructions.specs.Moves.{led_on, IsClean}
use Rattle.machine_memory.specs.RunRooms.{HasRoom, HoldsFrom}

-- the rest of a turn from an instruction on, and how many instructions it takes
abbrev pub rest_of : CodeLists → ℕ → List ℕ → Workspace → Chain → Happened
rest_of code i chosen work k =
    happened_in_piece work.piece
    (stretch (entries_of code.procedures) (constants_of code) (length code.instrs) (drop i code.instrs) (operands_of work) (state_of chosen work) k)

abbrev pub ticks_from : CodeLists → ℕ → List ℕ → Workspace → Chain → ℕ
ticks_from code i chosen work k =
    ticks (entries_of code.procedures) (constants_of code) (length code.instrs) (drop i code.instrs) (operands_of work) (state_of chosen work) k

-- The instructions of a code can be counted, and a workspace has room for it, also for what follows instruction i.
pub record HasRoomFrom (code : CodeLists) (i : ℕ) (work : Workspace) : Type 0 where
  pub countable : length code.instrs < 2 ^ 32
  pub room : HasRoom code work
  pub few : HoldsFrom code i work

-- where a turn led takes no instruction more
abbrev pub no_ticks : Chain → ℕ
no_ticks k = 0

-- what follows an instruction, which may have ended the turn
abbrev pub after_it : CodeLists → ℕ → List ℕ → Workspace → Option Went → Chain → Happened
after_it code i chosen work None = rest_of code (i + 1) chosen work
after_it code i chosen work (Some went) = led_on went (state_of chosen work)

abbrev pub ticks_after_it : CodeLists → ℕ → List ℕ → Workspace → Option Went → Chain → ℕ
ticks_after_it code i chosen work None = ticks_from code (i + 1) chosen work
ticks_after_it code i chosen work (Some went) = no_ticks

abbrev pub IsCleanAfter : CodeLists → ℕ → Option Went → Workspace → Type 0
IsCleanAfter code i None work = HoldsFrom code (i + 1) work
IsCleanAfter code i (Some went) work = IsClean went work.operands.items

-- the piece of a Turn
abbrev pub piece_of : Option Instr → Option ℕ
piece_of (Some (Turn piece)) = Some piece
piece_of _ = None

-- the turn at a place, and how many instructions it takes
abbrev pub turn_at : CodeLists → ℕ → State → Chain → Happened
turn_at code place s k = code_turn (entries_of code.procedures) (constants_of code) code.instrs place s k

abbrev pub ticks_at : CodeLists → ℕ → State → Chain → ℕ
ticks_at code place s k = turn_ticks (entries_of code.procedures) (constants_of code) code.instrs place s k
