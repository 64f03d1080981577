-- The room that a run has from the beginning, for operands and for the text of a Print.
use Rattle.std.specs.Prelude.{◌≡◌, ◌≤◌, ℕ, suc, length, drop, vec_capacity}
use Rattle.stapl_code.specs.declared.raw.CodeLists.{CodeLists}
use Rattle.stapl_code.specs.Depth.{depth_of}
use Rattle.stapl_code.specs.Rooms.{HoldWithin, AllHoldWithin}
use Rattle.machine_memory.specs.declared.memory.Workspace.{Workspace}
use Rattle.machine_memory.specs.declared.effects.Made.{Made}
use Rattle.machine_memory.specs.declared.effects.Made.TheVariants as made
use Rattle.machine_memory.specs.Prints.{print_room}

-- There is room for as many operands as the code holds at once, which from no place on are more than its depth, and for
-- the longest text that it prints.
pub record IsRoomFor (code : CodeLists) (operands text : ℕ) : Type 0 where
  pub depth : depth_of code ≤ operands
  pub within : AllHoldWithin (depth_of code) code.instrs
  pub prints : print_room code.texts code.instrs ≤ text

abbrev pub HasRoom : CodeLists → Workspace → Type 0
HasRoom code work = IsRoomFor code (vec_capacity work.operands) (vec_capacity work.text)

-- the room is kept, and so is the piece
abbrev pub KeepsRoom : Workspace → Workspace → Type 0
KeepsRoom old new =
    (vec_capacity old.operands ≤ vec_capacity new.operands) × (vec_capacity old.text ≤ vec_capacity new.text)

abbrev pub IsKeptBeside : Workspace → Workspace → Type 0
IsKeptBeside old new = (new.piece ≡ old.piece) × KeepsRoom old new

-- the code from an instruction on, with the operands that are there, holds at most its depth
abbrev pub HoldsFrom : CodeLists → ℕ → Workspace → Type 0
HoldsFrom code i work = HoldWithin (depth_of code) (length work.operands.items) (drop i code.instrs)

-- with what was made on top there are at most so many operands, where the turn goes on
abbrev pub IsWithin : ℕ → Made → Workspace → Type 0
IsWithin most (made.Put v) work = suc (length work.operands.items) ≤ most
IsWithin most (made.PutTwo v w) work = suc (suc (length work.operands.items)) ≤ most
IsWithin most (made.Popped v) work = suc (length work.operands.items) ≤ most
IsWithin most made.On work = length work.operands.items ≤ most
IsWithin most (made.Acts d) work = length work.operands.items ≤ most
IsWithin most (made.Scans job) work = length work.operands.items ≤ most
IsWithin most _ work = Unit {0}
