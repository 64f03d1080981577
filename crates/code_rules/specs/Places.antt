-- Where the instructions of a code are: in the prologue, or in a procedure. Instructions are told by their numbers,
-- from 0. The rules are this profile's.
use Rattle.std.specs.Prelude.{◌≡◌, ℕ, ◌+◌, ◌<◌, ◌≤◌, ◌⊎◌, length, Some, slice_get}
use Rattle.stapl_code.specs.declared.raw.CodeLists.{CodeLists}
use Rattle.stapl_code.specs.declared.instr.Instr.{Instr}
use Rattle.stapl_code.specs.Safe.{entries_of}

-- instruction i is this one
abbrev pub StandsAt : CodeLists → ℕ → Instr → Type 0
StandsAt code i x = slice_get code.instrs i ≡ Some x

-- procedure p begins at this number
abbrev pub IsEntryOf : CodeLists → ℕ → ℕ → Type 0
IsEntryOf code p entry = slice_get (entries_of code.procedures) p ≡ Some entry

-- a procedure begins at this number
pub record BeginsAt (code : CodeLists) (entry : ℕ) : Type 0 where
  pub procedure : ℕ
  pub entry_is : IsEntryOf code procedure entry

-- Instruction i is in the prologue: each procedure begins after it. If there is no procedure, each instruction is.
abbrev pub IsOfPrologue : CodeLists → ℕ → Type 0
IsOfPrologue code i = (entry : ℕ) → BeginsAt code entry → i < entry

-- instruction i is in the procedure that begins at this entry: not before it, and before each later entry
pub record IsOfProcedure (code : CodeLists) (entry i : ℕ) : Type 0 where
  pub begins : BeginsAt code entry
  pub from : entry ≤ i
  pub before : (later : ℕ) → BeginsAt code later → entry < later → i < later

-- instruction i is the first one of the prologue or of a procedure
abbrev pub BeginsPart : CodeLists → ℕ → Type 0
BeginsPart code i = (i ≡ 0) ⊎ BeginsAt code i

-- instruction i is the last one of the prologue or of a procedure: no other follows, or a procedure begins after it
abbrev pub EndsPart : CodeLists → ℕ → Type 0
EndsPart code i = (i + 1 ≡ length code.instrs) ⊎ BeginsAt code (i + 1)
