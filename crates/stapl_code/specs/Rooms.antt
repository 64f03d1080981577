-- How many operands instructions leave, by counts alone, and how much room they need where they run straight on.
use Rattle.std.specs.Prelude.{ℕ, ◌+◌, ◌-◌, ◌≤◌, List, [], ◌∷◌, length, drop}
use Rattle.stapl_meaning.specs.declared.values.Value.{Value}
use Rattle.stapl_meaning.specs.States.{State}
use Rattle.stapl_code.specs.declared.raw.CodeLists.{CodeLists}
use Rattle.stapl_code.specs.declared.instr.Instr.{Instr}
use Rattle.stapl_code.specs.Machine.{Constants, Step, Falls, Acts, Scanned, takes, gives, step}
use Rattle.stapl_code.specs.Ranges.{IsInRange}
use Rattle.stapl_code.specs.Valid.{IsValid}
use Rattle.stapl_code.specs.Depth.{depth_of}

-- how many operands are left after an instruction that found n of them
abbrev pub count_after : Instr → ℕ → ℕ
count_after x n = (n - length (takes x)) + length (gives x)

-- these instructions, where the first finds n operands, never hold more than the room
abbrev pub HoldWithin : ℕ → ℕ → List Instr → Type 0
HoldWithin room n [] = n ≤ room
HoldWithin room n (x ∷ rest) = (n ≤ room) × HoldWithin room (count_after x n) rest

-- the same from each place of a code on, where no operand is there at first
abbrev pub AllHoldWithin : ℕ → List Instr → Type 0
AllHoldWithin room instrs = (place : ℕ) → HoldWithin room 0 (drop place instrs)

-- where a step goes on to the instruction after it, at most n operands are left
abbrev pub LeavesAtMost : Step → ℕ → Type 0
LeavesAtMost (Falls ops s) n = length ops ≤ n
LeavesAtMost (Acts deeds ops s) n = length ops ≤ n
LeavesAtMost (Scanned scan ops lands) n = length ops ≤ n
LeavesAtMost _ n = Unit {0}

-- A valid code that runs straight on from any place holds no more operands than its depth.
abbrev pub CodesHoldTheirDepth : Type 0
CodesHoldTheirDepth = (code : CodeLists) → IsInRange code → IsValid code → AllHoldWithin (depth_of code) code.instrs

-- A step that goes on to the instruction after it leaves no more operands than the table says.
abbrev pub StepsLeaveTheirCount : Type 0
StepsLeaveTheirCount =
    (entries : List ℕ) (constants : Constants) (here : ℕ) (i : Instr) (ops : List Value) (s : State) →
    LeavesAtMost (step entries constants here i ops s) (count_after i (length ops))
