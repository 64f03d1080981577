-- What follows instructions that were tried without the general machine.
use Rattle.std.specs.Prelude.{◌≡◌, ◌<◌, ◌≤◌, ℕ, ◌+◌, List, [], length}
use Rattle.stapl_meaning.specs.Deeds.{Chain}
use Rattle.stapl_meaning.specs.States.{Happened, Led, Lacks}
use Rattle.stapl_code.specs.declared.raw.CodeLists.{CodeLists}
use Rattle.machine_memory.specs.declared.memory.Workspace.{Workspace}
use Rattle.stapl_instructions.specs.declared.fast_path.Tried.{Tried}
use Rattle.stapl_instructions.specs.declared.fast_path.Tried.TheVariants as tried
use Rattle.stapl_machine.specs.declared.turns.Reached.{Reached}
use Rattle.stapl_machine.specs.declared.turns.Reached.TheVariants as reached
use Rattle.machine_memory.specs.Acts.{state_of}
use Rattle.machine_memory.specs.RunRooms.{HoldsFrom}
use Rattle.stapl_machine.specs.Turns.{rest_of, ticks_from, no_ticks}

-- the rest of the turn after instruction i, which was tried, and how many instructions it takes
abbrev pub after_try : CodeLists → ℕ → List ℕ → Tried → Workspace → Chain → Happened
after_try code i chosen tried.On work = rest_of code (i + 1) chosen work
after_try code i chosen (tried.To place) work = Led [] place (state_of chosen work)
after_try code i chosen tried.Not work = rest_of code i chosen work

abbrev pub ticks_after_try : CodeLists → ℕ → List ℕ → Tried → Workspace → Chain → ℕ
ticks_after_try code i chosen tried.On work = ticks_from code (i + 1) chosen work
ticks_after_try code i chosen (tried.To place) work = no_ticks
ticks_after_try code i chosen tried.Not work = ticks_from code i chosen work

-- what follows holds no more operands than there is room for, and before a turn no operand is left
abbrev pub IsCleanTry : CodeLists → ℕ → Tried → Workspace → Type 0
IsCleanTry code i tried.On work = HoldsFrom code (i + 1) work
IsCleanTry code i (tried.To place) work = work.operands.items ≡ []
IsCleanTry code i tried.Not work = HoldsFrom code i work

-- the same after some instructions
abbrev pub after_reached : CodeLists → List ℕ → Reached → Workspace → Chain → Happened
after_reached code chosen (reached.Within i) work = rest_of code i chosen work
after_reached code chosen (reached.Turn place) work = Led [] place (state_of chosen work)
after_reached code chosen reached.End work = λ k. Lacks []

abbrev pub ticks_after_reached : CodeLists → List ℕ → Reached → Workspace → Chain → ℕ
ticks_after_reached code chosen (reached.Within i) work = ticks_from code i chosen work
ticks_after_reached code chosen (reached.Turn place) work = no_ticks
ticks_after_reached code chosen reached.End work = no_ticks

-- An instruction that is reached is one of the code and none before the first one, and what follows holds no more
-- operands than there is room for; before a turn no operand is left.
abbrev pub IsReachedPlace : CodeLists → ℕ → Reached → Workspace → Type 0
IsReachedPlace code first (reached.Within i) work = ((first ≤ i) × (i < length code.instrs)) × HoldsFrom code i work
IsReachedPlace code first (reached.Turn place) work = work.operands.items ≡ []
IsReachedPlace code first reached.End work = Unit {0}
