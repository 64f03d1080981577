-- What the machine does in a run on a chain, and how many instructions it takes.
use Rattle.std.specs.Prelude.{ℕ, List}
use Rattle.stapl_meaning.specs.declared.values.Held.{Held}
use Rattle.stapl_meaning.specs.Deeds.{Chain}
use Rattle.stapl_meaning.specs.States.{State, Happened, happens, next_chosen}
use Rattle.stapl_meaning.specs.Plays.{Run, goes_on}
use Rattle.stapl_code.specs.declared.raw.CodeLists.{CodeLists}
use Rattle.stapl_code.specs.Machine.{entry_of, begins_chosen, code_run, code_play}
use Rattle.stapl_code.specs.Ticks.{counted_then, run_ticks, play_ticks}
use Rattle.stapl_code.specs.Safe.{entries_of, constants_of}

-- at most n turns from a place on, and how many instructions they take
abbrev pub run_of : CodeLists → ℕ → ℕ → State → Chain → Run
run_of code n place s k = code_run (entries_of code.procedures) (constants_of code) code.instrs n place s k

abbrev pub run_ticks_of : CodeLists → ℕ → ℕ → State → Chain → ℕ
run_ticks_of code n place s k = run_ticks (entries_of code.procedures) (constants_of code) code.instrs n place s k

-- at most n turns of the procedures that a state still has to run, and how many instructions they take
abbrev pub chosen_run : CodeLists → ℕ → State → Chain → Run
chosen_run code n s k = goes_on (happens k (next_chosen (entry_of (entries_of code.procedures)) s s.chosen)) s k (run_of code n)

abbrev pub chosen_ticks : CodeLists → ℕ → State → Chain → ℕ
chosen_ticks code n s k = counted_then (happens k (next_chosen (entry_of (entries_of code.procedures)) s s.chosen)) (run_ticks_of code n)

-- at most n turns after a prologue that came to this in a state, and how many instructions they take
abbrev pub begun_run : CodeLists → ℕ → (Chain → Happened) → State → Chain → Run
begun_run code n h s k = goes_on (begins_chosen (entry_of (entries_of code.procedures)) (h k)) s k (run_of code n)

abbrev pub begun_ticks : CodeLists → ℕ → (Chain → Happened) → Chain → ℕ
begun_ticks code n h k = counted_then (begins_chosen (entry_of (entries_of code.procedures)) (h k)) (run_ticks_of code n)

-- the prologue and at most n turns of the chosen procedures, where the variables hold this, and how many instructions
-- they take
abbrev pub play_from : CodeLists → List ℕ → List Held → ℕ → Chain → Run
play_from code chosen variables n k = code_play (entries_of code.procedures) (constants_of code) code.instrs chosen variables n k

abbrev pub play_ticks_from : CodeLists → List ℕ → List Held → ℕ → Chain → ℕ
play_ticks_from code chosen variables n k = play_ticks (entries_of code.procedures) (constants_of code) code.instrs chosen variables n k
