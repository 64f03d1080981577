-- Where the machine goes after an instruction.
use Rattle.std.specs.Prelude.{◌≡◌, ◌≤◌, ℕ, List, [], length, Some, None}
use Rattle.stapl_meaning.specs.Deeds.{Chain, deeds_events, deeds_chain}
use Rattle.stapl_meaning.specs.declared.values.Value.{Value}
use Rattle.stapl_meaning.specs.States.{State, Turned, Leads, Over, NoTurn, Happened, Led, Finished, Lacks, with_events, scanned_on, happened_in_piece}
use Rattle.stapl_code.specs.declared.raw.CodeLists.{CodeLists}
use Rattle.stapl_code.specs.declared.instr.Instr.{Instr}
use Rattle.stapl_code.specs.Ticks.{counted_scan}
use Rattle.machine_memory.specs.declared.memory.Workspace.{Workspace}
use Rattle.machine_memory.specs.declared.memory.Memory.{Memory}
use Rattle.stapl_instructions.specs.declared.control.Went.{Went}
use Rattle.stapl_instructions.specs.declared.control.Went.TheVariants as went
use Rattle.stapl_instructions.specs.declared.control.Moved.{Moved}
use Rattle.stapl_instructions.specs.declared.control.Moved.TheVariants as moved
use Rattle.machine_memory.specs.Acts.{state_of, operands_of, told_by, deeds_told, RestsIn}
use Rattle.machine_memory.specs.Jobs.{job_scan, job_lands, CanBeDone}

-- where a turn led, and what that is on a chain
abbrev pub led_to : Went → State → Turned
led_to (went.On place) s = Leads [] place s
led_to (went.Over (Some ending)) s = Over [] ending s
led_to (went.Over None) s = NoTurn []

abbrev pub led_on : Went → State → Chain → Happened
led_on (went.On place) s k = Led [] place s k
led_on (went.Over (Some ending)) s k = Finished [] ending s k
led_on (went.Over None) s k = Lacks []

-- no operand is left where a turn leads on
abbrev pub IsClean : Went → List Value → Type 0
IsClean (went.On place) operands = operands ≡ []
IsClean (went.Over ending) operands = Unit {0}

-- the turn on a chain from an instruction on that moved so, and how many instructions follow it
abbrev pub moved_to : CodeLists → Instr → Moved → List ℕ → Workspace → Chain → (List Value → State → Chain → Happened) → Happened
moved_to code i moved.On chosen work k go = happened_in_piece work.piece (go (operands_of work) (state_of chosen work) k)
moved_to code i (moved.Acts d) chosen work k go =
    let deeds = deeds_told (told_by code i work.text.items work.memory) work.memory.variables.items d in
    with_events (deeds_events k deeds) (happened_in_piece work.piece (go (operands_of work) (state_of chosen work) (deeds_chain k deeds)))
moved_to code i (moved.Scans job) chosen work k go =
    let s = state_of chosen work in
    scanned_on k (job_scan work.memory.shifted job s)
    (λ bits l. happened_in_piece work.piece (go (operands_of work) (job_lands work.memory.shifted job s bits) l))
moved_to code i (moved.Ends w) chosen work k go = led_on w (state_of chosen work) k

abbrev pub moved_ticks : CodeLists → Instr → Moved → List ℕ → Workspace → Chain → (List Value → State → Chain → ℕ) → ℕ
moved_ticks code i moved.On chosen work k go = go (operands_of work) (state_of chosen work) k
moved_ticks code i (moved.Acts d) chosen work k go =
    go (operands_of work) (state_of chosen work)
    (deeds_chain k (deeds_told (told_by code i work.text.items work.memory) work.memory.variables.items d))
moved_ticks code i (moved.Scans job) chosen work k go =
    let s = state_of chosen work in
    counted_scan k (job_scan work.memory.shifted job s) (λ bits l. go (operands_of work) (job_lands work.memory.shifted job s bits) l)
moved_ticks code i (moved.Ends w) chosen work k go = 0

-- no operand is left where a turn leads on, and within the turn at most so many
abbrev pub IsCleanMove : ℕ → Moved → Workspace → Type 0
IsCleanMove most (moved.Ends w) work = IsClean w work.operands.items
IsCleanMove most _ work = length work.operands.items ≤ most

-- where a wait is still to be done, it stays in a stable state, and a scan can be done
abbrev pub RestsAfterMove : Moved → Memory → Type 0
RestsAfterMove (moved.Acts d) memory = RestsIn d
RestsAfterMove (moved.Scans job) memory = CanBeDone memory.variables.items memory.shifted job
RestsAfterMove _ memory = Unit {0}
