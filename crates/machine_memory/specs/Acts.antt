-- What the machine does at an instruction.
use Rattle.std.specs.Prelude.{◌≡◌, ℕ, List, [], ◌∷◌, ◌++◌, map, true, drop, reverse, Option, Some, None, Result, Ok, Err}
use Rattle.tap_states.specs.declared.Tap.{Tap}
use Rattle.tap_states.specs.Tap.{is_stable_state}
use Rattle.stapl_meaning.specs.declared.events.Event.TheVariants.{Print, Usec, Hertz}
use Rattle.stapl_meaning.specs.Deeds.{Deed, Says, Goes, Stays}
use Rattle.stapl_meaning.specs.Plays.{first_settings}
use Rattle.stapl_meaning.specs.declared.records.Record.{Record}
use Rattle.stapl_meaning.specs.declared.values.Value.{Value}
use Rattle.stapl_meaning.specs.declared.values.Held.{Held}
use Rattle.stapl_meaning.specs.Values.{Got, Known, Faults, Stuck}
use Rattle.stapl_meaning.specs.States.{ScanSettings, State, Leads, Over, next_chosen, jumps_to}
use Rattle.stapl_meaning.specs.States as did
use Rattle.stapl_code.specs.declared.instr.Instr.{Instr}
use Rattle.stapl_code.specs.declared.instr.Instr.TheVariants.{State as GoThrough}
use Rattle.stapl_code.specs.declared.raw.CodeLists.{CodeLists}
use Rattle.stapl_code.specs.Machine.{Constants, Puts, PutsFrom, PutsTwo, Does, Step, Falls, Scanned, Stops, Faulted, Wrong, acted, entry_of, step}
use Rattle.stapl_code.specs.Machine as machine
use Rattle.stapl_code.specs.Safe.{entries_of, constants_of}
use Rattle.machine_memory.specs.declared.operate.Stop.{Stop}
use Rattle.machine_memory.specs.declared.operate.Stop.TheVariants as stop
use Rattle.machine_memory.specs.declared.effects.Made.{Made}
use Rattle.machine_memory.specs.declared.effects.Made.TheVariants as made
use Rattle.machine_memory.specs.declared.effects.Wait.{Wait}
use Rattle.machine_memory.specs.declared.effects.Doing.{Doing}
use Rattle.machine_memory.specs.declared.effects.Doing.TheVariants as doing
use Rattle.machine_memory.specs.declared.memory.Memory.{Memory}
use Rattle.machine_memory.specs.declared.memory.Shifted.{Shifted}
use Rattle.machine_memory.specs.declared.memory.Workspace.{Workspace}
use Rattle.machine_memory.specs.Exports.{export_event}
use Rattle.machine_memory.specs.Jobs.{job_scan, job_lands, CanBeDone}

-- the state with these procedures still to run, these records, the topmost first, these settings of scans, and these
-- variables
abbrev pub state_with : List ℕ → List Record → ScanSettings → ScanSettings → List Held → State
state_with chosen records ir dr variables =
    record { chosen = chosen; records = records; store = record { variables = variables }; ir = ir; dr = dr }

-- the same of what a memory holds
abbrev pub state_in : List ℕ → Memory → State
state_in chosen memory = state_with chosen (reverse memory.records.items) memory.ir memory.dr memory.variables.items

-- nothing was recorded, and nothing set
pub record IsUnused (memory : Memory) : Type 0 where
  pub no_record : memory.records.items ≡ []
  pub ir_first : memory.ir ≡ first_settings
  pub dr_first : memory.dr ≡ first_settings

-- what tells the deeds: the text of the last Print, what instructions name by number, the states of the instruction,
-- and the bits of the last scan
pub record Told : Type 0 where
  pub text : List ℕ
  pub constants : Constants
  pub states : List Tap
  pub shifted : Shifted

-- the states that an instruction moves the chain through
abbrev pub states_of : Instr → List Tap
states_of (GoThrough states) = states
states_of _ = []

abbrev pub told_by : CodeLists → Instr → List ℕ → Memory → Told
told_by code i text memory =
    record { text = text; constants = constants_of code; states = states_of i; shifted = memory.shifted }

-- a stay and a pause, if there is one
abbrev pub stays_for : Option ℕ → List Deed
stays_for None = []
stays_for (Some n) = Stays n ∷ []

abbrev pub pauses_for : Option ℕ → List Deed
pauses_for None = []
pauses_for (Some n) = Says (Usec n) ∷ []

abbrev pub waited_deeds : Wait → List Deed
waited_deeds w = Goes w.at ∷ (stays_for w.cycles ++ (pauses_for w.usec ++ Goes w.last ∷ []))

-- the deeds of what is still to be done, where the variables hold this
abbrev pub deeds_told : Told → List Held → Doing → List Deed
deeds_told told variables doing.Prints = Says (Print told.text) ∷ []
deeds_told told variables (doing.Exports e) = Says (export_event told.constants variables e) ∷ []
deeds_told told variables doing.Moves = map Goes told.states
deeds_told told variables (doing.Waits w) = waited_deeds w
deeds_told told variables (doing.Tunes n) = Says (Hertz n) ∷ []

-- a wait stays in a stable state
abbrev pub RestsIn : Doing → Type 0
RestsIn (doing.Waits w) = is_stable_state w.at ≡ true
RestsIn _ = Unit {0}

-- What was made, from one state to another. Values, other than one that was taken off the records, and a fault leave
-- the state as it is.
abbrev pub IsMade : Result Made Stop → Told → State → State → Got machine.Made → Type 0
IsMade (Ok (made.Put v)) told old new g = (g ≡ Known (Puts v)) × (new ≡ old)
IsMade (Ok (made.PutTwo v w)) told old new g = (g ≡ Known (PutsTwo v w)) × (new ≡ old)
IsMade (Ok (made.Popped v)) told old new g = g ≡ Known (PutsFrom v new)
IsMade (Ok made.On) told old new g = g ≡ Known (Does (did.Falls [] new))
IsMade (Ok (made.Acts d)) told old new g =
    (g ≡ Known (Does (did.Falls (deeds_told told new.store.variables d) new))) × RestsIn d
IsMade (Ok (made.Scans job)) told old new g =
    (g ≡ Known (Does (did.Captures (job_scan told.shifted job new) (job_lands told.shifted job new))))
    × CanBeDone new.store.variables told.shifted job
IsMade (Ok made.Jump) told old new g = g ≡ Known (Does (did.Jumps new))
IsMade (Ok (made.Resume place)) told old new g = g ≡ Known (Does (did.Resumes place new))
IsMade (Ok made.Returned) told old new g = g ≡ Known (Does (did.Returns new))
IsMade (Ok (made.Over ending)) told old new g = g ≡ Known (Does (did.Ends ending new))
IsMade (Err (stop.Fault k)) told old new g = (g ≡ Faults k) × (new ≡ old)
IsMade (Err stop.Wrong) told old new g = g ≡ Stuck

-- the state of these registers, where these procedures were chosen
abbrev pub state_of : List ℕ → Workspace → State
state_of chosen work = state_in (drop work.next chosen) work.memory

-- the operands, the topmost first
abbrev pub operands_of : Workspace → List Value
operands_of work = reverse work.operands.items

-- an instruction of a code, at a place
abbrev pub step_of : CodeLists → ℕ → Instr → List ℕ → Workspace → Step
step_of code here instr chosen work =
    step (entries_of code.procedures) (constants_of code) here instr (operands_of work) (state_of chosen work)

-- the step of this instruction with this target that made this
abbrev pub stepped : CodeLists → Instr → Option ℕ → List ℕ → Made → Workspace → Step
stepped code i to chosen (made.Put v) work = Falls (v ∷ operands_of work) (state_of chosen work)
stepped code i to chosen (made.PutTwo v w) work = Falls (w ∷ v ∷ operands_of work) (state_of chosen work)
stepped code i to chosen (made.Popped v) work = Falls (v ∷ operands_of work) (state_of chosen work)
stepped code i to chosen made.On work = Falls (operands_of work) (state_of chosen work)
stepped code i to chosen (made.Acts d) work =
    acted (deeds_told (told_by code i work.text.items work.memory) work.memory.variables.items d) (operands_of work) (state_of chosen work)
stepped code i to chosen (made.Scans job) work =
    Scanned (job_scan work.memory.shifted job (state_of chosen work)) (operands_of work) (job_lands work.memory.shifted job (state_of chosen work))
stepped code i to chosen made.Jump work = Stops (operands_of work) (jumps_to to (state_of chosen work))
stepped code i to chosen (made.Resume place) work = Stops (operands_of work) (Leads [] place (state_of chosen work))
stepped code i to chosen made.Returned work =
    Stops (operands_of work) (next_chosen (entry_of (entries_of code.procedures)) (state_of chosen work) (drop work.next chosen))
stepped code i to chosen (made.Over ending) work = Stops (operands_of work) (Over [] ending (state_of chosen work))

-- where a wait is still to be done, it stays in a stable state, and a scan can be done
abbrev pub RestsAfter : Made → Memory → Type 0
RestsAfter (made.Acts d) memory = RestsIn d
RestsAfter (made.Scans job) memory = CanBeDone memory.variables.items memory.shifted job
RestsAfter _ memory = Unit {0}

-- an answer as a step
abbrev pub IsActed : Result Made Stop → CodeLists → Instr → Option ℕ → List ℕ → Workspace → Step → Type 0
IsActed (Ok m) code i to chosen work st = (st ≡ stepped code i to chosen m work) × RestsAfter m work.memory
IsActed (Err (stop.Fault k)) code i to chosen work st = st ≡ Faulted k (state_of chosen work)
IsActed (Err stop.Wrong) code i to chosen work st = st ≡ Wrong
