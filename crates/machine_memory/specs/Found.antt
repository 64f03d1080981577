-- What the machine's parts answer.
use Rattle.std.specs.Prelude.{◌≡◌, Bool, true, false, Result, Ok, Err}
use Rattle.stapl_meaning.specs.declared.values.Value.{Value}
use Rattle.stapl_meaning.specs.Values.{Got, Known, Faults, Stuck}
use Rattle.machine_memory.specs.declared.operate.Stop.{Stop}
use Rattle.machine_memory.specs.declared.operate.Stop.TheVariants as stop

-- why there is no answer
abbrev pub IsStopped : {A : Type 0} → Stop → Got A → Type 0
IsStopped (stop.Fault k) g = g ≡ Faults k
IsStopped stop.Wrong g = g ≡ Stuck

-- an answer as what a definition gives
abbrev pub IsGot : {A B : Type 0} → (A → Got B → Type 0) → Result A Stop → Got B → Type 0
IsGot is (Ok x) g = is x g
IsGot is (Err e) g = IsStopped e g

abbrev pub IsValue : Result Value Stop → Got Value → Type 0
IsValue r g = IsGot (λ v g. g ≡ Known v) r g

-- a value that was written, or there is no place for it
abbrev pub if_written : {A : Type 0} → Bool → A → Got A
if_written true x = Known x
if_written false x = Stuck
