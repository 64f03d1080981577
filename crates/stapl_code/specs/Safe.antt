-- What holds of every run of a valid code. Source of the kinds of variables: JESD71, variables. The bounds are this
-- profile's.
use Rattle.std.specs.Prelude.{◌≡◌, ◌≢◌, ℕ, ◌+◌, ◌*◌, ◌<◌, ◌≤◌, true, List, [], ◌∷◌, length, map}
use Rattle.stapl_meaning.specs.declared.values.Held.{Held}
use Rattle.stapl_meaning.specs.declared.values.Held.TheVariants as held
use Rattle.tap_states.specs.Tap.{is_stable_state}
use Rattle.stapl_meaning.specs.Deeds.{Chain}
use Rattle.stapl_meaning.specs.States.{State}
use Rattle.stapl_meaning.specs.Plays.{Stopped}
use Rattle.stapl_code.specs.declared.raw.VarDef.{VarDef}
use Rattle.stapl_code.specs.declared.raw.ProcDef.{ProcDef}
use Rattle.stapl_code.specs.declared.raw.CodeLists.{CodeLists}
use Rattle.stapl_code.specs.declared.instr.Instr.{Instr}
use Rattle.stapl_code.specs.Machine.{Constants, code_play}
use Rattle.stapl_code.specs.Ticks.{turn_ticks, play_ticks}
use Rattle.stapl_code.specs.Ranges.{IsInRange}
use Rattle.stapl_code.specs.Valid.{IsValid}
use Rattle.stapl_code.specs.Depth.{depth_of, play_held}

-- where the procedures begin
abbrev pub entries_of : List ProcDef → List ℕ
entries_of procedures = map (λ p. p.entry) procedures

-- the constants of a code
abbrev pub constants_of : CodeLists → Constants
constants_of code = record { profile = code.profile; texts = code.texts; literals = code.literals }

-- a variable holds what its kind and size say
abbrev pub Fits : VarDef → Held → Type 0
Fits v (held.Int z) = v.kind ≡ 0
Fits v (held.Bit b) = v.kind ≡ 1
Fits v (held.Ints zs) = (v.kind ≡ 2) × (length zs ≡ v.size)
Fits v (held.Bits bs) = (v.kind ≡ 3) × (length bs ≡ v.size)

abbrev pub AllFit : List VarDef → List Held → Type 0
AllFit [] [] = Unit {0}
AllFit (v ∷ vs) (h ∷ hs) = Fits v h × AllFit vs hs
AllFit _ _ = ⊥

-- these numbers are below a count
abbrev pub AllBelow : ℕ → List ℕ → Type 0
AllBelow n [] = Unit {0}
AllBelow n (p ∷ ps) = (p < n) × AllBelow n ps

-- A valid code never stops for want of an operand, at an operand of the wrong kind, where no turn begins, or at a scan
-- from a state that is not stable: whichever procedures are chosen, whatever the variables hold, however many turns
-- there are, and whatever answers the clocks. The chain is in a stable state when the play begins.
abbrev pub NeverStuck : Type 0
NeverStuck =
    (code : CodeLists) → IsInRange code → IsValid code → (chosen : List ℕ) → AllBelow (length code.procedures) chosen →
    (variables : List Held) → AllFit code.variables variables → (n : ℕ) (k : Chain) → is_stable_state k.tap ≡ true →
    (code_play (entries_of code.procedures) (constants_of code) code.instrs chosen variables n k).outcome ≢ Stopped

-- No play of a valid code holds more operands at once than its depth.
abbrev pub DepthIsKept : Type 0
DepthIsKept =
    (code : CodeLists) → IsInRange code → IsValid code → (chosen : List ℕ) → AllBelow (length code.procedures) chosen →
    (variables : List Held) → AllFit code.variables variables → (n : ℕ) (k : Chain) → is_stable_state k.tap ≡ true →
    play_held (entries_of code.procedures) (constants_of code) code.instrs chosen variables n k ≤ depth_of code

-- From one Turn to the next a code takes no more instructions than it has.
abbrev pub TurnsAreBounded : Type 0
TurnsAreBounded =
    (entries : List ℕ) (constants : Constants) (code : List Instr) (place : ℕ) (s : State) (k : Chain) →
    turn_ticks entries constants code place s k ≤ length code

-- A play takes no more instructions than the code has, for the prologue and for each of its turns.
abbrev pub PlaysAreBounded : Type 0
PlaysAreBounded =
    (entries : List ℕ) (constants : Constants) (code : List Instr) (chosen : List ℕ) (variables : List Held) (n : ℕ) (k : Chain) →
    play_ticks entries constants code chosen variables n k ≤ (n + 1) * length code
