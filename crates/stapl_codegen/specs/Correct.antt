-- That a code does what a program does.
use Rattle.std.specs.Prelude.{◌≡◌, ◌≢◌, ℕ, ◌≤◌, Bool, true, false, List, [], ◌∷◌, length, map, Option, All, IfSome}
use Rattle.stapl_syntax.specs.Trees.{BodyTree, end_procedure, StmtTree}
use Rattle.stapl_syntax.specs.Statements.{is_outer}
use Rattle.stapl_meaning.specs.declared.values.Held.{Held}
use Rattle.stapl_meaning.specs.declared.records.Record.{Record}
use Rattle.stapl_meaning.specs.declared.records.Record.TheVariants.{Pushed, Called, Looped}
use Rattle.stapl_meaning.specs.Deeds.{Chain}
use Rattle.stapl_meaning.specs.States.{State}
use Rattle.stapl_meaning.specs.Plays.{Outcome, Ended, Going, Stopped, Run, procedures_run}
use Rattle.stapl_code.specs.declared.instr.Instr.{Instr}
use Rattle.stapl_code.specs.Machine.{Constants, code_play, nowhere}
use Rattle.stapl_meaning.specs.Scopes.{has_initial_value, Preset, Played, zeros_of}
use Rattle.stapl_codegen.specs.Emit.{constants_in, pieces_code, start_of, program_code, program_entries}

-- the statement may lead to the piece after it
abbrev pub falls : BodyTree → Bool
falls end_procedure = false
falls _ = true

-- a statement of a procedure stands in front
abbrev pub StandsInProcedure : List StmtTree → Type 0
StandsInProcedure [] = ⊥
StandsInProcedure (st ∷ rest) = is_outer st.body ≡ false

-- Each statement of a procedure but ENDPROC stands before another one.
abbrev pub IsClosed : List StmtTree → Type 0
IsClosed [] = Unit {0}
IsClosed (st ∷ rest) =
    (is_outer st.body ≡ false → falls st.body ≡ true → StandsInProcedure rest)
    × IsClosed rest

-- A run of the program, with the places of the code in the place of its own: that of the outcome, and those in the
-- state.

abbrev pub placed_record : (ℕ → ℕ) → Record → Record
placed_record place (Pushed z) = Pushed z
placed_record place (Called i) = Called (place i)
placed_record place (Looped l) =
    Looped (record { variable = l.variable; limit = l.limit; step = l.step; place = place l.place })

-- the places that records keep
abbrev pub placed_state : (ℕ → ℕ) → State → State
placed_state place s = record s { records = map (placed_record place) s.records }

abbrev pub placed_outcome : (ℕ → ℕ) → Outcome → Outcome
placed_outcome place (Ended ending) = Ended ending
placed_outcome place (Going i) = Going (place i)
placed_outcome place Stopped = Stopped

abbrev pub placed_run : (ℕ → ℕ) → Run → Run
placed_run place r =
    record { events = r.events; outcome = placed_outcome place r.outcome; state = placed_state place r.state; chain = r.chain }

-- The code stands for the program, if the pieces begin at these places of the code: for each choice of procedures, each
-- number of turns and each chain, its run is that of the program. The code is told by where its procedures begin, its
-- constants, its instructions, and what its variables hold at first.
abbrev pub Stands : Played → (ℕ → ℕ) → List ℕ → Constants → List Instr → List Held → Type 0
Stands program place entries constants code variables =
    (chosen : List ℕ) (n : ℕ) (k : Chain) →
    code_play entries constants code chosen variables n k ≡ placed_run place (procedures_run program chosen n k)

-- a declaration of a DATA block that is set has an initial value
abbrev pub Starts : Option Preset → Type 0
Starts preset = IfSome preset (λ (p : Preset). has_initial_value p.body ≡ true)

abbrev pub AllStart : List (Option Preset) → Type 0
AllStart presets = All Starts presets

-- the code of a program stands for it
abbrev pub CodeStands : Type 0
CodeStands = (program : Played) → IsClosed program.pieces → AllStart program.presets → pieces_code program (start_of program) 0 program.pieces ≢ [] → length (program_code program) ≤ nowhere →
    Stands program (start_of program) (program_entries program) (constants_in program) (program_code program) (zeros_of program)
