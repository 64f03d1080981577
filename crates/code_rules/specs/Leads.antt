-- Where the turns of a valid code begin, and where they lead. The rules are this profile's.
use Rattle.std.specs.Prelude.{◌≡◌, ℕ, ◌+◌, List, length, Contains, Some, slice_get}
use Rattle.stapl_meaning.specs.declared.values.Held.{Held}
use Rattle.stapl_meaning.specs.Deeds.{Chain}
use Rattle.stapl_meaning.specs.Plays.{Outcome, Going}
use Rattle.stapl_code.specs.declared.raw.CodeLists.{CodeLists}
use Rattle.stapl_code.specs.declared.instr.Instr.TheVariants.{Turn, Call}
use Rattle.stapl_code.specs.Machine.{code_play}
use Rattle.stapl_code.specs.Ranges.{IsInRange}
use Rattle.stapl_code.specs.Valid.{IsValid}
use Rattle.stapl_code.specs.Safe.{entries_of, constants_of, AllBelow}
use Rattle.code_rules.specs.Places.{StandsAt, IsEntryOf, IsOfProcedure}
use Rattle.code_rules.specs.Rules.{IsTurnBeside}

-- a Call of the procedure that begins at this entry is in front of this place
pub record FollowsCall (code : CodeLists) (entry place : ℕ) : Type 0 where
  pub before : ℕ
  pub procedure : ℕ
  pub entry_is : IsEntryOf code procedure entry
  pub call : StandsAt code before (Call procedure)
  pub next : before + 1 ≡ place

-- Where a turn may lead, if it begins at a place of a valid code of which these procedures are chosen.
pub data MayLead (code : CodeLists) (chosen : List ℕ) (from to : ℕ) : Type 0 where
  -- to a Turn of the same procedure
  goes_inside : IsTurnBeside code from to → MayLead code chosen from to
  -- to the beginning of a procedure, of which a Call is in this one
  calls : (entry here p : ℕ) → IsOfProcedure code entry from → IsOfProcedure code entry here →
      StandsAt code here (Call p) → IsEntryOf code p to → MayLead code chosen from to
  -- back to what follows a Call of this procedure
  goes_back : (entry : ℕ) → IsOfProcedure code entry from → FollowsCall code entry to → MayLead code chosen from to
  -- to the beginning of a chosen procedure
  begins_next : (p : ℕ) → Contains chosen p → IsEntryOf code p to → MayLead code chosen from to

-- A valid code, of which these procedures are played. They exist.
pub record ArePlayable (code : CodeLists) (chosen : List ℕ) : Type 0 where
  pub range : IsInRange code
  pub valid : IsValid code
  pub exist : AllBelow (length code.procedures) chosen

-- how a play stands after at most n turns, with these first values of variables and this chain
abbrev pub outcome_after : CodeLists → List ℕ → List Held → Chain → ℕ → Outcome
outcome_after code chosen variables k n =
    (code_play (entries_of code.procedures) (constants_of code) code.instrs chosen variables n k).outcome

-- The first turn begins where the first chosen procedure does.
abbrev pub FirstTurnsBegin : Type 0
FirstTurnsBegin =
    (code : CodeLists) (chosen : List ℕ) → ArePlayable code chosen → (variables : List Held) (k : Chain) (place : ℕ) →
    outcome_after code chosen variables k 0 ≡ Going place →
    (p : ℕ) × (slice_get chosen 0 ≡ Some p) × IsEntryOf code p place

-- Each turn begins at a Turn.
abbrev pub TurnsBeginAtTurns : Type 0
TurnsBeginAtTurns =
    (code : CodeLists) (chosen : List ℕ) → ArePlayable code chosen → (variables : List Held) (k : Chain) (n place : ℕ) →
    outcome_after code chosen variables k n ≡ Going place → (piece : ℕ) × StandsAt code place (Turn piece)

-- Each turn leads where it may.
abbrev pub TurnsLeadWell : Type 0
TurnsLeadWell =
    (code : CodeLists) (chosen : List ℕ) → ArePlayable code chosen → (variables : List Held) (k : Chain) →
    (n from to : ℕ) → outcome_after code chosen variables k n ≡ Going from →
    outcome_after code chosen variables k (n + 1) ≡ Going to → MayLead code chosen from to
