-- Which instructions of a code break a rule, with one case for each rule, and the first one that does. It says without
-- a search which codes are valid. The rules are this profile's.
use Rattle.std.specs.Prelude.{◌≡◌, ◌≢◌, ℕ, ◌+◌, ◌-◌, ◌<◌, ◌≤◌, ◌↔◌, false, List, [], length, Contains}
use Rattle.tap_states.specs.declared.Tap.{Tap}
use Rattle.tap_states.specs.Tap.{is_stable_state}
use Rattle.stapl_meaning.specs.declared.values.ValueKind.{ValueKind}
use Rattle.stapl_code.specs.declared.raw.CodeLists.{CodeLists}
use Rattle.stapl_code.specs.declared.instr.Instr.{Instr}
use Rattle.stapl_code.specs.declared.instr.Instr.TheVariants.{Turn}
use Rattle.valid_codes.specs.declared.valid.ValidateRefused.TheVariants.{Invalid}
use Rattle.stapl_code.specs.Machine.{Want, wants}
use Rattle.stapl_code.specs.Ranges.{IsInRange}
use Rattle.stapl_code.specs.Valid.{IsValid}
use Rattle.valid_codes.specs.Refusals.{NamesFirst}
use Rattle.code_rules.specs.Places.{StandsAt, BeginsAt, IsOfPrologue, IsOfProcedure, EndsPart}
use Rattle.code_rules.specs.Instructions.{IsTurnInstr, IsEndProc, SetsUp, Empties, Departs, HasTarget, WantsStable}
use Rattle.code_rules.specs.KindMoves.{HasWanted, MovesKinds, KindsBefore}

-- a Turn of the procedure of instruction i
pub record IsTurnBeside (code : CodeLists) (i to : ℕ) : Type 0 where
  pub entry : ℕ
  pub piece : ℕ
  pub here : IsOfProcedure code entry i
  pub there : IsOfProcedure code entry to
  pub turn : StandsAt code to (Turn piece)

-- Instruction i, which is this one, breaks a rule.
pub data RuleBreak (code : CodeLists) (i : ℕ) (x : Instr) : Type 0 where
  -- It is in the prologue, and is none that sets up.
  foreign_in_prologue : IsOfPrologue code i → (SetsUp x → ⊥) → RuleBreak code i x
  -- It is the last one of the prologue, and an operand is left after it.
  left_by_prologue : (kinds after : List ValueKind) → IsOfPrologue code i → EndsPart code i →
      KindsBefore code i kinds → MovesKinds code.variables x kinds after → after ≢ [] → RuleBreak code i x
  -- A procedure begins with it, and it is no Turn.
  begins_without_turn : BeginsAt code i → (IsTurnInstr x → ⊥) → RuleBreak code i x
  -- A procedure ends with it, and it is no EndProc.
  ends_without_end : (entry : ℕ) → IsOfProcedure code entry i → EndsPart code i → (IsEndProc x → ⊥) → RuleBreak code i x
  -- It is an EndProc, and no procedure ends with it.
  end_elsewhere : IsEndProc x → ((entry : ℕ) → IsOfProcedure code entry i → EndsPart code i → ⊥) → RuleBreak code i x
  -- It does not find operands of its kinds, or what it gives has no kind.
  operands_missing : (kinds : List ValueKind) → KindsBefore code i kinds →
      ((after : List ValueKind) → MovesKinds code.variables x kinds after → ⊥) → RuleBreak code i x
  -- A variable is not of the kind that it wants.
  variable_of_other_kind : (want : Want) → Contains (wants x) want → (HasWanted code.variables want → ⊥) →
      RuleBreak code i x
  -- It is a Turn, and an operand is left before it.
  left_before_turn : (kinds : List ValueKind) → IsTurnInstr x → KindsBefore code i kinds → kinds ≢ [] →
      RuleBreak code i x
  -- An operand is left after it, and none may be.
  left_after : (kinds after : List ValueKind) → Empties x → KindsBefore code i kinds →
      MovesKinds code.variables x kinds after → after ≢ [] → RuleBreak code i x
  -- Its target is no Turn of the same procedure.
  target_elsewhere : (to : ℕ) → HasTarget x to → (IsTurnBeside code i to → ⊥) → RuleBreak code i x
  -- The instruction before it, in the same procedure, is one that a Turn follows, and it is no Turn.
  no_turn_follows : (entry before : ℕ) (departing : Instr) → before + 1 ≡ i → StandsAt code before departing →
      Departs departing → IsOfProcedure code entry before → IsOfProcedure code entry i → (IsTurnInstr x → ⊥) →
      RuleBreak code i x
  -- A state in which it leaves the chain is not stable.
  unstable_state : (t : Tap) → WantsStable x t → is_stable_state t ≡ false → RuleBreak code i x

-- A procedure begins at a number that no instruction has. The last instruction breaks this rule, or number 0 if there
-- is no instruction.
pub record BeginsPastTheEnd (code : CodeLists) (i : ℕ) : Type 0 where
  pub entry : ℕ
  pub begins : BeginsAt code entry
  pub past : length code.instrs ≤ entry
  pub last : i ≡ length code.instrs - 1

-- Instruction i breaks a rule.
pub data BreaksRule (code : CodeLists) (i : ℕ) : Type 0 where
  instruction : (x : Instr) → StandsAt code i x → RuleBreak code i x → BreaksRule code i
  past_the_end : BeginsPastTheEnd code i → BreaksRule code i

-- instruction i breaks a rule, and none before it does
pub record IsFirstBreak (code : CodeLists) (i : ℕ) : Type 0 where
  pub breaks : BreaksRule code i
  pub first : (earlier : ℕ) → earlier < i → BreaksRule code earlier → ⊥

-- `Invalid i` names an instruction of a code in range exactly if it is the first one that breaks a rule.
abbrev pub NamesFirstBreak : Type 0
NamesFirstBreak = (code : CodeLists) → IsInRange code → (i : ℕ) → NamesFirst (Invalid i) code ↔ IsFirstBreak code i

-- A code in range is valid exactly if no instruction breaks a rule.
abbrev pub ValidBreaksNone : Type 0
ValidBreaksNone = (code : CodeLists) → IsInRange code → IsValid code ↔ ((i : ℕ) → BreaksRule code i → ⊥)
