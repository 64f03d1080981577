-- What instructions do to the kinds of operands. The end of a list of kinds is its top. The rules are this profile's.
use Rattle.std.specs.Prelude.{◌≡◌, ℕ, suc, List, [], ◌∷◌, ◌++◌, ◌⊎◌, Some, slice_get}
use Rattle.stapl_meaning.specs.declared.values.ValueKind.{ValueKind}
use Rattle.stapl_meaning.specs.declared.values.ValueKind.TheVariants.{Int, Bit}
use Rattle.stapl_code.specs.declared.raw.VarDef.{VarDef}
use Rattle.stapl_code.specs.declared.raw.CodeLists.{CodeLists}
use Rattle.stapl_code.specs.declared.instr.Instr.{Instr}
use Rattle.stapl_code.specs.Machine.{Slot, Of, OfScalar, OfElement, Want, AnInteger, ABoolean, AnArray, OfBits, OfInts, takes, gives}
use Rattle.code_rules.specs.Places.{StandsAt, BeginsPart}

-- the number of a scalar's kind, and of the kind of an array of such elements
abbrev pub scalar_number : ValueKind → ℕ
scalar_number Int = 0
scalar_number Bit = 1

abbrev pub array_number : ValueKind → ℕ
array_number Int = 2
array_number Bit = 3

-- the variables of a code
module _ (variables : List VarDef) where
  -- variable n is of the kind of this number
  pub record IsVariableOf (kind n : ℕ) : Type 0 where
    pub variable : VarDef
    pub there : slice_get variables n ≡ Some variable
    pub kind_is : variable.kind ≡ kind

  -- an operand of a slot is of this kind
  abbrev pub IsOfSlot : Slot → ValueKind → Type 0
  IsOfSlot (Of k) kind = k ≡ kind
  IsOfSlot (OfScalar n) kind = IsVariableOf (scalar_number kind) n
  IsOfSlot (OfElement n) kind = IsVariableOf (array_number kind) n

  -- operands of these slots are of these kinds, one after the other
  abbrev pub AreOfSlots : List Slot → List ValueKind → Type 0
  AreOfSlots [] [] = Unit {0}
  AreOfSlots (slot ∷ slots) (kind ∷ kinds) = IsOfSlot slot kind × AreOfSlots slots kinds
  AreOfSlots _ _ = ⊥

  -- a variable is what it has to be
  abbrev pub HasWanted : Want → Type 0
  HasWanted (AnInteger n) = IsVariableOf 0 n
  HasWanted (ABoolean n) = IsVariableOf 1 n
  HasWanted (AnArray n) = IsVariableOf 2 n ⊎ IsVariableOf 3 n
  HasWanted (OfBits n) = IsVariableOf 3 n
  HasWanted (OfInts n) = IsVariableOf 2 n

  -- The instruction finds the operands that it takes on top of others, and puts those that it gives onto these others.
  pub record MovesKinds (x : Instr) (kinds after : List ValueKind) : Type 0 where
    pub others : List ValueKind
    pub taken : List ValueKind
    pub given : List ValueKind
    pub takes_them : AreOfSlots (takes x) taken
    pub gives_them : AreOfSlots (gives x) given
    pub kinds_are : kinds ≡ others ++ taken
    pub after_are : after ≡ others ++ given

-- The kinds of the operands before instruction i. There is none before the first instruction of the prologue and of a
-- procedure, and from there on each instruction moves them.
pub data KindsBefore (code : CodeLists) : ℕ → List ValueKind → Type 0 where
  at_first : {i : ℕ} → BeginsPart code i → KindsBefore code i []
  moved : {i : ℕ} {kinds after : List ValueKind} → (x : Instr) → KindsBefore code i kinds → StandsAt code i x →
      (BeginsPart code (suc i) → ⊥) → MovesKinds code.variables x kinds after → KindsBefore code (suc i) after
