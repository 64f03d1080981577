-- What an instruction does to the kinds of the operands, the topmost first. The rules are this profile's.
use Rattle.std.specs.Prelude.{ℕ, ◌==◌, Bool, true, false, List, [], ◌∷◌, Option, Some, None, is_some, slice_get, if◌then◌else◌}
use Rattle.std.specs.List.{list_all}
use Rattle.stapl_meaning.specs.declared.values.ValueKind.{ValueKind}
use Rattle.stapl_meaning.specs.declared.values.ValueKind.TheVariants as kinds
use Rattle.stapl_code.specs.declared.raw.VarDef.{VarDef}
use Rattle.stapl_code.specs.declared.instr.Instr.{Instr}
use Rattle.stapl_code.specs.declared.instr.Instr.TheVariants.{Turn, For, Next, Call, Jump, JumpIfZero, EndProc, Exit}
use Rattle.stapl_code.specs.Machine.{Slot, Of, OfScalar, OfElement, Want, AnInteger, ABoolean, AnArray, OfBits, OfInts, takes, gives, wants}

-- the kinds below this one, where it is the topmost
abbrev pub off : ValueKind → List ValueKind → Option (List ValueKind)
off k [] = None
off kinds.Int (kinds.Int ∷ ks) = Some ks
off kinds.Int (kinds.Bit ∷ ks) = None
off kinds.Bit (kinds.Int ∷ ks) = None
off kinds.Bit (kinds.Bit ∷ ks) = Some ks

-- goes on with the kinds that are left
abbrev pub then_kinds : Option (List ValueKind) → (List ValueKind → Option (List ValueKind)) → Option (List ValueKind)
then_kinds None go = None
then_kinds (Some ks) go = go ks

-- the kind of what a scalar holds; an array is no operand
abbrev pub scalar_kind : ℕ → Option ValueKind
scalar_kind kind = if kind == 0 then Some kinds.Int else (if kind == 1 then Some kinds.Bit else None)

abbrev pub variable_kind : Option VarDef → Option ValueKind
variable_kind None = None
variable_kind (Some v) = scalar_kind v.kind

-- the kind of an element of an array
abbrev pub item_kind : ℕ → Option ValueKind
item_kind kind = if kind == 2 then Some kinds.Int else (if kind == 3 then Some kinds.Bit else None)

abbrev pub element_kind : Option VarDef → Option ValueKind
element_kind None = None
element_kind (Some v) = item_kind v.kind

-- the variable is of this kind
abbrev pub is_of_kind : ℕ → Option VarDef → Bool
is_of_kind kind None = false
is_of_kind kind (Some v) = v.kind == kind

-- a kind on top
abbrev pub put_on : Option ValueKind → List ValueKind → Option (List ValueKind)
put_on None ks = None
put_on (Some k) ks = Some (k ∷ ks)

-- a kind taken off
abbrev pub taken_off : Option ValueKind → List ValueKind → Option (List ValueKind)
taken_off None ks = None
taken_off (Some k) ks = off k ks

-- the kinds where no operand is left, if none may be left
abbrev pub left_by : Bool → List ValueKind → Option (List ValueKind)
left_by true [] = Some []
left_by true (k ∷ ks) = None
left_by false ks = Some ks

-- no operand may be left after what the instruction takes
abbrev pub clears : Instr → Bool
clears (Turn piece) = true
clears (For n body) = true
clears (Next n) = true
clears (Call p) = true
clears (Jump to) = true
clears (JumpIfZero to) = true
clears EndProc = true
clears Exit = true
clears _ = false

module _ (variables : List VarDef) where
  -- the kind of an operand
  abbrev pub slot_kind : Slot → Option ValueKind
  slot_kind (Of k) = Some k
  slot_kind (OfScalar n) = variable_kind (slice_get variables n)
  slot_kind (OfElement n) = element_kind (slice_get variables n)

  -- a variable is what it has to be
  abbrev pub is_met : Want → Bool
  is_met (AnInteger n) = is_of_kind 0 (slice_get variables n)
  is_met (ABoolean n) = is_of_kind 1 (slice_get variables n)
  is_met (AnArray n) = is_some (element_kind (slice_get variables n))
  is_met (OfBits n) = is_of_kind 3 (slice_get variables n)
  is_met (OfInts n) = is_of_kind 2 (slice_get variables n)

  -- the kinds below these, of which the last one is the topmost
  abbrev pub all_off : List Slot → List ValueKind → Option (List ValueKind)
  all_off [] ks = Some ks
  all_off (slot ∷ wanted) ks = then_kinds (all_off wanted ks) (taken_off (slot_kind slot))

  -- these kinds on top
  abbrev pub all_on : List Slot → List ValueKind → Option (List ValueKind)
  all_on [] ks = Some ks
  all_on (slot ∷ given) ks = then_kinds (put_on (slot_kind slot) ks) (all_on given)

  -- the kinds after an instruction, or none where it does not find its operands or a variable is not what it has to be
  abbrev pub kinds_moved : Instr → List ValueKind → Option (List ValueKind)
  kinds_moved x ks = then_kinds (all_off (takes x) ks) (λ below. then_kinds (left_by (clears x) below) (all_on (gives x)))

  abbrev pub kinds_after : Instr → List ValueKind → Option (List ValueKind)
  kinds_after x ks = if list_all is_met (wants x) then kinds_moved x ks else None
