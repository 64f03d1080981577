-- The faults of expressions, by the table of faults. Source: JESD71, expressions and Boolean arrays. Which faults there
-- are, and in which order they come, are this profile's rules. Parts are evaluated from left to right, so the fault of
-- a part is that of the whole if all parts to its left have values. That a part has a value is said by `value_of`.
-- Where faults come is said here by cases, one for each row of the table, and by no test of the meaning.
use Rattle.std.specs.Prelude.{◌≡◌, ℕ, ℤ, pos, ◌<◌, List, length, Option, Some, None, slice_get}
use Rattle.stapl_lexer.specs.declared.terminal.BinOp.{BinOp}
use Rattle.stapl_lexer.specs.declared.terminal.BinOp.TheVariants.{Divide, Remainder, ShiftLeft, ShiftRight}
use Rattle.stapl_syntax.specs.declared.signs.UnOp.{UnOp}
use Rattle.stapl_syntax.specs.Trees.{ExprTree, element, unary, binary, abs, int, ArrayTree, range, of_int}
use Rattle.stapl_meaning.specs.declared.events.RunFault.{RunFault}
use Rattle.stapl_meaning.specs.declared.events.RunFault.TheVariants.{DivideByZero, IndexOutOfRange, ShiftCount}
use Rattle.stapl_meaning.specs.declared.values.ValueKind.{ValueKind}
use Rattle.stapl_meaning.specs.declared.values.ValueKind.TheVariants as kinds
use Rattle.stapl_meaning.specs.declared.values.Value.{Value}
use Rattle.stapl_meaning.specs.declared.values.Value.TheVariants.{Int}
use Rattle.stapl_meaning.specs.declared.values.Held.{Held}
use Rattle.stapl_meaning.specs.declared.values.Held.TheVariants as held
use Rattle.stapl_meaning.specs.Values.{Known, Lookup, unary_side, sides, value_of}
use Rattle.meaning_laws.specs.Limits.{IsOutside, IsNoIndex}

-- how many elements a variable has, if it is an array
abbrev pub size_of : Option Held → Option ℕ
size_of (Some (held.Ints zs)) = Some (length zs)
size_of (Some (held.Bits bs)) = Some (length bs)
size_of _ = None

-- how many bits a variable has, if it is a BOOLEAN array
abbrev pub bit_count : Option Held → Option ℕ
bit_count (Some (held.Bits bs)) = Some (length bs)
bit_count _ = None

pub data IsDivision : BinOp → Type 0 where
  quotient : IsDivision Divide
  remainder : IsDivision Remainder

pub data IsShift : BinOp → Type 0 where
  to_left : IsShift ShiftLeft
  to_right : IsShift ShiftRight

-- The fault of a range of an array of so many bits: its first index is no index of the array, or the first is one and
-- the second is none. Either index may be the lower one.
pub data RangeBreaks (size : ℕ) : (first second : ℤ) → RunFault → Type 0 where
  first_outside : {first second : ℤ} → IsNoIndex size first → RangeBreaks size first second IndexOutOfRange
  second_outside : {first : ℕ} {second : ℤ} → first < size → IsNoIndex size second →
      RangeBreaks size (pos first) second IndexOutOfRange

module _ (look : Lookup) (variables : List Held) where
  -- what the variable of a name holds
  abbrev pub held_by : List ℕ → Option Held
  held_by name = slice_get variables (look.variable name)

  -- the value of an expression is this integer
  abbrev pub IsInteger : ExprTree → ℤ → Type 0
  IsInteger e z = value_of look variables kinds.Int e ≡ Known (Int z)

  mutual
    -- the fault of an expression, where a value of a kind is wanted
    pub data ExprBreaks : ValueKind → ExprTree → RunFault → Type 0 where
      -- an element: first its index, then whether it is one of the array
      of_index : {kind : ValueKind} {name : List ℕ} {e : ExprTree} {k : RunFault} → ExprBreaks kinds.Int e k →
          ExprBreaks kind (element name e) k
      index_outside : {kind : ValueKind} {name : List ℕ} {e : ExprTree} (z : ℤ) (size : ℕ) → IsInteger e z →
          size_of (held_by name) ≡ Some size → IsNoIndex size z → ExprBreaks kind (element name e) IndexOutOfRange
      -- what stands after one operator, in ABS or in INT
      of_operand : {kind : ValueKind} {op : UnOp} {e : ExprTree} {k : RunFault} → ExprBreaks (unary_side op) e k →
          ExprBreaks kind (unary op e) k
      of_absolute : {kind : ValueKind} {e : ExprTree} {k : RunFault} → ExprBreaks kinds.Int e k → ExprBreaks kind (abs e) k
      of_array : {kind : ValueKind} {a : ArrayTree} {k : RunFault} → ArrayBreaks a k → ExprBreaks kind (int a) k
      -- an operator between two expressions: first the left one, then the right one, then the operator
      of_left : {kind : ValueKind} {op : BinOp} {a b : ExprTree} {k : RunFault} → ExprBreaks (sides look op a b) a k →
          ExprBreaks kind (binary op a b) k
      of_right : {kind : ValueKind} {op : BinOp} {a b : ExprTree} {k : RunFault} (x : Value) →
          value_of look variables (sides look op a b) a ≡ Known x → ExprBreaks (sides look op a b) b k →
          ExprBreaks kind (binary op a b) k
      divides_by_zero : {kind : ValueKind} {op : BinOp} {a b : ExprTree} (x : ℤ) → IsDivision op → IsInteger a x →
          IsInteger b (pos 0) → ExprBreaks kind (binary op a b) DivideByZero
      shifts_too_far : {kind : ValueKind} {op : BinOp} {a b : ExprTree} (x z : ℤ) → IsShift op → IsInteger a x →
          IsInteger b z → IsOutside (pos 0) (pos 31) z → ExprBreaks kind (binary op a b) ShiftCount

    -- the fault of an array: of a range that of its first index, then that of its second index, then that of the range
    pub data ArrayBreaks : ArrayTree → RunFault → Type 0 where
      of_first : {name : List ℕ} {first second : ExprTree} {k : RunFault} → ExprBreaks kinds.Int first k →
          ArrayBreaks (range name first second) k
      of_second : {name : List ℕ} {first second : ExprTree} {k : RunFault} (x : Value) →
          value_of look variables kinds.Int first ≡ Known x → ExprBreaks kinds.Int second k →
          ArrayBreaks (range name first second) k
      of_range : {name : List ℕ} {first second : ExprTree} {k : RunFault} (i j : ℤ) (size : ℕ) → IsInteger first i →
          IsInteger second j → bit_count (held_by name) ≡ Some size → RangeBreaks size i j k →
          ArrayBreaks (range name first second) k
      of_integer : {e : ExprTree} {k : RunFault} → ExprBreaks kinds.Int e k → ArrayBreaks (of_int e) k
