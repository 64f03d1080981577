-- What stands on both sides of an operator, and after one (JESD71, expressions). That a literal 0 or 1 is taken for
-- either, and so decides nothing, is this profile's rule.
use Rattle.std.specs.Prelude.{◌≡◌, ◌≢◌, Some}
use Rattle.stapl_lexer.specs.declared.terminal.BinOp.{BinOp}
use Rattle.stapl_lexer.specs.declared.terminal.BinOp.TheVariants.{Multiply, Divide, Remainder, Add, Subtract}
use Rattle.stapl_lexer.specs.declared.terminal.BinOp.TheVariants.{ShiftLeft, ShiftRight, BitAnd, BitXor, BitOr, And, Or}
use Rattle.stapl_lexer.specs.declared.terminal.BinOp.TheVariants.{Less, AtMost, Greater, AtLeast, Equal, NotEqual}
use Rattle.stapl_syntax.specs.declared.signs.UnOp.{UnOp}
use Rattle.stapl_syntax.specs.declared.signs.UnOp.TheVariants.{Negate, Complement, Not}
use Rattle.stapl_syntax.specs.declared.names.Kind.TheVariants.{Bool as Bit}
use Rattle.stapl_syntax.specs.Kinds.{VarKinds, expr_kind}
use Rattle.stapl_syntax.specs.Trees.{ExprTree}
use Rattle.stapl_meaning.specs.declared.values.ValueKind.{ValueKind}
use Rattle.stapl_meaning.specs.declared.values.ValueKind.TheVariants as kinds

-- an operator between integers alone
pub data IsOfIntegers : BinOp → Type 0 where
  product : IsOfIntegers Multiply
  quotient : IsOfIntegers Divide
  remainder : IsOfIntegers Remainder
  sum : IsOfIntegers Add
  difference : IsOfIntegers Subtract
  shift_left : IsOfIntegers ShiftLeft
  shift_right : IsOfIntegers ShiftRight
  less : IsOfIntegers Less
  at_most : IsOfIntegers AtMost
  greater : IsOfIntegers Greater
  at_least : IsOfIntegers AtLeast

-- an operator between bits alone
pub data IsOfBits : BinOp → Type 0 where
  and : IsOfBits And
  or : IsOfBits Or

-- an operator between two integers or two bits
pub data IsOfAlike : BinOp → Type 0 where
  both : IsOfAlike BitAnd
  just_one : IsOfAlike BitXor
  either : IsOfAlike BitOr
  equal : IsOfAlike Equal
  not_equal : IsOfAlike NotEqual

-- The kind of what an operator takes from both of its sides, where names have these kinds. One side that is a bit, and
-- not either, decides for both.
pub data TakesSides (names : VarKinds) : BinOp → (a b : ExprTree) → ValueKind → Type 0 where
  integers : {op : BinOp} {a b : ExprTree} → IsOfIntegers op → TakesSides names op a b kinds.Int
  bits : {op : BinOp} {a b : ExprTree} → IsOfBits op → TakesSides names op a b kinds.Bit
  by_left : {op : BinOp} {a b : ExprTree} → IsOfAlike op → expr_kind names a ≡ Some Bit →
      TakesSides names op a b kinds.Bit
  by_right : {op : BinOp} {a b : ExprTree} → IsOfAlike op → expr_kind names b ≡ Some Bit →
      TakesSides names op a b kinds.Bit
  by_neither : {op : BinOp} {a b : ExprTree} → IsOfAlike op → expr_kind names a ≢ Some Bit →
      expr_kind names b ≢ Some Bit → TakesSides names op a b kinds.Int

-- the kind of what an operator takes that stands before it
pub data TakesOperand : UnOp → ValueKind → Type 0 where
  negated : TakesOperand Negate kinds.Int
  complemented : TakesOperand Complement kinds.Int
  turned : TakesOperand Not kinds.Bit
