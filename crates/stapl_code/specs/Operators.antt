-- The operators of the machine, by their numbers from 0. The numbers are this profile's.
use Rattle.std.specs.Prelude.{List, [], ◌∷◌}
use Rattle.stapl_lexer.specs.declared.terminal.BinOp.{BinOp}
use Rattle.stapl_lexer.specs.declared.terminal.BinOp.TheVariants as operators
use Rattle.stapl_syntax.specs.declared.signs.UnOp.TheVariants as signs
use Rattle.stapl_meaning.specs.declared.values.ValueKind.{ValueKind}
use Rattle.stapl_meaning.specs.declared.values.ValueKind.TheVariants as kinds
use Rattle.stapl_meaning.specs.declared.values.Value.{Value}
use Rattle.stapl_meaning.specs.Values.{Got, signed, absolute}
use Rattle.stapl_code.specs.declared.operators.Operator.{Operator}

-- an integer of two, a Boolean of two integers, a Boolean of two
abbrev arithmetic : BinOp → Operator
arithmetic op = record { op = op; sides = kinds.Int; result = kinds.Int }

abbrev comparison : BinOp → Operator
comparison op = record { op = op; sides = kinds.Int; result = kinds.Bit }

abbrev logic : BinOp → Operator
logic op = record { op = op; sides = kinds.Bit; result = kinds.Bit }

abbrev pub operator_table : List Operator
operator_table =
    arithmetic operators.Add ∷ arithmetic operators.Subtract ∷ arithmetic operators.Multiply ∷ arithmetic operators.Divide
    ∷ arithmetic operators.Remainder ∷ arithmetic operators.BitAnd ∷ arithmetic operators.BitOr ∷ arithmetic operators.BitXor
    ∷ arithmetic operators.ShiftLeft ∷ arithmetic operators.ShiftRight ∷ comparison operators.Equal
    ∷ comparison operators.NotEqual ∷ comparison operators.Less ∷ comparison operators.AtMost ∷ comparison operators.Greater
    ∷ comparison operators.AtLeast ∷ logic operators.BitAnd ∷ logic operators.BitOr ∷ logic operators.BitXor
    ∷ logic operators.And ∷ logic operators.Or ∷ logic operators.Equal ∷ logic operators.NotEqual ∷ []

-- The operators before a value, by their numbers: negation, complement, ABS and not. Of each the kind of the value,
-- which is that of the result, and the result.
abbrev pub unary_kinds : List ValueKind
unary_kinds = kinds.Int ∷ kinds.Int ∷ kinds.Int ∷ kinds.Bit ∷ []

abbrev pub unary_results : List (Value → Got Value)
unary_results = signed signs.Negate ∷ signed signs.Complement ∷ absolute ∷ signed signs.Not ∷ []
