-- The operands of a statement: each an expression, the kind that is wanted of it, and the test that stands after it.
-- Source: JESD71, statements. That a statement takes all its operands from left to right before it does anything, and
-- tests each before the next, is this profile's rule.
use Rattle.std.specs.Prelude.{ℕ, ℤ, pos, Bool, true, false, List, [], ◌∷◌, ◌++◌, Option, None, Some, if◌then◌else◌, slice_get}
use Rattle.stapl_syntax.specs.declared.names.Kind.{Kind}
use Rattle.stapl_syntax.specs.declared.names.VarKind.{VarKind}
use Rattle.stapl_syntax.specs.declared.names.VarKind.TheVariants as variables
use Rattle.stapl_syntax.specs.Kinds.{is_bit_alone, expr_kind}
use Rattle.stapl_syntax.specs.Trees.{ExprTree, number, scalar, element, CompareTree, ArrayTree, literal as bit_literal, whole, range, of_int, PartTree, string, value, character}
use Rattle.stapl_meaning.specs.declared.events.RunFault.TheVariants.{BadChar}
use Rattle.stapl_meaning.specs.declared.values.ValueKind.{ValueKind}
use Rattle.stapl_meaning.specs.declared.values.ValueKind.TheVariants as kinds
use Rattle.stapl_meaning.specs.declared.values.Value.{Value}
use Rattle.stapl_meaning.specs.declared.values.Value.TheVariants.{Int, Bit}
use Rattle.stapl_meaning.specs.declared.values.Held.{Held}
use Rattle.stapl_meaning.specs.Values.{Got, Known, Stuck, then_get, is_index, passed, index_held, range_held, of_programs, Lookup, value_of}

-- No test; that the value is the number of a character; that it is an index of the array of a number; or that it is the
-- second index of a range of such an array, whose first index stands before it.
pub data Test : Type 0 where
  Plain : Test
  Character : Test
  Index : ℕ → Test
  Range : ℕ → Test

pub record Operand : Type 0 where
  pub expr : ExprTree
  pub kind : ValueKind
  pub test : Test

-- an operand without a test: of a kind, an integer, a Boolean; and the number of a character
abbrev pub plain : ValueKind → ExprTree → Operand
plain kind e = record { expr = e; kind = kind; test = Plain }

abbrev pub an_integer : ExprTree → Operand
an_integer e = plain kinds.Int e

abbrev pub a_boolean : ExprTree → Operand
a_boolean e = plain kinds.Bit e

abbrev pub a_character : ExprTree → Operand
a_character e = record { expr = e; kind = kinds.Int; test = Character }

-- an index of the array of a number
abbrev pub an_index : ℕ → ExprTree → Operand
an_index n e = record { expr = e; kind = kinds.Int; test = Index n }

-- both indexes of a range of the array of a number
abbrev pub a_range : ℕ → ExprTree → ExprTree → List Operand
a_range n first second = an_integer first ∷ record { expr = second; kind = kinds.Int; test = Range n } ∷ []

-- the number of a character
abbrev pub character_of : Value → Got Value
character_of (Int z) = passed (is_index z 256) BadChar (Int z)
character_of (Bit b) = Stuck

module _ (look : Lookup) (variables : List Held) where
  -- a value after its test; another may stand before it
  abbrev pub tested : Test → Option Value → Value → Got Value
  tested Plain before v = Known v
  tested Character before v = character_of v
  tested (Index n) before v = index_held (slice_get variables n) v
  tested (Range n) None v = Stuck
  tested (Range n) (Some first) v = range_held of_programs (slice_get variables n) first v

  -- the value of an operand
  abbrev pub operand_value : Option Value → Operand → Got Value
  operand_value before o = then_get (value_of look variables o.kind o.expr) (tested o.test before)

  -- the values of operands, from left to right
  abbrev pub values_after : Option Value → List Operand → Got (List Value)
  values_after before [] = Known []
  values_after before (o ∷ os) =
      then_get (operand_value before o) (λ v. then_get (values_after (Some v) os) (λ vs. Known (v ∷ vs)))

  abbrev pub values_of : List Operand → Got (List Value)
  values_of os = values_after None os

-- the kind of what is printed of an expression of this kind: a literal is an integer
abbrev pub printed_kind : Option Kind → ValueKind
printed_kind kind = if is_bit_alone kind then kinds.Bit else kinds.Int

-- the operands of the parts of a PRINT
abbrev pub part_operands : Lookup → List PartTree → List Operand
part_operands look [] = []
part_operands look (string bytes ∷ parts) = part_operands look parts
part_operands look (value e ∷ parts) = plain (printed_kind (expr_kind look.kind e)) e ∷ part_operands look parts
part_operands look (character e ∷ parts) = a_character e ∷ part_operands look parts

-- the operands of an array: the indexes of a range, or the integer
abbrev pub array_operands : Lookup → ArrayTree → List Operand
array_operands look (bit_literal bits) = []
array_operands look (whole name) = []
array_operands look (range name high low) = a_range (look.variable name) high low
array_operands look (of_int e) = an_integer e ∷ []

-- those of an array that may be left out
abbrev pub given_operands : Lookup → Option ArrayTree → List Operand
given_operands look None = []
given_operands look (Some a) = array_operands look a

-- those of where captured bits go, which is an array or a range of one
abbrev pub target_operands : Lookup → Option ArrayTree → List Operand
target_operands look (Some (range name high low)) = a_range (look.variable name) high low
target_operands look _ = []

-- those of what a scan compares with: of both arrays, and the index of an element that takes the result
abbrev pub compare_operands : Lookup → Option CompareTree → List Operand
compare_operands look None = []
compare_operands look (Some (expected, (mask, scalar name))) = array_operands look expected ++ (array_operands look mask ++ [])
compare_operands look (Some (expected, (mask, element name index))) =
    array_operands look expected ++ (array_operands look mask ++ an_index (look.variable name) index ∷ [])
compare_operands look (Some _) = []

-- the step of a FOR, which is 1 if none is written
abbrev pub step_or_one : Option ExprTree → ExprTree
step_or_one None = number (pos 1)
step_or_one (Some e) = e

-- the kind of what a variable without brackets is given, or an element
abbrev pub given_kind : Option VarKind → ValueKind
given_kind (Some variables.Boolean) = kinds.Bit
given_kind (Some variables.BooleanArray) = kinds.Bit
given_kind _ = kinds.Int

-- the number of a Boolean
abbrev pub bit_number : Bool → ℤ
bit_number false = pos 0
bit_number true = pos 1
