-- What a statement names, and so may change. Source: JESD71, statements. The inner statement of an IF is a part of it.
use Rattle.std.specs.Prelude.{ℕ, ℤ, Bool, List, Option, Some}
use Rattle.stapl_lexer.specs.declared.terminal.Padding.{Padding}
use Rattle.stapl_lexer.specs.declared.terminal.Register.{Register}
use Rattle.stapl_syntax.specs.Trees.{ExprTree, scalar, element, ArrayTree, whole, range, CompareTree, BodyTree, boolean, boolean_array, integer, integer_array, assign, assign_element, assign_array, assign_range, call, if_then, for_loop, next, push, pop, scan, stop, pad, end_procedure}

-- the statement gives a value to the variable of this name, or to a part of it
pub data Assigns : BodyTree → (name : List ℕ) → Type 0 where
  first_boolean : {name : List ℕ} {b : Bool} → Assigns (boolean name (Some b)) name
  first_booleans : {name : List ℕ} {size : ℤ} {bits : List Bool} → Assigns (boolean_array name size (Some bits)) name
  first_integer : {name : List ℕ} {z : ℤ} → Assigns (integer name (Some z)) name
  first_integers : {name : List ℕ} {size : ℤ} {zs : List ℤ} → Assigns (integer_array name size (Some zs)) name
  to_scalar : {name : List ℕ} {e : ExprTree} → Assigns (assign name e) name
  to_element : {name : List ℕ} {index e : ExprTree} → Assigns (assign_element name index e) name
  to_array : {name : List ℕ} {a : ArrayTree} → Assigns (assign_array name a) name
  to_range : {name : List ℕ} {first second : ExprTree} {a : ArrayTree} → Assigns (assign_range name first second a) name
  begins_loop : {name : List ℕ} {from to : ExprTree} {step : Option ExprTree} → Assigns (for_loop name from to step) name
  goes_round : {name : List ℕ} → Assigns (next name) name
  takes_off : {name : List ℕ} → Assigns (pop (scalar name)) name
  takes_off_to : {name : List ℕ} {index : ExprTree} → Assigns (pop (element name index)) name
  captures : {register : Register} {count : ExprTree} {source : ArrayTree} {name : List ℕ} {compare : Option CompareTree} →
      Assigns (scan register count source (Some (whole name)) compare) name
  captures_in : {register : Register} {count first second : ExprTree} {source : ArrayTree} {name : List ℕ}
      {compare : Option CompareTree} → Assigns (scan register count source (Some (range name first second)) compare) name
  compares : {register : Register} {count : ExprTree} {source expected mask : ArrayTree} {target : Option ArrayTree}
      {name : List ℕ} → Assigns (scan register count source target (Some (expected, (mask, scalar name)))) name
  compares_to : {register : Register} {count index : ExprTree} {source expected mask : ArrayTree} {target : Option ArrayTree}
      {name : List ℕ} → Assigns (scan register count source target (Some (expected, (mask, element name index)))) name
  inner : {e : ExprTree} {b : BodyTree} {name : List ℕ} → Assigns b name → Assigns (if_then e b) name

-- the statement puts records on the stack, or takes some off
pub data UsesRecords : BodyTree → Type 0 where
  pushes : {e : ExprTree} → UsesRecords (push e)
  pops : {e : ExprTree} → UsesRecords (pop e)
  calls : {name : List ℕ} → UsesRecords (call name)
  begins : {name : List ℕ} {from to : ExprTree} {step : Option ExprTree} → UsesRecords (for_loop name from to step)
  goes_on : {name : List ℕ} → UsesRecords (next name)
  returns : UsesRecords end_procedure
  inner_uses : {e : ExprTree} {b : BodyTree} → UsesRecords b → UsesRecords (if_then e b)

-- the statement sets how later scans go: a padding, or the state in which they end
pub data SetsScans : BodyTree → Type 0 where
  pads : {which : Padding} {count : ExprTree} {bits : Option ArrayTree} → SetsScans (pad which count bits)
  stops : {register : Register} {state : ℕ} → SetsScans (stop register state)
  inner_sets : {e : ExprTree} {b : BodyTree} → SetsScans b → SetsScans (if_then e b)

-- the statement ends its procedure, so another one may begin
pub data EndsProcedure : BodyTree → Type 0 where
  ends : EndsProcedure end_procedure
  inner_ends : {e : ExprTree} {b : BodyTree} → EndsProcedure b → EndsProcedure (if_then e b)
