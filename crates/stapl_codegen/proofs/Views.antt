-- The shapes of statements of procedures, as cases: ENDPROC, the declarations, and those that may stand after THEN.
use Rattle.std.proofs.Common.{◌≡◌, ℕ, true, Option, Some, None}
use Rattle.std.specs.Prelude.{ℤ, Bool, List, length, nat_lt}
use Rattle.stapl_syntax.specs.Trees.{BodyTree, end_procedure, boolean, boolean_array, integer, integer_array}
use Rattle.stapl_shapes.specs.Shapes.{is_simple_shape, is_inner_shape}

pub data IsInner : BodyTree → Type 0 where
  an_end : IsInner end_procedure
  a_bit : (name : List ℕ) (start : Option Bool) → IsInner (boolean name start)
  some_bits : (name : List ℕ) (size : ℤ) (start : Option (List Bool)) → IsInner (boolean_array name size start)
  an_integer : (name : List ℕ) (start : Option ℤ) → IsInner (integer name start)
  no_integers : (name : List ℕ) (size : ℤ) → IsInner (integer_array name size None)
  some_integers : (name : List ℕ) (size : ℤ) (start : List ℤ) → nat_lt 0 (length start) ≡ true → IsInner (integer_array name size (Some start))
  a_simple : (b : BodyTree) → is_simple_shape b ≡ true → IsInner b

pub inner_view : (b : BodyTree) → is_inner_shape b ≡ true → IsInner b
inner_view end_procedure shaped = an_end
inner_view (boolean name start) shaped = a_bit name start
inner_view (boolean_array name size start) shaped = some_bits name size start
inner_view (integer name start) shaped = an_integer name start
inner_view (integer_array name size None) shaped = no_integers name size
inner_view (integer_array name size (Some start)) shaped = some_integers name size start shaped
inner_view b shaped = a_simple b shaped
