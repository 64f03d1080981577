-- The rows of a statement, as cases: none, its own, or that of an IF and then those of its inner statement.
use Rattle.std.proofs.Common.{◌≡◌, Bool, true, false, List, [], ◌∷◌, Some, None, refl, sym}
use Rattle.std.proofs.lemmas.Bool.{true≢false}
use Rattle.stapl_syntax.specs.Trees.{ExprTree, BodyTree, boolean, boolean_array, integer, integer_array, call, if_then}
use Rattle.stapl_meaning.specs.Scopes.{has_initial_value}
use Rattle.stapl_meaning.specs.Turns.{rows}

pub data IsRows : BodyTree → List BodyTree → Type 0 where
  no_row : (b : BodyTree) → IsRows b []
  one_row : (b : BodyTree) → IsRows b (b ∷ [])
  more_rows : (e : ExprTree) (b : BodyTree) (bs : List BodyTree) → IsRows b bs → IsRows (if_then e b) (if_then e b ∷ bs)

pub rows_view : (b : BodyTree) → IsRows b (rows b)
rows_view (boolean name None) = no_row (boolean name None)
rows_view (boolean name (Some b)) = one_row (boolean name (Some b))
rows_view (boolean_array name size None) = no_row (boolean_array name size None)
rows_view (boolean_array name size (Some bits)) = one_row (boolean_array name size (Some bits))
rows_view (integer name None) = no_row (integer name None)
rows_view (integer name (Some z)) = one_row (integer name (Some z))
rows_view (integer_array name size None) = no_row (integer_array name size None)
rows_view (integer_array name size (Some zs)) = one_row (integer_array name size (Some zs))
rows_view (if_then e b) = more_rows e b (rows b) (rows_view b)
rows_view b = one_row b

-- ---- CALL stands last

abbrev pub is_call : BodyTree → Bool
is_call (call name) = true
is_call _ = false

abbrev pub CallsLast : List BodyTree → Type 0
CallsLast [] = Unit {0}
CallsLast (b ∷ []) = Unit {0}
CallsLast (b ∷ c ∷ bs) = (is_call b ≡ false) × CallsLast (c ∷ bs)

after_if : (e : ExprTree) (b : BodyTree) (bs : List BodyTree) → CallsLast bs → CallsLast (if_then e b ∷ bs)
after_if e b [] last = tt
after_if e b (c ∷ bs) last = (refl, last)

of_view : (b : BodyTree) (bs : List BodyTree) → IsRows b bs → CallsLast bs
of_view _ _ (no_row b) = tt
of_view _ _ (one_row b) = tt
of_view _ _ (more_rows e b bs rows) = after_if e b bs (of_view b bs rows)

pub calls_last : (b : BodyTree) → CallsLast (rows b)
calls_last b = of_view b (rows b) (rows_view b)

-- no declaration is a CALL
pub starts_no_call : (b : BodyTree) → has_initial_value b ≡ true → is_call b ≡ true → ⊥
starts_no_call (call name) starts is = true≢false (sym starts)
starts_no_call _ starts is = true≢false (sym is)
