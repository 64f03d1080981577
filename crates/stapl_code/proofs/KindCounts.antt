-- How the number of operands grows.
use Rattle.std.proofs.Common.{◌≡◌, suc, ◌+◌, ◌≤◌, Bool, true, false, List, [], ◌∷◌, Option, Some, None, length, arith, refl, ap}
use Rattle.std.specs.Prelude.{slice_get, if◌then◌else◌}
use Rattle.std.specs.List.{list_all}
use Rattle.stapl_meaning.specs.declared.values.ValueKind.{ValueKind}
use Rattle.stapl_meaning.specs.declared.values.ValueKind.TheVariants as kinds
use Rattle.stapl_code.specs.declared.raw.VarDef.{VarDef}
use Rattle.stapl_code.specs.declared.operators.Operator.{Operator}
use Rattle.stapl_code.specs.declared.instr.Instr.{Instr}
use Rattle.stapl_code.specs.declared.instr.Instr.TheVariants.{Unary, Binary}
use Rattle.stapl_code.specs.Operators.{operator_table}
use Rattle.stapl_code.specs.Machine.{Slot, result_of, takes, gives, wants}
use Rattle.stapl_code.specs.Rooms.{count_after}
use Rattle.stapl_code.specs.Kinds.{off, then_kinds, put_on, taken_off, left_by, clears, slot_kind, is_met, all_off, all_on, kinds_moved, kinds_after}

pub then_some : (o : Option (List ValueKind)) (go : List ValueKind → Option (List ValueKind)) (after : List ValueKind) →
    then_kinds o go ≡ Some after → (below : List ValueKind) × (o ≡ Some below) × (go below ≡ Some after)
then_some None go after e = absurd cc
then_some (Some below) go after e = (below, refl, e)

same_count : (ks after : List ValueKind) → Some ks ≡ Some after → length after ≡ length ks
same_count ks after e = let same : ks ≡ after = cc in omega (arith, ap length same)

off_count : (k : ValueKind) (ks after : List ValueKind) → off k ks ≡ Some after → suc (length after) ≡ length ks
off_count k [] after e = absurd cc
off_count kinds.Int (kinds.Int ∷ ks) after e = omega (arith, same_count ks after e)
off_count kinds.Bit (kinds.Bit ∷ ks) after e = omega (arith, same_count ks after e)
off_count kinds.Int (kinds.Bit ∷ ks) after e = absurd cc
off_count kinds.Bit (kinds.Int ∷ ks) after e = absurd cc

taken_count : (o : Option ValueKind) (ks after : List ValueKind) → taken_off o ks ≡ Some after →
    suc (length after) ≡ length ks
taken_count None ks after e = absurd cc
taken_count (Some k) ks after e = off_count k ks after e

put_count : (o : Option ValueKind) (ks after : List ValueKind) → put_on o ks ≡ Some after →
    length after ≡ suc (length ks)
put_count None ks after e = absurd cc
put_count (Some k) ks after e = same_count (k ∷ ks) after e

left_count : (clear : Bool) (ks after : List ValueKind) → left_by clear ks ≡ Some after → length after ≡ length ks
left_count true [] after e = same_count [] after e
left_count true (k ∷ ks) after e = absurd cc
left_count false ks after e = same_count ks after e

one_result : (o : Option Operator) → length (result_of o) ≤ 1
one_result None = omega arith
one_result (Some operator) = omega arith

-- an instruction gives at most one operand more than it takes
given_count : (x : Instr) → length (gives x) ≤ suc (length (takes x))
given_count (Unary op) = omega arith
given_count (Binary op) = omega (arith, one_result (slice_get operator_table op))
given_count _ = omega arith

met_and_moved : (met : Bool) (moved : Option (List ValueKind)) (after : List ValueKind) →
    (if met then moved else None) ≡ Some after → (met ≡ true) × (moved ≡ Some after)
met_and_moved true moved after e = (refl, e)
met_and_moved false moved after e = absurd cc

module _ (variables : List VarDef) where
  -- the kinds after an instruction say that its variables are what they have to be, and that it moves the kinds
  pub met_and_after : (x : Instr) (ks after : List ValueKind) → kinds_after variables x ks ≡ Some after →
      (list_all (is_met variables) (wants x) ≡ true) × (kinds_moved variables x ks ≡ Some after)
  met_and_after x ks after e =
      met_and_moved (list_all (is_met variables) (wants x)) (kinds_moved variables x ks) after e

  off_all_count : (wanted : List Slot) (ks after : List ValueKind) → all_off variables wanted ks ≡ Some after →
      length after + length wanted ≡ length ks
  off_all_count [] ks after e = omega (arith, same_count ks after e)
  off_all_count (slot ∷ wanted) ks after e =
      let t = then_some (all_off variables wanted ks) (taken_off (slot_kind variables slot)) after e in
      omega (arith, off_all_count wanted ks t.0 t.1, taken_count (slot_kind variables slot) t.0 after t.2)

  on_all_count : (given : List Slot) (ks after : List ValueKind) → all_on variables given ks ≡ Some after →
      length after ≡ length given + length ks
  on_all_count [] ks after e = omega (arith, same_count ks after e)
  on_all_count (slot ∷ given) ks after e =
      let t = then_some (put_on (slot_kind variables slot) ks) (all_on variables given) after e in
      omega (arith, put_count (slot_kind variables slot) ks t.0 t.1, on_all_count given t.0 after t.2)

  -- after an instruction there are as many operands as the table says
  pub count_is : (x : Instr) (ks after : List ValueKind) → kinds_after variables x ks ≡ Some after →
      length after ≡ count_after x (length ks)
  count_is x ks after e =
      let moved = (met_and_after x ks after e).1 in
      let beyond : List ValueKind → Option (List ValueKind) = λ ks. then_kinds (left_by (clears x) ks) (all_on variables (gives x)) in
      let t = then_some (all_off variables (takes x) ks) beyond after moved in
      let u = then_some (left_by (clears x) t.0) (all_on variables (gives x)) after t.2 in
      let off = off_all_count (takes x) ks t.0 t.1 in
      let on = on_all_count (gives x) u.0 after u.2 in
      omega (arith, off, left_count (clears x) t.0 u.0 u.1, on)

  -- after an instruction there is at most one operand more
  pub one_more : (x : Instr) (ks after : List ValueKind) → kinds_after variables x ks ≡ Some after →
      length after ≤ suc (length ks)
  one_more x ks after e =
      let moved = (met_and_after x ks after e).1 in
      let beyond : List ValueKind → Option (List ValueKind) = λ ks. then_kinds (left_by (clears x) ks) (all_on variables (gives x)) in
      let t = then_some (all_off variables (takes x) ks) beyond after moved in
      omega (arith, count_is x ks after e, off_all_count (takes x) ks t.0 t.1, given_count x)
