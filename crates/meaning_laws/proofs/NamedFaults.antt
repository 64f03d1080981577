-- Each fault of the table comes from its own relation
use Rattle.std.proofs.Common.{◌≡◌, ◌≢◌, ◌↔◌, ℕ, ◌+◌, ℤ, List, [], None, sym, ap, ◌∙◌, subst}
use Rattle.stapl_syntax.specs.Trees.{ExprTree, ArrayTree, BodyTree}
use Rattle.stapl_meaning.specs.declared.events.RunFault.{RunFault}
use Rattle.stapl_meaning.specs.declared.events.RunFault.TheVariants as faults
use Rattle.stapl_meaning.specs.declared.values.ValueKind.{ValueKind}
use Rattle.stapl_meaning.specs.declared.values.Value.{Value}
use Rattle.stapl_meaning.specs.declared.values.Held.{Held}
use Rattle.stapl_meaning.specs.Values.{Known, Faults, then_get, Lookup, value_of}
use Rattle.stapl_meaning.specs.Operands.{values_of}
use Rattle.stapl_meaning.specs.States.{State}
use Rattle.stapl_meaning.specs.Scopes.{Scope, Played, scope_at}
use Rattle.stapl_meaning.specs.Turns.{operands, effect}
use Rattle.meaning_laws.specs.ExprFaults.{RangeBreaks, first_outside, second_outside, ExprBreaks, of_index, index_outside, of_operand, of_absolute, of_array, of_left, of_right}
use Rattle.meaning_laws.specs.ExprFaults.{divides_by_zero, shifts_too_far, ArrayBreaks, of_first, of_second, of_range, of_integer}
use Rattle.meaning_laws.specs.PartFaults.{WrittenPart, IsPartFault, PartBreaks, of_value, of_character, no_character, of_target_index, target_outside, of_part_array, PartsBreak, first_part, later_part}
use Rattle.meaning_laws.specs.RowFaults.{HasShortArray, HasBadLength, HasBadCount, HasZeroStep, LacksRecord, LacksRoom, HasBrokenPart, RowBreaks, of_parts, length_mismatch, bad_length, bad_count, step_zero, no_record, records_full}
use Rattle.meaning_laws.specs.TurnFaults.{Reaches, TurnBreaks, EndsWithFault}
use Rattle.meaning_laws.proofs.Gets.{Breaks}
use Rattle.meaning_laws.proofs.ExprLemmas.{expr_breaks, expr_faults}
use Rattle.meaning_laws.proofs.PartLemmas.{operands_are, parts_fault}
use Rattle.meaning_laws.proofs.EffectLemmas.{Does}
use Rattle.meaning_laws.proofs.RowLemmas.{row_does}
use Rattle.meaning_laws.proofs.TurnLemmas.{turn_breaks, turn_only}

pub expr_table : (look : Lookup) (variables : List Held) (kind : ValueKind) (e : ExprTree) (k : RunFault) →
    (value_of look variables kind e ≡ Faults k) ↔ ExprBreaks look variables kind e k
expr_table look variables kind e k =
    ((λ is. subst (Breaks (ExprBreaks look variables kind e)) is (expr_breaks look variables kind e)), (λ h. expr_faults look variables h))

-- ---- the faults of parts are four

range_fault : {size : ℕ} {first second : ℤ} {k : RunFault} → RangeBreaks size first second k → IsPartFault k
range_fault (first_outside out) = tt
range_fault (second_outside inside out) = tt

module _ (look : Lookup) (variables : List Held) where
  mutual
    expr_fault : {kind : ValueKind} {e : ExprTree} {k : RunFault} → ExprBreaks look variables kind e k → IsPartFault k
    expr_fault (of_index h) = expr_fault h
    expr_fault (index_outside z size is sized out) = tt
    expr_fault (of_operand h) = expr_fault h
    expr_fault (of_absolute h) = expr_fault h
    expr_fault (of_array h) = array_fault h
    expr_fault (of_left h) = expr_fault h
    expr_fault (of_right x is h) = expr_fault h
    expr_fault (divides_by_zero x division is by_zero) = tt
    expr_fault (shifts_too_far x z shift is count out) = tt

    array_fault : {a : ArrayTree} {k : RunFault} → ArrayBreaks look variables a k → IsPartFault k
    array_fault (of_first h) = expr_fault h
    array_fault (of_second x is h) = expr_fault h
    array_fault (of_range i j size is_i is_j sized out) = range_fault out
    array_fault (of_integer h) = expr_fault h

  part_fault : {p : WrittenPart} {k : RunFault} → PartBreaks look variables p k → IsPartFault k
  part_fault (of_value h) = expr_fault h
  part_fault (of_character h) = expr_fault h
  part_fault (no_character z known out) = tt
  part_fault (of_target_index h) = expr_fault h
  part_fault (target_outside z size known sized out) = tt
  part_fault (of_part_array h) = array_fault h

  parts_fault_so : {ps : List WrittenPart} {k : RunFault} → PartsBreak look variables ps k → IsPartFault k
  parts_fault_so (first_part h) = part_fault h
  parts_fault_so (later_part is h) = parts_fault_so h

-- ---- each fault has a relation of its own

module _ (scope : Scope) (s : State) where
  is_short : {b : BodyTree} → RowBreaks scope s b faults.LengthMismatch → HasShortArray scope s b
  is_short (of_parts h) = absurd (parts_fault_so scope.look s.store.variables h)
  is_short (length_mismatch h) = h

  is_long : {b : BodyTree} → RowBreaks scope s b faults.BadLength → HasBadLength scope s b
  is_long (of_parts h) = absurd (parts_fault_so scope.look s.store.variables h)
  is_long (bad_length h) = h

  is_count : {b : BodyTree} → RowBreaks scope s b faults.BadCount → HasBadCount scope s b
  is_count (of_parts h) = absurd (parts_fault_so scope.look s.store.variables h)
  is_count (bad_count h) = h

  is_step : {b : BodyTree} → RowBreaks scope s b faults.ZeroStep → HasZeroStep scope s b
  is_step (of_parts h) = absurd (parts_fault_so scope.look s.store.variables h)
  is_step (step_zero h) = h

  is_record : {b : BodyTree} → RowBreaks scope s b faults.NoRecord → LacksRecord scope s b
  is_record (of_parts h) = absurd (parts_fault_so scope.look s.store.variables h)
  is_record (no_record h) = h

  is_full : {b : BodyTree} → RowBreaks scope s b faults.RecordsFull → LacksRoom scope s b
  is_full (of_parts h) = absurd (parts_fault_so scope.look s.store.variables h)
  is_full (records_full h) = h

  not_reversed : {b : BodyTree} → ¬ RowBreaks scope s b faults.RangeReversed
  not_reversed (of_parts h) = parts_fault_so scope.look s.store.variables h

  is_broken : {b : BodyTree} {k : RunFault} → IsPartFault k → RowBreaks scope s b k → HasBrokenPart scope s k b
  is_broken p (of_parts h) = h
  is_broken p (length_mismatch h) = absurd p
  is_broken p (bad_length h) = absurd p
  is_broken p (bad_count h) = absurd p
  is_broken p (step_zero h) = absurd p
  is_broken p (no_record h) = absurd p
  is_broken p (records_full h) = absurd p

  -- what has been tested never breaks again
  other_fault : (b : BodyTree) (values : List Value) {k : RunFault} → values_of scope.look s.store.variables (operands scope b) ≡ Known values →
      RowBreaks scope s b k → ¬ IsPartFault k
  other_fault b values known (length_mismatch h) = λ p. p
  other_fault b values known (bad_length h) = λ p. p
  other_fault b values known (bad_count h) = λ p. p
  other_fault b values known (step_zero h) = λ p. p
  other_fault b values known (no_record h) = λ p. p
  other_fault b values known (records_full h) = λ p. p
  other_fault b values {k = k} known (of_parts h) =
      let breaks : values_of scope.look s.store.variables (operands scope b) ≡ Faults k =
      ap (values_of scope.look s.store.variables) (operands_are scope b) ∙ parts_fault scope.look s.store.variables None h in
      let both : Known values ≡ Faults k = sym known ∙ breaks in
      absurd cc

breaks_so : (scope : Scope) (s : State) (b : BodyTree) (values : List Value) (k : RunFault) →
    values_of scope.look s.store.variables (operands scope b) ≡ Known values → effect scope b values s ≡ Faults k → RowBreaks scope s b k
breaks_so scope s b values k known faults =
    subst (Does (RowBreaks scope s b)) (ap (λ g. then_get g (λ values. effect scope b values s)) known ∙ faults) (row_does scope s b)

pub not_reversed_then : (scope : Scope) (s : State) (b : BodyTree) (values : List Value) →
    values_of scope.look s.store.variables (operands scope b) ≡ Known values → effect scope b values s ≢ Faults faults.RangeReversed
not_reversed_then scope s b values known e = not_reversed scope s (breaks_so scope s b values faults.RangeReversed known e)

pub tested_once : (scope : Scope) (s : State) (b : BodyTree) (values : List Value) (k : RunFault) →
    values_of scope.look s.store.variables (operands scope b) ≡ Known values → effect scope b values s ≡ Faults k → ¬ IsPartFault k
tested_once scope s b values k known faults =
    other_fault scope s b values known (breaks_so scope s b values k known faults)

-- ---- turns

module _ (Holds : Scope → State → BodyTree → Type 0) (k : RunFault)
    (breaks : (scope : Scope) (s : State) (b : BodyTree) → Holds scope s b → RowBreaks scope s b k)
    (only : (scope : Scope) (s : State) (b : BodyTree) → RowBreaks scope s b k → Holds scope s b) where
  pub turn_table : (program : Played) (i : ℕ) (s : State) → EndsWithFault program i s k ↔ Reaches program i s Holds
  turn_table program i s = (to_words, to_fault)
    where
      to_words : EndsWithFault program i s k → Reaches program i s Holds
      to_words e =
          let at : TurnBreaks program i s k = (turn_only program i s s [] k (i + 1) e).breaks in
          record {
            statement = at.statement;
            stands = at.stands;
            row = at.row;
            reached = at.reached;
            holds = only (scope_at program i) s at.row at.holds;
          }

      to_fault : Reaches program i s Holds → EndsWithFault program i s k
      to_fault at = turn_breaks program i s k (record {
        statement = at.statement;
        stands = at.stands;
        row = at.row;
        reached = at.reached;
        holds = breaks (scope_at program i) s at.row at.holds;
      })

-- a program never ends with the fault of a range from a lower index to a higher one
pub never_reversed : (program : Played) (i : ℕ) (s : State) → ¬ EndsWithFault program i s faults.RangeReversed
never_reversed program i s e =
    let at : TurnBreaks program i s faults.RangeReversed = (turn_only program i s s [] faults.RangeReversed (i + 1) e).breaks in
    not_reversed (scope_at program i) s at.holds

pub part_table : (k : RunFault) → IsPartFault k → (program : Played) (i : ℕ) (s : State) →
    EndsWithFault program i s k ↔ Reaches program i s (λ scope s b. HasBrokenPart scope s k b)
part_table k p = turn_table (λ scope s b. HasBrokenPart scope s k b) k (λ scope s b h. of_parts h) (λ scope s b h. is_broken scope s p h)

pub short_table : (program : Played) (i : ℕ) (s : State) → EndsWithFault program i s faults.LengthMismatch ↔ Reaches program i s HasShortArray
short_table = turn_table HasShortArray faults.LengthMismatch (λ scope s b h. length_mismatch h) (λ scope s b h. is_short scope s h)

pub length_table : (program : Played) (i : ℕ) (s : State) → EndsWithFault program i s faults.BadLength ↔ Reaches program i s HasBadLength
length_table = turn_table HasBadLength faults.BadLength (λ scope s b h. bad_length h) (λ scope s b h. is_long scope s h)

pub count_table : (program : Played) (i : ℕ) (s : State) → EndsWithFault program i s faults.BadCount ↔ Reaches program i s HasBadCount
count_table = turn_table HasBadCount faults.BadCount (λ scope s b h. bad_count h) (λ scope s b h. is_count scope s h)

pub step_table : (program : Played) (i : ℕ) (s : State) → EndsWithFault program i s faults.ZeroStep ↔ Reaches program i s HasZeroStep
step_table = turn_table HasZeroStep faults.ZeroStep (λ scope s b h. step_zero h) (λ scope s b h. is_step scope s h)

pub record_table : (program : Played) (i : ℕ) (s : State) → EndsWithFault program i s faults.NoRecord ↔ Reaches program i s LacksRecord
record_table = turn_table LacksRecord faults.NoRecord (λ scope s b h. no_record h) (λ scope s b h. is_record scope s h)

pub full_table : (program : Played) (i : ℕ) (s : State) → EndsWithFault program i s faults.RecordsFull ↔ Reaches program i s LacksRoom
full_table = turn_table LacksRoom faults.RecordsFull (λ scope s b h. records_full h) (λ scope s b h. is_full scope s h)
