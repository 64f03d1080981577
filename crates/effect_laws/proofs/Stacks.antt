-- POP gives what PUSH put on the records
use Rattle.std.proofs.Common.{◌≡◌, ◌≢◌, ◌<◌, ℕ, ◌+◌, zero, suc, ℤ, pos, negsuc, nat_abs, not, ◌==◌, true, false, List, [], ◌∷◌, length, Option, Some, None, refl, ap, ◌∙◌, slice_get, arith}
use Rattle.std.specs.Prelude.{slice_set}
use Rattle.std.proofs.lemmas.List.{get_or-set_same, length-set}
use Rattle.std.proofs.lemmas.Option.{slice_get-get_or, slice_get_within}
use Rattle.stapl_syntax.specs.declared.names.Kind.{Kind}
use Rattle.stapl_syntax.specs.declared.names.Kind.TheVariants as names
use Rattle.stapl_syntax.specs.declared.names.VarKind.{VarKind}
use Rattle.stapl_syntax.specs.Kinds.{expr_kind}
use Rattle.stapl_syntax.specs.Trees.{ExprTree, scalar, push, pop}
use Rattle.stapl_meaning.specs.declared.records.Record.TheVariants.{Pushed}
use Rattle.stapl_meaning.specs.declared.values.ValueKind.{ValueKind}
use Rattle.stapl_meaning.specs.declared.values.ValueKind.TheVariants as kinds
use Rattle.stapl_meaning.specs.declared.values.Value.{Value}
use Rattle.stapl_meaning.specs.declared.values.Held.{Held}
use Rattle.stapl_meaning.specs.declared.values.Held.TheVariants as held
use Rattle.stapl_meaning.specs.Values.{Known, then_get, Lookup, value_of}
use Rattle.stapl_meaning.specs.Operands.{plain, operand_value, values_of, printed_kind, given_kind}
use Rattle.stapl_meaning.specs.States.{State, Falls, Leads}
use Rattle.stapl_meaning.specs.Effects.{with_scalar, replaced, scalar_written, written, assigned, with_variables, with_records, number_of, value_as, topmost, popped}
use Rattle.stapl_meaning.specs.Scopes.{Played, scope_at}
use Rattle.stapl_meaning.specs.Turns.{turn}
use Rattle.effect_laws.specs.Given.{StandsAt, HasValue, bit, integer, HasRoom, Holds, number_at}
use Rattle.effect_laws.specs.Stack.{Receives, zero_of_bit, one_of_bit, bit_of_zero, bit_of_other, TakesBack}
use Rattle.effect_laws.specs.Stack as stack
use Rattle.effect_laws.proofs.Singles.{plain_known, next_known, roomy, one_row}

-- the item that was set
pub new_item : {X : Type 0} (xs : List X) (n : ℕ) (old new : X) → slice_get xs n ≡ Some old → slice_get (slice_set xs n new) n ≡ Some new
new_item xs n old new there =
    let within : n < length xs = slice_get_within xs n old there in
    let size : length (slice_set xs n new) ≡ length xs = length-set xs n new in
    slice_get-get_or (slice_set xs n new) n new (omega (arith, size, within)) ∙ ap Some (get_or-set_same xs n new new within)

-- the scalar of a number is given a value of its kind
pub assigned_known : (n : ℕ) (s : State) (old new : Held) (v : Value) → slice_get s.store.variables n ≡ Some old → with_scalar old v ≡ Known new →
    assigned n (v ∷ []) s ≡ Known (Falls [] (with_variables s (slice_set s.store.variables n new)))
assigned_known n s old new v there is =
    ap (λ o. written s (scalar_written s.store.variables n o v)) there ∙ ap (λ g. written s (replaced s.store.variables n g)) is

not_zero : (z : ℤ) → z ≢ pos 0 → not (nat_abs z == 0) ≡ true
not_zero (pos zero) other = absurd (other refl)
not_zero (pos (suc n)) other = grind arith
not_zero (negsuc n) other = grind arith

received : (kind : Option VarKind) (old new : Held) (v : Value) → Receives kind old v new →
    with_scalar old (value_as (given_kind kind) (number_of v)) ≡ Known new
received _ _ _ _ stack.integer = refl
received _ _ _ _ (stack.bit {b = true}) = refl
received _ _ _ _ (stack.bit {b = false}) = refl
received _ _ _ _ zero_of_bit = refl
received _ _ _ _ one_of_bit = refl
received _ _ _ _ bit_of_zero = refl
received _ _ _ _ (bit_of_other {z = z} other) = ap (λ b. Known (held.Bit b)) (not_zero z other)

pushed_kind : (kind : Option Kind) → kind ≢ Some names.Bool → printed_kind kind ≡ kinds.Int
pushed_kind None other = refl
pushed_kind (Some names.Bool) other = absurd (other refl)
pushed_kind (Some _) other = refl

-- a value of its own kind, which is printed, exported or pushed
pub printed_known : (look : Lookup) (s : State) (before : Option Value) (e : ExprTree) (v : Value) → HasValue look s e v →
    operand_value look s.store.variables before (plain (printed_kind (expr_kind look.kind e)) e) ≡ Known v
printed_known look s before e v (bit is value) =
    plain_known look s.store.variables before (printed_kind (expr_kind look.kind e)) e v
    (ap (λ kind. value_of look s.store.variables (printed_kind kind) e) is ∙ value)
printed_known look s before e v (integer other value) =
    plain_known look s.store.variables before (printed_kind (expr_kind look.kind e)) e v
    (ap (λ kind. value_of look s.store.variables kind e) (pushed_kind (expr_kind look.kind e) other) ∙ value)

pub pushed_value : (look : Lookup) (s : State) (e : ExprTree) (v : Value) → HasValue look s e v →
    values_of look s.store.variables (plain (printed_kind (expr_kind look.kind e)) e ∷ []) ≡ Known (v ∷ [])
pushed_value look s e v is =
    next_known look s.store.variables None (plain (printed_kind (expr_kind look.kind e)) e) [] v [] (printed_known look s None e v is) refl

module _ (program : Played) (i j : ℕ) (s : State) (e : ExprTree) (v : Value) (name : List ℕ) (old new : Held) where
  after_push : State
  after_push = with_records s (Pushed (number_of v) ∷ s.records)

  takes_back : StandsAt program j (pop (scalar name)) → Receives ((scope_at program j).look.kind name) old v new → (u : State) →
      u.records ≡ Pushed (number_of v) ∷ s.records → Holds u (number_at program j name) old → TakesBack program j u s name new
  takes_back stands receives u records there =
      let n : ℕ = number_at program j name in
      let kind : ValueKind = given_kind ((scope_at program j).look.kind name) in
      let w : State = with_records u s.records in
      let t : State = with_variables w (slice_set u.store.variables n new) in
      let does : popped kind (assigned n) [] u ≡ Known (Falls [] t) =
      ap (λ rs. then_get (topmost kind rs) (λ top. assigned n (top.0 ∷ []) (with_records u top.1))) records
      ∙ assigned_known n w old new (value_as kind (number_of v)) there (received ((scope_at program j).look.kind name) old new v receives) in
      record {
        after = t;
        leads = one_row program j u (pop (scalar name)) [] (Falls [] t) stands refl refl does;
        holds = new_item u.store.variables n old new there;
        records = refl;
      }

  pub pop_after_push : StandsAt program i (push e) → HasValue (scope_at program i).look s e v → HasRoom s → StandsAt program j (pop (scalar name)) →
      Receives ((scope_at program j).look.kind name) old v new →
      (t : State) × (turn program i s ≡ Leads [] (i + 1) t) × ((u : State) → u.records ≡ t.records →
      Holds u (number_at program j name) old → TakesBack program j u s name new)
  pop_after_push at_push value room at_pop receives = (
    with_records s (Pushed (number_of v) ∷ s.records),
    one_row program i s (push e) (v ∷ []) (Falls [] (with_records s (Pushed (number_of v) ∷ s.records))) at_push refl
        (pushed_value (scope_at program i).look s e v value)
        (roomy s (Known (Falls [] (with_records s (Pushed (number_of v) ∷ s.records)))) room),
    takes_back at_pop receives,
  )
