-- What assignments change, and how EXIT ends
use Rattle.std.proofs.Common.{◌≡◌, ◌<◌, ℕ, ◌+◌, ℤ, pos, Bool, true, List, [], ◌∷◌, length, Option, Some, None, refl, ap, ◌∙◌}
use Rattle.std.specs.Prelude.{nat_lt, slice_set}
use Rattle.std.proofs.lemmas.Bool.{lt-ltb}
use Rattle.std.proofs.lemmas.List.{length-set}
use Rattle.std.proofs.lemmas.Option.{slice_get-get_or}
use Rattle.stapl_syntax.specs.declared.names.VarKind.TheVariants as names
use Rattle.stapl_syntax.specs.Trees.{ExprTree, assign, assign_element, exit}
use Rattle.stapl_meaning.specs.declared.events.Ending.TheVariants.{Exit}
use Rattle.stapl_meaning.specs.declared.events.RunFault.TheVariants.{IndexOutOfRange}
use Rattle.stapl_meaning.specs.declared.values.ValueKind.{ValueKind}
use Rattle.stapl_meaning.specs.declared.values.ValueKind.TheVariants as kinds
use Rattle.stapl_meaning.specs.declared.values.Value.{Value}
use Rattle.stapl_meaning.specs.declared.values.Value.TheVariants.{Int, Bit}
use Rattle.stapl_meaning.specs.declared.values.Held.{Held}
use Rattle.stapl_meaning.specs.declared.values.Held.TheVariants as held
use Rattle.stapl_meaning.specs.Values.{Known, then_get, passed, value_of, index_held}
use Rattle.stapl_meaning.specs.Operands.{plain, an_index, an_integer, Index, tested, operand_value, given_kind}
use Rattle.stapl_meaning.specs.States.{State, Falls, Ends, Over, Leads}
use Rattle.stapl_meaning.specs.Effects.{with_scalar, with_element, replaced, written, element_written, with_variables}
use Rattle.stapl_meaning.specs.Scopes.{Played, scope_at}
use Rattle.stapl_meaning.specs.Turns.{turn}
use Rattle.effect_laws.specs.Given.{StandsAt, HasInteger, HasBit, Holds, number_at}
use Rattle.effect_laws.specs.Assigned.{Gives, HasOneNew}
use Rattle.effect_laws.proofs.Singles.{plain_known, next_known, one_row}
use Rattle.effect_laws.proofs.Frames.{other_item}
use Rattle.effect_laws.proofs.Stacks.{new_item, assigned_known}

-- an item that was set
pub one_new : {X : Type 0} (k : ℕ) (x : X) (old : List X) → k < length old → HasOneNew k x old (slice_set old k x)
one_new k x old less = record {
  size = length-set old k x;
  here = new_item old k _ x (slice_get-get_or old k x less);
  elsewhere = λ j other. other_item old k j x other;
}

module _ (program : Played) (i : ℕ) (s : State) (name : List ℕ) (e : ExprTree) where
  -- what is given has its value
  given : (before : Option Value) (kind : ValueKind) (v : Value) → given_kind ((scope_at program i).look.kind name) ≡ kind →
      value_of (scope_at program i).look s.store.variables kind e ≡ Known v →
      operand_value (scope_at program i).look s.store.variables before (plain (given_kind ((scope_at program i).look.kind name)) e) ≡ Known v
  given before kind v is value =
      plain_known (scope_at program i).look s.store.variables before (given_kind ((scope_at program i).look.kind name)) e v
      (ap (λ k. value_of (scope_at program i).look s.store.variables k e) is ∙ value)

  scalar_given : (kind : ValueKind) (v : Value) (old new : Held) → StandsAt program i (assign name e) →
      given_kind ((scope_at program i).look.kind name) ≡ kind → value_of (scope_at program i).look s.store.variables kind e ≡ Known v →
      Holds s (number_at program i name) old → with_scalar old v ≡ Known new → Gives program i (number_at program i name) s (λ h. h ≡ new)
  scalar_given kind v old new stands is value there fits =
      let n : ℕ = number_at program i name in
      record {
        after = with_variables s (slice_set s.store.variables n new);
        leads =
            one_row program i s (assign name e) (v ∷ []) (Falls [] (with_variables s (slice_set s.store.variables n new))) stands refl
            (next_known (scope_at program i).look s.store.variables None (plain (given_kind ((scope_at program i).look.kind name)) e) [] v []
            (given None kind v is value) refl)
            (assigned_known n s old new v there fits);
        new = new;
        holds = new_item s.store.variables n old new there;
        is = refl;
      }

  pub gives_integer : (old z : ℤ) → StandsAt program i (assign name e) → (scope_at program i).look.kind name ≡ Some names.Integer →
      HasInteger (scope_at program i).look s e z → Holds s (number_at program i name) (held.Int old) →
      Gives program i (number_at program i name) s (λ new. new ≡ held.Int z)
  gives_integer old z stands is value there = scalar_given kinds.Int (Int z) (held.Int old) (held.Int z) stands (ap given_kind is) value there refl

  pub gives_boolean : (old b : Bool) → StandsAt program i (assign name e) → (scope_at program i).look.kind name ≡ Some names.Boolean →
      HasBit (scope_at program i).look s e b → Holds s (number_at program i name) (held.Bit old) →
      Gives program i (number_at program i name) s (λ new. new ≡ held.Bit b)
  gives_boolean old b stands is value there = scalar_given kinds.Bit (Bit b) (held.Bit old) (held.Bit b) stands (ap given_kind is) value there refl

  -- an element of an array
  module _ (k : ℕ) (index : ExprTree) (old new : Held) (kind : ValueKind) (v : Value) (stands : StandsAt program i (assign_element name index e))
      (is : given_kind ((scope_at program i).look.kind name) ≡ kind) (is_index : HasInteger (scope_at program i).look s index (pos k))
      (value : value_of (scope_at program i).look s.store.variables kind e ≡ Known v) (there : Holds s (number_at program i name) old)
      (inside : index_held (Some old) (Int (pos k)) ≡ Known (Int (pos k))) (fits : with_element old (pos k) v ≡ Known new) where
    element_leads : turn program i s ≡ Leads [] (i + 1) (with_variables s (slice_set s.store.variables (number_at program i name) new))
    element_leads =
        let n : ℕ = number_at program i name in
        let variables : List Held = s.store.variables in
        one_row program i s (assign_element name index e) (Int (pos k) ∷ v ∷ []) (Falls [] (with_variables s (slice_set variables n new))) stands refl
        (next_known (scope_at program i).look variables None (an_index n index) (plain (given_kind ((scope_at program i).look.kind name)) e ∷ []) (Int (pos k)) (v ∷ [])
        (ap (λ g. then_get g (tested (scope_at program i).look variables (Index n) None)) is_index ∙ ap (λ o. index_held o (Int (pos k))) there ∙ inside)
        (next_known (scope_at program i).look variables (Some (Int (pos k))) (plain (given_kind ((scope_at program i).look.kind name)) e) [] v []
        (given (Some (Int (pos k))) kind v is value) refl))
        (ap (λ o. written s (element_written variables n o (pos k) v)) there ∙ ap (λ g. written s (replaced variables n g)) fits)

  pub gives_of_integers : (k : ℕ) (index : ExprTree) (old : List ℤ) (z : ℤ) → StandsAt program i (assign_element name index e) →
      (scope_at program i).look.kind name ≡ Some names.IntegerArray → HasInteger (scope_at program i).look s index (pos k) →
      HasInteger (scope_at program i).look s e z → Holds s (number_at program i name) (held.Ints old) → k < length old →
      Gives program i (number_at program i name) s (λ new. (now : List ℤ) × (new ≡ held.Ints now) × HasOneNew k z old now)
  gives_of_integers k index old z stands is is_index value there less =
      let low : nat_lt k (length old) ≡ true = lt-ltb k (length old) less in
      let new : Held = held.Ints (slice_set old k z) in
      record {
        after = with_variables s (slice_set s.store.variables (number_at program i name) new);
        leads = element_leads k index (held.Ints old) new kinds.Int (Int z) stands (ap given_kind is) is_index value there
            (ap (λ c. passed c IndexOutOfRange (Int (pos k))) low) (ap (λ c. passed c IndexOutOfRange new) low);
        new = new;
        holds = new_item s.store.variables (number_at program i name) (held.Ints old) new there;
        is = (slice_set old k z, refl, one_new k z old less);
      }

  pub gives_of_booleans : (k : ℕ) (index : ExprTree) (old : List Bool) (b : Bool) → StandsAt program i (assign_element name index e) →
      (scope_at program i).look.kind name ≡ Some names.BooleanArray → HasInteger (scope_at program i).look s index (pos k) →
      HasBit (scope_at program i).look s e b → Holds s (number_at program i name) (held.Bits old) → k < length old →
      Gives program i (number_at program i name) s (λ new. (now : List Bool) × (new ≡ held.Bits now) × HasOneNew k b old now)
  gives_of_booleans k index old b stands is is_index value there less =
      let low : nat_lt k (length old) ≡ true = lt-ltb k (length old) less in
      let new : Held = held.Bits (slice_set old k b) in
      record {
        after = with_variables s (slice_set s.store.variables (number_at program i name) new);
        leads = element_leads k index (held.Bits old) new kinds.Bit (Bit b) stands (ap given_kind is) is_index value there
            (ap (λ c. passed c IndexOutOfRange (Int (pos k))) low) (ap (λ c. passed c IndexOutOfRange new) low);
        new = new;
        holds = new_item s.store.variables (number_at program i name) (held.Bits old) new there;
        is = (slice_set old k b, refl, one_new k b old less);
      }

pub ends_with : (program : Played) (i : ℕ) (s : State) (e : ExprTree) (z : ℤ) → StandsAt program i (exit e) →
    HasInteger (scope_at program i).look s e z → turn program i s ≡ Over [] (Exit z) s
ends_with program i s e z stands is =
    one_row program i s (exit e) (Int z ∷ []) (Ends (Exit z) s) stands refl
    (next_known (scope_at program i).look s.store.variables None (an_integer e) [] (Int z) []
    (plain_known (scope_at program i).look s.store.variables None kinds.Int e (Int z) is) refl) refl
