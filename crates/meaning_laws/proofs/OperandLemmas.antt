-- The values of variables and of elements.
use Rattle.std.proofs.Common.{◌≡◌, ℕ, ℤ, pos, Bool, List, [], ◌∷◌, ◌++◌, length, Option, Some, slice_get, refl, ap, ◌∙◌}
use Rattle.stapl_syntax.specs.Trees.{ExprTree, scalar, element}
use Rattle.stapl_meaning.specs.declared.values.Held.{Held}
use Rattle.stapl_meaning.specs.declared.values.Held.TheVariants as held
use Rattle.stapl_meaning.specs.declared.values.Value.{Value}
use Rattle.stapl_meaning.specs.declared.values.Value.TheVariants.{Int, Bit}
use Rattle.stapl_meaning.specs.declared.values.ValueKind.{ValueKind}
use Rattle.stapl_meaning.specs.declared.values.ValueKind.TheVariants as kinds
use Rattle.stapl_meaning.specs.Values.{Got, Known, Lookup, then_get, scalar_of, item_of, element_of, value_of}

item_after : {A : Type 0} (before after : List A) (x : A) → slice_get (before ++ x ∷ after) (length before) ≡ Some x
item_after [] after x = refl
item_after (y ∷ before) after x = item_after before after x

module _ (look : Lookup) (variables : List Held) (kind : ValueKind) (name : List ℕ) where
  pub integer_held : (z : ℤ) → slice_get variables (look.variable name) ≡ Some (held.Int z) →
      value_of look variables kind (scalar name) ≡ Known (Int z)
  integer_held z e = ap scalar_of e

  pub bit_held : (bit : Bool) → slice_get variables (look.variable name) ≡ Some (held.Bit bit) →
      value_of look variables kind (scalar name) ≡ Known (Bit bit)
  bit_held bit e = ap scalar_of e

  element_is : (e : ExprTree) (array : Held) (i : ℕ) → slice_get variables (look.variable name) ≡ Some array →
      value_of look variables kinds.Int e ≡ Known (Int (pos i)) →
      value_of look variables kind (element name e) ≡ element_of (Some array) (Int (pos i))
  element_is e array i is at =
      ap (λ (got : Got Value). then_get got (element_of (slice_get variables (look.variable name)))) at
      ∙ ap (λ (o : Option Held). element_of o (Int (pos i))) is

  pub integer_at : (e : ExprTree) (before after : List ℤ) (z : ℤ) →
      slice_get variables (look.variable name) ≡ Some (held.Ints (before ++ z ∷ after)) →
      value_of look variables kinds.Int e ≡ Known (Int (pos (length before))) →
      value_of look variables kind (element name e) ≡ Known (Int z)
  integer_at e before after z is at =
      element_is e (held.Ints (before ++ z ∷ after)) (length before) is at
      ∙ ap (item_of Int) (item_after before after z)

  pub bit_at : (e : ExprTree) (before after : List Bool) (bit : Bool) →
      slice_get variables (look.variable name) ≡ Some (held.Bits (before ++ bit ∷ after)) →
      value_of look variables kinds.Int e ≡ Known (Int (pos (length before))) →
      value_of look variables kind (element name e) ≡ Known (Bit bit)
  bit_at e before after bit is at =
      element_is e (held.Bits (before ++ bit ∷ after)) (length before) is at
      ∙ ap (item_of Bit) (item_after before after bit)
