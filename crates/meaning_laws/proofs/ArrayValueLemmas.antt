-- The bits of an integer and of an array
use Rattle.std.proofs.Common.{◌≡◌, ◌<◌, ◌≤◌, ◌⊎◌, inl, inr, ℕ, ◌+◌, ◌*◌, ◌/◌, ◌%◌, ◌^◌, ℤ, Bool, true, false, nat_eq, List, [], ◌∷◌, length, take, drop, get_or, Some, slice_get, refl, sym, ap, ◌∙◌, arith}
use Rattle.std.specs.Int.{w32, cast_unsigned}
use Rattle.std.specs.Int.RustNames.{FitsSigned}
use Rattle.std.proofs.lemmas.Int.{of_z-to_z}
use Rattle.std.proofs.lemmas.Bool.{cases_lt, false≢true}
use Rattle.std.proofs.lemmas.List.{get_or-take, get_or-drop, get_or_past, length-take}
use Rattle.std.proofs.lemmas.Option.{slice_get-get_or, get_or_from_slice_get}
use Rattle.std.proofs.Math.Pow.{pow_mono}
use Rattle.base.specs.Bits.{number_of}
use Rattle.base.proofs.NumberBits.{get_or-low_bits, number_of-below, number_of-drop, lowest_bits}
use Rattle.bit_list.proofs.IntegerBits.{int_of-bits_of_int}
use Rattle.bit_list.specs.Integers.{int_of, bits_of_int}
use Rattle.stapl_meaning.specs.declared.values.Value.TheVariants.{Int}
use Rattle.stapl_meaning.specs.Values.{Got, Known, then_get, integer_from, bits_between, Lookup, value_of}
use Rattle.stapl_syntax.specs.Trees.{ExprTree, int, whole, range, of_int}
use Rattle.stapl_meaning.specs.declared.profiles.Profile.TheVariants.{Two}
use Rattle.stapl_meaning.specs.declared.values.Held.{Held}
use Rattle.stapl_meaning.specs.declared.values.Held.TheVariants.{Bits}
use Rattle.stapl_meaning.specs.declared.values.Value.{Value}
use Rattle.stapl_meaning.specs.declared.values.ValueKind.{ValueKind}
use Rattle.stapl_meaning.specs.declared.values.ValueKind.TheVariants as kinds
use Rattle.meaning_laws.specs.Outcomes.{GivesInteger}
use Rattle.meaning_laws.specs.Numbers.{FitsInteger}
use Rattle.meaning_laws.specs.Bits.{HasBit, HasBitsWhere}
use Rattle.meaning_laws.proofs.NumberLemmas.{fits_from, fits_to}
use Rattle.meaning_laws.proofs.BitLemmas.{in_list, of_list_fits}

-- an item is true exactly if it is so with false for a missing one
item_so : (bits : List Bool) (i : ℕ) → (slice_get bits i ≡ Some true → get_or bits i false ≡ true) × (get_or bits i false ≡ true → slice_get bits i ≡ Some true)
item_so bits i = (get_or_from_slice_get bits i true false, λ e. by e (cases_lt i (length bits)))
  where
    by : get_or bits i false ≡ true → (i < length bits) ⊎ (length bits ≤ i) → slice_get bits i ≡ Some true
    by e (inl less) = slice_get-get_or bits i false less ∙ ap Some e
    by e (inr most) = absurd (false≢true (sym (get_or_past bits i false most) ∙ e))

lowest_bit : (bits : List Bool) → nat_eq (number_of bits % 2) 1 ≡ get_or bits 0 false
lowest_bit [] = refl
lowest_bit (true ∷ bits) = let e : (1 + 2 * number_of bits) % 2 ≡ 1 = omega arith in ap (λ k. nat_eq k 1) e
lowest_bit (false ∷ bits) = let e : (0 + 2 * number_of bits) % 2 ≡ 0 = omega arith in ap (λ k. nat_eq k 1) e

bit_of_number : (bits : List Bool) (i : ℕ) → nat_eq (number_of bits / 2 ^ i % 2) 1 ≡ get_or bits i false
bit_of_number bits i =
    let same : i + 0 ≡ i = omega arith in
    ap (λ n. nat_eq (n % 2) 1) (sym (number_of-drop i bits)) ∙ lowest_bit (drop i bits) ∙ get_or-drop i bits 0 false ∙ ap (λ k. get_or bits k false) same

-- the integer of at most 32 bits has these
item_of_integer : (bits : List Bool) (i : ℕ) → length bits ≤ 32 → i < 32 → get_or (bits_of_int (int_of bits)) i false ≡ get_or bits i false
item_of_integer bits i short less =
    let below : number_of bits < 2 ^ 32 = omega (arith, number_of-below bits, pow_mono short) in
    get_or-low_bits 32 (cast_unsigned w32 (int_of bits)) i less
    ∙ ap (λ n. nat_eq (n / 2 ^ i % 2) 1) (of_z-to_z w32 (number_of bits) below) ∙ bit_of_number bits i

has_items : (bits : List Bool) → HasBitsWhere (int_of (take 32 bits)) (λ i. slice_get bits i ≡ Some true)
has_items bits = record { fits = fits_to (int_of (take 32 bits)) f; each = each }
  where
    f : FitsSigned w32 (int_of (take 32 bits))
    f = of_list_fits (take 32 bits)

    each : (i : ℕ) → i < 32 → (HasBit i (int_of (take 32 bits)) → slice_get bits i ≡ Some true) × (slice_get bits i ≡ Some true → HasBit i (int_of (take 32 bits)))
    each i less =
        let short : length (take 32 bits) ≤ 32 = omega (arith, length-take 32 bits) in
        let same = item_of_integer (take 32 bits) i short less ∙ get_or-take 32 bits i false less in
        let own = in_list (int_of (take 32 bits)) f i less in
        let item = item_so bits i in
        (λ h. item.1 (sym same ∙ own.0 h), λ e. own.1 (same ∙ item.0 e))

-- what INT gives of these bits, where it is got in a longer way
pub integer_with : (got : Got Value) (bits : List Bool) → got ≡ Known (integer_from bits) → GivesInteger got (λ z. HasBitsWhere z (λ i. slice_get bits i ≡ Some true))
integer_with got bits e = record { number = int_of (take 32 bits); is = e; holds = has_items bits }

pub same_again : (z : ℤ) → FitsInteger z → int_of (take 32 (bits_of_int z)) ≡ z
same_again z g =
    ap int_of (lowest_bits 32 32 (cast_unsigned w32 z) (omega arith)) ∙ int_of-bits_of_int z (fits_from z g)

pub has_own_bits : (z : ℤ) → FitsInteger z → HasBitsWhere z (λ i. slice_get (bits_of_int z) i ≡ Some true)
has_own_bits z g = record {
  fits = g;
  each = λ i less.
      let own = in_list z (fits_from z g) i less in
      let item = item_so (bits_of_int z) i in
      (λ h. item.1 (own.0 h), λ e. own.1 (item.0 e));
}

module _ (look : Lookup) (variables : List Held) (kind : ValueKind) where
  pub of_whole : (name : List ℕ) (bits : List Bool) → slice_get variables (look.variable name) ≡ Some (Bits bits) →
      value_of look variables kind (int (whole name)) ≡ Known (integer_from bits)
  of_whole name bits e = rw e refl

  pub of_range : (name : List ℕ) (first second : ExprTree) (x y : Value) (bits : List Bool) → value_of look variables kinds.Int first ≡ Known x →
      value_of look variables kinds.Int second ≡ Known y → bits_between Two (slice_get variables (look.variable name)) x y ≡ Known bits →
      value_of look variables kind (int (range name first second)) ≡ Known (integer_from bits)
  of_range name first second x y bits d e f =
      let g = ap (λ (got : Got (List Bool)). then_get got (λ bits. Known (integer_from bits))) f in
      rw d (rw e g)

  pub of_integer : (a : ExprTree) (z : ℤ) → FitsInteger z → value_of look variables kinds.Int a ≡ Known (Int z) →
      value_of look variables kind (int (of_int a)) ≡ Known (Int z)
  of_integer a z g e = rw e (ap (λ (n : ℤ). Known (Int n)) (same_again z g))
