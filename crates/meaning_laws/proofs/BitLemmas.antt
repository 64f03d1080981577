-- The bits of an integer by their places, and as a list
use Rattle.std.proofs.Common.{◌≡◌, ◌≢◌, ◌<◌, ◌⊎◌, inl, inr, ⊎_elim, ℕ, zero, suc, ◌-◌, ◌/◌, ◌%◌, ◌^◌, ℤ, pos, negsuc, ◌+ℤ◌, ◌-ℤ◌, Bool, true, false, ◌&&◌, ◌||◌, nat_eq, List, [], ◌∷◌, length, get_or, refl, sym, ap, subst, ◌∙◌, arith}
use Rattle.std.specs.Int.{w32, cast_unsigned}
use Rattle.std.specs.Int.RustNames.{FitsSigned}
use Rattle.std.proofs.lemmas.Int.{ints}
use Rattle.std.proofs.lemmas.Bool.{false≢true}
use Rattle.std.proofs.lemmas.Nat.Bits.{bit_at_not}
use Rattle.std.proofs.lemmas.List.{ext_get_or}
use Rattle.std.proofs.Math.Facts.{Fits-of_z}
use borrow.Author.Differences.{read_fits, fits_in}
use Rattle.base.specs.Bits.{number_of}
use Rattle.base.proofs.NumberBits.{length-low_bits, get_or-low_bits}
use Rattle.bit_list.specs.Integers.{int_of, bits_of_int}
use Rattle.bit_list.proofs.IntegerBits.{int_of-bits_of_int, bits_of_int-int_of}
use Rattle.stapl_lexer.specs.declared.terminal.BinOp.TheVariants.{BitAnd, BitOr, BitXor}
use Rattle.stapl_meaning.specs.declared.values.Value.TheVariants.{Int}
use Rattle.stapl_meaning.specs.Values.{combined, combined_bits, differ, bitwise}
use Rattle.meaning_laws.specs.Numbers.{FitsInteger}
use Rattle.meaning_laws.specs.Bits.{IsPattern, HasBit, HasBitsWhere}
use Rattle.meaning_laws.specs.Outcomes.{GivesInteger}
use Rattle.meaning_laws.proofs.NumberLemmas.{fits_from, fits_to}

pattern_below : (z : ℤ) → FitsSigned w32 z → cast_unsigned w32 z < 4294967296
pattern_below z f = (Fits-of_z f).fits

-- the pattern of an integer, and that it has one alone
pattern_of : (z : ℤ) → FitsSigned w32 z → IsPattern z (cast_unsigned w32 z)
pattern_of (pos n) f = record { is = inl refl; small = pattern_below (pos n) f }
pattern_of (negsuc n) f = let small = pattern_below (negsuc n) f in record { is = inr (let b = f.sfits in omega (arith, ints)); small = small }

one_pattern : (z : ℤ) (p q : ℕ) → IsPattern z p → IsPattern z q → p ≡ q
one_pattern z p q g h = by g.is h.is g.small h.small
  where
    by : (z ≡ pos p) ⊎ (z +ℤ pos 4294967296 ≡ pos p) → (z ≡ pos q) ⊎ (z +ℤ pos 4294967296 ≡ pos q) → p < 4294967296 → q < 4294967296 → p ≡ q
    by (inl e) (inl f) m n = omega (arith, ints)
    by (inl e) (inr f) m n = absurd (omega (arith, ints))
    by (inr e) (inl f) m n = absurd (omega (arith, ints))
    by (inr e) (inr f) m n = omega (arith, ints)

is_odd : (n : ℕ) → (nat_eq (n % 2) 1 ≡ true → n % 2 ≡ 1) × (n % 2 ≡ 1 → nat_eq (n % 2) 1 ≡ true)
is_odd n = (λ e. grind arith, λ e. ap (λ k. nat_eq k 1) e)

-- a bit is 1 exactly if it is true in the list
pub in_list : (z : ℤ) → FitsSigned w32 z → (i : ℕ) → i < 32 → (HasBit i z → get_or (bits_of_int z) i false ≡ true) × (get_or (bits_of_int z) i false ≡ true → HasBit i z)
in_list z f i less = (to, from)
  where
    item : get_or (bits_of_int z) i false ≡ nat_eq (cast_unsigned w32 z / 2 ^ i % 2) 1
    item = get_or-low_bits 32 (cast_unsigned w32 z) i less

    to : HasBit i z → get_or (bits_of_int z) i false ≡ true
    to h =
        let same = one_pattern z h.pattern (cast_unsigned w32 z) h.is (pattern_of z f) in
        item ∙ (is_odd (cast_unsigned w32 z / 2 ^ i)).1 (subst (λ (p : ℕ). p / 2 ^ i % 2 ≡ 1) same h.odd)

    from : get_or (bits_of_int z) i false ≡ true → HasBit i z
    from e = record { pattern = cast_unsigned w32 z; is = pattern_of z f; odd = (is_odd (cast_unsigned w32 z / 2 ^ i)).0 (sym item ∙ e) }

pub bits_length : (z : ℤ) → length (bits_of_int z) ≡ 32
bits_length z = length-low_bits 32 (cast_unsigned w32 z)

-- Booleans that say the same
same_truth : (p q : Bool) → (p ≡ true → q ≡ true) → (q ≡ true → p ≡ true) → p ≡ q
same_truth true q f g = sym (f refl)
same_truth false true f g = g refl
same_truth false false f g = refl

-- an integer is the one with its bits
pub one_with_bits : (y z : ℤ) → FitsInteger z → HasBitsWhere y (λ i. HasBit i z) → y ≡ z
one_with_bits y z g h =
    let f = fits_from y h.fits in
    let k = fits_from z g in
    let same : bits_of_int y ≡ bits_of_int z = by_items (bits_of_int y) (bits_of_int z) (bits_length y) (bits_length z)
    (λ i less. let a = in_list y f i less in let b = in_list z k i less in let e = h.each i less in
    same_truth (get_or (bits_of_int y) i false) (get_or (bits_of_int z) i false) (λ t. b.0 (e.0 (a.1 t))) (λ t. a.0 (e.1 (b.1 t)))) in
    sym (int_of-bits_of_int y f) ∙ ap int_of same ∙ int_of-bits_of_int z k
  where
    by_items : (xs ys : List Bool) → length xs ≡ 32 → length ys ≡ 32 → ((i : ℕ) → i < 32 → get_or xs i false ≡ get_or ys i false) → xs ≡ ys
    by_items xs ys e f same = ext_get_or false xs ys (e ∙ sym f) (λ i less. same i (subst (λ (n : ℕ). i < n) e less))

length-combined_bits : (f : Bool → Bool → Bool) (xs ys : List Bool) → length xs ≡ length ys → length (combined_bits f xs ys) ≡ length xs
length-combined_bits f [] [] e = refl
length-combined_bits f [] (y ∷ ys) e = refl
length-combined_bits f (x ∷ xs) [] e = absurd (omega arith)
length-combined_bits f (x ∷ xs) (y ∷ ys) e = ap suc (length-combined_bits f xs ys (omega arith))

item_combined : (f : Bool → Bool → Bool) (xs ys : List Bool) (i : ℕ) → length xs ≡ length ys → i < length xs →
    get_or (combined_bits f xs ys) i false ≡ f (get_or xs i false) (get_or ys i false)
item_combined f [] ys i e less = absurd (omega arith)
item_combined f (x ∷ xs) [] i e less = absurd (omega arith)
item_combined f (x ∷ xs) (y ∷ ys) zero e less = refl
item_combined f (x ∷ xs) (y ∷ ys) (suc i) e less = item_combined f xs ys i (omega arith) (omega arith)

-- 32 bits make an integer that has them
pub of_list_fits : (l : List Bool) → FitsSigned w32 (int_of l)
of_list_fits l = omega (arith, fits_in, read_fits w32 (number_of l))

-- the bits of what two integers give place by place
module _ (f : Bool → Bool → Bool) (a b : ℤ) where
  joined_length : length (combined_bits f (bits_of_int a) (bits_of_int b)) ≡ 32
  joined_length = length-combined_bits f (bits_of_int a) (bits_of_int b) (bits_length a ∙ sym (bits_length b)) ∙ bits_length a

  bitwise_fits : FitsSigned w32 (bitwise f a b)
  unfolding bitwise
  bitwise_fits = of_list_fits (combined_bits f (bits_of_int a) (bits_of_int b))

  bitwise_item : (i : ℕ) → i < 32 → get_or (bits_of_int (bitwise f a b)) i false ≡ f (get_or (bits_of_int a) i false) (get_or (bits_of_int b) i false)
  unfolding bitwise
  bitwise_item i less =
      ap (λ (l : List Bool). get_or l i false) (bits_of_int-int_of (combined_bits f (bits_of_int a) (bits_of_int b)) joined_length)
      ∙ item_combined f (bits_of_int a) (bits_of_int b) i (bits_length a ∙ sym (bits_length b)) (subst (λ (n : ℕ). i < n) (sym (bits_length a)) less)

-- a Boolean that is true exactly if something holds
record Says (p : Bool) (P : Type 0) : Type 0 where
  to : P → p ≡ true
  from : p ≡ true → P

not_said : {P : Type 0} (p : Bool) → Says p P → p ≡ false → ¬ P
not_said p s e h = false≢true (sym e ∙ s.to h)

or_says : {P Q : Type 0} (p q : Bool) → Says p P → Says q Q → Says (p || q) (P ⊎ Q)
or_says true q s t = record { to = λ h. refl; from = λ e. inl (s.from refl) }
or_says false q s t = record { to = ⊎_elim (λ g. absurd (not_said false s refl g)) t.to; from = λ e. inr (t.from e) }

and_says : {P Q : Type 0} (p q : Bool) → Says p P → Says q Q → Says (p && q) (P × Q)
and_says true q s t = record { to = λ h. t.to h.1; from = λ e. (s.from refl, t.from e) }
and_says false q s t = record { to = λ h. absurd (not_said false s refl h.0); from = λ e. absurd (false≢true e) }

differ_says : {P Q : Type 0} (p q : Bool) → Says p P → Says q Q → Says (differ p q) ((P × ¬ Q) ⊎ (¬ P × Q))
differ_says {P} {Q} true true s t = record { to = to; from = λ e. absurd (false≢true e) }
  where
    to : (P × ¬ Q) ⊎ (¬ P × Q) → false ≡ true
    to (inl h) = absurd (h.1 (t.from refl))
    to (inr h) = absurd (h.0 (s.from refl))
differ_says true false s t = record { to = λ h. refl; from = λ e. inl (s.from refl, not_said false t refl) }
differ_says false true s t = record { to = λ h. refl; from = λ e. inr (not_said false s refl, t.from refl) }
differ_says {P} {Q} false false s t = record { to = to; from = λ e. absurd (false≢true e) }
  where
    to : (P × ¬ Q) ⊎ (¬ P × Q) → false ≡ true
    to (inl h) = absurd (not_said false s refl h.0)
    to (inr h) = absurd (not_said false t refl h.1)

bit_says : (z : ℤ) → FitsSigned w32 z → (i : ℕ) → i < 32 → Says (get_or (bits_of_int z) i false) (HasBit i z)
bit_says z f i less = let b = in_list z f i less in record { to = b.0; from = b.1 }

-- An integer has the bits that two integers give place by place, if something is true exactly if the operator of their
-- bits is.
module _ (f : Bool → Bool → Bool) (Joins : Type 0 → Type 0 → Type 0)
    (says : (P Q : Type 0) (p q : Bool) → Says p P → Says q Q → Says (f p q) (Joins P Q)) (a b : ℤ) (g : FitsInteger a) (h : FitsInteger b) where
  has_joined : HasBitsWhere (bitwise f a b) (λ i. Joins (HasBit i a) (HasBit i b))
  has_joined = record {
    fits = fits_to (bitwise f a b) (bitwise_fits f a b);
    each = λ i less.
        let own = in_list (bitwise f a b) (bitwise_fits f a b) i less in
        let both = says (HasBit i a) (HasBit i b) (get_or (bits_of_int a) i false) (get_or (bits_of_int b) i false)
        (bit_says a (fits_from a g) i less) (bit_says b (fits_from b h) i less) in
        let e = bitwise_item f a b i less in
        (λ k. both.from (sym e ∙ own.0 k), λ k. own.1 (e ∙ both.to k));
  }

pub has_both : (a b : ℤ) → FitsInteger a → FitsInteger b → GivesInteger (combined BitAnd (Int a) (Int b)) (λ z. HasBitsWhere z (λ i. HasBit i a × HasBit i b))
has_both a b g h = record { number = bitwise ◌&&◌ a b; is = refl; holds = has_joined ◌&&◌ (λ P Q. P × Q) (λ P Q. and_says {P = P} {Q = Q}) a b g h }

pub has_either : (a b : ℤ) → FitsInteger a → FitsInteger b → GivesInteger (combined BitOr (Int a) (Int b)) (λ z. HasBitsWhere z (λ i. HasBit i a ⊎ HasBit i b))
has_either a b g h = record { number = bitwise ◌||◌ a b; is = refl; holds = has_joined ◌||◌ (λ P Q. P ⊎ Q) (λ P Q. or_says {P = P} {Q = Q}) a b g h }

pub has_just_one : (a b : ℤ) → FitsInteger a → FitsInteger b → GivesInteger (combined BitXor (Int a) (Int b))
    (λ z. HasBitsWhere z (λ i. (HasBit i a × ¬ HasBit i b) ⊎ (¬ HasBit i a × HasBit i b)))
has_just_one a b g h = record { number = bitwise differ a b; is = refl; holds = has_joined differ (λ P Q. (P × ¬ Q) ⊎ (¬ P × Q)) (λ P Q. differ_says {P = P} {Q = Q}) a b g h }

-- the integer whose pattern is what 2 ^ 32 - 1 is more than another
module _ (a : ℤ) (g : FitsInteger a) where
  turned_fits : FitsInteger (negsuc 0 -ℤ a)
  turned_fits = let l = g.low in let u = g.high in record { low = omega (arith, ints); high = omega (arith, ints) }

  turned_pattern : (p : ℕ) → IsPattern a p → IsPattern (negsuc 0 -ℤ a) (4294967295 - p)
  turned_pattern p h = record { is = by h.is; small = omega arith }
    where
      by : (a ≡ pos p) ⊎ (a +ℤ pos 4294967296 ≡ pos p) → (negsuc 0 -ℤ a ≡ pos (4294967295 - p)) ⊎ ((negsuc 0 -ℤ a) +ℤ pos 4294967296 ≡ pos (4294967295 - p))
      by (inl e) = let l = h.small in inr (omega (arith, ints))
      by (inr e) = let l = h.small in let u = g.high in let d = g.low in inl (omega (arith, ints))

  flipped : (p i : ℕ) → p < 4294967296 → i < 32 → (4294967295 - p) / 2 ^ i % 2 ≡ 1 - p / 2 ^ i % 2
  flipped p i small less = bit_at_not w32 p i small less

  pub has_turned : HasBitsWhere (negsuc 0 -ℤ a) (λ i. ¬ HasBit i a)
  has_turned = record { fits = turned_fits; each = each }
    where
      each : (i : ℕ) → i < 32 → (HasBit i (negsuc 0 -ℤ a) → ¬ HasBit i a) × (¬ HasBit i a → HasBit i (negsuc 0 -ℤ a))
      each i less = (to, from)
        where
          to : HasBit i (negsuc 0 -ℤ a) → ¬ HasBit i a
          to h k =
              let same = one_pattern (negsuc 0 -ℤ a) h.pattern (4294967295 - k.pattern) h.is (turned_pattern k.pattern k.is) in
              let flip = flipped k.pattern i k.is.small less in
              let odd : (4294967295 - k.pattern) / 2 ^ i % 2 ≡ 1 = subst (λ (p : ℕ). p / 2 ^ i % 2 ≡ 1) same h.odd in
              let other = k.odd in
              absurd (omega arith)

          from : ¬ HasBit i a → HasBit i (negsuc 0 -ℤ a)
          from none =
              let f = fits_from a g in
              let p = cast_unsigned w32 a in
              let is = pattern_of a f in
              let even : p / 2 ^ i % 2 ≢ 1 = λ odd. none (record { pattern = p; is = is; odd = odd }) in
              record { pattern = 4294967295 - p; is = turned_pattern p is; odd = flipped p i is.small less ∙ omega (arith, even) }
