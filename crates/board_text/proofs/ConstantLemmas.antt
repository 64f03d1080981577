-- The constants of registers: spare bits of the first digit, and the bits that a register has room for.
use Rattle.std.proofs.Common.{◌≡◌, ◌<◌, ◌≤◌, ◌+◌, ◌-◌, ◌*◌, ◌/◌, ◌%◌, ◌^◌, ◌++◌, ◌↔◌, ℕ, zero, suc, List, [], ◌∷◌, length, take, drop, get_or, refl, sym, ap, subst, ◌∙◌, Bool, true, false, cond, nat_lt, arith, inl, inr}
use Rattle.std.specs.Prelude.{not, ◌&&◌, IsTrue}
use Rattle.std.specs.List.{list_all}
use Rattle.std.specs.Char.{digit_value}
use Rattle.std.specs.Option.{ForSome}
use Rattle.std.proofs.Math.Seq.{drop-length, drop-append-add}
use Rattle.std.proofs.lemmas.Bool.{and_parts, false≢true, cases_lt}
use Rattle.std.proofs.lemmas.List.{append-nil, length-take}
use Rattle.std.proofs.lemmas.List.Sums.{AllPass-from_list_all, list_all-from_AllPass}
use Rattle.base.specs.Bits.{low_bits}
use Rattle.bit_list.specs.Digits.{bits_of_hex}
use Rattle.bit_list.specs.Ranges.{taken, spliced}
use Rattle.bit_list.proofs.DigitBits.{bits_of_digits-cons, length-bits_of_digits}
use Rattle.board_text.specs.Contents.{number_at, constant_digits, register_line}
use Rattle.board_text.specs.Limits.{IsConstant, HasGoodLength}

-- a test of each number below a limit
passes_below : ℕ → (ℕ → Bool) → Bool
passes_below zero test = true
passes_below (suc n) test = test n && passes_below n test

passes : (n : ℕ) (test : ℕ → Bool) → passes_below n test ≡ true → (k : ℕ) → k < n → test k ≡ true
unfolding passes_below
passes zero test e k lt = absurd (omega arith)
passes (suc n) test e k lt = elim (cases_lt k n) [
  | inl less ↦ passes n test (and_parts (test n) _ e).1 k less
  | inr ge ↦ let here : n ≡ k = omega arith in subst (λ (i : ℕ). test i ≡ true) here (and_parts (test n) _ e).0
]

-- the bits of a digit above its lowest are 0
spare_bits : ℕ → ℕ → Bool
spare_bits bits digit = list_all not (drop bits (low_bits 4 digit))

-- the test of the reader says the same
agrees : ℕ → ℕ → Bool
agrees bits digit = cond (nat_lt digit (1 * 2 ^ bits % 18446744073709551616)) (spare_bits bits digit) (not (spare_bits bits digit))

all_agree : passes_below 5 (λ bits. passes_below 16 (agrees bits)) ≡ true
unfolding passes_below agrees spare_bits
all_agree = refl

same_answer : (a b : Bool) → cond a b (not b) ≡ true → a ≡ b
same_answer true b e = sym e
same_answer false true e = absurd (false≢true e)
same_answer false false e = refl

digit_test : (bits digit : ℕ) → bits < 5 → digit < 16 → nat_lt digit (1 * 2 ^ bits % 18446744073709551616) ≡ list_all not (drop bits (low_bits 4 digit))
unfolding agrees spare_bits
digit_test bits digit few below = same_answer _ _ (passes 16 (agrees bits) (passes 5 (λ (b : ℕ). passes_below 16 (agrees b)) all_agree bits few) digit below)

-- the spare bits of a constant are those of its first digit
spare_is : (d : ℕ) (ds : List ℕ) (len : ℕ) → 1 ≤ len → length (d ∷ ds) ≡ (len + 3) / 4 → drop len (bits_of_hex (d ∷ ds)) ≡ drop ((len - 1) % 4 + 1) (low_bits 4 (digit_value d))
spare_is d ds len some whole =
    let room : length (bits_of_hex ds) ≡ length ds * 4 = length-bits_of_digits 4 ds in
    let place : len ≡ length (bits_of_hex ds) + ((len - 1) % 4 + 1) = omega arith in
    ap (drop len) (bits_of_digits-cons 4 d ds) ∙ ap (λ (n : ℕ). drop n (bits_of_hex ds ++ low_bits 4 (digit_value d))) place
    ∙ drop-append-add (bits_of_hex ds) (low_bits 4 (digit_value d)) ((len - 1) % 4 + 1)

pub spare_test : (digits : List ℕ) (len digit : ℕ) → 1 ≤ len → length digits ≡ (len + 3) / 4 → digit ≡ digit_value (get_or digits 0 0) → digit < 16 →
    IsTrue (nat_lt digit (1 * 2 ^ ((len - 1) % 4 + 1) % 18446744073709551616)) ↔ IsConstant len digits
spare_test [] len digit some whole value bound = absurd (omega arith)
spare_test (d ∷ ds) len digit some whole value bound =
    let spare : drop len (bits_of_hex (d ∷ ds)) ≡ drop ((len - 1) % 4 + 1) (low_bits 4 digit) =
    spare_is d ds len some whole ∙ ap (λ (v : ℕ). drop ((len - 1) % 4 + 1) (low_bits 4 v)) (sym value) in
    let same : nat_lt digit (1 * 2 ^ ((len - 1) % 4 + 1) % 18446744073709551616) ≡ list_all not (drop len (bits_of_hex (d ∷ ds))) =
    digit_test ((len - 1) % 4 + 1) digit (omega arith) bound ∙ ap (list_all not) (sym spare) in
    (λ yes. record { whole = whole; spare = AllPass-from_list_all not _ (sym same ∙ yes) }, λ constant. same ∙ list_all-from_AllPass not _ constant.spare)

pub enough_bits : (digits : List ℕ) (len : ℕ) → IsConstant len digits → len ≤ length (bits_of_hex digits)
enough_bits digits len constant = omega (arith, length-bits_of_digits 4 digits, constant.whole)

pub copied_bits : (len : ℕ) (whole zeros new : List Bool) → new ≡ spliced 0 (taken 0 len whole) zeros → length zeros ≡ len → len ≤ length whole → new ≡ take len whole
copied_bits len whole zeros new new_is room enough =
    let end : 0 + length (take len whole) ≡ length zeros = omega (arith, length-take len whole) in
    new_is ∙ ap (λ (n : ℕ). take len whole ++ drop n zeros) end ∙ ap (λ (r : List Bool). take len whole ++ r) (drop-length zeros) ∙ append-nil (take len whole)

-- a constant outside its limits
pub bad_constant : (constant : Bool) (ws : List (List ℕ)) (len : ℕ) → len ≡ number_at ws 3 → (ForSome (constant_digits constant ws) (IsConstant len) → ⊥) →
    HasGoodLength (register_line constant ws) → ⊥
bad_constant constant ws len e bad good = bad (subst (λ (n : ℕ). ForSome (constant_digits constant ws) (IsConstant n)) (sym e) good.constant)
