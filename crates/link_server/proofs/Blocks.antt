-- The inputs of a block of clocks, for the crates above.
use Rattle.std.proofs.Common.{◌≡◌, ◌==◌, ◌&&◌, ℕ, zero, suc, Bool, false, length, refl, ap, ◌∙◌, arith}
use Rattle.std.proofs.lemmas.Bool.Decides.{nat_tests}
use Rattle.base.specs.Bits.{low_bits}
use Rattle.base.proofs.NumberBits.{length-low_bits}
use Rattle.std.proofs.lemmas.List.{length-map}
use Rattle.dev_card.specs.Clocks.{is_nil, with_zero}
use Rattle.dev_card.specs.Blocks.{block_inputs}
use Rattle.scan_paths.proofs.Shifting.{length_of_inputs}

two_is_more : (m : ℕ) → (suc (suc m) == 1) ≡ false
two_is_more m = grind (arith, nat_tests)

-- the first of n bits is the last, if none is left
pub last_of : (n m x : ℕ) (last : Bool) → n ≡ suc m → (last && (n == 1)) ≡ (last && is_nil (low_bits m x))
last_of n m x last e = ap (λ k. last && (k == 1)) e ∙ ap (λ t. last && t) (none_left m)
  where
    none_left : (m : ℕ) → (suc m == 1) ≡ is_nil (low_bits m x)
    none_left zero = refl
    none_left (suc m) = two_is_more m

pub length_of_block : (tdi n : ℕ) (last : Bool) → length (block_inputs tdi n last) ≡ n
length_of_block tdi n last = length_of_inputs last (low_bits n tdi) ∙ length-low_bits n tdi

-- and of a move
pub length_of_moves : (tms n : ℕ) → length (with_zero (low_bits n tms)) ≡ n
length_of_moves tms n = length-map (low_bits n tms) (λ m. record { tms = m; tdi = false }) ∙ length-low_bits n tms
