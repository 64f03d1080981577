-- Numbers as lists of bits, the bit of lowest value first, which is the order of shifting. The notation is this
-- profile's.
use Rattle.std.specs.Prelude.{ℕ, suc, zero, ◌+◌, ◌*◌, ◌/◌, ◌%◌, nat_eq, Bool, true, false, List, [], ◌∷◌}

-- the lowest n bits of a number
abbrev pub low_bits : ℕ → ℕ → List Bool
low_bits zero x = []
low_bits (suc n) x = nat_eq (x % 2) 1 ∷ low_bits n (x / 2)

-- what a bit counts at the lowest place
abbrev pub bit_value : Bool → ℕ
bit_value true = 1
bit_value false = 0

-- the number with these bits
abbrev pub number_of : List Bool → ℕ
number_of [] = 0
number_of (b ∷ bs) = bit_value b + 2 * number_of bs
