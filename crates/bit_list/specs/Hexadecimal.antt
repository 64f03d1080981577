-- Hexadecimal digits, in upper case, as the written text has them. The format is this profile's.
use Rattle.std.specs.Prelude.{ℕ, zero, suc, ◌+◌, ◌*◌, ◌/◌, List, [], ◌∷◌, Bool, length, nat_lt, if◌then◌else◌}
use Rattle.base.specs.Bits.{number_of}
use Rattle.bit_list.specs.Ranges.{taken}

-- an upper-case hexadecimal digit, for a number below 16
abbrev pub hex_digit : ℕ → ℕ
hex_digit n = if nat_lt n 10 then 48 + n else 55 + n

-- how many hexadecimal digits so many bits need
abbrev pub digits_needed : ℕ → ℕ
digits_needed n = (n + 3) / 4

-- the lowest so many hexadecimal digits of bits, the highest first; each digit stands for four bits, of which missing
-- ones are 0
abbrev pub hex_digits : ℕ → List Bool → List ℕ
hex_digits zero bits = []
hex_digits (suc n) bits = hex_digit (number_of (taken (4 * n) 4 bits)) ∷ hex_digits n bits

-- all digits of bits, as many as their length needs
abbrev pub all_hex_digits : List Bool → List ℕ
all_hex_digits bits = hex_digits (digits_needed (length bits)) bits
