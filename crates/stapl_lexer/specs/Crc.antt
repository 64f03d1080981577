-- The check word of a text: the remainder of the CRC statement (JESD71, CRC statement). That carriage returns are left
-- out is this profile's rule.
use Rattle.std.specs.Prelude.{ℕ, ◌-◌, ◌/◌, ◌%◌, List, [], ◌∷◌, Bool, ◌==◌, if◌then◌else◌, zero, suc}
use Rattle.std.specs.Bool.{beq}
use Rattle.std.specs.Int.Bits.{bit_xor}
use Rattle.std.specs.List.{flat_map}

-- the lowest n bits of a number, the lowest first
abbrev pub low_bits : ℕ → ℕ → List Bool
low_bits zero b = []
low_bits (suc n) b = (b % 2 == 1) ∷ low_bits n (b / 2)

-- the remainder after one more bit; 33800 is the CCITT polynomial with its bits reversed, 8408 in hexadecimal digits
abbrev pub remainder_after : ℕ → Bool → ℕ
remainder_after crc bit = if beq (crc % 2 == 1) bit then crc / 2 else bit_xor (crc / 2) 33800

-- the remainder after a list of bits
abbrev pub remainder : ℕ → List Bool → ℕ
remainder crc [] = crc
remainder crc (bit ∷ bits) = remainder (remainder_after crc bit) bits

-- the bits of a byte, or none of a carriage return
abbrev pub bits_of_byte : ℕ → List Bool
bits_of_byte b = if b == 13 then [] else low_bits 8 b

-- the bits of a text
abbrev pub bits_of_text : List ℕ → List Bool
bits_of_text bytes = flat_map bits_of_byte bytes

-- the check word: the remainder that starts with sixteen ones, with all its bits turned
abbrev pub check_word : List ℕ → ℕ
check_word bytes = 65535 - remainder 65535 (bits_of_text bytes)
