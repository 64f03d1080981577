-- How the fields of a code file are written. Numbers stand high byte first. The format is this profile's.
use Rattle.std.specs.Prelude.{ℕ, zero, suc, ℤ, Bool, List, [], ◌∷◌, ◌++◌, length, take, drop}
use Rattle.std.specs.Int.{w32, to_be_bytes, cast_unsigned, div_ceil}
use Rattle.std.specs.List.{flat_map}
use Rattle.base.specs.Bits.{number_of}

-- a number of four bytes
abbrev pub number : ℕ → List ℕ
number n = to_be_bytes w32 n

-- an integer of four bytes, in two's complement
abbrev pub integer : ℤ → List ℕ
integer z = number (cast_unsigned w32 z)

-- a number of one byte, and one of four
abbrev pub marked : ℕ → ℕ → List ℕ
marked mark n = mark ∷ number n

-- how many items there are, and the items
abbrev pub counted : {A : Type 0} → (A → List ℕ) → List A → List ℕ
counted item items = number (length items) ++ flat_map item items

-- a name, of at most 255 bytes
abbrev pub name : List ℕ → List ℕ
name bytes = length bytes ∷ bytes

-- a text, by its bytes
abbrev pub text : List ℕ → List ℕ
text bytes = number (length bytes) ++ bytes

-- so many bytes, each with the next eight bits, the first one lowest; missing bits are 0
abbrev pub bytes_of_bits : ℕ → List Bool → List ℕ
bytes_of_bits zero bits = []
bytes_of_bits (suc n) bits = number_of (take 8 bits) ∷ bytes_of_bits n (drop 8 bits)

-- how many bytes hold so many bits
abbrev pub bytes_for : ℕ → ℕ
bytes_for bits = div_ceil bits 8

-- a literal, by its bits
abbrev pub literal : List Bool → List ℕ
literal bits = number (length bits) ++ bytes_of_bits (bytes_for (length bits)) bits
