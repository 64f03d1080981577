-- What a report says of devices: a line for each, with the instruction in force and what is held. The format is this
-- profile's.
use Rattle.std.specs.Prelude.{ℕ, pos, ◌+◌, ◌&&◌, Bool, true, List, [], ◌∷◌, ◌++◌, codes, if◌then◌else◌}
use Rattle.std.specs.Fmt.{signed_decimal}
use Rattle.std.specs.List.{flat_map}
use Rattle.base.specs.Bits.{low_bits}
use Rattle.dev_card.specs.declared.desc.Kind.{Kind}
use Rattle.dev_card.specs.declared.desc.Kind.TheVariants.{Plain, Regs, Flash}
use Rattle.dev_card.specs.declared.desc.RegDesc.{RegDesc}
use Rattle.dev_card.specs.Card.{Card}
use Rattle.bit_list.specs.Hexadecimal.{all_hex_digits}

-- a name with what stands under it
abbrev pub named_text : List ℕ → List ℕ → List ℕ
named_text name text = codes " " ++ name ++ codes "=" ++ text

-- each register with what it holds, which of a register with a constant is its last update too
abbrev pub registers_text : List RegDesc → List (List Bool) → List ℕ
registers_text [] cells = []
registers_text (r ∷ rs) [] = []
registers_text (r ∷ rs) (held ∷ cells) = named_text r.name (all_hex_digits held) ++ registers_text rs cells

abbrev pub are_ones : List Bool → Bool
are_ones [] = true
are_ones (b ∷ bs) = b && are_ones bs

-- a word with its number, and nothing of a word of ones
abbrev pub word_text : ℕ → List Bool → List ℕ
word_text a word = if are_ones word then [] else named_text (signed_decimal (pos a)) (all_hex_digits word)

-- words, of which the first has this number
abbrev pub words_text : ℕ → List (List Bool) → List ℕ
words_text a [] = []
words_text a (word ∷ words) = word_text a word ++ words_text (a + 1) words

-- the address of a Flash and its words
abbrev pub memory_text : List (List Bool) → List ℕ
memory_text [] = []
memory_text (address ∷ words) = named_text (codes "addr") (all_hex_digits address) ++ words_text 0 words

-- what a device of each kind holds
abbrev pub held_text : Kind → Card → List ℕ
held_text Plain c = []
held_text Regs c = registers_text c.desc.registers c.cells
held_text Flash c = memory_text c.cells

-- the line of a device, with as many digits of each part as its length needs
abbrev pub report_line : Card → List ℕ
report_line c =
    codes "D " ++ c.desc.name ++ named_text (codes "ir") (all_hex_digits (low_bits c.desc.ir_len c.instruction))
    ++ held_text c.desc.kind c ++ 10 ∷ []

-- the lines of a board, the device nearest TDO first
abbrev pub report_of : List Card → List ℕ
report_of cs = flat_map report_line cs
