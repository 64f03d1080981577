-- What the words of a line say: a device, or a register of the device before it.
use Rattle.std.specs.Prelude.{ℕ, Bool, true, false, nat_eq, List, [], slice_index_or, take, drop, Option, Some, None}
use Rattle.std.specs.Option.{option_map}
use Rattle.std.specs.Str.{str_to_ascii_uppercase}
use Rattle.std.specs.Str.Parse.{digits_value}
use Rattle.bit_list.specs.Digits.{bits_of_hex}
use Rattle.dev_card.specs.declared.desc.Kind.{Kind}
use Rattle.dev_card.specs.declared.desc.Kind.TheVariants as kinds
use Rattle.dev_card.specs.declared.desc.IdCode.{IdCode}
use Rattle.dev_card.specs.declared.desc.RegDesc.{RegDesc}
use Rattle.dev_card.specs.declared.desc.FlashDesc.{FlashDesc}
use Rattle.dev_card.specs.declared.desc.Desc.{Desc}
use Rattle.board_text.specs.declared.shapes.Shape.{Shape}
use Rattle.board_text.specs.declared.shapes.Shape.TheVariants as shapes
use Rattle.board_text.specs.Shapes.{shape_of}

-- a device's line
pub record DeviceLine : Type 0 where
  -- the device as the line describes it
  pub description : Desc
  -- the number that says which bit fills the words of a memory; 0 where there is no memory
  pub fill : ℕ

-- a register's line
pub record RegisterLine : Type 0 where
  -- the register as the line describes it
  pub description : RegDesc
  -- the digits of its constant
  pub digits : Option (List ℕ)

-- what a line says
pub data Content : Type 0 where
  device : DeviceLine → Content
  register : RegisterLine → Content

-- the word at a place, counted from 0
abbrev pub word : List (List ℕ) → ℕ → List ℕ
word words at = slice_index_or words at []

-- what it stands for: a name, a decimal number, or a number of hexadecimal digits
abbrev pub name_at : List (List ℕ) → ℕ → List ℕ
name_at words at = str_to_ascii_uppercase (word words at)

abbrev pub number_at : List (List ℕ) → ℕ → ℕ
number_at words at = digits_value 10 (word words at)

abbrev pub code_at : List (List ℕ) → ℕ → ℕ
code_at words at = digits_value 16 (word words at)

-- the identity of a device
abbrev pub identity_of : Bool → List (List ℕ) → Option IdCode
identity_of true words = Some (record { value = code_at words 4; op = code_at words 5 })
identity_of false words = None

-- the words after its identity, or after its first three words where it has none
abbrev pub last_words : Bool → List (List ℕ) → List (List ℕ)
last_words true words = drop 6 words
last_words false words = drop 3 words

-- the memory that the words after the identity describe
abbrev pub memory_of : List (List ℕ) → FlashDesc
memory_of words = record {
  erase = code_at words 1;
  addr = code_at words 3;
  prog = code_at words 5;
  read = code_at words 7;
  words = number_at words 9;
  width = number_at words 11;
  busy = number_at words 13;
  fill = nat_eq (number_at words 15) 1;
}

abbrev pub flash_of : Kind → List (List ℕ) → Option FlashDesc
flash_of kinds.Plain words = None
flash_of kinds.Regs words = None
flash_of kinds.Flash words = Some (memory_of words)

abbrev pub fill_of : Kind → List (List ℕ) → ℕ
fill_of kinds.Plain words = 0
fill_of kinds.Regs words = 0
fill_of kinds.Flash words = number_at words 15

-- the device of a line
abbrev pub device_line : Kind → Bool → List (List ℕ) → DeviceLine
device_line kind identified words = record {
  description = record {
    kind = kind;
    name = name_at words 1;
    ir_len = number_at words 2;
    id = identity_of identified words;
    registers = [];
    flash = flash_of kind (last_words identified words);
  };
  fill = fill_of kind (last_words identified words);
}

-- the digits of a register's constant
abbrev pub constant_digits : Bool → List (List ℕ) → Option (List ℕ)
constant_digits true words = Some (word words 5)
constant_digits false words = None

-- The bits of a constant of this length: the last digit has the lowest four, and spare bits of the first one are left
-- out.
abbrev pub constant_bits : ℕ → List ℕ → List Bool
constant_bits len digits = take len (bits_of_hex digits)

-- the register of a line
abbrev pub register_line : Bool → List (List ℕ) → RegisterLine
register_line constant words = record {
  description = record {
    name = name_at words 1;
    op = code_at words 2;
    len = number_at words 3;
    constant = option_map (constant_bits (number_at words 3)) (constant_digits constant words);
  };
  digits = constant_digits constant words;
}

abbrev pub content_of : List (List ℕ) → Shape → Content
content_of words (shapes.Device kind identified) = device (device_line kind identified words)
content_of words (shapes.Register constant) = register (register_line constant words)

-- what the words of a line say, if they have a shape
abbrev pub line_content : List (List ℕ) → Option Content
line_content words = option_map (content_of words) (shape_of words)
