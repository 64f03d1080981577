-- The limits of what a line says. They are this profile's, and those of good descriptions.
use Rattle.std.specs.Prelude.{◌≡◌, ◌≤◌, ◌+◌, ◌/◌, ◌%◌, ℕ, List, length, drop, Option, All, not}
use Rattle.std.specs.Option.{ForSome}
use Rattle.std.specs.List.{AllPass}
use Rattle.bit_list.specs.Digits.{bits_of_hex}
use Rattle.dev_card.specs.declared.desc.IdCode.{IdCode}
use Rattle.dev_card.specs.declared.desc.FlashDesc.{FlashDesc}
use Rattle.dev_card.specs.declared.desc.Desc.{Desc}
use Rattle.dev_card.specs.Descriptions.{IsOpcode, IsGoodFlash, opcodes_of}
use Rattle.board_text.specs.Contents.{DeviceLine, RegisterLine}

-- the numbers of a memory are inside their limits; the last one says which bit fills its words
pub record IsMemoryInRange (f : FlashDesc) (fill : ℕ) : Type 0 where
  pub good : IsGoodFlash f
  pub bit : fill ≤ 1

-- the identity is odd
abbrev pub IsOdd : IdCode → Type 0
IsOdd id = id.value % 2 ≡ 1

-- the numbers of a device are inside their limits, and its identity is odd
pub record HasGoodNumbers (l : DeviceLine) : Type 0 where
  pub shortest : 2 ≤ l.description.ir_len
  pub longest : l.description.ir_len ≤ 64
  pub identity : ForSome l.description.id IsOdd
  pub memory : ForSome l.description.flash (λ (f : FlashDesc). IsMemoryInRange f l.fill)

-- and so are its opcodes
pub record IsDeviceInRange (l : DeviceLine) : Type 0 where
  pub numbers : HasGoodNumbers l
  pub opcodes : All (IsOpcode l.description.ir_len) (opcodes_of l.description)

-- a constant has exactly as many digits as its length needs, and the spare bits at its top are 0
pub record IsConstant (len : ℕ) (digits : List ℕ) : Type 0 where
  pub whole : length digits ≡ (len + 3) / 4
  pub spare : AllPass not (drop len (bits_of_hex digits))

-- the length of a register and its constant are inside their limits
pub record HasGoodLength (l : RegisterLine) : Type 0 where
  pub some : 1 ≤ l.description.len
  pub limit : l.description.len ≤ 65536
  pub constant : ForSome l.digits (IsConstant l.description.len)

-- and so is its opcode, if a device has the register
pub record IsRegisterInRange (owner : Option Desc) (l : RegisterLine) : Type 0 where
  pub numbers : HasGoodLength l
  pub opcode : ForSome owner (λ (d : Desc). IsOpcode d.ir_len l.description.op)
