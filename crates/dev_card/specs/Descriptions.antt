-- Descriptions of devices, and which of them are good: those that a board text can give. The limits and the three kinds
-- are this profile's. Opcodes are the codes of the instruction register (IEEE 1149.1, clause 7), as numbers.
use Rattle.std.specs.Prelude.{◌≡◌, ◌≢◌, ◌<◌, ◌≤◌, ◌+◌, ◌%◌, ◌^◌, ◌++◌, ℕ, List, [], ◌∷◌, length, map, Option, Some, None, IsSomeAnd, All, AllPairs}
use Rattle.std.specs.Option.{ForSome}
use Rattle.stapl_lexer.specs.Names.{IsUpperName}
use Rattle.dev_card.specs.declared.desc.Kind.{Kind}
use Rattle.dev_card.specs.declared.desc.Kind.TheVariants.{Plain, Regs, Flash}
use Rattle.dev_card.specs.declared.desc.IdCode.{IdCode}
use Rattle.dev_card.specs.declared.desc.RegDesc.{RegDesc}
use Rattle.dev_card.specs.declared.desc.FlashDesc.{FlashDesc}
use Rattle.dev_card.specs.declared.desc.Desc.{Desc}

-- an opcode of so many bits that may be named: it is below the code of all ones, which always selects BYPASS
-- (IEEE 1149.1, clause 8, BYPASS instruction)
abbrev pub IsOpcode : ℕ → ℕ → Type 0
IsOpcode ir_len op = op + 1 < 2 ^ ir_len

-- a device identification code (IEEE 1149.1, clause 12, device identification register): 32 bits, of which the lowest
-- is 1
pub record IsIdentity (id : IdCode) : Type 0 where
  pub width : id.value < 2 ^ 32
  pub odd : id.value % 2 ≡ 1

-- a register of a device of kind Regs
pub record IsGoodRegister (r : RegDesc) : Type 0 where
  pub named : IsUpperName r.name
  pub some : 1 ≤ r.len
  pub limit : r.len ≤ 65536
  pub constant_length : ForSome r.constant (λ bits. length bits ≡ r.len)

-- the registers of a device of kind Regs
pub record AreGoodRegisters (registers : List RegDesc) : Type 0 where
  pub some : 1 ≤ length registers
  pub limit : length registers ≤ 64
  pub each : All IsGoodRegister registers
  pub names_apart : AllPairs ◌≢◌ (map (λ (r : RegDesc). r.name) registers)

-- the memory of a device of kind Flash
pub record IsGoodFlash (f : FlashDesc) : Type 0 where
  pub some_words : 1 ≤ f.words
  pub most_words : f.words ≤ 4096
  pub some_width : 1 ≤ f.width
  pub most_width : f.width ≤ 4096
  pub most_busy : f.busy ≤ 1000000

-- the parts that a description of each kind has, and no others
abbrev pub HasPartsOf : Kind → Desc → Type 0
HasPartsOf Plain d = (d.registers ≡ []) × (d.flash ≡ None)
HasPartsOf Regs d = AreGoodRegisters d.registers × (d.flash ≡ None)
HasPartsOf Flash d = (d.registers ≡ []) × IsSomeAnd d.flash IsGoodFlash

abbrev pub identity_opcodes : Option IdCode → List ℕ
identity_opcodes None = []
identity_opcodes (Some id) = id.op ∷ []

abbrev pub flash_opcodes : Option FlashDesc → List ℕ
flash_opcodes None = []
flash_opcodes (Some f) = f.erase ∷ f.addr ∷ f.prog ∷ f.read ∷ []

-- the named opcodes of a device
abbrev pub opcodes_of : Desc → List ℕ
opcodes_of d = identity_opcodes d.id ++ map (λ (r : RegDesc). r.op) d.registers ++ flash_opcodes d.flash

-- a description that some board text gives
pub record IsGood (d : Desc) : Type 0 where
  pub named : IsUpperName d.name
  pub shortest : 2 ≤ d.ir_len
  pub longest : d.ir_len ≤ 64
  pub identity : ForSome d.id IsIdentity
  pub opcodes : All (IsOpcode d.ir_len) (opcodes_of d)
  pub opcodes_apart : AllPairs ◌≢◌ (opcodes_of d)
  pub parts : HasPartsOf d.kind d
