-- The memory of a device of kind Flash, and what an update of one of its registers does to it. All of it is this
-- profile's.
use Rattle.std.specs.Prelude.{◌≡◌, ℕ, Bool, false, List, ◌∷◌, Some, length, replicate, All}
use Rattle.dev_card.specs.declared.desc.FlashDesc.{FlashDesc}
use Rattle.dev_card.specs.Descriptions.{IsGoodFlash}
use Rattle.dev_card.specs.Card.{Card, Selected, bypass, identity_code, flash_address, flash_erase, flash_program, flash_read, address_bits, updated_cells, updated_busy}
use Rattle.dev_kinds.specs.declared.memory.FlashRegister.{FlashRegister}
use Rattle.dev_kinds.specs.declared.memory.FlashRegister.TheVariants.{Bypass, Identity, Address, Erase, Program, Read}
use Rattle.dev_kinds.specs.Logic.{Logic, card_of}
use Rattle.dev_kinds.specs.DataRegisters.{RegisterContents}

-- the memory: its description, its address, its words and its busy count
pub record MemoryStore : Type 0 where
  pub shape : FlashDesc
  pub address : List Bool
  pub words : List (List Bool)
  pub busy : ℕ

-- the memory after power-up
abbrev pub fresh_store : FlashDesc → MemoryStore
fresh_store f = record {
  shape = f;
  address = replicate address_bits false;
  words = replicate f.words (replicate f.width f.fill);
  busy = 0;
}

-- the card of a Flash with this test logic and this memory
abbrev pub flash_card : Logic → MemoryStore → Card
flash_card k m = card_of k (m.address ∷ m.words) m.busy

-- the address and the words as cells
abbrev pub store_contents : MemoryStore → RegisterContents
store_contents m = record { flash = Some m.shape; cells = m.address ∷ m.words; busy = m.busy }

-- what a memory keeps: each of its lists has the length that its description gives, and so has its buffer for a word
pub record IsStore (shape : FlashDesc) (address : List Bool) (words : List (List Bool)) (buffer : List Bool)
    : Type 0 where
  pub good : IsGoodFlash shape
  pub address_length : length address ≡ address_bits
  pub count : length words ≡ shape.words
  pub widths : All (λ word. length word ≡ shape.width) words
  pub buffer_length : length buffer ≡ shape.width

-- the memory after an update of this register with the data list
pub record IsUpdated (k : Logic) (old new : MemoryStore) (s : Selected) : Type 0 where
  pub shape : new.shape ≡ old.shape
  pub cells : new.address ∷ new.words ≡ updated_cells (flash_card k old) s k.dr_list
  pub busy : new.busy ≡ updated_busy (flash_card k old) s k.dr_list

-- the register that is meant
abbrev pub register_of : FlashRegister → FlashDesc → Selected
register_of Bypass f = bypass
register_of (Identity value) f = identity_code value
register_of Address f = flash_address f
register_of Erase f = flash_erase f
register_of Program f = flash_program f
register_of Read f = flash_read f
