-- What every kind of device holds (IEEE 1149.1, clauses 6 to 8 and 12).
use Rattle.std.specs.Prelude.{◌≡◌, ◌<◌, ◌≤◌, ◌^◌, ◌==◌, length, Option, Some, None, if◌then◌else◌, ℕ, Bool, List, []}
use Rattle.tap_states.specs.declared.Tap.{Tap}
use Rattle.tap_states.specs.declared.Tap.TheVariants.{DrCapture}
use Rattle.dev_card.specs.declared.desc.Desc.{Desc}
use Rattle.dev_card.specs.declared.desc.IdCode.{IdCode}
use Rattle.dev_card.specs.Descriptions.{IsGood}
use Rattle.dev_card.specs.Card.{Card, during, entered, fresh}
use Rattle.dev_card.specs.Blocks.{card_block, card_after_block}

-- the parts of a card that all kinds have, and the room for the data list
pub record Logic : Type 0 where
  pub desc : Desc
  pub tap : Tap
  pub instruction : ℕ
  pub ir_list : List Bool
  pub dr_list : List Bool
  pub room : ℕ

-- the card of a device with these cells and this busy count
abbrev pub card_of : Logic → List (List Bool) → ℕ → Card
card_of k cells busy = record {
  desc = k.desc;
  tap = k.tap;
  instruction = k.instruction;
  ir_list = k.ir_list;
  dr_list = k.dr_list;
  cells = cells;
  busy = busy;
}

-- the parts of a card that all kinds have, and the room
abbrev pub logic_of : Card → ℕ → Logic
logic_of c room = record {
  desc = c.desc;
  tap = c.tap;
  instruction = c.instruction;
  ir_list = c.ir_list;
  dr_list = c.dr_list;
  room = room;
}

-- what a clock does in the state from which it starts, the capture of data excepted
abbrev pub lists_moved : Tap → Bool → Logic → Logic
lists_moved DrCapture tdi k = k
lists_moved s tdi k = logic_of (during s tdi (card_of k [] 0)) k.room

-- what a clock does on coming to a state
abbrev pub state_entered : Tap → Logic → Logic
state_entered t k = logic_of (entered t (card_of k [] 0)) k.room

-- the state after power-up
abbrev pub fresh_logic : Desc → ℕ → Logic
fresh_logic d room = logic_of (fresh d) room

-- the identification code, where its opcode is the instruction
abbrev pub selected_identity : Option IdCode → ℕ → Option ℕ
selected_identity None op = None
selected_identity (Some id) op = if id.op == op then Some id.value else None

-- what test logic keeps: its description is good, the number of the instruction register has the register's bits, and
-- the data list has a bit and room for an identification code
pub record IsLogic (desc : Desc) (ir_number : ℕ) (dr_list : List Bool) (room : ℕ) : Type 0 where
  pub good : IsGood desc
  pub ir_fits : ir_number < 2 ^ desc.ir_len
  pub some : 0 < length dr_list
  pub room_for_identity : 32 ≤ room

-- a block was made, with this answer, whatever the cells of the device and its busy count
pub record IsBlockShifted (old new : Logic) (tdi n : ℕ) (last : Bool) (seen : ℕ) : Type 0 where
  pub tdo : (cells : List (List Bool)) (busy : ℕ) → seen ≡ card_block (card_of old cells busy) tdi n last
  pub card : (cells : List (List Bool)) (busy : ℕ) → card_of new cells busy ≡ card_after_block (card_of old cells busy) tdi n last
