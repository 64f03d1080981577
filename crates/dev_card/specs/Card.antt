-- A device as its chain sees it, and what one clock does to it (IEEE 1149.1, clauses 6 to 10 and 12: TAP controller,
-- instruction register, instructions, test data registers, bypass register, device identification register). Lists of
-- bits have the bit nearest TDO first, which is the bit of lowest value and the first to be shifted out.
use Rattle.std.specs.Prelude.{◌+◌, ◌-◌, ◌^◌, ◌++◌, ℕ, Bool, true, false, not, ◌&&◌, List, [], ◌∷◌, replicate, map, drop, Option, Some, None, if◌then◌else◌, ◌==◌, slice_index_or, slice_set}
use Rattle.base.specs.Bits.{low_bits, number_of}
use Rattle.tap_states.specs.declared.Tap.{Tap}
use Rattle.tap_states.specs.declared.Tap.TheVariants.{Reset, Idle, DrCapture, DrShift, DrUpdate, IrCapture, IrShift, IrUpdate}
use Rattle.tap_states.specs.Tap.{next_of}
use Rattle.dev_card.specs.declared.desc.Kind.{Kind}
use Rattle.dev_card.specs.declared.desc.Kind.TheVariants.{Plain, Regs, Flash}
use Rattle.dev_card.specs.declared.desc.IdCode.{IdCode}
use Rattle.dev_card.specs.declared.desc.RegDesc.{RegDesc}
use Rattle.dev_card.specs.declared.desc.FlashDesc.{FlashDesc}
use Rattle.dev_card.specs.declared.desc.Desc.{Desc}

-- A device: its description, the state of its controller, the instruction in force as a number, the lists that are
-- shifted through its instruction register and through the selected data register, and what its registers hold. The
-- cells are the held values of a Regs, in the order of its description, or the address of a Flash, followed by its
-- words. The busy count is that of a Flash.
pub record Card : Type 0 where
  pub desc : Desc
  pub tap : Tap
  pub instruction : ℕ
  pub ir_list : List Bool
  pub dr_list : List Bool
  pub cells : List (List Bool)
  pub busy : ℕ

-- the data register that an instruction selects: BYPASS, the identification register, register k of a Regs, or one of
-- the four of a Flash
pub data Selected : Type 0 where
  bypass : Selected
  identity_code : ℕ → Selected
  held_register : ℕ → RegDesc → Selected
  flash_address : FlashDesc → Selected
  flash_erase : FlashDesc → Selected
  flash_program : FlashDesc → Selected
  flash_read : FlashDesc → Selected

-- the first register with this opcode, where the list's head is register k
abbrev pub register_with : List RegDesc → ℕ → ℕ → Selected
register_with [] op k = bypass
register_with (r ∷ rs) op k = if r.op == op then held_register k r else register_with rs op (k + 1)

abbrev pub flash_register_with : Option FlashDesc → ℕ → Selected
flash_register_with None op = bypass
flash_register_with (Some f) op =
    if f.addr == op then flash_address f
    else if f.erase == op then flash_erase f
    else if f.prog == op then flash_program f
    else if f.read == op then flash_read f
    else bypass

-- the registers of each kind
abbrev pub kind_selects : Kind → Desc → ℕ → Selected
kind_selects Plain d op = bypass
kind_selects Regs d op = register_with d.registers op 0
kind_selects Flash d op = flash_register_with d.flash op

abbrev pub identity_or_kind : Option IdCode → Desc → ℕ → Selected
identity_or_kind None d op = kind_selects d.kind d op
identity_or_kind (Some id) d op = if id.op == op then identity_code id.value else kind_selects d.kind d op

-- What an opcode selects. Every opcode that isn't named selects BYPASS, and so does the opcode of all ones, which no
-- good description names (IEEE 1149.1, clause 8, BYPASS instruction).
abbrev pub selected_by : Desc → ℕ → Selected
selected_by d op = identity_or_kind d.id d op

abbrev pub selected : Card → Selected
selected c = selected_by c.desc c.instruction

-- cell k, and its bit i
abbrev pub cell_of : Card → ℕ → List Bool
cell_of c k = slice_index_or c.cells k []

abbrev pub bit_of : Card → ℕ → ℕ → Bool
bit_of c k i = slice_index_or (cell_of c k) i false

-- a constant, or what is held
abbrev pub constant_or : Option (List Bool) → List Bool → List Bool
constant_or (Some bits) held = bits
constant_or None held = held

-- the parts of a Flash: the address, also as a number, the words, the addressed word or ones past the last, and whether
-- it is busy
abbrev pub address_bits : ℕ
address_bits = 16

abbrev pub address_of : Card → ℕ
address_of c = number_of (cell_of c 0)

abbrev pub next_address : Card → List Bool
next_address c = low_bits address_bits (address_of c + 1)

abbrev pub words_of : Card → List (List Bool)
words_of c = drop 1 c.cells

abbrev pub addressed_word : FlashDesc → Card → List Bool
addressed_word f c = slice_index_or (words_of c) (address_of c) (replicate f.width true)

abbrev pub is_busy : Card → Bool
is_busy c = not (c.busy == 0)

-- the bits that are 1 in both lists
abbrev pub and_bits : List Bool → List Bool → List Bool
and_bits [] ys = []
and_bits (x ∷ xs) [] = []
and_bits (x ∷ xs) (y ∷ ys) = (x && y) ∷ and_bits xs ys

-- an update of a Flash's erase register with 1, while the Flash isn't busy
abbrev pub erases : Card → List Bool → Bool
erases c bits = slice_index_or bits 0 false && not (is_busy c)

-- The case table of the data registers, first part: the length (IEEE 1149.1, clause 10, bypass register: one
-- bit; clause 12, device identification register: 32 bits).
abbrev pub selected_length : Selected → ℕ
selected_length bypass = 1
selected_length (identity_code value) = 32
selected_length (held_register k r) = r.len
selected_length (flash_address f) = address_bits
selected_length (flash_erase f) = 1
selected_length (flash_program f) = f.width
selected_length (flash_read f) = f.width

-- Second part: what is captured in Capture-DR (IEEE 1149.1, clause 10: the bypass register captures 0; clause 12: the
-- identification register captures the identification code).
abbrev pub captured : Card → Selected → List Bool
captured c bypass = false ∷ []
captured c (identity_code value) = low_bits 32 value
captured c (held_register k r) = constant_or r.constant (cell_of c k)
captured c (flash_address f) = cell_of c 0
captured c (flash_erase f) = is_busy c ∷ []
captured c (flash_program f) = is_busy c ∷ replicate (f.width - 1) false
captured c (flash_read f) = addressed_word f c

-- Third part: the cells after an update with these bits. A constant register holds its last update too. Programming can
-- only clear bits; past the last word it clears none, and the address goes on all the same, modulo 65,536.
abbrev pub updated_cells : Card → Selected → List Bool → List (List Bool)
updated_cells c bypass bits = c.cells
updated_cells c (identity_code value) bits = c.cells
updated_cells c (held_register k r) bits = slice_set c.cells k bits
updated_cells c (flash_address f) bits = bits ∷ words_of c
updated_cells c (flash_erase f) bits =
    if erases c bits then cell_of c 0 ∷ replicate f.words (replicate f.width true) else c.cells
updated_cells c (flash_program f) bits =
    if is_busy c then c.cells
    else next_address c ∷ slice_set (words_of c) (address_of c) (and_bits (addressed_word f c) bits)
updated_cells c (flash_read f) bits = next_address c ∷ words_of c

-- and the busy count after it
abbrev pub updated_busy : Card → Selected → List Bool → ℕ
updated_busy c (flash_erase f) bits = if erases c bits then f.busy else c.busy
updated_busy c (flash_program f) bits = if is_busy c then c.busy else f.busy
updated_busy c _ bits = c.busy

abbrev pub updated : Card → Selected → List Bool → Card
updated c s bits = record c { cells = updated_cells c s bits; busy = updated_busy c s bits }

-- the instruction in Test-Logic-Reset: that of the identification register, or BYPASS where there is none (IEEE 1149.1,
-- clause 7, instruction register operation)
abbrev pub reset_opcode : ℕ → Option IdCode → ℕ
reset_opcode ir_len None = 2 ^ ir_len - 1
reset_opcode ir_len (Some id) = id.op

abbrev pub reset_instruction : Desc → ℕ
reset_instruction d = reset_opcode d.ir_len d.id

-- a shift register after one shift towards TDO: it loses its lowest bit and gets this one as its highest
abbrev pub shifted : List Bool → Bool → List Bool
shifted bits tdi = drop 1 bits ++ tdi ∷ []

-- what the instruction register captures: binary 01 in its two lowest bits (IEEE 1149.1, clause 7), here with zeros
-- above
abbrev pub captured_instruction : Desc → List Bool
captured_instruction d = true ∷ replicate (d.ir_len - 1) false

-- What a clock does in the state from which it starts (IEEE 1149.1, clause 6, controller states Capture-IR, Shift-IR,
-- Capture-DR, Shift-DR and Run-Test/Idle; the busy count is this profile's).
abbrev pub during : Tap → Bool → Card → Card
during IrCapture tdi c = record c { ir_list = captured_instruction c.desc }
during IrShift tdi c = record c { ir_list = shifted c.ir_list tdi }
during DrShift tdi c = record c { dr_list = shifted c.dr_list tdi }
during DrCapture tdi c = record c { dr_list = captured c (selected c) }
during Idle tdi c = record c { busy = c.busy - 1 }
during _ tdi c = c

-- the card with its controller in this state
abbrev pub in_state : Tap → Card → Card
in_state t c = record c { tap = t }

-- what a clock does on coming to a state (IEEE 1149.1, clause 6, controller states Update-IR, Update-DR and
-- Test-Logic-Reset)
abbrev pub entered : Tap → Card → Card
entered IrUpdate c = record c { tap = IrUpdate; instruction = number_of c.ir_list }
entered DrUpdate c = in_state DrUpdate (updated c (selected c) c.dr_list)
entered Reset c = record c { tap = Reset; instruction = reset_instruction c.desc }
entered t c = in_state t c

-- one clock with this TMS and TDI (IEEE 1149.1, figure 6-1, TAP controller state diagram)
abbrev pub step : Card → Bool → Bool → Card
step c tms tdi = entered (next_of c.tap tms) (during c.tap tdi c)

-- the lowest bit of a list that is shifted, and 1 where there is none
abbrev pub lowest : List Bool → Bool
lowest [] = true
lowest (b ∷ bs) = b

abbrev pub tdo_in : Tap → Card → Bool
tdo_in IrShift c = lowest c.ir_list
tdo_in DrShift c = lowest c.dr_list
tdo_in _ c = true

-- TDO before a clock: the lowest bit of what is shifted, and 1 where nothing is. By IEEE 1149.1, clause 4, TDO is not
-- driven outside the shift states; that it reads 1 then is this profile's.
abbrev pub tdo_of : Card → Bool
tdo_of c = tdo_in c.tap c

-- what a Flash holds at first
abbrev pub fresh_flash : Option FlashDesc → List (List Bool)
fresh_flash None = []
fresh_flash (Some f) = replicate address_bits false ∷ replicate f.words (replicate f.width f.fill)

-- what a device of each kind holds at first
abbrev pub fresh_cells : Kind → Desc → List (List Bool)
fresh_cells Plain d = []
fresh_cells Regs d = map (λ (r : RegDesc). replicate r.len false) d.registers
fresh_cells Flash d = fresh_flash d.flash

-- the card of a device that was just fitted
abbrev pub fresh : Desc → Card
fresh d = record {
  desc = d;
  tap = Reset;
  instruction = reset_instruction d;
  ir_list = replicate d.ir_len false;
  dr_list = false ∷ [];
  cells = fresh_cells d.kind d;
  busy = 0;
}
