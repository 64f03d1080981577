-- A board as an example, and its report written out.
use Rattle.std.specs.Prelude.{ℕ, Bool, true, false, List, [], ◌∷◌, ◌++◌, codes, replicate, Some, None}
use Rattle.base.specs.Bits.{low_bits}
use Rattle.tap_states.specs.declared.Tap.TheVariants.{Idle}
use Rattle.dev_card.specs.declared.desc.Kind.TheVariants.{Plain, Regs, Flash}
use Rattle.dev_card.specs.declared.desc.Desc.{Desc}
use Rattle.dev_card.specs.Card.{Card}

-- a card in the idle state with this description, instruction and cells
abbrev pub example_card : Desc → ℕ → List (List Bool) → Card
example_card d op cells = record {
  desc = d;
  tap = Idle;
  instruction = op;
  ir_list = low_bits d.ir_len 1;
  dr_list = false ∷ [];
  cells = cells;
  busy = 0;
}

abbrev pub example_plain : Card
example_plain = example_card
    (record { name = codes "U1"; kind = Plain; ir_len = 4; id = None; registers = []; flash = None }) 15 []

-- registers of ten and of five bits, of which the second has a constant, and holds another value
abbrev pub example_registers : Card
example_registers = example_card (record {
  name = codes "U2";
  kind = Regs;
  ir_len = 8;
  id = None;
  registers = record { name = codes "STATUS"; op = 16; len = 10; constant = None }
      ∷ record { name = codes "VERSION"; op = 17; len = 5; constant = Some (low_bits 5 26) } ∷ [];
  flash = None;
}) 2 (low_bits 10 1023 ∷ low_bits 5 11 ∷ [])

-- four words of eight bits, of which two were programmed since all were erased
abbrev pub example_flash : Card
example_flash = example_card (record {
  name = codes "U3";
  kind = Flash;
  ir_len = 8;
  id = None;
  registers = [];
  flash = Some (record { erase = 16; addr = 17; prog = 18; read = 19; words = 4; width = 8; busy = 3; fill = false });
}) 19 (low_bits 16 2 ∷ low_bits 8 195 ∷ low_bits 8 90 ∷ replicate 8 true ∷ replicate 8 true ∷ [])

abbrev pub example_report : List ℕ
example_report =
    codes "D U1 ir=F" ++ 10 ∷ []
    ++ codes "D U2 ir=02 STATUS=3FF VERSION=0B" ++ 10 ∷ []
    ++ codes "D U3 ir=13 addr=0002 0=C3 1=5A" ++ 10 ∷ []
