-- Clocks in blocks of at most 64 bits, of one card and of a board. A block is so many clocks in a row; that they are
-- taken together is this profile's.
use Rattle.std.specs.Prelude.{◌≡◌, ℕ, Bool, true, false, List, [], ◌∷◌}
use Rattle.base.specs.Bits.{low_bits, number_of}
use Rattle.tap_states.specs.declared.Tap.{Tap}
use Rattle.dev_card.specs.Card.{Card, step, tdo_of, in_state}
use Rattle.dev_card.specs.Board.{Input, clocks_of, board_after, tdos}
use Rattle.dev_card.specs.Line.{shift_state, exit_state, list_of, with_list, shifted_out, left_in}
use Rattle.dev_card.specs.Clocks.{part_inputs}

-- what goes in at a block: the lowest n bits of a number, the lowest first, with TMS 0, but TMS 1 at the last of them
-- where it is so marked
abbrev pub block_inputs : ℕ → ℕ → Bool → List Input
block_inputs tdi n last = part_inputs last (low_bits n tdi)

-- a card after a list of inputs
abbrev pub card_after : Card → List Input → Card
card_after c [] = c
card_after c (i ∷ is) = card_after (step c i.tms i.tdi) is

-- the TDO that it has before each of them
abbrev pub card_tdos : Card → List Input → List Bool
card_tdos c [] = []
card_tdos c (i ∷ is) = tdo_of c ∷ card_tdos (step c i.tms i.tdi) is

-- a card after a block, and the number of the TDO bits that it has before each of its clocks
abbrev pub card_after_block : Card → ℕ → ℕ → Bool → Card
card_after_block c tdi n last = card_after c (block_inputs tdi n last)

abbrev pub card_block : Card → ℕ → ℕ → Bool → ℕ
card_block c tdi n last = number_of (card_tdos c (block_inputs tdi n last))

-- the same of a board
abbrev pub board_after_block : List Card → ℕ → ℕ → Bool → List Card
board_after_block cs tdi n last = board_after cs (block_inputs tdi n last)

abbrev pub board_block : List Card → ℕ → ℕ → Bool → ℕ
board_block cs tdi n last = number_of (tdos (clocks_of cs (block_inputs tdi n last)))

-- the same TMS values, with other bits at TDI
abbrev pub with_tdis : List Input → List Bool → List Input
with_tdis [] bits = []
with_tdis (i ∷ is) [] = []
with_tdis (i ∷ is) (b ∷ bits) = record { tms = i.tms; tdi = b } ∷ with_tdis is bits

-- Clocks of a board, taken card by card: the first card gets at TDI what the board after it has at TDO before each
-- clock, whatever goes on at the same time.
pub record RunsCardByCard (c : Card) (cs : List Card) (inputs : List Input) : Type 0 where
  pub tdo : tdos (clocks_of (c ∷ cs) inputs) ≡ card_tdos c (with_tdis inputs (tdos (clocks_of cs inputs)))
  pub board : board_after (c ∷ cs) inputs
      ≡ card_after c (with_tdis inputs (tdos (clocks_of cs inputs))) ∷ board_after cs inputs

-- So a block of a board is that of its first card, which gets the block of the board after it.
pub record ShiftsCardByCard (c : Card) (cs : List Card) (tdi n : ℕ) (last : Bool) : Type 0 where
  pub tdo : board_block (c ∷ cs) tdi n last ≡ card_block c (board_block cs tdi n last) n last
  pub board : board_after_block (c ∷ cs) tdi n last
      ≡ card_after_block c (board_block cs tdi n last) n last ∷ board_after_block cs tdi n last

-- A block of a card that shifts is one equation of lists: what comes out are the first bits of its list with the new
-- ones after it, and the rest of these stays in. Its controller leaves the shift if the last TMS is 1.
abbrev pub state_after_block : Bool → Bool → Tap
state_after_block ir true = exit_state ir
state_after_block ir false = shift_state ir

pub record ShiftsBlock (ir : Bool) (c : Card) (tdi n : ℕ) (last : Bool) : Type 0 where
  pub tdo : card_block c tdi n last ≡ number_of (shifted_out (list_of ir c) (low_bits n tdi))
  pub card : card_after_block c tdi n last
      ≡ in_state (state_after_block ir last) (with_list ir c (left_in (list_of ir c) (low_bits n tdi)))
