-- Cards whose lists have the lengths of their registers. A device that was fitted has such a card from then on; of
-- other cards the equations of a scan need not hold.
use Rattle.std.specs.Prelude.{◌≡◌, ◌<◌, ◌≤◌, ◌+◌, ◌^◌, ℕ, Bool, true, false, List, [], ◌∷◌, length, map, replicate, Option, Some, None}
use Rattle.std.specs.Option.{option_map}
use Rattle.tap_states.specs.declared.Tap.{Tap}
use Rattle.tap_states.specs.declared.Tap.TheVariants.{DrShift, DrExit1, DrPause, DrExit2}
use Rattle.dev_card.specs.declared.desc.Kind.{Kind}
use Rattle.dev_card.specs.declared.desc.Kind.TheVariants.{Plain, Regs, Flash}
use Rattle.dev_card.specs.declared.desc.RegDesc.{RegDesc}
use Rattle.dev_card.specs.declared.desc.FlashDesc.{FlashDesc}
use Rattle.dev_card.specs.declared.desc.Desc.{Desc}
use Rattle.dev_card.specs.Descriptions.{IsGood}
use Rattle.dev_card.specs.Card.{Card, selected, selected_length, bypass, address_bits}
use Rattle.dev_card.specs.Board.{EachCard}

-- the states in which the data list is that of the selected register: it was captured and isn't yet updated
abbrev pub is_data_state : Tap → Bool
is_data_state DrShift = true
is_data_state DrExit1 = true
is_data_state DrPause = true
is_data_state DrExit2 = true
is_data_state _ = false

abbrev pub flash_cell_lengths : Option FlashDesc → List ℕ
flash_cell_lengths None = []
flash_cell_lengths (Some f) = address_bits ∷ replicate f.words f.width

-- the lengths of the cells of a device of each kind
abbrev pub cell_lengths : Kind → Desc → List ℕ
cell_lengths Plain d = []
cell_lengths Regs d = map (λ (r : RegDesc). r.len) d.registers
cell_lengths Flash d = flash_cell_lengths d.flash

abbrev pub flash_busy : Option FlashDesc → ℕ
flash_busy None = 0
flash_busy (Some f) = f.busy

-- the greatest busy count of a device of each kind
abbrev pub most_busy : Kind → Desc → ℕ
most_busy Flash d = flash_busy d.flash
most_busy _ d = 0

-- a card that a fitted device can have: each part has the length that the description gives
pub record IsSound (c : Card) : Type 0 where
  pub good : IsGood c.desc
  pub instruction_width : c.instruction < 2 ^ c.desc.ir_len
  pub ir_length : length c.ir_list ≡ c.desc.ir_len
  pub dr_length : is_data_state c.tap ≡ true → length c.dr_list ≡ selected_length (selected c)
  pub dr_some : is_data_state c.tap ≡ true → 0 < length c.dr_list
  pub cell_count_and_lengths : map length c.cells ≡ cell_lengths c.desc.kind c.desc
  pub busy_limit : c.busy ≤ most_busy c.desc.kind c.desc

abbrev pub AllSound : List Card → Type 0
AllSound cs = EachCard IsSound cs

-- the lengths of the registers of a board that its scans go through, summed: true for the instruction registers
abbrev pub register_lengths : Bool → List Card → ℕ
register_lengths ir [] = 0
register_lengths true (c ∷ cs) = c.desc.ir_len + register_lengths true cs
register_lengths false (c ∷ cs) = selected_length (selected c) + register_lengths false cs

-- every card has BYPASS selected
abbrev pub AllBypass : List Card → Type 0
AllBypass cs = EachCard (λ c. selected c ≡ bypass) cs

-- a card with the fact that it is sound
pub record SoundCard : Type 0 where
  pub card : Card
  pub sound : IsSound card

-- the card of a device that may be unfitted
abbrev pub card_in : Option SoundCard → Option Card
card_in fitted = option_map (λ (s : SoundCard). s.card) fitted
