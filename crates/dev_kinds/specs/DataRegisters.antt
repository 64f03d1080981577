-- What a kind of device adds to the test logic that all kinds share: its data registers, and what they hold.
use Rattle.std.specs.Prelude.{◌≡◌, ◌≤◌, ◌-◌, ℕ, Bool, List, Option, None}
use Rattle.dev_card.specs.declared.desc.Kind.{Kind}
use Rattle.dev_card.specs.declared.desc.FlashDesc.{FlashDesc}
use Rattle.dev_card.specs.declared.desc.Desc.{Desc}
use Rattle.dev_card.specs.Card.{Card, selected, updated_cells, updated_busy, fresh_cells}
use Rattle.dev_card.specs.Sound.{IsSound}
use Rattle.dev_kinds.specs.Logic.{Logic, card_of}

-- the memory to which the registers belong, if there is one, their cells, and the busy count
pub record RegisterContents : Type 0 where
  pub flash : Option FlashDesc
  pub cells : List (List Bool)
  pub busy : ℕ

-- the registers of a device that has no memory, and is never busy
abbrev pub without_memory : List (List Bool) → RegisterContents
without_memory cells = record { flash = None; cells = cells; busy = 0 }

-- the card of a device with this test logic and these registers
abbrev pub card_with : Logic → RegisterContents → Card
card_with k r = card_of k r.cells r.busy

-- the registers after power-up
abbrev pub fresh_contents : Desc → RegisterContents
fresh_contents d = record { flash = d.flash; cells = fresh_cells d.kind d; busy = 0 }

-- the registers after an update of the selected one with the data list
abbrev pub updated_contents : Logic → RegisterContents → RegisterContents
updated_contents k r = record r {
  cells = updated_cells (card_with k r) (selected (card_with k r)) k.dr_list;
  busy = updated_busy (card_with k r) (selected (card_with k r)) k.dr_list;
}

-- the registers after a clock in the idle state
abbrev pub rested_contents : RegisterContents → RegisterContents
rested_contents r = record r { busy = r.busy - 1 }

-- What a fitted device keeps: its test logic has a description of its kind with the memory of its registers, and room
-- for the longest of them, and its card is sound.
pub record IsFitted (own : Kind) (longest : ℕ) (k : Logic) (r : RegisterContents) : Type 0 where
  pub kind : k.desc.kind ≡ own
  pub flash : k.desc.flash ≡ r.flash
  pub room : longest ≤ k.room
  pub sound : IsSound (card_with k r)
