-- One scan of a run of neighbours, in a board with base padding and alone.
use Rattle.std.specs.Prelude.{◌≡◌, ◌≤◌, ◌-◌, ℕ, Bool, true, false, List, ◌++◌, length, drop, map, replicate}
use Rattle.tap_states.specs.declared.Tap.{Tap}
use Rattle.dev_card.specs.declared.desc.Desc.{Desc}
use Rattle.dev_card.specs.Card.{Card}
use Rattle.dev_card.specs.Line.{line_of, cut_back, shifted_out, left_in}
use Rattle.dev_card.specs.Padding.{Paddings, BaseLengths, base_around, program_bits, padded, at_data}
use Rattle.dev_card.specs.Clocks.{at_shift}
use Rattle.dev_card.specs.Sound.{AllBypass}

-- the same paddings without the base
abbrev pub without_base : Paddings → Paddings
without_base p = record p { base_pre = 0; base_post = 0 }

-- the descriptions of cards
abbrev pub descriptions_of : List Card → List Desc
descriptions_of cs = map (λ (c : Card). c.desc) cs

-- these cards are a part of a board, after so many others
pub record AreCardsFrom (place : ℕ) (part board : List Card) : Type 0 where
  pub front : List Card
  pub back : List Card
  pub whole : board ≡ front ++ (part ++ back)
  pub place_is : length front ≡ place

-- What the run keeps and what the program captures. The scan is long enough where it has at least as many bits as the
-- run's line, program padding included, and short enough where it has at most as many.
pub record IsSameScan (ir : Bool) (before run after : List Card) (p : Paddings) (bits : List Bool) : Type 0 where
  -- long enough: the run's cards are in their places as alone, and hold the last bits of the program
  pub kept : length (line_of ir run) ≤ length (program_bits p bits) →
      AreCardsFrom (length before) (cut_back ir run (left_in (line_of ir run) (program_bits p bits)))
      (cut_back ir (before ++ (run ++ after)) (left_in (line_of ir (before ++ (run ++ after))) (padded p bits)))
  pub last : length (line_of ir run) ≤ length (program_bits p bits) →
      left_in (line_of ir run) (program_bits p bits)
      ≡ drop (length (program_bits p bits) - length (line_of ir run)) (program_bits p bits)
  -- short enough: the program captures what it captures alone
  pub captured_same : length (program_bits p bits) ≤ length (line_of ir run) →
      at_data p (length bits) (shifted_out (line_of ir (before ++ (run ++ after))) (padded p bits))
      ≡ at_data (without_base p) (length bits) (shifted_out (line_of ir run) (program_bits p bits))
  -- exactly as long as the run's line: the lists of all neighbours are ones
  pub exact : length (program_bits p bits) ≡ length (line_of ir run) →
      cut_back ir (before ++ (run ++ after)) (left_in (line_of ir (before ++ (run ++ after))) (padded p bits))
      ≡ cut_back ir before (replicate p.base_pre true)
      ++ (cut_back ir run (program_bits p bits) ++ cut_back ir after (replicate p.base_post true))

-- One scan of a board, from a stable state in which all its controllers are to the end of the shift clocks. At the
-- shift the run's cards are as alone, between those of the devices before and after it. If these have BYPASS selected,
-- or the scan is one of the instruction registers, it is the scan of the run alone.
pub record IsOneScan (at : Tap) (ir : Bool) (before run after : List Card) (p : Paddings) (bits : List Bool)
    : Type 0 where
  pub front : List Card
  pub back : List Card
  pub whole : at_shift at ir (before ++ (run ++ after)) ≡ front ++ (at_shift at ir run ++ back)
  pub front_is : descriptions_of front ≡ descriptions_of before
  pub back_is : descriptions_of back ≡ descriptions_of after
  pub same : (ir ≡ false → AllBypass front × AllBypass back) → IsSameScan ir front (at_shift at ir run) back p bits

-- base padding of a scan around a run of a board
abbrev pub base_of_cards : List Card → List Card → BaseLengths
base_of_cards before after = base_around (descriptions_of before) (descriptions_of after)
