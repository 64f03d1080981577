-- A board: the cards of a chain of devices, the first nearest TDO (IEEE 1149.1, serial connection: TDO of each device
-- to TDI of the next one towards the board's TDO, TMS and TCK to all).
use Rattle.std.specs.Prelude.{◌≡◌, ℕ, Bool, List, [], ◌∷◌, map}
use Rattle.tap_states.specs.declared.Tap.{Tap}
use Rattle.dev_card.specs.Card.{Card, step, tdo_of}

-- the most devices of a board, which is this profile's limit
abbrev pub most_devices : ℕ
most_devices = 64

-- the TDO of the first card, or what comes in where there is none
abbrev pub board_tdo : List Card → Bool → Bool
board_tdo [] tdi = tdi
board_tdo (c ∷ cs) tdi = tdo_of c

-- One clock of a board: all cards get the same TMS; the last one gets the TDI, and each other one the TDO that the card
-- after it has before the clock.
abbrev pub board_step : List Card → Bool → Bool → List Card
board_step [] tms tdi = []
board_step (c ∷ cs) tms tdi = step c tms (board_tdo cs tdi) ∷ board_step cs tms tdi

-- what goes in at a clock
pub record Input : Type 0 where
  pub tms : Bool
  pub tdi : Bool

-- one clock with the TDO that was seen before it
pub record Clock : Type 0 where
  pub tms : Bool
  pub tdi : Bool
  pub tdo : Bool

-- the clock that an input makes when this TDO is seen
abbrev pub clock_with : Input → Bool → Clock
clock_with i tdo = record { tms = i.tms; tdi = i.tdi; tdo = tdo }

abbrev pub clock_at : List Card → Input → Clock
clock_at cs i = clock_with i (board_tdo cs i.tdi)

abbrev pub after_input : List Card → Input → List Card
after_input cs i = board_step cs i.tms i.tdi

-- the clocks of a board under a list of inputs
abbrev pub clocks_of : List Card → List Input → List Clock
clocks_of cs [] = []
clocks_of cs (i ∷ is) = clock_at cs i ∷ clocks_of (after_input cs i) is

-- the board after them
abbrev pub board_after : List Card → List Input → List Card
board_after cs [] = cs
board_after cs (i ∷ is) = board_after (after_input cs i) is

-- the TDO bits of clocks
abbrev pub tdos : List Clock → List Bool
tdos clocks = map (λ (k : Clock). k.tdo) clocks

-- a fact holds of each card
abbrev pub EachCard : (Card → Type 0) → List Card → Type 0
EachCard P [] = Unit {0}
EachCard P (c ∷ cs) = P c × EachCard P cs

-- every controller is in this state
abbrev pub AllIn : Tap → List Card → Type 0
AllIn t cs = EachCard (λ c. c.tap ≡ t) cs
