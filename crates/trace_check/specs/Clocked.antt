-- Digits that were clocked on a board, as far as it answers them.
use Rattle.std.specs.Prelude.{◌≡◌, ◌≢◌, ◌-◌, ℕ, Bool, true, false, List, length, take, Option, Some, slice_get}
use Rattle.dev_card.specs.Card.{Card}
use Rattle.dev_card.specs.Board.{board_tdo, after_input}
use Rattle.pin_lines.specs.PinLines.{input_of_pin, clock_of_pin}
use Rattle.pin_lines.specs.Traces.{Agrees, board_led_to}
use Rattle.pin_lines.specs.FirstFaults.{IsFirstDifference}

-- One digit: the board answers it so and is clocked, or it answers otherwise and stays.
abbrev pub IsOneClock : List Card → ℕ → Bool → Option (List Card) → Type 0
IsOneClock cs digit true new =
    (board_tdo cs (input_of_pin digit).tdi ≡ (clock_of_pin digit).tdo)
    × (new ≡ Some (after_input cs (input_of_pin digit)))
IsOneClock cs digit false new =
    (board_tdo cs (input_of_pin digit).tdi ≢ (clock_of_pin digit).tdo) × (new ≡ Some cs)

-- So many of these digits were clocked, and the board answered them so.
pub record AreClocked (cs : List Card) (digits : List ℕ) (n : ℕ) (new : Option (List Card)) : Type 0 where
  pub agree : Agrees cs (take n digits)
  pub board : new ≡ Some (board_led_to cs (take n digits))

-- the board answers the digit after so many otherwise
pub record DiffersAt (cs : List Card) (digits : List ℕ) (n : ℕ) : Type 0 where
  pub digit : ℕ
  pub stands : slice_get digits n ≡ Some digit
  pub differs : board_tdo (board_led_to cs (take n digits)) (input_of_pin digit).tdi ≢ (clock_of_pin digit).tdo

-- all clocks are those of the board, so many, and lead to this one
pub record IsTraced (cs : List Card) (digits : List ℕ) (n : ℕ) (new : Option (List Card)) : Type 0 where
  pub count : n ≡ length digits
  pub agrees : Agrees cs digits
  pub board : new ≡ Some (board_led_to cs digits)

-- clock i is the first that the board answers otherwise, and the board is the one before it
pub record IsTracedUpTo (cs : List Card) (digits : List ℕ) (i : ℕ) (new : Option (List Card)) : Type 0 where
  pub first : IsFirstDifference cs digits i
  pub board : new ≡ Some (board_led_to cs (take (i - 1) digits))
