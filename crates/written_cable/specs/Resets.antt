-- The first clocks of a play, and the digits that are kept of them (IEEE 1149.1, TAP controller state diagram).
use Rattle.std.specs.Prelude.{◌≡◌, ℕ, Bool, true, false, List, [], map, Option}
use Rattle.dev_card.specs.Card.{Card}
use Rattle.dev_card.specs.Board.{Clock}
use Rattle.scan_paths.specs.Cables.{Signal, HasMade}
use Rattle.stapl_meaning.specs.Plays.{reset_inputs}
use Rattle.stapl_meaning.specs.Texts.{pin_digit}

abbrev pub digit_of_clock : Clock → ℕ
digit_of_clock k = pin_digit k.tms k.tdi k.tdo

-- these clocks were made, and these are their digits
pub record IsReset {C : Type 0} (board : C → Option (List Card)) (makes : C → List Signal → C → Type 0) (old new : C)
    (digits : List ℕ) : Type 0 where
  pub made : HasMade board makes old new reset_inputs
  pub digits_are : digits ≡ map digit_of_clock made.clocks

-- the digits that a run begins with
abbrev pub kept_digits : Bool → List ℕ → List ℕ
kept_digits true digits = digits
kept_digits false digits = []
