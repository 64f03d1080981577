-- The clocks of a block, by numbers of their bits, and their digits.
use Rattle.std.specs.Prelude.{ℕ, suc, zero, ◌/◌, ◌%◌, nat_eq, List, [], ◌∷◌, ◌++◌, map}
use Rattle.base.specs.Bits.{low_bits}
use Rattle.dev_card.specs.Board.{Clock, Input}
use Rattle.dev_card.specs.Clocks.{clocks_with}
use Rattle.stapl_meaning.specs.Texts.{full_line, with_digit}
use Rattle.written_cable.specs.Resets.{digit_of_clock}

-- what goes in at n clocks, whose TMS and TDI are the lowest bits of two numbers, the lowest first
abbrev pub word_inputs : ℕ → ℕ → ℕ → List Input
word_inputs tms tdi zero = []
word_inputs tms tdi (suc n) =
    record { tms = nat_eq (tms % 2) 1; tdi = nat_eq (tdi % 2) 1 } ∷ word_inputs (tms / 2) (tdi / 2) n

-- these clocks, at which the lowest bits of a third number were seen
abbrev pub word_clocks : ℕ → ℕ → ℕ → ℕ → List Clock
word_clocks tms tdi tdo n = clocks_with (word_inputs tms tdi n) (low_bits n tdo)

-- the digits of clocks
abbrev pub clock_digits : List Clock → List ℕ
clock_digits ks = map digit_of_clock ks

-- the lines that become full where digits wait and more are added one after another, and the digits that wait then
abbrev pub lines_of_digits : List ℕ → List ℕ → List ℕ
lines_of_digits digits [] = []
lines_of_digits digits (d ∷ line) = full_line digits ++ lines_of_digits (with_digit digits d) line

abbrev pub with_digits : List ℕ → List ℕ → List ℕ
with_digits digits [] = digits
with_digits digits (d ∷ line) = with_digits (with_digit digits d) line
