-- The lines that this tool alone writes. The format is its own.
use Rattle.std.specs.Prelude.{ℕ, pos, List, ◌++◌, codes}
use Rattle.tool_io.specs.Texts.{labelled, number_line}
use Rattle.dev_card.specs.Card.{Card}
use Rattle.dev_card.specs.Reports.{report_of}

-- how many clocks a good trace has
abbrev pub good_line : ℕ → List ℕ
good_line n = number_line (codes "trace good clocks ") (pos n)

-- the same, and what the devices hold
abbrev pub good_text : ℕ → List Card → List ℕ
good_text n cards = good_line n ++ report_of cards

-- the first clock, counted from 1, that the board answers otherwise
abbrev pub differs_line : ℕ → List ℕ
differs_line i = number_line (codes "trace differs clock ") (pos i)

-- the first bad line, counted from 1
abbrev pub bad_line_text : ℕ → List ℕ
bad_line_text n = labelled (codes "R trace ") (pos n) ++ codes " BadLine\n"

-- a trace of too many bytes
abbrev pub too_long_line : List ℕ
too_long_line = codes "R trace TooLong\n"
