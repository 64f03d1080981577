-- The text of a play with its account. The format is this profile's.
use Rattle.std.specs.Prelude.{ℕ, ◌+◌, min, pos, Bool, true, false, List, [], ◌∷◌, ◌++◌, length, codes, flat_map}
use Rattle.bit_list.specs.Hexadecimal.{all_hex_digits}
use Rattle.tool_io.specs.Texts.{labelled, number_line}
use Rattle.stapl_lexer.specs.declared.piece.Piece.{Piece}
use Rattle.dev_card.specs.Padding.{BaseLengths}
use Rattle.stapl_syntax.specs.Programs.{line_of_index}
use Rattle.stapl_meaning.specs.declared.events.Ending.{Ending}
use Rattle.stapl_meaning.specs.Texts.{events_text, ending_line}
use Rattle.scan_accounts.specs.ShiftRuns.{ShiftRun}
use Rattle.scan_accounts.specs.MadeTurns.{MadeTurn, MadePlay}
use Rattle.scan_accounts.specs.Accounts.{Passage, passages_of, Account, account_of}

-- what a run is called, true for a scan, and then true for the instruction registers
abbrev pub passage_name : Bool → Bool → List ℕ
passage_name true true = codes "IRSCAN"
passage_name true false = codes "DRSCAN"
passage_name false true = codes "WALK IR"
passage_name false false = codes "WALK DR"

-- a text, cut into its pieces
pub record CutText : Type 0 where
  pub text : List ℕ
  pub pieces : List Piece

-- the line of a run: its piece, counted from 1, the line of that in the text, whether it is a scan, how many bits it
-- has, and these in hexadecimal digits
abbrev pub run_line : ℕ → ℕ → Bool → ShiftRun → List ℕ
run_line piece line scan run =
    labelled (codes "S ") (pos piece) ++ labelled (codes " line ") (pos line)
    ++ codes " " ++ passage_name scan run.ir ++ labelled (codes " ") (pos (length run.bits_in))
    ++ codes " in " ++ all_hex_digits run.bits_in ++ codes " out " ++ all_hex_digits run.bits_out ++ 10 ∷ []

-- the line of what is said of a run
abbrev pub passage_line : CutText → Passage → List ℕ
passage_line cut p = run_line (p.place + 1) (line_of_index cut.text cut.pieces p.place) p.scan p.run

-- the lines of a turn: those of its runs, and then what else it writes
abbrev pub turn_lines : CutText → BaseLengths → MadeTurn → List ℕ
turn_lines cut base t = flat_map (passage_line cut) (passages_of base t) ++ events_text false [] t.events

-- The largest number that a sum of clocks, of microseconds or of scans is written as. A larger sum is written as this
-- one.
abbrev pub most_counted : ℕ
most_counted = 9223372036854775807

abbrev pub counted : ℕ → ℕ
counted n = min n most_counted

-- the sums as they are written
abbrev pub as_written : Account → Account
as_written a = record {
  turns = a.turns;
  clocks = counted a.clocks;
  usec = counted a.usec;
  ir_scans = counted a.ir_scans;
  dr_scans = counted a.dr_scans;
}

-- the line of these numbers, and that of the sums
abbrev pub sums_line : Account → List ℕ
sums_line a =
    labelled (codes "S turns ") (pos a.turns) ++ labelled (codes " clocks ") (pos a.clocks)
    ++ labelled (codes " usec ") (pos a.usec) ++ labelled (codes " irscans ") (pos a.ir_scans)
    ++ number_line (codes " drscans ") (pos a.dr_scans)

abbrev pub account_line : Account → List ℕ
account_line a = sums_line (as_written a)

-- the whole text of a play that has ended
abbrev pub account_text : CutText → MadePlay → Ending → List ℕ
account_text cut play ending =
    events_text false [] play.first ++ flat_map (turn_lines cut play.base) play.turns
    ++ account_line (account_of play) ++ ending_line ending
