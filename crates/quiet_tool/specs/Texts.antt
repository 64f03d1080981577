-- The lines that this tool alone writes. The format is its own.
use Rattle.std.specs.Option.{option_map_or}
use Rattle.std.specs.Prelude.{◌≡◌, ℕ, pos, zero, suc, List, ◌++◌, codes, slice_get}
use Rattle.tool_io.specs.Texts.{labelled, number_line}
use Rattle.stapl_lexer.specs.declared.piece.Piece.{Piece}
use Rattle.stapl_lexer.specs.Pieces.{IsCut}
use Rattle.stapl_meaning.specs.declared.events.Ending.{Ending}
use Rattle.stapl_meaning.specs.Texts.{ending_line}
use Rattle.padded_plays.specs.declared.unquiet.Unquiet.{Unquiet}
use Rattle.padded_plays.specs.declared.unquiet.Unquiet.TheVariants.{Instruction, Data, NotLoaded, ScanState}

-- the play is quiet for so many turns, and ends so
abbrev pub quiet_text : ℕ → Ending → List ℕ
quiet_text n ending = number_line (codes "quiet turns ") (pos n) ++ ending_line ending

-- why a deed is not quiet, to the end of its line
abbrev pub why_text : Unquiet → List ℕ
why_text (Instruction shifted registers) =
    labelled (codes "IRSCAN shifts ") (pos shifted) ++ number_line (codes " bits, the instruction has ") (pos registers)
why_text (Data shifted registers) =
    labelled (codes "DRSCAN shifts ") (pos shifted) ++ number_line (codes " bits, the register has ") (pos registers)
why_text NotLoaded = codes "DRSCAN before an IRSCAN\n"
why_text ScanState = codes "a walk leads into a shift state or Capture-IR\n"

-- the line of a play that is not quiet: the piece of its first deed that is not, the line of that, its turn, and why
abbrev pub unquiet_line : (piece line turn : ℕ) → Unquiet → List ℕ
unquiet_line piece line turn why =
    labelled (codes "not quiet piece ") (pos piece) ++ labelled (codes " line ") (pos line)
    ++ labelled (codes " turn ") (pos turn) ++ codes ": " ++ why_text why

-- what is written of a play of this action among others: the name before what is written of the play alone
abbrev pub action_text : List ℕ → List ℕ → List ℕ
action_text name text = codes "A " ++ name ++ codes " " ++ text

-- the line of the piece of this number, counted from 1; 0 if there is none
abbrev pub line_of_piece : List Piece → ℕ → ℕ
line_of_piece pieces zero = 0
line_of_piece pieces (suc i) = option_map_or (λ piece. piece.line) (slice_get pieces i) 0

-- the piece of this number of a text has this line
pub record IsLineOf (text : List ℕ) (piece line : ℕ) : Type 0 where
  pub pieces : List Piece
  pub cut : IsCut text pieces
  pub line_is : line ≡ line_of_piece pieces piece
