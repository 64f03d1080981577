-- The lines of what is refused. The format is this tool's own.
use Rattle.std.specs.Prelude.{ℕ, pos, List, ◌++◌, codes}
use Rattle.tool_io.specs.Texts.{labelled, number_line, word_line}
use Rattle.stapl_lexer.specs.declared.reason.Reason.{Reason}
use Rattle.stapl_lexer.specs.Reasons.{reason_name}
use Rattle.board_text.specs.declared.reason.BoardReason.{BoardReason}
use Rattle.board_text.specs.Reasons as boards

-- a piece and its line
abbrev pub place_text : ℕ → ℕ → List ℕ
place_text piece line = labelled (codes "R program ") (pos piece) ++ labelled (codes " line ") (pos line)

-- the line of a refused program: its piece, the line of that, and the reason
abbrev pub refusal_line : ℕ → ℕ → Reason → List ℕ
refusal_line piece line reason = place_text piece line ++ codes " " ++ word_line (reason_name reason)

-- the line of a refused board: its line, and the reason
abbrev pub board_refusal_line : ℕ → BoardReason → List ℕ
board_refusal_line line reason = labelled (codes "R board ") (pos line) ++ codes " " ++ word_line (boards.reason_name reason)

-- the line of refused words: the first that is not as stated, counted from 1
abbrev pub usage_line : ℕ → List ℕ
usage_line n = number_line (codes "R usage ") (pos n)
