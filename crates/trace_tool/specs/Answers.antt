-- What the tool answers: a text and a status, by the words and the contents of the files that they name. It is defined
-- where the files are held that are read before the answer is found: the board first, and the trace after a board that
-- is right.
use Rattle.std.specs.Prelude.{◌≡◌, ◌<◌, ◌≤◌, ℕ, false, List, length, map, codes, Option, Some}
use Rattle.dev_card.specs.declared.desc.Desc.{Desc}
use Rattle.dev_card.specs.Card.{Card, fresh}
use Rattle.board_text.specs.declared.reason.BoardReason.{BoardReason}
use Rattle.named_files.specs.Boards.{HasBoard, HasBoardFault}
use Rattle.named_files.specs.Texts.{board_refusal_line, usage_line}
use Rattle.pin_lines.specs.PinLines.{has_bad_line, pins_in}
use Rattle.pin_lines.specs.Traces.{Agrees, board_led_to}
use Rattle.pin_lines.specs.FirstFaults.{IsFirstBadLine, IsFirstDifference}
use Rattle.named_files.specs.Words.{FileNames, IsRequest, IsUsage}
use Rattle.named_files.specs.Contents.{Contents, contents_in}
use Rattle.trace_check.specs.Limits.{trace_limit}
use Rattle.trace_tool.specs.declared.status.TraceStatus.{TraceStatus}
use Rattle.trace_tool.specs.declared.status.TraceStatus.TheVariants.{Good, Differs, BadLine, TooLong, BoardRefused, Usage}
use Rattle.trace_tool.specs.Texts.{good_text, differs_line, bad_line_text, too_long_line}

-- the key of the word that names the trace
abbrev pub trace_key : List ℕ
trace_key = codes "trace="

-- a board of these devices after power-up
abbrev pub new_board : List Desc → List Card
new_board devices = map fresh devices

-- What is written of the text of a trace, and the status: it is too long, or it has a first bad line, or a first clock
-- that the board of these devices answers otherwise, or it is good, and the devices are reported as its clocks leave
-- them.
pub data TraceAnswer (devices : List Desc) (text : List ℕ) : List ℕ → TraceStatus → Type 0 where
  too_long : trace_limit < length text → TraceAnswer devices text too_long_line TooLong
  bad_line : (n : ℕ) → length text ≤ trace_limit → IsFirstBadLine text n →
      TraceAnswer devices text (bad_line_text n) (BadLine n)
  differs : (i : ℕ) → length text ≤ trace_limit → has_bad_line text ≡ false →
      IsFirstDifference (new_board devices) (pins_in text) i → TraceAnswer devices text (differs_line i) (Differs i)
  good : (n : ℕ) → length text ≤ trace_limit → has_bad_line text ≡ false → Agrees (new_board devices) (pins_in text) →
      n ≡ length (pins_in text) →
      TraceAnswer devices text (good_text n (board_led_to (new_board devices) (pins_in text))) (Good n)

-- The same for a file, where it is held.
pub record FileAnswer (devices : List Desc) (file : Option (List ℕ)) (text : List ℕ) (status : TraceStatus)
    : Type 0 where
  pub bytes : List ℕ
  pub held : file ≡ Some bytes
  pub answer : TraceAnswer devices bytes text status

-- The answer to a request: its board is refused at its first fault, or is of these devices, and the answer is that for
-- its trace.
pub data RequestAnswer (contents : Contents) : List ℕ → TraceStatus → Type 0 where
  board_refused : (line : ℕ) (reason : BoardReason) → HasBoardFault contents.board line reason →
      RequestAnswer contents (board_refusal_line line reason) (BoardRefused line reason)
  board_read : (devices : List Desc) (text : List ℕ) (status : TraceStatus) → HasBoard contents.board devices →
      FileAnswer devices contents.file text status → RequestAnswer contents text status

-- The answer to the words, with these contents of the files of each request: they are refused, or what they ask is
-- answered.
pub data WordsAnswer (words : List (List ℕ)) (contents_of : FileNames → Contents) : List ℕ → TraceStatus → Type 0 where
  usage : (n : ℕ) → IsUsage trace_key words n → WordsAnswer words contents_of (usage_line n) (Usage n)
  asked : (named : FileNames) (text : List ℕ) (status : TraceStatus) → IsRequest trace_key words named →
      RequestAnswer (contents_of named) text status → WordsAnswer words contents_of text status

-- The answer to the words and the files of a store.
abbrev pub Answer : List (List ℕ) → List (List ℕ × List ℕ) → (List ℕ → TraceStatus → Type 0)
Answer words files = WordsAnswer words (contents_in files)
