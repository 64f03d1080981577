-- What is said of a line of a board, and of a board alone. The lines are this tool's own.
use Rattle.std.specs.Prelude.{◌≡◌, ◌≤◌, ◌<◌, ℕ, pos, List, [], ◌++◌, length, codes, Option, None, Some, IsSomeAnd}
use Rattle.std.specs.List.{flat_map}
use Rattle.std.specs.Str.Lines.{lines}
use Rattle.tool_io.specs.Texts.{labelled, number_line, word_line}
use Rattle.dev_card.specs.declared.desc.Desc.{Desc}
use Rattle.board_text.specs.declared.reason.BoardReason.{BoardReason}
use Rattle.board_text.specs.declared.reason.BoardReason.TheVariants.{TooLong}
use Rattle.board_text.specs.Boards.{most_bytes, IsBoard, IsFirstFault}
use Rattle.named_files.specs.Texts.{board_refusal_line, usage_line}
use Rattle.tool_questions.specs.Explanations.{board_reason_paragraphs}
use Rattle.tool_questions.specs.Numbers.{part_numbered}
use Rattle.play_words.specs.declared.status.Status.{Status}
use Rattle.play_words.specs.declared.status.Status.TheVariants.{Done, Usage}

-- the line of a text with a number, counted from 1
abbrev pub numbered_line : ℕ → List ℕ → Option (List ℕ)
numbered_line number text = part_numbered number (lines text)

-- The reason of the first fault of a text, if that is at the line with this number.
abbrev pub FaultAt : List ℕ → ℕ → Option BoardReason → Type 0
FaultAt text number None = (reason : BoardReason) → IsFirstFault text number reason → ⊥
FaultAt text number (Some reason) = IsFirstFault text number reason

-- what is said of the reason of a fault, if there is one
abbrev pub why_faulty : Option BoardReason → List (List ℕ)
why_faulty None = []
why_faulty (Some reason) = board_reason_paragraphs reason

-- the line of a refusal, and what is said of its reason
abbrev pub fault_text : ℕ → Option BoardReason → List ℕ
fault_text number None = []
fault_text number (Some reason) = board_refusal_line number reason ++ flat_map word_line (board_reason_paragraphs reason)

-- the number of a line, and its bytes
abbrev pub line_text : ℕ → List ℕ → List ℕ
line_text number line = labelled (codes "line ") (pos number) ++ codes " " ++ word_line line

-- What is answered for a line of a text that is not too long: the line is shown; or the text is refused at its end,
-- which has the number after its last line; or there is no such line.
pub data KnownLineAnswer (text : List ℕ) (number : ℕ) : List ℕ → Status → Type 0 where
  shown : (line : List ℕ) (fault : Option BoardReason) → numbered_line number text ≡ Some line → FaultAt text number fault →
      KnownLineAnswer text number (line_text number line ++ fault_text number fault) (Done (pos 0))
  ended : (reason : BoardReason) → numbered_line number text ≡ None → FaultAt text number (Some reason) →
      KnownLineAnswer text number (fault_text number (Some reason)) (Done (pos 0))
  lacking : numbered_line number text ≡ None → FaultAt text number None → KnownLineAnswer text number (usage_line 2) (Usage 2)

-- the refusal of a text that is too long
pub data IsLongBoardAnswer : List ℕ → Status → Type 0 where
  too_long : IsLongBoardAnswer (fault_text 0 (Some TooLong)) (Done (pos 0))

-- What is answered for a line of a text.
pub data LineAnswer (text : List ℕ) (number : ℕ) (said : List ℕ) (status : Status) : Type 0 where
  known : length text ≤ most_bytes → KnownLineAnswer text number said status → LineAnswer text number said status
  long : most_bytes < length text → IsLongBoardAnswer said status → LineAnswer text number said status

-- how many devices there are
abbrev pub devices_line : List Desc → List ℕ
devices_line devices = number_line (codes "devices ") (pos (length devices))

-- What is answered for a board alone: how many devices it has; or what is answered for its first faulty line.
pub data CheckAnswer (text : List ℕ) (said : List ℕ) (status : Status) : Type 0 where
  good : (devices : List Desc) → IsBoard text devices → said ≡ devices_line devices → status ≡ Done (pos 0) →
      CheckAnswer text said status
  faulty : (line : ℕ) (reason : BoardReason) → IsFirstFault text line reason → LineAnswer text line said status → CheckAnswer text said status

-- The same of the bytes that a file holds.
abbrev pub HeldLineAnswer : ℕ → Option (List ℕ) → List ℕ → Status → Type 0
HeldLineAnswer number held said status = IsSomeAnd held (λ text. LineAnswer text number said status)

abbrev pub HeldCheckAnswer : Option (List ℕ) → List ℕ → Status → Type 0
HeldCheckAnswer held said status = IsSomeAnd held (λ text. CheckAnswer text said status)
