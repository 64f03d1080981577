-- What the program writes, and how it ends.
use Rattle.std.specs.Prelude.{ℕ, pos, List, length, codes, Option}
use Rattle.tool_io.specs.Texts.{number_line}
use Rattle.dev_card.specs.declared.desc.Desc.{Desc}
use Rattle.board_text.specs.declared.reason.BoardReason.{BoardReason}
use Rattle.named_files.specs.Boards.{HasBoard, HasBoardFault}
use Rattle.named_files.specs.Texts.{board_refusal_line, usage_line}
use Rattle.counting_tests.specs.declared.status.CountStatus.{CountStatus}
use Rattle.counting_tests.specs.declared.status.CountStatus.TheVariants.{Counted, Refused, Usage}
use Rattle.counting_tests.specs.Words.{NamesBoard, NamesNone}

-- the line of a board's devices
abbrev pub count_line : List Desc → List ℕ
count_line devices = number_line (codes "devices ") (pos (length devices))

-- The answer for a file, where it is held: the devices of the board are counted, or its first fault is told.
pub data HeldAnswer (held : Option (List ℕ)) : List ℕ → CountStatus → Type 0 where
  counted : (devices : List Desc) → HasBoard held devices → HeldAnswer held (count_line devices) Counted
  refused : (line : ℕ) (reason : BoardReason) → HasBoardFault held line reason →
      HeldAnswer held (board_refusal_line line reason) (Refused line reason)

-- The answer to words, if the file that they name holds this: they name none, or the file is answered.
pub data WordsAnswer (held : Option (List ℕ)) (words : List (List ℕ)) : List ℕ → CountStatus → Type 0 where
  usage : NamesNone words → WordsAnswer held words (usage_line 1) Usage
  asked : (path text : List ℕ) (status : CountStatus) → NamesBoard words path → HeldAnswer held text status →
      WordsAnswer held words text status
