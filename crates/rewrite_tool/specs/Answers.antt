-- What the program writes, and how it ends, by the words and the contents of the files that they name. It is defined
-- where the files are held that are read before the answer is found: the board first, and the program after a board
-- that is right. The rules are this tool's own.
use Rattle.std.specs.Prelude.{◌≤◌, ◌<◌, ℕ, List, length, Option, Some, IsSomeAnd}
use Rattle.stapl_lexer.specs.declared.reason.Reason.{Reason}
use Rattle.stapl_syntax.specs.Trees.{StmtTree}
use Rattle.stapl_syntax.specs.Programs.{IsProgram, FirstFault}
use Rattle.dev_card.specs.declared.desc.Desc.{Desc}
use Rattle.dev_card.specs.Padding.{BaseLengths, base_lengths}
use Rattle.board_text.specs.declared.reason.BoardReason.{BoardReason}
use Rattle.carried_plays.specs.OwnPaddings.{IsFirstPadding}
use Rattle.chain_rewrite.specs.Rewritten.{IsRewritten, BecomesTooLarge}
use Rattle.command_words.specs.declared.place_run.PlaceRun.{PlaceRun}
use Rattle.named_files.specs.Boards.{HasBoard, HasBoardFault}
use Rattle.named_files.specs.Texts.{refusal_line, board_refusal_line, usage_line}
use Rattle.named_files.specs.Contents.{Contents, contents_in}
use Rattle.rewrite_tool.specs.declared.status.RewriteStatus.{RewriteStatus}
use Rattle.rewrite_tool.specs.declared.status.RewriteStatus.TheVariants.{Done, Refused, BoardRefused, BadPlace, OwnPadding, TooLarge, Usage}
use Rattle.rewrite_tool.specs.Words.{Request, IsRequest, IsUsage}
use Rattle.rewrite_tool.specs.Texts.{place_line, padding_line, too_large_line}

-- base padding for a run of these devices
abbrev pub run_base : List Desc → PlaceRun → BaseLengths
run_base devices run = base_lengths devices (Some (record { first = run.first; last = run.last }))

-- The answer for a text, on a board of these devices, for a run of places: the text is refused at its first fault; or
-- it is a program, and the board lacks the run, or the program has a padding of its own, or the new program is too large,
-- or it is written.
pub data ProgramAnswer (devices : List Desc) (run : PlaceRun) (bytes : List ℕ) : List ℕ → RewriteStatus → Type 0 where
  refused : (piece line : ℕ) (reason : Reason) → FirstFault bytes piece line reason →
      ProgramAnswer devices run bytes (refusal_line piece line reason) (Refused piece reason)
  bad_place : (program : List StmtTree) → IsProgram bytes program → length devices < run.last →
      ProgramAnswer devices run bytes place_line BadPlace
  own_padding : (program : List StmtTree) (piece : ℕ) → IsProgram bytes program → run.last ≤ length devices →
      IsFirstPadding program piece → ProgramAnswer devices run bytes (padding_line piece) (OwnPadding piece)
  too_large : (program : List StmtTree) → IsProgram bytes program → run.last ≤ length devices →
      BecomesTooLarge (run_base devices run) program → ProgramAnswer devices run bytes too_large_line TooLarge
  rewritten : (program : List StmtTree) (text : List ℕ) → IsProgram bytes program → run.last ≤ length devices →
      IsRewritten (run_base devices run) program text → ProgramAnswer devices run bytes text Done

-- The same for a file, where it is held.
abbrev pub FileAnswer : List Desc → PlaceRun → Option (List ℕ) → List ℕ → RewriteStatus → Type 0
FileAnswer devices run held text status = IsSomeAnd held (λ bytes. ProgramAnswer devices run bytes text status)

-- The answer to a request: its board is refused at its first fault, or is of these devices, and the answer is that for
-- its program.
pub data RequestAnswer (request : Request) (contents : Contents) : List ℕ → RewriteStatus → Type 0 where
  board_refused : (line : ℕ) (reason : BoardReason) → HasBoardFault contents.board line reason →
      RequestAnswer request contents (board_refusal_line line reason) (BoardRefused line reason)
  board_read : (devices : List Desc) (text : List ℕ) (status : RewriteStatus) → HasBoard contents.board devices →
      FileAnswer devices request.run contents.file text status → RequestAnswer request contents text status

-- The answer to the words, with these contents of the files of each request: they are refused, or what they ask is
-- answered.
pub data WordsAnswer (words : List (List ℕ)) (contents_of : Request → Contents) : List ℕ → RewriteStatus → Type 0 where
  usage : (n : ℕ) → IsUsage words n → WordsAnswer words contents_of (usage_line n) (Usage n)
  asked : (request : Request) (text : List ℕ) (status : RewriteStatus) → IsRequest words request →
      RequestAnswer request (contents_of request) text status → WordsAnswer words contents_of text status

-- The answer to the words and the files of a store.
abbrev pub Answer : List (List ℕ) → List (List ℕ × List ℕ) → (List ℕ → RewriteStatus → Type 0)
Answer words files = WordsAnswer words (λ request. contents_in files request.files)
