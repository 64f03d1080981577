-- What the program writes, and how it ends: by its words and the contents of the files that they name. The rules are
-- this tool's own.
use Rattle.std.specs.Prelude.{◌≡◌, ℕ, Bool, true, false, List, codes, Option, IsSomeAnd}
use Rattle.stapl_lexer.specs.declared.reason.Reason.{Reason}
use Rattle.stapl_syntax.specs.Trees.{StmtTree}
use Rattle.stapl_syntax.specs.Programs.{IsProgram, FirstFault}
use Rattle.stapl_meaning.specs.declared.events.Ending.{Ending}
use Rattle.stapl_meaning.specs.Choices.{Choice, choice_of}
use Rattle.stapl_meaning.specs.Choices as choices
use Rattle.stapl_meaning.specs.Scopes.{Played, as_played}
use Rattle.dev_card.specs.declared.desc.Desc.{Desc}
use Rattle.board_text.specs.declared.reason.BoardReason.{BoardReason}
use Rattle.tool_frame.specs.Files.{first_of, second_of}
use Rattle.named_files.specs.Boards.{HasBoard, HasBoardFault}
use Rattle.named_files.specs.Texts.{refusal_line, board_refusal_line, usage_line}
use Rattle.play_words.specs.declared.requests.FilePlay.{FilePlay}
use Rattle.play_words.specs.declared.requests.PlayRequest.{PlayRequest}
use Rattle.play_words.specs.declared.status.Status.{Status}
use Rattle.play_words.specs.declared.status.Status.TheVariants.{Refused, BoardRefused, NoAction, BadChoice, BadPlace, Usage}
use Rattle.code_plays.specs.Plays.{done_with, has_place}
use Rattle.accounted_plays.specs.Accounted.{IsAccounted}
use Rattle.scans_tool.specs.Words.{AskFor, HasUsage}

-- The play of the chosen procedures is written with its account, and the status is that of its ending.
pub record ChosenAnswer (bytes : List ℕ) (program : Played) (request : PlayRequest) (devices : List Desc)
    (procedures text : List ℕ) (status : Status) : Type 0 where
  pub ending : Ending
  pub accounted : IsAccounted bytes program request devices procedures text ending
  pub status_is : status ≡ done_with ending

-- What is written of a program, by what a choice came to: it has no such action, a name cannot be chosen, the board
-- lacks the run, or the chosen procedures are played, with this answer.
pub data ChoiceAnswer (choice : Choice) (placed : Bool) (plays : List ℕ → List ℕ → Status → Type 0) :
    List ℕ → Status → Type 0 where
  no_action : choice ≡ choices.no_action → ChoiceAnswer choice placed plays (codes "R action\n") NoAction
  bad_choice : choice ≡ choices.bad_choice → ChoiceAnswer choice placed plays (codes "R choice\n") BadChoice
  bad_place : (procedures : List ℕ) → choice ≡ choices.chosen procedures → placed ≡ false →
      ChoiceAnswer choice placed plays (codes "R place\n") BadPlace
  played : (procedures text : List ℕ) (status : Status) → choice ≡ choices.chosen procedures → placed ≡ true →
      plays procedures text status → ChoiceAnswer choice placed plays text status

-- the answer for a program: by the action that a request names, its choices, its run and its turns
abbrev pub ProgramAnswer : List ℕ → List StmtTree → PlayRequest → List Desc → (List ℕ → Status → Type 0)
ProgramAnswer bytes program request devices =
    ChoiceAnswer (choice_of (as_played program) request.action request.todo request.skip)
    (has_place request.place devices) (ChosenAnswer bytes (as_played program) request devices)

-- The answer for a text: it is refused at its first fault, or it is a program, and is played.
pub data TextAnswer (request : PlayRequest) (devices : List Desc) (bytes : List ℕ) : List ℕ → Status → Type 0 where
  refused : (piece line : ℕ) (reason : Reason) → FirstFault bytes piece line reason →
      TextAnswer request devices bytes (refusal_line piece line reason) (Refused piece reason)
  accepted : (program : List StmtTree) (text : List ℕ) (status : Status) → IsProgram bytes program →
      ProgramAnswer bytes program request devices text status → TextAnswer request devices bytes text status

-- The same for a file, where it is held.
abbrev pub HeldAnswer : PlayRequest → List Desc → Option (List ℕ) → List ℕ → Status → Type 0
HeldAnswer request devices held text status =
    IsSomeAnd held (λ bytes. TextAnswer request devices bytes text status)

-- The answer to a play that is asked for so, with these contents of its files: its board is refused at its first fault,
-- or is of these devices, and the answer is that for its program.
pub data RequestAnswer (request : PlayRequest) (contents : List (Option (List ℕ))) : List ℕ → Status → Type 0 where
  board_refused : (line : ℕ) (reason : BoardReason) → HasBoardFault (first_of contents) line reason →
      RequestAnswer request contents (board_refusal_line line reason) (BoardRefused line reason)
  board_read : (devices : List Desc) (text : List ℕ) (status : Status) → HasBoard (first_of contents) devices →
      HeldAnswer request devices (second_of contents) text status → RequestAnswer request contents text status

-- The answer to words, with these contents of their files: they are refused, or the play that they ask for is answered.
pub data WordsAnswer (words : List (List ℕ)) (contents : List (Option (List ℕ))) : List ℕ → Status → Type 0 where
  usage : (n : ℕ) → HasUsage words n → WordsAnswer words contents (usage_line n) (Usage n)
  asked : (play : FilePlay) (text : List ℕ) (status : Status) → AskFor words play →
      RequestAnswer play.request contents text status → WordsAnswer words contents text status
