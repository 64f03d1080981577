-- What words and the contents of their files come to: a line that refuses them, or a play. The rules are this tool's
-- own.
use Rattle.std.specs.Prelude.{◌≡◌, ℕ, Bool, true, false, List, codes, Option, IsSomeAnd}
use Rattle.stapl_lexer.specs.declared.reason.Reason.{Reason}
use Rattle.stapl_syntax.specs.Trees.{StmtTree}
use Rattle.stapl_syntax.specs.Programs.{IsProgram, FirstFault}
use Rattle.stapl_meaning.specs.Choices.{Choice, choice_of}
use Rattle.stapl_meaning.specs.Choices as choices
use Rattle.stapl_meaning.specs.Scopes.{as_played}
use Rattle.stapl_meaning.specs.Plays.{Run, play}
use Rattle.dev_card.specs.declared.desc.Desc.{Desc}
use Rattle.dev_card.specs.FarEnds.{FarEnd}
use Rattle.board_text.specs.declared.reason.BoardReason.{BoardReason}
use Rattle.tool_frame.specs.Files.{first_of, second_of}
use Rattle.named_files.specs.Boards.{HasBoard, HasBoardFault}
use Rattle.named_files.specs.Texts.{refusal_line, board_refusal_line, usage_line}
use Rattle.play_words.specs.declared.requests.PlayRequest.{PlayRequest}
use Rattle.play_words.specs.declared.requests.FilePlay.{FilePlay}
use Rattle.code_plays.specs.Plays.{has_place, base_at}
use Rattle.drive_tool.specs.declared.status.DriveStatus.{DriveStatus}
use Rattle.drive_tool.specs.declared.status.DriveStatus.TheVariants.{Refused, BoardRefused, NoAction, BadChoice, BadPlace, Usage}
use Rattle.drive_tool.specs.Words.{WireNames, AskToDrive, HasUsage}

-- a line with its status, or a play, by what it is at each far end, with or without the lines of its clocks
pub data Plan : Type 0 where
  refusal : (line : List ℕ) (status : DriveStatus) → Plan
  drive : (pins : Bool) (plays : FarEnd → Run) → Plan

-- What a choice comes to: the program has no such action, a name cannot be chosen, the board lacks the run, or the
-- chosen procedures are played.
pub data ChoicePlan (choice : Choice) (placed pins : Bool) (plays : List ℕ → FarEnd → Run) : Plan → Type 0 where
  no_action : choice ≡ choices.no_action → ChoicePlan choice placed pins plays (refusal (codes "R action\n") NoAction)
  bad_choice : choice ≡ choices.bad_choice →
      ChoicePlan choice placed pins plays (refusal (codes "R choice\n") BadChoice)
  bad_place : (procedures : List ℕ) → choice ≡ choices.chosen procedures → placed ≡ false →
      ChoicePlan choice placed pins plays (refusal (codes "R place\n") BadPlace)
  is_ready : (procedures : List ℕ) → choice ≡ choices.chosen procedures → placed ≡ true →
      ChoicePlan choice placed pins plays (drive pins (plays procedures))

-- The same of a program, by what a request asks for, with the devices of its board: the play of the chosen procedures
-- for at most its turns, with base padding around its run of devices, if it names one.
abbrev pub ProgramPlan : PlayRequest → List Desc → List StmtTree → (Plan → Type 0)
ProgramPlan request devices program =
    ChoicePlan (choice_of (as_played program) request.action request.todo request.skip)
    (has_place request.place devices) request.pins
    (λ procedures far. play (as_played program) procedures request.turns (base_at devices request.place) far)

-- What a text comes to: it is refused at its first fault, or it is a program.
pub data TextPlan (request : PlayRequest) (devices : List Desc) (bytes : List ℕ) : Plan → Type 0 where
  refused : (piece line : ℕ) (reason : Reason) → FirstFault bytes piece line reason →
      TextPlan request devices bytes (refusal (refusal_line piece line reason) (Refused piece reason))
  accepted : (program : List StmtTree) (plan : Plan) → IsProgram bytes program →
      ProgramPlan request devices program plan → TextPlan request devices bytes plan

-- The same of a file, where it is held.
abbrev pub HeldPlan : PlayRequest → List Desc → Option (List ℕ) → (Plan → Type 0)
HeldPlan request devices held plan = IsSomeAnd held (λ bytes. TextPlan request devices bytes plan)

-- What a request comes to, with these contents of its files: its board is refused at its first fault, or it is of these
-- devices.
pub data RequestPlan (request : PlayRequest) (contents : List (Option (List ℕ))) : Plan → Type 0 where
  board_refused : (line : ℕ) (reason : BoardReason) → HasBoardFault (first_of contents) line reason →
      RequestPlan request contents (refusal (board_refusal_line line reason) (BoardRefused line reason))
  board_read : (devices : List Desc) (plan : Plan) → HasBoard (first_of contents) devices →
      HeldPlan request devices (second_of contents) plan → RequestPlan request contents plan

-- What words come to, with these contents of their files, and whether waits are sent.
pub data WordsPlan (words : List (List ℕ)) (contents : List (Option (List ℕ))) (sleeps : Bool) : Plan → Type 0 where
  usage : (n : ℕ) → HasUsage words n → WordsPlan words contents sleeps (refusal (usage_line n) (Usage n))
  asked : (wire : WireNames) (play : FilePlay) (plan : Plan) → AskToDrive words wire play → wire.sleeps ≡ sleeps →
      RequestPlan play.request contents plan → WordsPlan words contents sleeps plan
