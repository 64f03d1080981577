-- What the program writes, and how it ends: by its words and the contents of the files that they name. The rules are
-- this tool's own.
use Rattle.std.specs.Prelude.{◌≡◌, ◌≤◌, ℕ, Bool, true, false, List, [], ◌∷◌, ◌++◌, codes, Option, None, Some, IsSomeAnd, filter_map}
use Rattle.stapl_lexer.specs.declared.reason.Reason.{Reason}
use Rattle.stapl_syntax.specs.Trees.{BodyTree, action, StmtTree}
use Rattle.stapl_syntax.specs.Programs.{IsProgram, FirstFault}
use Rattle.stapl_meaning.specs.declared.events.Ending.{Ending}
use Rattle.stapl_meaning.specs.Choices.{Choice, choice_of}
use Rattle.stapl_meaning.specs.Choices as choices
use Rattle.stapl_meaning.specs.Scopes.{Played, as_played}
use Rattle.stapl_meaning.specs.Plays.{ending_of}
use Rattle.dev_card.specs.declared.desc.Desc.{Desc}
use Rattle.dev_card.specs.Padding.{in_run}
use Rattle.padded_plays.specs.QuietPlays.{IsQuietPlay, play_alone}
use Rattle.padded_plays.specs.declared.unquiet.Unquiet.{Unquiet}
use Rattle.padded_plays.specs.FirstDeeds.{IsFirstUnquiet}
use Rattle.board_text.specs.declared.reason.BoardReason.{BoardReason}
use Rattle.command_words.specs.declared.place_run.PlaceRun.{PlaceRun}
use Rattle.tool_frame.specs.Files.{first_of, second_of}
use Rattle.named_files.specs.Boards.{HasBoard, HasBoardFault}
use Rattle.named_files.specs.Texts.{refusal_line, board_refusal_line, usage_line}
use Rattle.play_words.specs.declared.requests.PlayRequest.{PlayRequest}
use Rattle.code_plays.specs.Plays.{has_place, neighbours}
use Rattle.quiet_tool.specs.declared.status.QuietStatus.{QuietStatus}
use Rattle.quiet_tool.specs.declared.status.QuietStatus.TheVariants.{Quiet, NotQuiet, Refused, BoardRefused, NoAction, BadChoice, BadPlace, Usage}
use Rattle.quiet_tool.specs.declared.words.Actions.{Actions}
use Rattle.quiet_tool.specs.declared.words.Actions.TheVariants.{Named, Each}
use Rattle.quiet_tool.specs.declared.words.Question.{Question}
use Rattle.quiet_tool.specs.Statuses.{first_unquiet}
use Rattle.quiet_tool.specs.Texts.{quiet_text, unquiet_line, action_text, IsLineOf}
use Rattle.quiet_tool.specs.Words.{Ask, HasUsage}

-- the devices that are looked at alone: those of the run that is named, or all of the board
abbrev pub run_of : Option PlaceRun → List Desc → List Desc
run_of None devices = devices
run_of (Some run) devices = in_run (neighbours run) devices

-- The play of the chosen procedures on these devices alone, for at most n turns, is quiet; or its first deed that is
-- not is told, with the line of its piece in the text of the program.
pub data VerdictAnswer (bytes : List ℕ) (program : Played) (procedures : List ℕ) (n : ℕ) (run : List Desc) :
    List ℕ → QuietStatus → Type 0 where
  quiet : (ending : Ending) → IsQuietPlay program procedures n run →
      ending_of (play_alone program procedures n run).outcome ≡ Some ending →
      VerdictAnswer bytes program procedures n run (quiet_text n ending) Quiet
  unquiet : (turn piece line : ℕ) (why : Unquiet) → IsFirstUnquiet program procedures run turn piece why → turn ≤ n →
      IsLineOf bytes piece line →
      VerdictAnswer bytes program procedures n run (unquiet_line piece line turn why) (NotQuiet turn piece why)

-- What is written of a program, by what a choice came to: it has no such action, a name cannot be chosen, the board
-- lacks the run, or the play of the chosen procedures is judged.
pub data ChoiceAnswer (bytes : List ℕ) (program : Played) (choice : Choice) (placed : Bool) (n : ℕ) (run : List Desc) :
    List ℕ → QuietStatus → Type 0 where
  no_action : choice ≡ choices.no_action →
      ChoiceAnswer bytes program choice placed n run (codes "R action\n") NoAction
  bad_choice : choice ≡ choices.bad_choice →
      ChoiceAnswer bytes program choice placed n run (codes "R choice\n") BadChoice
  bad_place : (procedures : List ℕ) → choice ≡ choices.chosen procedures → placed ≡ false →
      ChoiceAnswer bytes program choice placed n run (codes "R place\n") BadPlace
  judged : (procedures text : List ℕ) (status : QuietStatus) → choice ≡ choices.chosen procedures → placed ≡ true →
      VerdictAnswer bytes program procedures n run text status →
      ChoiceAnswer bytes program choice placed n run text status

-- the same of the action that a request names, by its choices, its run and its turns
abbrev pub ActionAnswer : List ℕ → List StmtTree → PlayRequest → List Desc → (List ℕ → QuietStatus → Type 0)
ActionAnswer bytes program request devices =
    ChoiceAnswer bytes (as_played program) (choice_of (as_played program) request.action request.todo request.skip)
    (has_place request.place devices) request.turns (run_of request.place devices)

-- the name of the action that a statement declares (JESD71, ACTION)
abbrev pub action_name : BodyTree → Option (List ℕ)
action_name (action name text items) = Some name
action_name _ = None

-- the actions of a program, in the order of their statements
abbrev pub actions_of : List StmtTree → List (List ℕ)
actions_of program = filter_map (λ st. action_name st.body) program

-- the same that is asked of a play, of this action
abbrev pub with_action : PlayRequest → List ℕ → PlayRequest
with_action request name = record {
  action = name;
  todo = request.todo;
  skip = request.skip;
  place = request.place;
  turns = request.turns;
  pins = request.pins;
  report = request.report;
}

-- What is written of these actions: of each in order its name and the answer about its play alone, as if the words had
-- named it. The status is that of the first play which is not quiet.
pub data ActionsAnswer (bytes : List ℕ) (program : List StmtTree) (request : PlayRequest) (devices : List Desc) :
    List (List ℕ) → List ℕ → QuietStatus → Type 0 where
  no_more : ActionsAnswer bytes program request devices [] [] Quiet
  one_more : (name : List ℕ) (names : List (List ℕ)) (text others : List ℕ) (status rest : QuietStatus) →
      ActionAnswer bytes program (with_action request name) devices text status →
      ActionsAnswer bytes program request devices names others rest →
      ActionsAnswer bytes program request devices (name ∷ names) (action_text name text ++ others)
      (first_unquiet status rest)

-- The answer for a program: about the play of the action that a request names, or of each action. A program has one.
abbrev pub ProgramAnswer : Actions → List ℕ → List StmtTree → PlayRequest → List Desc → (List ℕ → QuietStatus → Type 0)
ProgramAnswer Named bytes program request devices = ActionAnswer bytes program request devices
ProgramAnswer Each bytes program request devices =
    ActionsAnswer bytes program request devices (actions_of program)

-- The answer for a text: it is refused at its first fault, or it is a program, and its plays are judged.
pub data TextAnswer (actions : Actions) (request : PlayRequest) (devices : List Desc) (bytes : List ℕ) :
    List ℕ → QuietStatus → Type 0 where
  refused : (piece line : ℕ) (reason : Reason) → FirstFault bytes piece line reason →
      TextAnswer actions request devices bytes (refusal_line piece line reason) (Refused piece reason)
  accepted : (program : List StmtTree) (text : List ℕ) (status : QuietStatus) → IsProgram bytes program →
      ProgramAnswer actions bytes program request devices text status →
      TextAnswer actions request devices bytes text status

-- The same for a file, where it is held.
abbrev pub HeldAnswer : Actions → PlayRequest → List Desc → Option (List ℕ) → List ℕ → QuietStatus → Type 0
HeldAnswer actions request devices held text status =
    IsSomeAnd held (λ bytes. TextAnswer actions request devices bytes text status)

-- The answer about plays that are asked for so, with these contents of their files: their board is refused at its first
-- fault, or is of these devices, and the answer is that for their program.
pub data RequestAnswer (actions : Actions) (request : PlayRequest) (contents : List (Option (List ℕ))) :
    List ℕ → QuietStatus → Type 0 where
  board_refused : (line : ℕ) (reason : BoardReason) → HasBoardFault (first_of contents) line reason →
      RequestAnswer actions request contents (board_refusal_line line reason) (BoardRefused line reason)
  board_read : (devices : List Desc) (text : List ℕ) (status : QuietStatus) → HasBoard (first_of contents) devices →
      HeldAnswer actions request devices (second_of contents) text status →
      RequestAnswer actions request contents text status

-- the answer to a question
abbrev pub QuestionAnswer : Question → List (Option (List ℕ)) → (List ℕ → QuietStatus → Type 0)
QuestionAnswer question contents = RequestAnswer question.actions question.play.request contents

-- The answer to words, with these contents of their files: they are refused, or the plays that they ask about are
-- judged.
pub data WordsAnswer (words : List (List ℕ)) (contents : List (Option (List ℕ))) : List ℕ → QuietStatus → Type 0 where
  usage : (n : ℕ) → HasUsage words n → WordsAnswer words contents (usage_line n) (Usage n)
  asked : (question : Question) (text : List ℕ) (status : QuietStatus) → Ask words question →
      QuestionAnswer question contents text status → WordsAnswer words contents text status
