-- Plays at any place of any board of what is quiet on its devices alone. The rules are this tool's own.
use Rattle.std.specs.Prelude.{◌≡◌, ℕ, false, true, List, Option, Some, Contains}
use Rattle.stapl_syntax.specs.Trees.{StmtTree}
use Rattle.stapl_syntax.specs.Programs.{IsProgram}
use Rattle.dev_card.specs.declared.desc.Desc.{Desc}
use Rattle.dev_card.specs.Padding.{in_run}
use Rattle.command_words.specs.declared.place_run.PlaceRun.{PlaceRun}
use Rattle.tool_frame.specs.Files.{first_of, second_of}
use Rattle.named_files.specs.Boards.{HasBoard}
use Rattle.play_words.specs.declared.requests.PlayRequest.{PlayRequest}
use Rattle.play_words.specs.declared.requests.FilePlay.{FilePlay}
use Rattle.play_words.specs.declared.requests.Request.TheVariants.{Play}
use Rattle.play_words.specs.Words.{IsRequest}
use Rattle.code_plays.specs.Plays.{has_place, neighbours}
use Rattle.play_words.specs.declared.status.Status.{Status}
use Rattle.play_tool.specs.Answers.{PlaysAction}
use Rattle.play_tool.specs.Answers as plays
use Rattle.play_tool.specs.Alone.{alone_request}
use Rattle.quiet_tool.specs.Words.{Ask}
use Rattle.quiet_tool.specs.declared.words.Actions.{Actions}
use Rattle.quiet_tool.specs.declared.words.Actions.TheVariants.{Named, Each}
use Rattle.quiet_tool.specs.declared.words.Question.{Question}
use Rattle.quiet_tool.specs.declared.status.QuietStatus.{QuietStatus}
use Rattle.quiet_tool.specs.declared.status.QuietStatus.TheVariants.{Quiet}
use Rattle.quiet_tool.specs.Answers.{run_of, actions_of, WordsAnswer}

-- The program that is held has an action of this name.
pub record HasAction (source : Option (List ℕ)) (name : List ℕ) : Type 0 where
  pub bytes : List ℕ
  pub held : source ≡ Some bytes
  pub program : List StmtTree
  pub is : IsProgram bytes program
  pub among : Contains (actions_of program) name

-- the action is the one that is asked about, or one of the program if each is
abbrev pub IsAskedAction : Actions → PlayRequest → Option (List ℕ) → List ℕ → Type 0
IsAskedAction Named request source name = name ≡ request.action
IsAskedAction Each request source name = HasAction source name

-- Other words ask for a play of the same program: of the action that the words ask about, or of any one of the program
-- if they ask about each, with the same choices and turns, without the clocks, for a run of a board that has in a row
-- the devices that the words ask about.
pub record PlaysElsewhere (words : List (List ℕ)) (contents : List (Option (List ℕ))) (other : List (List ℕ))
    (held : List (Option (List ℕ))) : Type 0 where
  pub question : Question
  pub about : Ask words question
  pub devices : List Desc
  pub board : HasBoard (first_of contents) devices
  pub played : FilePlay
  pub asked : IsRequest other (Play played)
  pub no_pins : played.request.pins ≡ false
  pub run : PlaceRun
  pub for_run : played.request.place ≡ Some run
  pub around : List Desc
  pub other_board : HasBoard (first_of held) around
  pub placed : has_place (Some run) around ≡ true
  pub same_devices : in_run (neighbours run) around ≡ run_of question.play.request.place devices
  pub same_program : second_of held ≡ second_of contents
  pub asked_action : IsAskedAction question.actions question.play.request (second_of contents) played.request.action
  pub same_todo : played.request.todo ≡ question.play.request.todo
  pub same_skip : played.request.skip ≡ question.play.request.skip
  pub same_turns : played.request.turns ≡ question.play.request.turns

-- What is answered to a play is what is answered to it on a board of these devices alone: the text, with their report,
-- and the status.
pub record IsAsAlone (source : Option (List ℕ)) (request : PlayRequest) (run : List Desc) (text : List ℕ)
    (status : Status) : Type 0 where
  pub bytes : List ℕ
  pub held : source ≡ Some bytes
  pub program : List StmtTree
  pub is : IsProgram bytes program
  pub plays : PlaysAction (alone_request request) run program text status

-- each play elsewhere is answered as on these devices alone
abbrev pub IsQuietEverywhere : List (List ℕ) → List (Option (List ℕ)) → Type 0
IsQuietEverywhere words contents =
    (other : List (List ℕ)) (held : List (Option (List ℕ))) (q : PlaysElsewhere words contents other held)
    (text : List ℕ) (status : Status) →
    plays.WordsAnswer other (λ request. held) text status →
    IsAsAlone (second_of contents) q.played.request (run_of q.question.play.request.place q.devices) text status

-- The answer to the words, with these contents of their files; and if it is quiet, its plays are the same everywhere.
pub record PromisedAnswer (words : List (List ℕ)) (contents : List (Option (List ℕ))) (text : List ℕ)
    (status : QuietStatus) : Type 0 where
  pub answer : WordsAnswer words contents text status
  pub everywhere : status ≡ Quiet → IsQuietEverywhere words contents
