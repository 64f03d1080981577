-- Plays of a code that a program was compiled to, and the same plays of the program. The rules are this tool's own.
use Rattle.std.specs.Prelude.{◌≡◌, ℕ, pos, List, Option, Some}
use Rattle.stapl_syntax.specs.Trees.{StmtTree}
use Rattle.stapl_syntax.specs.Programs.{IsProgram}
use Rattle.dev_card.specs.declared.desc.Desc.{Desc}
use Rattle.play_words.specs.declared.status.Status.{Status}
use Rattle.play_words.specs.declared.status.Status.TheVariants.{Done}
use Rattle.play_words.specs.declared.requests.FilePlay.{FilePlay}
use Rattle.play_words.specs.declared.requests.Request.{Request}
use Rattle.play_words.specs.declared.requests.Request.TheVariants.{Run}
use Rattle.play_words.specs.Words.{IsRequest}
use Rattle.tool_frame.specs.Files.{first_of, second_of}
use Rattle.named_files.specs.Boards.{HasBoard}
use Rattle.play_tool.specs.Answers.{Compiles, PlaysAction}

-- The words ask for a play of a code on a board, and the bytes of the code are what is written for a program if that is
-- compiled.
pub record RunsCompiled (words : List (List ℕ)) (contents_of : Request → List (Option (List ℕ))) : Type 0 where
  pub play : FilePlay
  pub asked : IsRequest words (Run play)
  pub devices : List Desc
  pub board : HasBoard (first_of (contents_of (Run play))) devices
  pub bytes : List ℕ
  pub program : List StmtTree
  pub is : IsProgram bytes program
  pub file : List ℕ
  pub held : second_of (contents_of (Run play)) ≡ Some file
  pub compiled : Compiles program file (Done (pos 0))

-- The play of the program itself that asks for the same: what is written, and the status.
abbrev pub PlaysProgram : {words : List (List ℕ)} {contents_of : Request → List (Option (List ℕ))} → RunsCompiled words contents_of → (List ℕ → Status → Type 0)
PlaysProgram q = PlaysAction q.play.request q.devices q.program
