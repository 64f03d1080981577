-- What stands of a program that is written. The rules are this tool's own.
use Rattle.std.specs.Prelude.{◌≡◌, ℕ, List, Some}
use Rattle.stapl_syntax.specs.Trees.{StmtTree}
use Rattle.stapl_syntax.specs.Programs.{IsProgram}
use Rattle.dev_card.specs.declared.desc.Desc.{Desc}
use Rattle.command_words.specs.declared.place_run.PlaceRun.{PlaceRun}
use Rattle.carried_padding.specs.CarriedPadding.{CarriesPaddingOf}
use Rattle.named_files.specs.Boards.{HasBoard}
use Rattle.named_files.specs.Contents.{Contents}
use Rattle.rewrite_tool.specs.declared.status.RewriteStatus.{RewriteStatus}
use Rattle.rewrite_tool.specs.declared.status.RewriteStatus.TheVariants.{Done}
use Rattle.rewrite_tool.specs.Words.{Request, IsRequest}
use Rattle.rewrite_tool.specs.Answers.{WordsAnswer}

-- Some bytes and the text that is written of them are programs. Played on the whole board, without base padding and for
-- five turns more, the second one plays as the first one does with base padding for the run.
pub record IsPlayedAlike (devices : List Desc) (run : PlaceRun) (bytes text : List ℕ) : Type 0 where
  pub program : List StmtTree
  pub is : IsProgram bytes program
  pub own : List StmtTree
  pub new : IsProgram text own
  pub alike : CarriesPaddingOf devices (record { first = run.first; last = run.last }) program own

-- The words ask for a program to be rewritten for a run of a board, both are held, and the text plays alike.
pub record PlaysAlike (words : List (List ℕ)) (contents : Contents) (text : List ℕ) : Type 0 where
  pub request : Request
  pub asked : IsRequest words request
  pub devices : List Desc
  pub board : HasBoard contents.board devices
  pub bytes : List ℕ
  pub held : contents.file ≡ Some bytes
  pub alike : IsPlayedAlike devices request.run bytes text

-- The answer to the words, with these contents of their files; and a program that is written plays alike.
pub record PromisedAnswer (words : List (List ℕ)) (contents : Contents) (text : List ℕ) (status : RewriteStatus) : Type 0 where
  pub answer : WordsAnswer words (λ request. contents) text status
  pub alike : status ≡ Done → PlaysAlike words contents text
