-- The files that are read for the words, and what stands of their contents as they were read. The rules are this tool's
-- own.
use Rattle.std.specs.Prelude.{◌≡◌, ℕ, List, Option, Some, IfSome}
use Rattle.dev_card.specs.declared.desc.Desc.{Desc}
use Rattle.dev_card.specs.Sound.{SoundCard}
use Rattle.tool_frame.specs.Answers.{Wrote}
use Rattle.tool_frame.specs.Files.{file_named, OfFiles}
use Rattle.named_files.specs.Boards.{HasBoard}
use Rattle.play_words.specs.declared.requests.FilePlay.{FilePlay}
use Rattle.play_words.specs.declared.requests.Request.{Request}
use Rattle.play_words.specs.declared.requests.Request.TheVariants as requests
use Rattle.play_words.specs.Words.{play_files, files_of, IsRequest}
use Rattle.play_words.specs.declared.status.Status.{Status}
use Rattle.play_words.specs.Statuses.{IsOfPlay}
use Rattle.play_tool.specs.FinalRacks.{WordsHoldFinal, AskForPlay}
use Rattle.play_tool.specs.Alone.{IsQuietAlone, DoesAsAlone}
use Rattle.play_tool.specs.Compiled.{RunsCompiled, PlaysProgram}
use Rattle.play_tool.specs.Traced.{PlaysWithPins, IsTraced}

-- the files of a play are named, each at its place
abbrev pub ArePlayFiles : FilePlay → List (Option (List ℕ)) → Type 0
ArePlayFiles play named = named ≡ play_files play

-- the files of a request are named, each at its place
abbrev pub AreFilesOf : Request → List (Option (List ℕ)) → Type 0
AreFilesOf request named = named ≡ files_of request

-- The files of the request that the words are.
pub record NamesFiles (words : List (List ℕ)) (named : List (Option (List ℕ))) : Type 0 where
  pub request : Request
  pub asked : IsRequest words request
  pub are : AreFilesOf request named

-- This stands of the contents of the files of the words, as they were read. Words that are no request name no file.
abbrev pub OfWords : Option (List (List ℕ × List ℕ)) → List (List ℕ) → (List (Option (List ℕ)) → Type 0) → Type 0
OfWords told words stands = OfFiles (NamesFiles words) told stands

-- The store holds the board of a play, and it is a board.
pub record HoldsBoard (path : List ℕ) (files : List (List ℕ × List ℕ)) : Type 0 where
  pub devices : List Desc
  pub board : HasBoard (file_named files (Some path)) devices

-- A file of a play that is read: its board; or what is played, and if the store tells its files, the board is held
-- there and is a board.
pub data IsPlayFile (told : Option (List (List ℕ × List ℕ))) (play : FilePlay) (path : List ℕ) : Type 0 where
  board_reached : path ≡ play.board → IsPlayFile told play path
  source_reached : path ≡ play.source → IfSome told (HoldsBoard play.board) → IsPlayFile told play path

-- a file of a request that is read
abbrev pub IsReached : Option (List (List ℕ × List ℕ)) → Request → List ℕ → Type 0
IsReached told (requests.Play play) path = IsPlayFile told play path
IsReached told (requests.Run play) path = IsPlayFile told play path
IsReached told (requests.Check program) path = path ≡ program
IsReached told (requests.List program) path = path ≡ program
IsReached told (requests.Compile program) path = path ≡ program
IsReached told (requests.Soak seed) path = ⊥

-- a file that the words name and that is read
pub record IsReachedBy (told : Option (List (List ℕ × List ℕ))) (words : List (List ℕ)) (path : List ℕ) : Type 0 where
  pub request : Request
  pub asked : IsRequest words request
  pub reached : IsReached told request path

-- What the tool has done for words, with these contents of their files: it has written the answer, and nothing else, and
-- its status is the answer's. After a play, to its ending or for all its turns, the rack holds the board that the play
-- leaves: device i of the board, counted from 0, stands at the place of its kind among the three places from 3 * i on.
-- A play for a run of devices of a board does what the play on that run alone does, if this is quiet for all its turns
-- and no clocks are asked for: text, status, and what the devices of the run hold then. What is written of a play of a
-- code that a program was compiled to, and its status, are those of the play of that program. If the clocks of a play
-- are asked for, of a program or of a code, its text is a trace of its board.
pub record Answered (answers : List ℕ → Status → Type 0) (words : List (List ℕ)) (contents : List (Option (List ℕ)))
    (before after : Option (List ℕ)) (status : Status) (rack : List (Option SoundCard)) : Type 0 where
  pub wrote : Wrote answers before after status
  pub leaves : AskForPlay words → IsOfPlay status → WordsHoldFinal words contents rack
  pub alone : (q : IsQuietAlone words (λ request. contents)) → DoesAsAlone q before after status rack
  pub compiled : (q : RunsCompiled words (λ request. contents)) → Wrote (PlaysProgram q) before after status
  pub traced : (q : PlaysWithPins words (λ request. contents)) → IsOfPlay status → Wrote (IsTraced q rack) before after status
