-- Plays of a program with base padding that are asked for, and the same of the text that carries it. The rules are this
-- tool's own.
use Rattle.std.specs.Prelude.{◌≡◌, ℕ, ◌+◌, true, false, List, [], ◌∷◌, Option, None, Some}
use Rattle.stapl_syntax.specs.Programs.{IsProgram}
use Rattle.stapl_syntax.specs.Trees.{StmtTree}
use Rattle.dev_card.specs.declared.desc.Desc.{Desc}
use Rattle.dev_card.specs.Padding.{base_lengths}
use Rattle.command_words.specs.declared.place_run.PlaceRun.{PlaceRun}
use Rattle.tool_frame.specs.Files.{first_of, second_of}
use Rattle.named_files.specs.Boards.{HasBoard}
use Rattle.play_words.specs.declared.requests.PlayRequest.{PlayRequest}
use Rattle.play_words.specs.declared.requests.FilePlay.{FilePlay}
use Rattle.code_plays.specs.Plays.{has_place, neighbours}
use Rattle.carried_plays.specs.CarriedTexts.{IsCarriedText}
use Rattle.carried_plays.specs.OwnPaddings.{has_own_padding}

-- the same request for the whole board, for five turns more
abbrev pub carried_request : PlayRequest → PlayRequest
carried_request request = record request { place = None; turns = request.turns + 5 }

-- the same play on the same board of what is in this file, for the whole board, for five turns more
abbrev pub carried_play : List ℕ → FilePlay → FilePlay
carried_play path play = record { board = play.board; source = path; request = carried_request play.request }

-- the same board, and this text in the program's file
abbrev pub with_program : List ℕ → List (Option (List ℕ)) → List (Option (List ℕ))
with_program new contents = first_of contents ∷ Some new ∷ []

-- A play is asked for, for a run of a board, and without a report. The program has no padding of its own, and the new
-- text, which is a program, carries the padding for the run.
pub record IsCarriedRequest (request : PlayRequest) (contents : List (Option (List ℕ))) (new : List ℕ) : Type 0 where
  pub no_report : request.report ≡ false
  pub run : PlaceRun
  pub for_run : request.place ≡ Some run
  pub devices : List Desc
  pub board : HasBoard (first_of contents) devices
  pub placed : has_place (Some run) devices ≡ true
  pub bytes : List ℕ
  pub held : second_of contents ≡ Some bytes
  pub program : List StmtTree
  pub is : IsProgram bytes program
  pub bare : has_own_padding program ≡ false
  pub carried : IsCarriedText (base_lengths devices (Some (neighbours run))) program new
  pub own : List StmtTree
  pub read : IsProgram new own
