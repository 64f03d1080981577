-- Plays for a run of neighbours of a chain, and the same plays on that run alone. The rules are this tool's own.
use Rattle.std.specs.Prelude.{◌≡◌, ℕ, true, false, List, Option, None, Some}
use Rattle.stapl_syntax.specs.Trees.{StmtTree}
use Rattle.stapl_syntax.specs.Programs.{IsProgram}
use Rattle.stapl_meaning.specs.Choices.{choice_of, chosen}
use Rattle.stapl_meaning.specs.Scopes.{as_played}
use Rattle.dev_card.specs.declared.desc.Desc.{Desc}
use Rattle.dev_card.specs.Padding.{in_run}
use Rattle.dev_card.specs.Sound.{SoundCard}
use Rattle.chain_sim.specs.Rack.{places_of}
use Rattle.command_words.specs.declared.place_run.PlaceRun.{PlaceRun}
use Rattle.padded_plays.specs.QuietPlays.{IsQuietPlay}
use Rattle.play_words.specs.declared.status.Status.{Status}
use Rattle.play_words.specs.declared.requests.PlayRequest.{PlayRequest}
use Rattle.play_words.specs.declared.requests.FilePlay.{FilePlay}
use Rattle.play_words.specs.declared.requests.Request.{Request}
use Rattle.play_words.specs.declared.requests.Request.TheVariants.{Play}
use Rattle.play_words.specs.Words.{IsRequest}
use Rattle.tool_frame.specs.Answers.{Wrote}
use Rattle.tool_frame.specs.Files.{first_of, second_of}
use Rattle.named_files.specs.Boards.{HasBoard}
use Rattle.play_tool.specs.Answers.{play_on, PlaysAction}
use Rattle.code_plays.specs.Plays.{has_place, neighbours, reported_far}
use Rattle.code_plays.specs.Racks.{far_at}

-- the same request for a board of the run alone, so without a place
abbrev pub alone_request : PlayRequest → PlayRequest
alone_request request = record request { place = None }

-- The words ask for a play for a run of devices of a board, without the clocks, and the same play on that run alone is
-- quiet for all its turns.
pub record IsQuietAlone (words : List (List ℕ)) (contents_of : Request → List (Option (List ℕ))) : Type 0 where
  pub play : FilePlay
  pub asked : IsRequest words (Play play)
  pub no_pins : play.request.pins ≡ false
  pub run : PlaceRun
  pub for_run : play.request.place ≡ Some run
  pub devices : List Desc
  pub board : HasBoard (first_of (contents_of (Play play))) devices
  pub placed : has_place (Some run) devices ≡ true
  pub bytes : List ℕ
  pub held : second_of (contents_of (Play play)) ≡ Some bytes
  pub program : List StmtTree
  pub is : IsProgram bytes program
  pub procedures : List ℕ
  pub choice : choice_of (as_played program) play.request.action play.request.todo play.request.skip ≡ chosen procedures
  pub quiet : IsQuietPlay (as_played program) procedures play.request.turns (in_run (neighbours run) devices)

-- the play on the run alone: what is written, and the status
abbrev pub PlaysAlone : {words : List (List ℕ)} {contents_of : Request → List (Option (List ℕ))} → IsQuietAlone words contents_of → (List ℕ → Status → Type 0)
PlaysAlone q = PlaysAction (alone_request q.play.request) (in_run (neighbours q.run) q.devices) q.program

-- Of the board in the rack, the devices of the run are what the play on the run alone leaves.
abbrev pub HoldsAlone : {words : List (List ℕ)} {contents_of : Request → List (Option (List ℕ))} → IsQuietAlone words contents_of → List (Option SoundCard) → Type 0
HoldsAlone q rack =
    reported_far (Some q.run) (far_at rack (places_of q.devices))
    ≡ (play_on (as_played q.program) (alone_request q.play.request) (in_run (neighbours q.run) q.devices) q.procedures).chain.far

-- What is done for the words is what the play on the run alone does: what is written, the status, and what the devices
-- of the run hold then.
pub record DoesAsAlone {words : List (List ℕ)} {contents_of : Request → List (Option (List ℕ))} (q : IsQuietAlone words contents_of)
    (before after : Option (List ℕ)) (status : Status) (rack : List (Option SoundCard)) : Type 0 where
  pub wrote : Wrote (PlaysAlone q) before after status
  pub leaves : HoldsAlone q rack
