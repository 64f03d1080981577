-- Plays whose text says the pins at each clock. The rules are this tool's own.
use Rattle.std.specs.Prelude.{◌≡◌, ℕ, true, List, map, Option}
use Rattle.dev_card.specs.declared.desc.Desc.{Desc}
use Rattle.dev_card.specs.Card.{fresh}
use Rattle.dev_card.specs.Sound.{SoundCard}
use Rattle.chain_sim.specs.Rack.{places_of}
use Rattle.pin_lines.specs.Traces.{IsTraceOf}
use Rattle.tool_frame.specs.Files.{first_of}
use Rattle.named_files.specs.Boards.{HasBoard}
use Rattle.play_words.specs.declared.status.Status.{Status}
use Rattle.play_words.specs.declared.requests.FilePlay.{FilePlay}
use Rattle.play_words.specs.declared.requests.Request.{Request}
use Rattle.play_words.specs.declared.requests.Request.TheVariants.{Play, Run}
use Rattle.play_words.specs.Words.{IsRequest}
use Rattle.code_plays.specs.Racks.{far_at}
use Rattle.play_tool.specs.declared.sources.Source.{Source}
use Rattle.play_tool.specs.declared.sources.Source.TheVariants.{Program, Code}

-- the request for a play of what a file holds
abbrev pub played_from : Source → FilePlay → Request
played_from Program play = Play play
played_from Code play = Run play

-- The words ask for a play on a board, of a program or of a code, with its clocks.
pub record PlaysWithPins (words : List (List ℕ)) (contents_of : Request → List (Option (List ℕ))) : Type 0 where
  pub source : Source
  pub play : FilePlay
  pub asked : IsRequest words (played_from source play)
  pub pins : play.request.pins ≡ true
  pub devices : List Desc
  pub board : HasBoard (first_of (contents_of (played_from source play))) devices

-- A text is a trace of the board: it has no bad line, the new devices answer its clocks so, and its clocks lead them to
-- what they hold in the rack.
abbrev pub IsTraced : {words : List (List ℕ)} {contents_of : Request → List (Option (List ℕ))} → PlaysWithPins words contents_of → List (Option SoundCard) →
    (List ℕ → Status → Type 0)
IsTraced q rack text status = IsTraceOf (map fresh q.devices) text (far_at rack (places_of q.devices))
