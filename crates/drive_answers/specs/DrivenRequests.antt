-- Plays that are asked for and go over a wire to a link, and what the tool of the link is given. The rules are these
-- tools' own.
use Rattle.std.specs.Prelude.{◌≡◌, ℕ, ◌++◌, Bool, true, false, List, Option, Some, codes}
use Rattle.stapl_syntax.specs.Programs.{IsProgram}
use Rattle.stapl_syntax.specs.Trees.{StmtTree}
use Rattle.dev_card.specs.declared.desc.Desc.{Desc}
use Rattle.dev_card.specs.FarEnds.{FarEnd}
use Rattle.stapl_meaning.specs.declared.events.Event.{Event}
use Rattle.stapl_meaning.specs.Choices.{choice_of}
use Rattle.stapl_meaning.specs.Choices as choices
use Rattle.stapl_meaning.specs.Scopes.{as_played}
use Rattle.stapl_meaning.specs.Plays.{Run, play}
use Rattle.written_cable.specs.Signals.{signals_of}
use Rattle.link_server.specs.Clients.{bytes_of_signals}
use Rattle.tool_frame.specs.Files.{first_of, second_of}
use Rattle.named_files.specs.Boards.{HasBoard}
use Rattle.named_files.specs.Contents.{Contents}
use Rattle.play_words.specs.declared.requests.PlayRequest.{PlayRequest}
use Rattle.code_plays.specs.Plays.{has_place, base_at}

-- A request asks for a play, without a report. Its board and its program are right, what it chooses can be chosen, and
-- this is the play at each far end.
pub record AsksForPlay (request : PlayRequest) (contents : List (Option (List ℕ))) (plays : FarEnd → Run)
    : Type 0 where
  pub no_report : request.report ≡ false
  pub devices : List Desc
  pub board : HasBoard (first_of contents) devices
  pub bytes : List ℕ
  pub held : second_of contents ≡ Some bytes
  pub program : List StmtTree
  pub is : IsProgram bytes program
  pub procedures : List ℕ
  pub chosen : choice_of (as_played program) request.action request.todo request.skip ≡ choices.chosen procedures
  pub placed : has_place request.place devices ≡ true
  pub plays_are : plays ≡ (λ far. play (as_played program) procedures request.turns (base_at devices request.place) far)

-- the bytes of the clocks and waits among events, and a Q after them
abbrev pub sent_for : Bool → List Event → List ℕ
sent_for sleeps events = bytes_of_signals sleeps (signals_of events) ++ codes "Q"

-- what the files of a link hold: the board of the play, and these bytes
abbrev pub link_contents : List (Option (List ℕ)) → List ℕ → Contents
link_contents contents sent = record { board = first_of contents; file = Some sent }
