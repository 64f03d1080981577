-- What is written of a play, and the status. The rules are this tool's own.
use Rattle.std.specs.Option.{option_map}
use Rattle.std.specs.Prelude.{◌≡◌, ◌&&◌, ℕ, Bool, true, false, nat_le, List, length, map, codes, Option, None, Some}
use Rattle.stapl_meaning.specs.declared.events.Event.{Event}
use Rattle.stapl_meaning.specs.declared.events.Ending.{Ending}
use Rattle.stapl_meaning.specs.declared.events.Ending.TheVariants as endings
use Rattle.stapl_meaning.specs.Choices.{Choice}
use Rattle.stapl_meaning.specs.Choices as choices
use Rattle.stapl_meaning.specs.Plays.{Run, ending_of}
use Rattle.stapl_meaning.specs.Texts.{asked_report, text_of}
use Rattle.stapl_code.specs.declared.raw.CodeLists.{CodeLists}
use Rattle.stapl_player.specs.Choices.{code_choice}
use Rattle.stapl_player.specs.Plays.{whole_play}
use Rattle.dev_card.specs.declared.desc.Desc.{Desc}
use Rattle.dev_card.specs.Card.{fresh}
use Rattle.dev_card.specs.FarEnds.{FarEnd, Told, Heard}
use Rattle.dev_card.specs.Padding.{BaseLengths, Neighbours, in_run, base_lengths}
use Rattle.command_words.specs.declared.place_run.PlaceRun.{PlaceRun}
use Rattle.play_words.specs.declared.requests.PlayRequest.{PlayRequest}
use Rattle.play_words.specs.declared.status.Status.{Status}
use Rattle.play_words.specs.declared.status.Status.TheVariants.{Done, Fault, Spent, NoAction, BadChoice, BadPlace}

-- the status of a play that ends so
abbrev pub done_with : Ending → Status
done_with (endings.Exit code) = Done code
done_with (endings.Fault k piece) = Fault k piece
done_with endings.Spent = Spent

-- the board has the run of devices, counted from 1, if one is named
abbrev pub has_place : Option PlaceRun → List Desc → Bool
has_place None devices = true
has_place (Some run) devices = nat_le 1 run.first && nat_le run.first run.last && nat_le run.last (length devices)

-- the devices of a run, as neighbours of a board
abbrev pub neighbours : PlaceRun → Neighbours
neighbours run = record { first = run.first; last = run.last }

-- base padding around the run of devices if one is named, and none else
abbrev pub base_at : List Desc → Option PlaceRun → BaseLengths
base_at devices place = base_lengths devices (option_map neighbours place)

-- what of a far end is reported: the devices of the run, in order, if one is named, else all devices
abbrev pub reported_far : Option PlaceRun → FarEnd → FarEnd
reported_far None far = far
reported_far (Some run) (Told cards) = Told (in_run (neighbours run) cards)
reported_far (Some run) (Heard answers) = Heard answers

-- The text of a play as a request asks for it, by its events, what stands at the far end after them, and its ending:
-- the clocks stand in it if they are asked for, and so does the report.
abbrev pub asked_text : PlayRequest → List Event → FarEnd → Ending → List ℕ
asked_text request events far ending = text_of request.pins events (asked_report request.report (reported_far request.place far)) ending

-- What is written of a play, and the status, by what a choice came to: the program has no such action, a name cannot be
-- chosen, the board lacks the run, or the chosen procedures are played. A play that still goes on after its turns is
-- spent.
pub data Plays (choice : Choice) (placed : Bool) (plays : List ℕ → Run) (request : PlayRequest) : List ℕ → Status → Type 0 where
  no_action : choice ≡ choices.no_action → Plays choice placed plays request (codes "R action\n") NoAction
  bad_choice : choice ≡ choices.bad_choice → Plays choice placed plays request (codes "R choice\n") BadChoice
  bad_place : (chosen : List ℕ) → choice ≡ choices.chosen chosen → placed ≡ false → Plays choice placed plays request (codes "R place\n") BadPlace
  played : (chosen : List ℕ) (ending : Ending) → choice ≡ choices.chosen chosen → placed ≡ true → ending_of (plays chosen).outcome ≡ Some ending →
      Plays choice placed plays request (asked_text request (plays chosen).events (plays chosen).chain.far ending) (done_with ending)

-- The play of chosen procedures of a code that a request asks for, on a board of these devices after power-up.
abbrev pub code_play_on : CodeLists → PlayRequest → List Desc → List ℕ → Run
code_play_on code request devices chosen = whole_play code chosen request.turns (base_at devices request.place) (Told (map fresh devices))

-- the play of a code that a request asks for
abbrev pub PlaysCode : CodeLists → PlayRequest → List Desc → (List ℕ → Status → Type 0)
PlaysCode code request devices =
    Plays (code_choice code request.action request.todo request.skip) (has_place request.place devices) (code_play_on code request devices) request
