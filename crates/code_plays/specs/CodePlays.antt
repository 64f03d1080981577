-- What a play through the code of a program finds.
use Rattle.std.specs.Prelude.{◌≡◌, ℕ, Bool, true, IsTrue, List, [], ◌++◌, length, map, Option, None, Some, IsSomeAnd, Result, Ok, Err}
use Rattle.tool_io.specs.Causes.{HasRisen}
use Rattle.tool_io.specs.declared.lines.Lines.{Lines}
use Rattle.tool_io.specs.declared.outside.Sink.{Ghosts as SinkOf}
use Rattle.tool_io.specs.Lines.{Puts, PutsFront}
use Rattle.dev_card.specs.declared.desc.Desc.{Desc}
use Rattle.dev_card.specs.Card.{fresh}
use Rattle.dev_card.specs.Padding.{BaseLengths}
use Rattle.dev_card.specs.PaddedScan.{descriptions_of}
use Rattle.dev_card.specs.Sound.{SoundCard}
use Rattle.dev_card.specs.FarEnds.{FarEnd, Told}
use Rattle.board_text.specs.Boards.{CanBeFitted}
use Rattle.scan_paths.specs.declared.cable.Cable.{Ghosts as CableOf}
use Rattle.scan_paths.specs.Cables.{Signal, whole, cable_faults, IsCableLast}
use Rattle.chain_sim.specs.Places.{cards_at, is_chain}
use Rattle.stapl_meaning.specs.declared.events.Ending.{Ending}
use Rattle.stapl_meaning.specs.Choices.{Choice, chosen}
use Rattle.stapl_meaning.specs.Plays.{Run, ending_of}
use Rattle.stapl_meaning.specs.Texts.{events_text, asked_report, ending_line}
use Rattle.stapl_code.specs.declared.raw.CodeLists.{CodeLists}
use Rattle.stapl_code.specs.Safe.{AllBelow}
use Rattle.stapl_player.specs.Plays.{whole_play}
use Rattle.code_plays.specs.declared.playing.Task.{Task}
use Rattle.play_words.specs.declared.requests.PlayRequest.{PlayRequest}
use Rattle.play_words.specs.declared.status.Status.{Status}
use Rattle.code_plays.specs.Plays.{has_place, asked_text, base_at, reported_far, done_with}

-- the base padding that a task asks for
abbrev pub task_base : Task → BaseLengths
task_base task = base_at task.devices.now task.request.now.place

-- the play of a code that a task asks for, at a far end
abbrev pub far_play : CodeLists → List ℕ → Task → FarEnd → Run
far_play code procedures task far = whole_play code procedures task.request.now.turns (task_base task) far

-- the same on the fresh devices of the task's board
abbrev pub task_play : CodeLists → List ℕ → Task → Run
task_play code procedures task = far_play code procedures task (Told (map fresh task.devices.now))

-- The chosen procedures of a code can be played as a task asks for it: the code has them, and the board of the task can
-- be fitted and has the run of devices that is named, if one is.
pub record IsPlayable (code : CodeLists) (procedures : List ℕ) (task : Task) : Type 0 where
  pub below : AllBelow (length code.procedures) procedures
  pub placed : has_place task.request.now.place task.devices.now ≡ true
  pub devices : CanBeFitted task.devices.now

-- The fresh board of a task stands at these places of a rack, and they are those of a chain.
pub record IsFittedAt (rack : List (Option SoundCard)) (places : List ℕ) (task : Task) : Type 0 where
  pub chain : IsTrue (is_chain rack places)
  pub cards : cards_at rack places ≡ Some (map fresh task.devices.now)

-- Devices with these descriptions, one for each place, stand at these places of a rack.
pub record AreDescribedAt (rack : List (Option SoundCard)) (places : List ℕ) (devices : List Desc) : Type 0 where
  pub described : IsSomeAnd (cards_at rack places) (λ cs. descriptions_of cs ≡ devices)
  pub counted : length places ≡ length devices

-- A play was played: this text was put, it ended as the run does, and this stands of what it leaves.
pub record HasPlayedTo {K : Type 0} (sink : SinkOf K) (run : Run) (text : List ℕ) (Left : Type 0) (old new : Lines K) (ending : Ending) : Type 0 where
  pub put : Puts sink old text new
  pub ended : ending_of run.outcome ≡ Some ending
  pub left : Left

-- What a play did, by its result: it was played, or a front of its text was put.
abbrev pub PlaysRun : {K E : Type 0} → SinkOf K → Run → List ℕ → Type 0 → Lines K → Lines K → Result Ending E → Type 0
PlaysRun sink run text Left old new (Ok ending) = HasPlayedTo sink run text Left old new ending
PlaysRun sink run text Left old new (Err e) = PutsFront sink old text new

-- no call on such a cable fails
abbrev pub NeverRises : {C : Type 0} → (C → ℕ) → (C → Type 0) → Type 0
NeverRises {C = C} faults is_last = (before after : C) → HasRisen faults is_last before after → ⊥

-- A cable that tells the fresh board of a task, is not broken, and never fails.
pub record IsSureCable {C : Type 0} (cable : CableOf C) (task : Task) (old : C) : Type 0 where
  pub told : cable.board old ≡ Some (map fresh task.devices.now)
  pub whole_cable : cable.breakage old ≡ whole
  pub sure : NeverRises (cable_faults cable.line_faults cable.pin_faults) (IsCableLast cable.is_line_last cable.is_pin_last)

-- some signals were made
pub record WasClocked {C : Type 0} (makes : C → List Signal → C → Type 0) (old new : C) : Type 0 where
  pub signals : List Signal
  pub made : makes old signals new

-- The run comes to an ending: it ends, or its turns are spent.
pub record HasEnding (run : Run) : Type 0 where
  pub ending : Ending
  pub comes : ending_of run.outcome ≡ Some ending

-- the line of an ending, if there is one
abbrev pub line_of : Option Ending → List ℕ
line_of None = []
line_of (Some ending) = ending_line ending

-- the lines of a run, as a request asks for it: those of its events, the report if it is asked for, and its ending
abbrev pub run_lines : PlayRequest → Run → List ℕ
run_lines request run =
    events_text request.pins [] run.events ++ asked_report request.report (reported_far request.place run.chain.far)
    ++ line_of (ending_of run.outcome)

-- The run ends, or its turns are spent: its text, as a request asks for it, and the status.
pub record Ends (request : PlayRequest) (run : Run) (text : List ℕ) (status : Status) : Type 0 where
  pub ending : Ending
  pub comes : ending_of run.outcome ≡ Some ending
  pub text_is : text ≡ asked_text request run.events run.chain.far ending
  pub status_is : status ≡ done_with ending

-- The run has the events, the far end and the ending of the play of the procedures that are chosen, on a board that has
-- the place.
pub record IsPlayOf (choice : Choice) (placed : Bool) (plays : List ℕ → Run) (run : Run) : Type 0 where
  pub procedures : List ℕ
  pub are_chosen : choice ≡ chosen procedures
  pub is_placed : placed ≡ true
  pub same_events : run.events ≡ (plays procedures).events
  pub same_far : run.chain.far ≡ (plays procedures).chain.far
  pub same_ending : ending_of run.outcome ≡ ending_of (plays procedures).outcome
