-- What the words and their files came to before anything is sent or written: a refusal, or a play that is ready. The
-- rules are this tool's own.
use Rattle.std.specs.Prelude.{◌≡◌, ℕ, Bool, List, codes, length}
use Rattle.dev_card.specs.FarEnds.{FarEnd}
use Rattle.scan_paths.specs.Scans.{lengths_of}
use Rattle.stapl_meaning.specs.Plays.{Run, ending_of}
use Rattle.stapl_code.specs.Safe.{AllBelow}
use Rattle.stapl_machine.specs.Machines.{IsPrepared}
use Rattle.stapl_player.specs.Plays.{whole_play}
use Rattle.stapl_player.specs.Choices.{code_choice}
use Rattle.stapl_code.specs.declared.raw.CodeLists.{CodeLists}
use Rattle.code_plays.specs.declared.playing.Task.{Task}
use Rattle.code_plays.specs.Plays.{has_place}
use Rattle.code_plays.specs.CodePlays.{far_play}
use Rattle.named_files.specs.Texts.{refusal_line, board_refusal_line, usage_line}
use Rattle.drive_tool.specs.declared.status.DriveStatus.{DriveStatus}
use Rattle.drive_tool.specs.declared.status.DriveStatus.TheVariants as statuses
use Rattle.drive_tool.specs.declared.refusals.Refusal.{Refusal}
use Rattle.drive_tool.specs.declared.refusals.Refusal.TheVariants.{Usage, Board, Program, Action, Choice, Place}
use Rattle.drive_tool.specs.declared.preparing.Ready.{Ready}
use Rattle.drive_tool.specs.declared.preparing.Step.{Step}
use Rattle.drive_tool.specs.declared.preparing.Step.TheVariants as steps
use Rattle.drive_tool.specs.Plans.{Plan, refusal, drive, ChoicePlan}

-- the line of a refusal, and its status
abbrev pub line_of : Refusal → List ℕ
line_of (Usage n) = usage_line n
line_of (Board line reason) = board_refusal_line line reason
line_of (Program piece line reason) = refusal_line piece line reason
line_of Action = codes "R action\n"
line_of Choice = codes "R choice\n"
line_of Place = codes "R place\n"

abbrev pub status_of : Refusal → DriveStatus
status_of (Usage n) = statuses.Usage n
status_of (Board line reason) = statuses.BoardRefused line reason
status_of (Program piece line reason) = statuses.Refused piece reason
status_of Action = statuses.NoAction
status_of Choice = statuses.BadChoice
status_of Place = statuses.BadPlace

-- the play of what is ready, at a far end
abbrev pub ready_play : Ready → FarEnd → Run
ready_play ready far = whole_play ready.code ready.chosen.items ready.turns (lengths_of ready.base) far

-- two plays have the same events and the same ending, at each far end
pub record SaySame (one other : FarEnd → Run) : Type 0 where
  pub events : (far : FarEnd) → (one far).events ≡ (other far).events
  pub endings : (far : FarEnd) → ending_of (one far).outcome ≡ ending_of (other far).outcome

-- The machine of what is ready is prepared for its code, which has the chosen procedures.
pub record IsPlayable (ready : Ready) : Type 0 where
  pub prepared : IsPrepared ready.code ready.machine
  pub below : AllBelow (length ready.code.procedures) ready.chosen.items

-- It is this play, with or without the lines of its clocks.
pub record IsReady (pins : Bool) (plays : FarEnd → Run) (ready : Ready) : Type 0 where
  pub playable : IsPlayable ready
  pub same_pins : ready.pins ≡ pins
  pub same_play : SaySame (ready_play ready) plays

-- What a plan is as a step.
abbrev pub IsStepOf : Plan → Step → Type 0
IsStepOf (refusal line status) (steps.Refused r) = (line_of r ≡ line) × (status_of r ≡ status)
IsStepOf (refusal line status) (steps.Ready ready) = ⊥
IsStepOf (drive pins plays) (steps.Refused r) = ⊥
IsStepOf (drive pins plays) (steps.Ready ready) = IsReady pins plays ready

-- It is the step of a plan of which this stands.
pub record Prepares (plans : Plan → Type 0) (step : Step) : Type 0 where
  pub plan : Plan
  pub planned : plans plan
  pub is : IsStepOf plan step

-- what a code comes to, as a task asks for it
abbrev pub CodePlan : CodeLists → Task → (Plan → Type 0)
CodePlan code task =
    ChoicePlan (code_choice code task.request.now.action task.request.now.todo task.request.now.skip)
    (has_place task.request.now.place task.devices.now) task.request.now.pins
    (λ procedures. far_play code procedures task)

-- what is ready in a step is playable
abbrev pub CanBeDone : Step → Type 0
CanBeDone (steps.Refused r) = Unit {0}
CanBeDone (steps.Ready ready) = IsPlayable ready
