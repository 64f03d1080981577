-- Words whose files are held come to a plan, whatever they hold.
use Rattle.std.proofs.Common.{◌⊎◌, inl, inr, ℕ, Bool, true, false, List, codes, Option, refl}
use Rattle.stapl_lexer.specs.declared.reason.Reason.{Reason}
use Rattle.stapl_syntax.specs.Trees.{StmtTree}
use Rattle.stapl_syntax.specs.Programs.{IsProgram, FirstFault}
use Rattle.stapl_meaning.specs.Choices.{Choice, no_action, bad_choice, chosen, choice_of}
use Rattle.stapl_meaning.specs.Scopes.{as_played}
use Rattle.stapl_meaning.specs.Plays.{Run, play}
use Rattle.dev_card.specs.declared.desc.Desc.{Desc}
use Rattle.dev_card.specs.FarEnds.{FarEnd}
use Rattle.board_text.specs.declared.reason.BoardReason.{BoardReason}
use Rattle.board_text.specs.Boards.{IsBoard, IsFirstFault}
use Rattle.named_files.specs.Texts.{refusal_line, board_refusal_line, usage_line}
use Rattle.play_words.specs.declared.requests.PlayRequest.{PlayRequest}
use Rattle.code_plays.specs.Plays.{has_place, base_at}
use Rattle.play_tool.specs.Held.{ArePlayFilesHeld}
use Rattle.drive_tool.specs.declared.status.DriveStatus.TheVariants as statuses
use Rattle.drive_tool.specs.Plans.{Plan, refusal, drive, ChoicePlan, bad_place, is_ready, ProgramPlan, TextPlan, refused, accepted, RequestPlan, board_refused, board_read, WordsPlan, usage, asked}
use Rattle.drive_tool.specs.Plans as plans
use Rattle.drive_tool.proofs.WordLaws.{IsAskedOrRefused, asked_or_refused}

abbrev pub HasPlan : (Plan → Type 0) → Type 0
HasPlan A = (plan : Plan) × A plan

-- what is known of boards and programs
pub record Known : Type 0 where
  pub boards : (text : List ℕ) → ((devices : List Desc) × IsBoard text devices) ⊎ ((line : ℕ) × (reason : BoardReason) × IsFirstFault text line reason)
  pub programs : (text : List ℕ) → ((statements : List StmtTree) × IsProgram text statements) ⊎ ((piece : ℕ) × (line : ℕ) × (reason : Reason) × FirstFault text piece line reason)

choice_planned : (choice : Choice) (placed pins : Bool) (runs : List ℕ → FarEnd → Run) → HasPlan (ChoicePlan choice placed pins runs)
choice_planned no_action placed pins runs = (refusal (codes "R action\n") statuses.NoAction, plans.no_action refl)
choice_planned bad_choice placed pins runs = (refusal (codes "R choice\n") statuses.BadChoice, plans.bad_choice refl)
choice_planned (chosen procedures) false pins runs = (refusal (codes "R place\n") statuses.BadPlace, bad_place procedures refl refl)
choice_planned (chosen procedures) true pins runs = (drive pins (runs procedures), is_ready procedures refl refl)

module _ (known : Known) (request : PlayRequest) where
  program_planned : (devices : List Desc) (program : List StmtTree) → HasPlan (ProgramPlan request devices program)
  program_planned devices program =
      choice_planned (choice_of (as_played program) request.action request.todo request.skip) (has_place request.place devices) request.pins
      (λ procedures far. play (as_played program) procedures request.turns (base_at devices request.place) far)

  text_planned : (devices : List Desc) (bytes : List ℕ) → HasPlan (TextPlan request devices bytes)
  text_planned devices bytes = by (known.programs bytes)
    where
      by : ((statements : List StmtTree) × IsProgram bytes statements) ⊎ ((piece : ℕ) × (line : ℕ) × (reason : Reason) × FirstFault bytes piece line reason) →
          HasPlan (TextPlan request devices bytes)
      by (inl (program, is)) = let a = program_planned devices program in (a.0, accepted program a.0 is a.1)
      by (inr (piece, line, reason, fault)) = (refusal (refusal_line piece line reason) (statuses.Refused piece reason), refused piece line reason fault)

  request_planned : (contents : List (Option (List ℕ))) → ArePlayFilesHeld contents → HasPlan (RequestPlan request contents)
  request_planned contents held = by (known.boards held.board.bytes)
    where
      by : ((devices : List Desc) × IsBoard held.board.bytes devices) ⊎ ((line : ℕ) × (reason : BoardReason) × IsFirstFault held.board.bytes line reason) →
          HasPlan (RequestPlan request contents)
      by (inl (devices, is)) = let a = text_planned devices held.source.bytes in (a.0, board_read devices a.0 (rw held.board.there is) (rw held.source.there a.1))
      by (inr (line, reason, fault)) = (refusal (board_refusal_line line reason) (statuses.BoardRefused line reason), board_refused line reason (rw held.board.there fault))

pub words_planned : (known : Known) (words : List (List ℕ)) (contents : List (Option (List ℕ))) → ArePlayFilesHeld contents → (sleeps : Bool) × (plan : Plan) × WordsPlan words contents sleeps plan
words_planned known words contents held = by (asked_or_refused words)
  where
    by : IsAskedOrRefused words → (sleeps : Bool) × (plan : Plan) × WordsPlan words contents sleeps plan
    by (inl (wire, play, asks)) = let a = request_planned known play.request contents held in (wire.sleeps, a.0, asked wire play a.0 asks refl a.1)
    by (inr (n, unread)) = (false, refusal (usage_line n) (statuses.Usage n), usage n unread)
