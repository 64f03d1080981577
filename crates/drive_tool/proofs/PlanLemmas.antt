-- What words and files come to: a code as its program, and each text, file and request.
use Rattle.std.proofs.Common.{◌≡◌, ◌∙◌, ℕ, Bool, List, ◌++◌, Option, None, Some, Result, Ok, Err, refl, ap, subst}
use Rattle.std.specs.Prelude.{IfOk, IsErr}
use Rattle.stapl_lexer.specs.declared.reason.Reason.{Reason}
use Rattle.program_files.specs.ProgramFiles.{HasProgramFault}
use Rattle.stapl_syntax.specs.Trees.{StmtTree}
use Rattle.stapl_syntax.specs.Programs.{IsProgram}
use Rattle.stapl_meaning.specs.Choices.{Choice}
use Rattle.stapl_meaning.specs.Scopes.{as_played}
use Rattle.stapl_meaning.specs.Typed.{IsTyped}
use Rattle.stapl_meaning.specs.Plays.{Run, play, ending_of, procedures_run, reset_events, chain_reset, Outcome, Ended, Going, Stopped}
use Rattle.dev_card.specs.declared.desc.Desc.{Desc}
use Rattle.dev_card.specs.FarEnds.{FarEnd}
use Rattle.stapl_code.specs.declared.raw.CodeLists.{CodeLists}
use Rattle.stapl_codegen.specs.Emit.{start_of}
use Rattle.stapl_codegen.specs.Correct.{placed_outcome, placed_run}
use Rattle.stapl_codegen.specs.Generated.{IsCodeOf}
use Rattle.stapl_machine.specs.Machines.{play_of}
use Rattle.code_plays.specs.declared.playing.Task.{Task}
use Rattle.code_plays.specs.Plays.{has_place, base_at}
use Rattle.code_plays.specs.CodePlays.{far_play}
use Rattle.play_words.specs.declared.requests.PlayRequest.{PlayRequest}
use Rattle.play_tool.proofs.ChoiceLemmas.{same_choice}
use Rattle.play_tool.proofs.ProgramLemmas.{same_zeros}
use Rattle.tool_frame.specs.Files.{first_of, second_of}
use Rattle.named_files.specs.Boards.{HasBoard}
use Rattle.drive_tool.specs.declared.refusals.Refusal.{Refusal}
use Rattle.drive_tool.specs.declared.refusals.Refusal.TheVariants.{Program}
use Rattle.drive_tool.specs.declared.preparing.Step.{Step}
use Rattle.drive_tool.specs.declared.preparing.Step.TheVariants as steps
use Rattle.drive_tool.specs.Plans.{Plan, refusal, drive, ChoicePlan, no_action, bad_choice, bad_place, is_ready, ProgramPlan, TextPlan, refused, accepted, HeldPlan, RequestPlan, board_read}
use Rattle.drive_tool.specs.Steps.{line_of, status_of, SaySame, IsStepOf, CodePlan, Prepares}

-- the same step under another name
pub prepares_as : {A B : Plan → Type 0} (step : Step) → ((plan : Plan) → A plan → B plan) → Prepares A step → Prepares B step
prepares_as step f p = record { plan = p.plan; planned = f p.plan p.planned; is = p.is }

-- ---- the code of a program plays as the program, at each far end

ending_placed : (place : ℕ → ℕ) (o : Outcome) → ending_of (placed_outcome place o) ≡ ending_of o
ending_placed place (Ended ending) = refl
ending_placed place (Going i) = refl
ending_placed place Stopped = refl

module _ (program : List StmtTree) (code : CodeLists) (task : Task) (typed : IsTyped (as_played program)) (is : IsCodeOf (as_played program) code) where
  abbrev source : List ℕ → FarEnd → Run
  source procedures far = play (as_played program) procedures task.request.now.turns (base_at task.devices.now task.request.now.place) far

  same_play : (procedures : List ℕ) → SaySame (far_play code procedures task) (source procedures)
  same_play procedures = record { events = events; endings = endings }
    where
      same : (far : FarEnd) → play_of code procedures task.request.now.turns (chain_reset (base_at task.devices.now task.request.now.place) far)
          ≡ placed_run (start_of (as_played program)) (procedures_run (as_played program) procedures task.request.now.turns (chain_reset (base_at task.devices.now task.request.now.place) far))
      same far = rw (same_zeros (as_played program) code is) (is.stands procedures task.request.now.turns (chain_reset (base_at task.devices.now task.request.now.place) far))

      events : (far : FarEnd) → (far_play code procedures task far).events ≡ (source procedures far).events
      events far = ap (λ (r : Run). reset_events far ++ r.events) (same far)

      endings : (far : FarEnd) → ending_of (far_play code procedures task far).outcome ≡ ending_of (source procedures far).outcome
      endings far = ap (λ (r : Run). ending_of r.outcome) (same far) ∙ ending_placed (start_of (as_played program)) _

  step_as : (pins : Bool) {one other : FarEnd → Run} (step : Step) → SaySame one other → IsStepOf (drive pins one) step → IsStepOf (drive pins other) step
  step_as pins (steps.Refused r) same s = s
  step_as pins (steps.Ready ready) same s = record {
    playable = s.playable;
    same_pins = s.same_pins;
    same_play = record {
      events = λ far. s.same_play.events far ∙ same.events far;
      endings = λ far. s.same_play.endings far ∙ same.endings far;
    };
  }

  by_choice : {choice : Choice} {placed pins : Bool} (step : Step) (plan : Plan) →
      ChoicePlan choice placed pins (λ procedures. far_play code procedures task) plan → IsStepOf plan step → Prepares (ChoicePlan choice placed pins source) step
  by_choice step plan (no_action e) s = record { plan = _; planned = no_action e; is = s }
  by_choice step plan (bad_choice e) s = record { plan = _; planned = bad_choice e; is = s }
  by_choice step plan (bad_place procedures e f) s = record { plan = _; planned = bad_place procedures e f; is = s }
  by_choice {pins = pins} step plan (is_ready procedures e f) s = record { plan = _; planned = is_ready procedures e f; is = step_as pins step (same_play procedures) s }

  pub program_prepared : (step : Step) → Prepares (CodePlan code task) step → Prepares (ProgramPlan task.request.now task.devices.now program) step
  program_prepared step p =
      subst (λ (c : Choice). Prepares (ChoicePlan c (has_place task.request.now.place task.devices.now) task.request.now.pins source) step)
      (same_choice task.request.now.action task.request.now.todo task.request.now.skip typed is)
      (by_choice step p.plan p.planned p.is)

-- ---- of a text, a file and a request

pub refused_as : {A : Plan → Type 0} (why : Refusal) → A (refusal (line_of why) (status_of why)) → Prepares A (steps.Refused why)
refused_as why a = record { plan = refusal (line_of why) (status_of why); planned = a; is = (refl, refl) }

pub in_text : (request : PlayRequest) (devices : List Desc) (bytes : List ℕ) (program : List StmtTree) → IsProgram bytes program → (step : Step) →
    Prepares (ProgramPlan request devices program) step → Prepares (TextPlan request devices bytes) step
in_text request devices bytes program is step p = prepares_as step (λ plan a. accepted program plan is a) p

pub in_request : (request : PlayRequest) (contents : List (Option (List ℕ))) (devices : List Desc) → HasBoard (first_of contents) devices → (step : Step) →
    Prepares (HeldPlan request devices (second_of contents)) step → Prepares (RequestPlan request contents) step
in_request request contents devices board step p = prepares_as step (λ plan a. board_read devices plan board a) p

pub held_refused : (request : PlayRequest) (devices : List Desc) (piece line : ℕ) (reason : Reason) (held : Option (List ℕ)) → HasProgramFault held piece line reason →
    Prepares (HeldPlan request devices held) (steps.Refused (Program piece line reason))
held_refused request devices piece line reason None fault = absurd fault
held_refused request devices piece line reason (Some bytes) fault = refused_as (Program piece line reason) (refused piece line reason fault)

-- nothing is said of an answer that is not Ok
pub none_ok : {T E : Type 0} (P : T → Type 0) (r : Result T E) → IsErr r → IfOk r P
none_ok P (Ok x) is = absurd cc
none_ok P (Err e) is = tt
