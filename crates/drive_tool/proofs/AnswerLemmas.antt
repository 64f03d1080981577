-- What is done by a plan, by what words and files came to.
use Rattle.std.proofs.Common.{◌≡◌, ◌∙◌, ℕ, Bool, List, Option, None, Some, Result, Ok, Err, refl, sym, ap, subst}
use Rattle.std.specs.Prelude.{IsErr, IsErrAnd}
use Rattle.tool_io.specs.Bytes.{then_bytes, MovesFront}
use Rattle.tool_io.specs.declared.outside.Sink.{Ghosts as SinkOf}
use Rattle.dev_card.specs.FarEnds.{FarEnd}
use Rattle.stapl_meaning.specs.declared.events.Ending.{Ending}
use Rattle.stapl_meaning.specs.Plays.{Run}
use Rattle.tool_frame.specs.declared.no_answer.NoAnswer.{NoAnswer}
use Rattle.tool_frame.specs.declared.no_answer.NoAnswer.TheVariants.{Read, Write, Memory}
use Rattle.drive_cable.specs.declared.peer.Peer.{Ghosts as PeerOf}
use Rattle.drive_tool.specs.declared.status.DriveStatus.{DriveStatus}
use Rattle.drive_tool.specs.declared.refusals.Refusal.{Refusal}
use Rattle.drive_tool.specs.declared.preparing.Ready.{Ready}
use Rattle.drive_tool.specs.declared.preparing.Step.{Step}
use Rattle.drive_tool.specs.declared.preparing.Step.TheVariants as steps
use Rattle.drive_tool.specs.Driven.{Session, heard_at, IsDriven, IsDrivenInPart, IsDrivenBut, IsCutOff, not_opened, cut_in_part, cut_before_quit, IsUnwritten, unwritten_in_part, unwritten_end}
use Rattle.drive_tool.specs.Plans.{Plan, refusal, drive}
use Rattle.drive_tool.specs.Answers.{Outside, HasHad, IsAnswered, IsTorn, IsStill, DoesPlan, ComesTo}
use Rattle.drive_tool.specs.Steps.{line_of, status_of, ready_play, SaySame, IsStepOf, CanBeDone}

-- ---- plays that say the same

module _ {sleeps pins : Bool} {one other : FarEnd → Run} (same : SaySame one other) where
  driven_as : {session : Session} {ending : Ending} → IsDriven sleeps pins one session ending → IsDriven sleeps pins other session ending
  driven_as d = record {
    events = d.events;
    runs = λ more. sym (same.events (heard_at d.events more)) ∙ d.runs more;
    ended = λ more. sym (same.endings (heard_at d.events more)) ∙ d.ended more;
    went = d.went;
    came = d.came;
    wrote = d.wrote;
  }

  part_as : {session : Session} → IsDrivenInPart sleeps pins one session → IsDrivenInPart sleeps pins other session
  part_as d = record {
    events = d.events;
    rest = d.rest;
    runs = λ more. sym (same.events (heard_at d.events more)) ∙ d.runs more;
    pending = d.pending;
    few = d.few;
    more_bytes = d.more_bytes;
    unsent = d.unsent;
    parts = d.parts;
    uncounted = d.uncounted;
    went = d.went;
    came = d.came;
    unwritten = d.unwritten;
    wrote = d.wrote;
  }

  but_as : {unsent unwritten : List ℕ} {session : Session} {ending : Ending} → IsDrivenBut sleeps pins one unsent unwritten session ending →
      IsDrivenBut sleeps pins other unsent unwritten session ending
  but_as d = record { whole = d.whole; driven = driven_as d.driven; uncounted = d.uncounted; went = d.went; came = d.came; wrote = d.wrote }

  cut_as : (session : Session) → IsCutOff sleeps pins one session → IsCutOff sleeps pins other session
  cut_as s not_opened = not_opened
  cut_as s (cut_in_part session d) = cut_in_part session (part_as d)
  cut_as s (cut_before_quit session ending unsent few d) = cut_before_quit session ending unsent few (but_as d)

  unwritten_as : (session : Session) → IsUnwritten sleeps pins one session → IsUnwritten sleeps pins other session
  unwritten_as s (unwritten_in_part session d) = unwritten_in_part session (part_as d)
  unwritten_as s (unwritten_end session ending unwritten d) = unwritten_end session ending unwritten (but_as d)

module _ {P K : Type 0} (peer : PeerOf P) (sink : SinkOf K) (old new : Outside P K) where
  had_as : {A B : Session → Type 0} → ((session : Session) → A session → B session) → HasHad peer sink old new A → HasHad peer sink old new B
  had_as f h = record { session = h.session; is = f h.session h.is; carried = h.carried; wrote = h.wrote }

  does_same : {E : Type 0} (sleeps pins : Bool) {one other : FarEnd → Run} (r : Result (Option DriveStatus) E) → SaySame one other →
      DoesPlan peer sink old new sleeps (drive pins one) r → DoesPlan peer sink old new sleeps (drive pins other) r
  does_same sleeps pins (Ok (Some status)) same h = record { ending = h.ending; status_is = h.status_is; had = had_as (λ session d. driven_as same d) h.had }
  does_same sleeps pins (Ok None) same h = had_as (cut_as same) h
  does_same sleeps pins (Err e) same h = had_as (unwritten_as same) h

  -- what is ready was played
  pub ready_done : {E : Type 0} (sleeps : Bool) (ready : Ready) (r : Result (Option DriveStatus) E) → DoesPlan peer sink old new sleeps (drive ready.pins (ready_play ready)) r →
      (plan : Plan) → IsStepOf plan (steps.Ready ready) → DoesPlan peer sink old new sleeps plan r
  ready_done sleeps ready r h (refusal line status) is = absurd is
  ready_done sleeps ready r h (drive pins plays) is =
      does_same sleeps pins r is.same_play (subst (λ (p : Bool). DoesPlan peer sink old new sleeps (drive p (ready_play ready)) r) is.same_pins h)

  -- a refusal was written
  pub refusal_done : (sleeps : Bool) (refused : Refusal) (status : DriveStatus) → status ≡ status_of refused → sink.written new.out ≡ then_bytes (sink.written old.out) (line_of refused) → new.peer ≡ old.peer →
      (plan : Plan) → IsStepOf plan (steps.Refused refused) → IsAnswered peer sink old new sleeps status plan
  refusal_done sleeps refused status s wrote still (refusal line because) is = record {
    status_is = s ∙ is.1;
    wrote = wrote ∙ ap (λ (l : List ℕ). then_bytes (sink.written old.out) l) is.0;
    still = still;
  }
  refusal_done sleeps refused status s wrote still (drive pins plays) is = absurd is

  -- or a front of it
  pub refusal_torn : {E : Type 0} (sleeps : Bool) (refused : Refusal) → MovesFront (sink.written old.out) (line_of refused) (sink.written new.out) → new.peer ≡ old.peer →
      (r : Result (Option DriveStatus) E) → IsErr r → (plan : Plan) → IsStepOf plan (steps.Refused refused) → DoesPlan peer sink old new sleeps plan r
  refusal_torn sleeps refused front still (Ok x) fails plan is = absurd cc
  refusal_torn sleeps refused front still (Err e) fails (refusal line because) is = record {
    wrote = subst (λ (l : List ℕ). MovesFront (sink.written old.out) l (sink.written new.out)) is.0 front;
    still = still;
  }
  refusal_torn sleeps refused front still (Err e) fails (drive pins plays) is = absurd is

  -- ---- by some plan

  pub comes : (E : Type 0) (plans : Bool → Plan → Type 0) (sleeps : Bool) (plan : Plan) → plans sleeps plan → (answer : Option DriveStatus) →
      DoesPlan peer sink old new {E = E} sleeps plan (Ok answer) → ComesTo peer sink old new plans (Ok answer)
  comes E plans sleeps plan planned (Some status) h = record { sleeps = sleeps; plan = plan; planned = planned; is = h }
  comes E plans sleeps plan planned None h = record { sleeps = sleeps; plan = plan; planned = planned; is = h }

  pub comes_torn : (plans : Bool → Plan → Type 0) (sleeps : Bool) (plan : Plan) → plans sleeps plan → IsTorn peer sink old new sleeps plan →
      (r : Result (Option DriveStatus) NoAnswer) → IsErrAnd r (λ e. e ≡ Write) → ComesTo peer sink old new plans r
  comes_torn plans sleeps plan planned h (Ok x) fails = absurd fails
  comes_torn plans sleeps plan planned h (Err e) fails = rw fails (record { sleeps = sleeps; plan = plan; planned = planned; is = h })

  -- nothing was done
  pub comes_still : (plans : Bool → Plan → Type 0) → IsStill peer sink old new → (e : NoAnswer) → (e ≡ Write → ⊥) → (r : Result (Option DriveStatus) NoAnswer) → IsErrAnd r (λ x. x ≡ e) →
      ComesTo peer sink old new plans r
  comes_still plans still e other (Ok x) fails = absurd fails
  comes_still plans still Read other (Err x) fails = rw fails still
  comes_still plans still Write other (Err x) fails = absurd (other refl)
  comes_still plans still Memory other (Err x) fails = rw fails still

  -- by plans of another name
  pub comes_as : {plans others : Bool → Plan → Type 0} → ((sleeps : Bool) (plan : Plan) → plans sleeps plan → others sleeps plan) → (r : Result (Option DriveStatus) NoAnswer) →
      ComesTo peer sink old new plans r → ComesTo peer sink old new others r
  comes_as f (Ok (Some status)) h = record { sleeps = h.sleeps; plan = h.plan; planned = f h.sleeps h.plan h.planned; is = h.is }
  comes_as f (Ok None) h = record { sleeps = h.sleeps; plan = h.plan; planned = f h.sleeps h.plan h.planned; is = h.is }
  comes_as f (Err Read) h = h
  comes_as f (Err Write) h = record { sleeps = h.sleeps; plan = h.plan; planned = f h.sleeps h.plan h.planned; is = h.is }
  comes_as f (Err Memory) h = h

-- what a prepared step can be done
pub can_be_done : (plan : Plan) (step : Step) → IsStepOf plan step → CanBeDone step
can_be_done (refusal line status) (steps.Refused r) is = tt
can_be_done (refusal line status) (steps.Ready ready) is = absurd is
can_be_done (drive pins plays) (steps.Refused r) is = absurd is
can_be_done (drive pins plays) (steps.Ready ready) is = is.playable
