-- On the runs of a tool whose endings are statuses, by their statuses.
use Rattle.std.proofs.Common.{◌≡◌, ℕ, List, Option, Result, Ok, Err, refl, sym, subst}
use Rattle.tool_frame.specs.declared.no_answer.NoAnswer.{NoAnswer}
use Rattle.tool_frame.specs.declared.no_answer.NoAnswer.TheVariants.{Read, Write, Memory}
use Rattle.tool_frame.specs.Answers.{Wrote, HasWritten}
use Rattle.play_words.specs.declared.status.Status.{Status}
use Rattle.play_words.specs.Statuses.{IsFault}
use Rattle.tool_command.specs.Commands.{status_of}

cause_fault : (e : NoAnswer) → IsFault (status_of (Err e))
cause_fault Read = tt
cause_fault Write = tt
cause_fault Memory = tt

module _ {A : List ℕ → Status → Type 0} where
  -- the answer is written, if the status is that of no fault
  pub run_wrote : {before after : Option (List ℕ)} → (r : Result Status NoAnswer) → HasWritten A before after r → (IsFault (status_of r) → ⊥) → Wrote A before after (status_of r)
  run_wrote (Ok status) w works = w
  run_wrote (Err e) w works = absurd (works (cause_fault e))

  -- no answer has the status of a fault, so the cause of one is known
  module _ (no_fault : (text : List ℕ) (status : Status) → A text status → IsFault status → ⊥) where
    pub run_failed : (before after : Option (List ℕ)) (r : Result Status NoAnswer) (e : NoAnswer) → HasWritten A before after r → status_of r ≡ status_of (Err e) → r ≡ Err e
    run_failed _ _ (Ok status) e w same = absurd (no_fault w.text status w.answer (subst IsFault (sym same) (cause_fault e)))
    run_failed _ _ (Err Read) Read w same = refl
    run_failed _ _ (Err Write) Write w same = refl
    run_failed _ _ (Err Memory) Memory w same = refl
    run_failed _ _ (Err x) e w same = absurd cc

    -- and so is what is written
    pub failed_wrote : (before after : Option (List ℕ)) (r : Result Status NoAnswer) (e : NoAnswer) → HasWritten A before after r → status_of r ≡ status_of (Err e) →
        HasWritten A before after (Err e)
    failed_wrote before after r e w same = subst (λ (x : Result Status NoAnswer). HasWritten A before after x) (run_failed before after r e w same) w
