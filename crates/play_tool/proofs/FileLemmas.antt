-- On what is said for a file, and what is left of the rack.
use Rattle.std.proofs.Common.{◌≡◌, ℕ, List, Option, Result, Ok, Err, refl}
use Rattle.std.specs.Prelude.{IsErrAnd, IsErrOf}
use Rattle.tool_io.specs.declared.lines.Lines.{Lines}
use Rattle.tool_io.specs.declared.outside.Sink.{Ghosts as SinkOf}
use Rattle.dev_card.specs.Sound.{SoundCard}
use Rattle.tool_frame.specs.declared.no_answer.NoAnswer.{NoAnswer}
use Rattle.tool_frame.specs.declared.no_answer.NoAnswer.TheVariants.{Read, Write, Memory}
use Rattle.tool_frame.specs.Answers.{Says}
use Rattle.tool_frame.specs.Frame.{SaysAndLeaves}
use Rattle.tool_frame.proofs.AnswerLemmas.{IsWithin, says_within}
use Rattle.play_words.specs.declared.status.Status.{Status}
use Rattle.play_words.specs.Statuses.{IsOfPlay}
use Rattle.code_plays.specs.Racks.{KeepsRack}
use Rattle.code_plays.proofs.PlayLemmas.{rack_as, rack_failed, rack_refused, rack_unread}
use Rattle.play_tool.specs.FinalRacks.{LeavesRack}

-- a call that reads no file answers no read fault
never_unread : {K Q : Type 0} (sink : SinkOf K) (A : List ℕ → Status → Type 0) (old new : Lines K) (r : Result Status NoAnswer) → Says sink A ⊥ old new r →
    IsErrOf r Read → Q
never_unread sink A old new (Ok status) says e = absurd cc
never_unread sink A old new (Err Read) says e = absurd says
never_unread sink A old new (Err Write) says e = absurd cc
never_unread sink A old new (Err Memory) says e = absurd cc

module _ {D Kind : Type 0} {kind_of : D → Kind} {fitted : D → Option SoundCard} where
  -- the rack is as it was
  pub left_failed : {P : Type 0} {F : List (Option SoundCard) → Type 0} {items : List D} (r : Result Status NoAnswer) → IsErrAnd r (λ e. e ≡ Write) →
      LeavesRack kind_of fitted P F items items r
  left_failed r is = record { rack = rack_failed r is; unread = λ e. refl }

  pub left_refused : {P : Type 0} {F : List (Option SoundCard) → Type 0} {items : List D} (status : Status) → (IsOfPlay status → ⊥) →
      LeavesRack kind_of fitted P F items items (Ok status)
  left_refused status never = record { rack = rack_refused status never; unread = λ e. refl }

  pub left_unread : {P : Type 0} {F : List (Option SoundCard) → Type 0} {items : List D} (e : NoAnswer) → LeavesRack kind_of fitted P F items items (Err e)
  left_unread e = record { rack = rack_unread e; unread = λ x. refl }

  pub left_alone : {P : Type 0} {F : List (Option SoundCard) → Type 0} {items : List D} (r : Result Status NoAnswer) → (P → ⊥) → LeavesRack kind_of fitted P F items items r
  left_alone (Ok status) never = record { rack = record { kinds = refl; early = λ p. refl; leaves = λ p. absurd (never p); other = λ p. refl }; unread = λ e. refl }
  left_alone (Err x) never = record { rack = record { kinds = refl; early = tt; leaves = λ p. tt; other = λ p. refl }; unread = λ e. refl }

  -- The same under another name.
  pub said_and_left_as : {K P Q : Type 0} (sink : SinkOf K) {A B : List ℕ → Status → Type 0} {F G : List (Option SoundCard) → Type 0} {old new : Lines K}
      {before after : List D} (r : Result Status NoAnswer) → IsWithin A B → (P → Q) → (Q → P) → ((rack : List (Option SoundCard)) → F rack → G rack) →
      SaysAndLeaves sink A (LeavesRack kind_of fitted P F) old new before after r → SaysAndLeaves sink B (LeavesRack kind_of fitted Q G) old new before after r
  said_and_left_as sink r w to back f a = record {
    says = says_within sink _ _ _ _ r w (λ same. same) a.says;
    left = record { rack = rack_as r to back f a.left.rack; unread = a.left.unread };
  }

  -- The same of a call that reads no file.
  pub said_and_left : {K : Type 0} (sink : SinkOf K) {A B : List ℕ → Status → Type 0} {F G : List (Option SoundCard) → Type 0} {old new : Lines K}
      {before after : List D} (r : Result Status NoAnswer) → IsWithin A B → ((rack : List (Option SoundCard)) → F rack → G rack) → Says sink A ⊥ old new r →
      KeepsRack kind_of fitted (Unit {0}) F before after r → SaysAndLeaves sink B (LeavesRack kind_of fitted (Unit {0}) G) old new before after r
  said_and_left sink r w f says rack = record {
    says = says_within sink _ _ _ _ r w (λ none. absurd none) says;
    left = record { rack = rack_as r (λ p. p) (λ p. p) f rack; unread = λ e. never_unread sink _ _ _ r says e };
  }
