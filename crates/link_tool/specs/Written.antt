-- What a call that answers has written. The answers to each piece are written before the next piece is read, so that a
-- read fault leaves the answers to what was read. The rules are this tool's own.
use Rattle.std.specs.Prelude.{◌≡◌, ℕ, List, Option, Result, Ok, Err}
use Rattle.tool_io.specs.Bytes.{then_bytes}
use Rattle.dev_card.specs.Sound.{SoundCard}
use Rattle.tool_frame.specs.declared.no_answer.NoAnswer.{NoAnswer}
use Rattle.tool_frame.specs.declared.no_answer.NoAnswer.TheVariants.{Read, Write, Memory}
use Rattle.tool_frame.specs.Answers.{Wrote, WroteFront}
use Rattle.named_files.specs.Contents.{Contents}
use Rattle.link_tool.specs.declared.status.LinkStatus.{LinkStatus}
use Rattle.link_tool.specs.Statuses.{IsOfSession}
use Rattle.link_tool.specs.Answers.{WordsAnswer}
use Rattle.link_tool.specs.FinalRacks.{WordsHoldLeft, KeepsRack}

-- A text that is due was written, and nothing else.
pub record WroteDue (due : List ℕ → Type 0) (before after : Option (List ℕ)) : Type 0 where
  pub text : List ℕ
  pub is_due : due text
  pub written : after ≡ then_bytes before text

-- What was written, by the result: the answer; a text that is due at a read fault; a front of an answer at a write
-- fault; and nothing at want of memory.
abbrev pub HasAnswered : (List ℕ → LinkStatus → Type 0) → (List ℕ → Type 0) → Option (List ℕ) → Option (List ℕ) →
    Result LinkStatus NoAnswer → Type 0
HasAnswered answers due before after (Ok status) = Wrote answers before after status
HasAnswered answers due before after (Err Read) = WroteDue due before after
HasAnswered answers due before after (Err Write) = WroteFront answers before after
HasAnswered answers due before after (Err Memory) = after ≡ before

-- What a call answers: what it has written, and what it leaves of the rack.
pub record Answers {D Kind : Type 0} (kind_of : D → Kind) (fitted : D → Option SoundCard)
    (answers : List ℕ → LinkStatus → Type 0) (due : List ℕ → Type 0) (final : List (Option SoundCard) → Type 0)
    (said_before said_after : Option (List ℕ)) (before after : List D) (result : Result LinkStatus NoAnswer)
    : Type 0 where
  pub written : HasAnswered answers due said_before said_after result
  pub rack : KeepsRack kind_of fitted final before after result

-- What the tool has done for words, with these contents of their files: it has written the answer, and nothing else,
-- and its status is the answer's. After a session the rack holds the board as the session leaves it: device i of the
-- board, counted from 0, is at the place of its kind among the three places from 3 * i on.
pub record Answered (words : List (List ℕ)) (contents : Contents) (before after : Option (List ℕ))
    (status : LinkStatus) (rack : List (Option SoundCard)) : Type 0 where
  pub wrote : Wrote (WordsAnswer words (λ named. contents)) before after status
  pub leaves : IsOfSession status → WordsHoldLeft words contents rack
