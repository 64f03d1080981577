-- Answers. An answer is a relation of a text and a status: what is written, and how the call ends. The rules are the
-- tools' own.
use Rattle.std.specs.Prelude.{◌≡◌, ℕ, List, Option, Result, Ok, Err}
use Rattle.tool_io.specs.declared.lines.Lines.{Lines}
use Rattle.tool_io.specs.Bytes.{then_bytes, MovesFront}
use Rattle.tool_io.specs.Lines.{IsSilent, Puts, PutsFront}
use Rattle.tool_io.specs.declared.outside.Sink.{Ghosts as SinkOf}
use Rattle.tool_frame.specs.declared.no_answer.NoAnswer.{NoAnswer}
use Rattle.tool_frame.specs.declared.no_answer.NoAnswer.TheVariants.{Read, Write, Memory}

-- A text of the answer was put, with this status.
pub record Said {K S : Type 0} (sink : SinkOf K) (answers : List ℕ → S → Type 0) (old new : Lines K) (status : S) : Type 0 where
  pub text : List ℕ
  pub answer : answers text status
  pub puts : Puts sink old text new

-- A front of a text of the answer was put.
pub record SaidFront {K S : Type 0} (sink : SinkOf K) (answers : List ℕ → S → Type 0) (old new : Lines K) : Type 0 where
  pub text : List ℕ
  pub status : S
  pub answer : answers text status
  pub puts : PutsFront sink old text new

-- What a call says that answers, by its result: the answer is put, with its status; at a read fault this stands; at a
-- write fault a front of an answer is put; at want of memory nothing has reached the sink.
abbrev pub Says : {K S : Type 0} → SinkOf K → (List ℕ → S → Type 0) → Type 0 → Lines K → Lines K → Result S NoAnswer → Type 0
Says sink answers at_read old new (Ok status) = Said sink answers old new status
Says sink answers at_read old new (Err Read) = at_read
Says sink answers at_read old new (Err Write) = SaidFront sink answers old new
Says sink answers at_read old new (Err Memory) = IsSilent old new

-- The text of the answer was written, and nothing else, and the status is the answer's.
pub record Wrote {S : Type 0} (answers : List ℕ → S → Type 0) (before after : Option (List ℕ)) (status : S) : Type 0 where
  pub text : List ℕ
  pub answer : answers text status
  pub written : after ≡ then_bytes before text

-- A prefix of the answer's text was written.
pub record WroteFront {S : Type 0} (answers : List ℕ → S → Type 0) (before after : Option (List ℕ)) : Type 0 where
  pub text : List ℕ
  pub status : S
  pub answer : answers text status
  pub front : MovesFront before text after

-- What was written by a call that answers, by its result: the answer; a front of one at a write fault; and nothing at a
-- read fault or at want of memory.
abbrev pub HasWritten : {S : Type 0} → (List ℕ → S → Type 0) → Option (List ℕ) → Option (List ℕ) → Result S NoAnswer → Type 0
HasWritten answers before after (Ok status) = Wrote answers before after status
HasWritten answers before after (Err Read) = after ≡ before
HasWritten answers before after (Err Write) = WroteFront answers before after
HasWritten answers before after (Err Memory) = after ≡ before
