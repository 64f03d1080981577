-- What a tool puts, writes, and leaves of what it is lent. The rules are the tools' own.
use Rattle.std.specs.Prelude.{◌≡◌, ◌==◌, ◌||◌, ℕ, Bool, false, List, Option, Result, IsErrOf}
use Rattle.tool_io.specs.declared.lines.Lines.{Lines}
use Rattle.tool_io.specs.Causes.{HasRisen, NeverFalls}
use Rattle.tool_io.specs.Lines.{IsSilent}
use Rattle.tool_io.specs.declared.outside.Sink.{Ghosts as SinkOf}
use Rattle.tool_frame.specs.declared.no_answer.NoAnswer.{NoAnswer}
use Rattle.tool_frame.specs.declared.no_answer.NoAnswer.TheVariants.{Write}
use Rattle.tool_frame.specs.Answers.{Says, HasWritten}

-- The count of the sink did not fall, and a write fault has its cause there.
pub record KeepsCount {K T : Type 0} (sink : SinkOf K) (before after : K) (result : Result T NoAnswer) : Type 0 where
  pub later : NeverFalls sink.faults sink.is_last before after
  pub write : IsErrOf result Write → HasRisen sink.faults sink.is_last before after

-- What a tool puts, and what it leaves of what it is lent.
pub record SaysAndLeaves {K E R : Type 0} (sink : SinkOf K) (answers : List ℕ → E → Type 0)
    (leaves : R → R → Result E NoAnswer → Type 0) (old new : Lines K) (before after : R) (result : Result E NoAnswer)
    : Type 0 where
  pub says : Says sink answers (IsSilent old new) old new result
  pub left : leaves before after result

-- The same in words of what is written.
pub record WritesAndLeaves {E R : Type 0} (answers : List ℕ → E → Type 0) (leaves : R → R → Result E NoAnswer → Type 0)
    (said_before said_after : Option (List ℕ)) (before after : R) (result : Result E NoAnswer) : Type 0 where
  pub written : HasWritten answers said_before said_after result
  pub left : leaves before after result

-- the exit code is that of a fault, or of want of memory
abbrev pub is_fault_code : ℕ → Bool
is_fault_code code = (code == 9) || (code == 10) || (code == 11)

-- and it is none of these
abbrev pub IsNoFaultCode : ℕ → Type 0
IsNoFaultCode code = is_fault_code code ≡ false
