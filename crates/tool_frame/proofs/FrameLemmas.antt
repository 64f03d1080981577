-- On what a tool leaves of what it is lent.
use Rattle.std.proofs.Common.{◌≡◌, Result, Ok, Err}
use Rattle.std.specs.Prelude.{IsErrAnd}
use Rattle.tool_frame.specs.declared.no_answer.NoAnswer.{NoAnswer}

-- at the exit of a `?`
pub left_at : {E : Type 0} (P : Result E NoAnswer → Type 0) (e : NoAnswer) (r : Result E NoAnswer) → IsErrAnd r (λ x. x ≡ e) → P (Err e) → P r
left_at P e (Ok ending) is left = absurd is
left_at P e (Err x) is left = rw is left
