-- On commands that fail, at the exit of a `?`, and on their exit codes.
use Rattle.std.proofs.Common.{◌≡◌, ◌∙◌, ℕ, true, List, Option, None, Some, Result, Ok, Err, refl, sym, subst, arith}
use Rattle.std.proofs.lemmas.Bool.{false≢true}
use Rattle.std.specs.Prelude.{IsErrAnd, IsErrOf}
use Rattle.tool_io.specs.Bytes.{MovesFront}
use Rattle.tool_frame.specs.declared.no_answer.NoAnswer.{NoAnswer}
use Rattle.tool_frame.specs.declared.no_answer.NoAnswer.TheVariants.{Read, Write, Memory}
use Rattle.tool_frame.specs.declared.command.CommandEnding.{CommandEnding}
use Rattle.tool_frame.specs.declared.command.CommandEnding.TheVariants.{Shown, Answered}
use Rattle.tool_frame.specs.Files.{OfFiles}
use Rattle.tool_frame.specs.Frame.{WritesAndLeaves, is_fault_code, IsNoFaultCode}
use Rattle.tool_frame.specs.Commands.{text_asked, outcome_of, HasRunCommand, text_shown, tool_ran, exit_code_of}

-- no fault has the exit code of one
no_code : (code fault : ℕ) → is_fault_code fault ≡ true → IsNoFaultCode code → code ≡ fault → ⊥
no_code code fault is none e = false≢true (sym (subst IsNoFaultCode e none) ∙ is)

-- the answer of a tool that ran has the exit code of no fault
ran_no_fault : {E R : Type 0} {told : Option (List (List ℕ × List ℕ))} {names : List (Option (List ℕ)) → Type 0} {answers : List (Option (List ℕ)) → List ℕ → E → Type 0}
    {leaves : List (Option (List ℕ)) → R → R → Result E NoAnswer → Type 0} {said_before said_after : Option (List ℕ)} {before after : R} (code_of : E → ℕ) →
    ((contents : List (Option (List ℕ))) (text : List ℕ) (ending : E) → answers contents text ending → IsNoFaultCode (code_of ending)) → (ending : E) (r : Result E NoAnswer) →
    Ok (Answered ending) ≡ outcome_of r → OfFiles names told (λ contents. WritesAndLeaves (answers contents) (leaves contents) said_before said_after before after r) →
    IsNoFaultCode (code_of ending)
ran_no_fault code_of no_fault ending (Ok other) e o =
    let same : other ≡ ending = cc in
    subst (λ x. IsNoFaultCode (code_of x)) same (no_fault o.contents o.holds.written.text other o.holds.written.answer)
ran_no_fault code_of no_fault ending (Err x) e o = absurd cc

module _ {E R : Type 0} {help version : List ℕ} {words : List (List ℕ)} {told : Option (List (List ℕ × List ℕ))} {names : List (Option (List ℕ)) → Type 0}
    {answers : List (Option (List ℕ)) → List ℕ → E → Type 0} {leaves : List (Option (List ℕ)) → R → R → Result E NoAnswer → Type 0}
    {said_before said_after : Option (List ℕ)} {before after : R} where
  pub show_failed : (text : List ℕ) (r : Result (CommandEnding E) NoAnswer) → text_asked help version words ≡ Some text → IsErrAnd r (λ e. e ≡ Write) →
      MovesFront said_before text said_after → after ≡ before → HasRunCommand help version words told names answers leaves said_before said_after before after r
  show_failed text (Ok ending) asked is front same = absurd is
  show_failed text (Err x) asked is front same = rw is (text_shown text asked front same)

  pub run_failed : (e : NoAnswer) (r : Result (CommandEnding E) NoAnswer) → text_asked help version words ≡ None → IsErrAnd r (λ x. x ≡ e) →
      OfFiles names told (λ contents. WritesAndLeaves (answers contents) (leaves contents) said_before said_after before after (Err e)) →
      HasRunCommand help version words told names answers leaves said_before said_after before after r
  run_failed e (Ok ending) none is o = absurd is
  run_failed e (Err x) none is o = rw is (tool_ran none (Err e) refl o)

  -- ---- exit codes

  answered_no_fault : (code_of : E → ℕ) → ((contents : List (Option (List ℕ))) (text : List ℕ) (ending : E) → answers contents text ending → IsNoFaultCode (code_of ending)) →
      (ending : E) → HasRunCommand help version words told names answers leaves said_before said_after before after (Ok (Answered ending)) → IsNoFaultCode (code_of ending)
  answered_no_fault code_of no_fault ending (text_shown text asked shows same) = absurd shows
  answered_no_fault code_of no_fault ending (tool_ran none r e o) = ran_no_fault code_of no_fault ending r e o

  -- 9 is the exit code of a read fault alone
  pub read_code : (code_of : E → ℕ) → ((contents : List (Option (List ℕ))) (text : List ℕ) (ending : E) → answers contents text ending → IsNoFaultCode (code_of ending)) →
      (r : Result (CommandEnding E) NoAnswer) → HasRunCommand help version words told names answers leaves said_before said_after before after r →
      exit_code_of code_of r ≡ 9 → IsErrOf r Read
  read_code code_of no_fault (Ok Shown) did e = absurd (omega (arith, e))
  read_code code_of no_fault (Ok (Answered ending)) did e = absurd (no_code (code_of ending) 9 refl (answered_no_fault code_of no_fault ending did) e)
  read_code code_of no_fault (Err Read) did e = refl
  read_code code_of no_fault (Err Write) did e = absurd (omega (arith, e))
  read_code code_of no_fault (Err Memory) did e = absurd (omega (arith, e))

  -- and 10 that of a write fault alone
  pub write_code : (code_of : E → ℕ) → ((contents : List (Option (List ℕ))) (text : List ℕ) (ending : E) → answers contents text ending → IsNoFaultCode (code_of ending)) →
      (r : Result (CommandEnding E) NoAnswer) → HasRunCommand help version words told names answers leaves said_before said_after before after r →
      exit_code_of code_of r ≡ 10 → IsErrOf r Write
  write_code code_of no_fault (Ok Shown) did e = absurd (omega (arith, e))
  write_code code_of no_fault (Ok (Answered ending)) did e = absurd (no_code (code_of ending) 10 refl (answered_no_fault code_of no_fault ending did) e)
  write_code code_of no_fault (Err Read) did e = absurd (omega (arith, e))
  write_code code_of no_fault (Err Write) did e = refl
  write_code code_of no_fault (Err Memory) did e = absurd (omega (arith, e))
