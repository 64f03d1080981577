-- On explanations: of which answers they are.
use Rattle.std.proofs.Common.{◌≡◌, ℕ, pos, List, Result, Ok, Err}
use Rattle.std.specs.Prelude.{IsErrAnd}
use Rattle.tool_io.specs.declared.lines.Lines.{Lines}
use Rattle.tool_io.specs.declared.outside.Sink.{Ghosts as SinkOf}
use Rattle.tool_frame.specs.declared.no_answer.NoAnswer.{NoAnswer}
use Rattle.tool_frame.specs.declared.no_answer.NoAnswer.TheVariants.{Read, Write, Memory}
use Rattle.tool_frame.specs.Answers.{Said, SaidFront, Says}
use Rattle.tool_frame.proofs.AnswerLemmas.{IsWithin}
use Rattle.play_words.specs.declared.status.Status.{Status}
use Rattle.play_words.specs.declared.status.Status.TheVariants.{Done}
use Rattle.why_tool.specs.Told.{Known, Shows, Tells}
use Rattle.why_tool.specs.Whys.{HasAnswer, Explains}

-- an explanation of an answer of one kind is one of an answer of another
pub explains_within : {A B : List ℕ → Status → Type 0} {known : Known} → IsWithin A B → IsWithin (Explains A known) (Explains B known)
explains_within w = record {
  to = λ said ending e. record { status = e.status; has = record { text = e.has.text; answer = w.to e.has.text e.status e.has.answer }; tells = e.tells };
}

-- and of one with another text
pub explains_as : {A B : List ℕ → Status → Type 0} {known : Known} → ((text : List ℕ) (status : Status) → A text status → HasAnswer B status) →
    IsWithin (Explains A known) (Explains B known)
explains_as f = record { to = λ said ending e. record { status = e.status; has = f e.has.text e.status e.has.answer; tells = e.tells } }

-- what is said of the status of an answer explains it
pub told_within : {A : List ℕ → Status → Type 0} {known : Known} (status : Status) → HasAnswer A status → IsWithin (Tells known status) (Explains A known)
told_within status has = record { to = λ said ending t. record { status = status; has = has; tells = t } }

-- What another question says is the answer here, whatever its status was.
pub shown_said : {K : Type 0} {sink : SinkOf K} {old new : Lines K} {A B : List ℕ → Status → Type 0} {status : Status} →
    ((said : List ℕ) → Shows A said → B said (Done (pos 0))) → Said sink A old new status → Said sink B old new (Done (pos 0))
shown_said {status = status} to p = record { text = p.text; answer = to p.text (record { status = status; answer = p.answer }); puts = p.puts }

-- and where it is not answered
pub shown_failed : {K : Type 0} (sink : SinkOf K) (A B : List ℕ → Status → Type 0) (old new : Lines K) (e : NoAnswer) (r : Result Status NoAnswer) →
    ((said : List ℕ) → Shows A said → B said (Done (pos 0))) → IsErrAnd r (λ x. x ≡ e) → Says sink A ⊥ old new (Err e) → Says sink B ⊥ old new r
shown_failed sink A B old new e (Ok status) to is says = absurd is
shown_failed sink A B old new Read (Err x) to is says = absurd says
shown_failed sink A B old new Write (Err x) to is says =
    rw is (record { text = says.text; status = Done (pos 0); answer = to says.text (record { status = says.status; answer = says.answer }); puts = says.puts })
shown_failed sink A B old new Memory (Err x) to is says = rw is says
