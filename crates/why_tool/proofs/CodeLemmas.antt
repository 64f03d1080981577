-- On what is said of bytes that are no code.
use Rattle.std.proofs.Common.{◌≡◌, ◌<◌, ℕ, List, length, Option, None, Some, Result, subst}
use Rattle.std.specs.Prelude.{IsSomeAnd}
use Rattle.tool_io.specs.declared.lines.Lines.{Lines}
use Rattle.tool_io.specs.declared.outside.Sink.{Ghosts as SinkOf}
use Rattle.tool_frame.specs.declared.no_answer.NoAnswer.{NoAnswer}
use Rattle.tool_frame.specs.Answers.{Says}
use Rattle.tool_frame.proofs.AnswerLemmas.{IsWithin, says_within}
use Rattle.stapl_code.specs.declared.reason.CodeReason.{CodeReason}
use Rattle.stapl_code.specs.declared.reason.CodeReason.TheVariants.{TooLong}
use Rattle.stapl_code.specs.Files.{most_bytes}
use Rattle.code_files.specs.CodeFaults.{IsCodeFault, too_long}
use Rattle.dev_card.specs.declared.desc.Desc.{Desc}
use Rattle.play_words.specs.declared.requests.PlayRequest.{PlayRequest}
use Rattle.play_words.specs.declared.status.Status.{Status}
use Rattle.play_words.specs.declared.status.Status.TheVariants.{CodeRefused}
use Rattle.play_tool.specs.declared.sources.Source.TheVariants.{Code}
use Rattle.play_tool.specs.Texts.{code_refusal_line}
use Rattle.play_tool.specs.Answers.{CodeAnswer, code_refused, HeldAnswer, SourceAnswer}
use Rattle.play_tool.proofs.CodeLemmas.{code_fault_is}
use Rattle.why_tool.specs.Told.{Known, Tells}
use Rattle.why_tool.specs.Whys.{Explains, Reads, did, known_at}
use Rattle.why_tool.proofs.ExplainLemmas.{told_within}

-- what is said of a fault of a code explains its refusal
pub code_told : {request : PlayRequest} {devices : List Desc} {bytes : List ℕ} {known : Known} {n offset : ℕ} {r reason : CodeReason} → n ≡ offset → r ≡ reason →
    IsCodeFault bytes n r → IsWithin (Tells known (CodeRefused offset reason)) (Explains (CodeAnswer request devices bytes) known)
code_told {offset = offset} {reason = reason} e f fault =
    told_within (CodeRefused offset reason) (record { text = code_refusal_line offset reason; answer = code_refused offset reason (code_fault_is e f fault) })

-- and so does that of a file that is too long
pub long_code : (u : List ℕ → Type 0) (request : PlayRequest) (devices : List Desc) (board : List ℕ) {K : Type 0} (sink : SinkOf K) (old new : Lines K)
    (r : Result Status NoAnswer) (held : Option (List ℕ)) → IsSomeAnd held (λ bytes. most_bytes < length bytes) →
    ((known : Known) → Says sink (Tells known (CodeRefused most_bytes TooLong)) ⊥ old new r) →
    Says sink (Reads u (Explains (HeldAnswer (SourceAnswer Code request devices) held) (known_at Code (Some board) held))) ⊥ old new r
long_code u request devices board sink old new r None more says = absurd more
long_code u request devices board sink old new r (Some bytes) more says =
    let known : Known = known_at Code (Some board) (Some bytes) in
    let told = told_within {A = CodeAnswer request devices bytes} {known = known} (CodeRefused most_bytes TooLong)
    (record { text = code_refusal_line most_bytes TooLong; answer = code_refused most_bytes TooLong (too_long more) }) in
    says_within sink (Tells known (CodeRefused most_bytes TooLong)) _ old new r (record { to = λ said ending t. did (told.to said ending t) }) (λ none. none) (says known)
