-- On the answer for the file of a code.
use Rattle.std.proofs.Common.{◌≡◌, ◌∙◌, ◌<◌, ℕ, List, [], length, ◌++◌, Option, None, Some, IfSome, IsSomeAnd, Result, Ok, sym, ap, subst}
use Rattle.std.specs.Prelude.{IsErrAnd}
use Rattle.tool_io.specs.declared.lines.Lines.{Lines}
use Rattle.tool_io.specs.declared.outside.Sink.{Ghosts as SinkOf}
use Rattle.tool_io.specs.Files.{file_of}
use Rattle.tool_io.specs.Lines.{IsSilent, Puts, PutsBroken}
use Rattle.stapl_code.specs.declared.raw.CodeLists.{CodeLists}
use Rattle.stapl_code.specs.declared.reason.CodeReason.{CodeReason}
use Rattle.stapl_code.specs.declared.reason.CodeReason.TheVariants as code_reasons
use Rattle.stapl_code.specs.Files.{most_bytes}
use Rattle.code_files.specs.CodeFaults.{IsFileOf, IsCodeFault, too_long}
use Rattle.code_files.proofs.CodeAgain.{one_code}
use Rattle.code_files.proofs.FileFaults.{no_fault}
use Rattle.dev_card.specs.declared.desc.Desc.{Desc}
use Rattle.dev_card.specs.Sound.{SoundCard}
use Rattle.tool_frame.specs.declared.no_answer.NoAnswer.{NoAnswer}
use Rattle.tool_frame.specs.declared.no_answer.NoAnswer.TheVariants.{Write}
use Rattle.tool_frame.specs.Answers.{Says}
use Rattle.tool_frame.specs.Files.{OfFile}
use Rattle.tool_frame.proofs.AnswerLemmas.{IsWithin, says_failed, said_text, said_front}
use Rattle.named_files.proofs.BoardLemmas.{of_file_as, of_long_file}
use Rattle.play_words.specs.declared.requests.PlayRequest.{PlayRequest}
use Rattle.play_words.specs.declared.status.Status.{Status}
use Rattle.play_words.specs.declared.status.Status.TheVariants.{CodeRefused}
use Rattle.code_plays.specs.Plays.{PlaysCode}
use Rattle.code_plays.specs.Racks.{CodeHoldsFinal}
use Rattle.play_tool.specs.Texts.{code_refusal_line}
use Rattle.play_tool.specs.Answers.{CodeAnswer, code_refused, code_accepted, HeldAnswer}
use Rattle.play_tool.specs.CodesInFiles.{ReadsCodeFault}
use Rattle.play_tool.specs.FinalRacks.{FileOfCodeHoldsFinal, HeldFinal}

-- The answer for the file of a code is its play.

pub same_code : (bytes : List ℕ) (a b : CodeLists) → IsFileOf bytes a → IsFileOf bytes b → a ≡ b
same_code bytes a b x y = (one_code a b [] [] x.has y.has (ap (λ (z : List ℕ). z ++ []) (sym x.file ∙ y.file))).0

code_is_held : (request : PlayRequest) (devices : List Desc) (code : CodeLists) (held : Option (List ℕ)) → IsSomeAnd held (λ bytes. IsFileOf bytes code) → (text : List ℕ) (status : Status) →
    PlaysCode code request devices text status → HeldAnswer (CodeAnswer request devices) held text status
code_is_held request devices code None is text status p = absurd is
code_is_held request devices code (Some bytes) is text status p = code_accepted code text status is p

pub code_answers : (request : PlayRequest) (devices : List Desc) (code : CodeLists) (held : Option (List ℕ)) → IsSomeAnd held (λ bytes. IsFileOf bytes code) →
    IsWithin (PlaysCode code request devices) (HeldAnswer (CodeAnswer request devices) held)
code_answers request devices code held is = record { to = code_is_held request devices code held is }

pub file_final : {request : PlayRequest} {devices : List Desc} {code : CodeLists} (held : Option (List ℕ)) → IsSomeAnd held (λ bytes. IsFileOf bytes code) → (rack : List (Option SoundCard)) →
    CodeHoldsFinal code request devices rack → HeldFinal (FileOfCodeHoldsFinal request devices) held rack
file_final None is rack final = is
file_final {code = code} (Some bytes) is rack final = record { code = code; is = is; final = final }

pub accepted_code : {request : PlayRequest} {devices : List Desc} {bytes text : List ℕ} {status : Status} (code : CodeLists) → IsFileOf bytes code →
    CodeAnswer request devices bytes text status → PlaysCode code request devices text status
accepted_code {bytes = bytes} code is (code_refused offset reason fault) = absurd (no_fault bytes code offset reason is fault)
accepted_code {request = request} {devices = devices} {bytes = bytes} code is (code_accepted other text status other_is p) =
    subst (λ (z : CodeLists). PlaysCode z request devices text status) (same_code bytes other code other_is is) p

-- The bytes that were read are no code: their refusal was put, or a front of it.

held_refused : (request : PlayRequest) (devices : List Desc) (offset : ℕ) (reason : CodeReason) (held : Option (List ℕ)) → IsSomeAnd held (λ bytes. IsCodeFault bytes offset reason) →
    HeldAnswer (CodeAnswer request devices) held (code_refusal_line offset reason) (CodeRefused offset reason)
held_refused request devices offset reason None fault = fault
held_refused request devices offset reason (Some bytes) fault = code_refused offset reason fault

module _ {K : Type 0} {sink : SinkOf K} {old new : Lines K} {told : Option (List (List ℕ × List ℕ))} {path : List ℕ} (request : PlayRequest) (devices : List Desc)
    (offset : ℕ) (reason : CodeReason) (reads : ReadsCodeFault told path offset reason) where
  pub code_refusal_failed : (r : Result Status NoAnswer) → IsErrAnd r (λ e. e ≡ Write) → PutsBroken sink old (code_refusal_line offset reason) new →
      OfFile told (Some path) (λ held. Says sink (HeldAnswer (CodeAnswer request devices) held) (IsSilent old new) old new r)
  code_refusal_failed r is front = of_file_as (λ held fault.
      says_failed sink (HeldAnswer (CodeAnswer request devices) held) _ old new r is
      (said_front (code_refusal_line offset reason) (CodeRefused offset reason) (held_refused request devices offset reason held fault) front)) reads

  pub code_refusal_put : Puts sink old (code_refusal_line offset reason) new →
      OfFile told (Some path) (λ held. Says sink (HeldAnswer (CodeAnswer request devices) held) (IsSilent old new) old new (Ok (CodeRefused offset reason)))
  code_refusal_put put = of_file_as (λ held fault. said_text (code_refusal_line offset reason) (held_refused request devices offset reason held fault) put) reads

-- Bytes that are too long, and a fault by its parts.

long_held : (held : Option (List ℕ)) → IsSomeAnd held (λ bytes. most_bytes < length bytes) → IsSomeAnd held (λ bytes. IsCodeFault bytes most_bytes code_reasons.TooLong)
long_held None long = long
long_held (Some bytes) long = too_long long

pub reads_long : (told : Option (List (List ℕ × List ℕ))) (path : List ℕ) → IfSome told (λ files. IsSomeAnd (file_of files path) (λ bytes. most_bytes < length bytes)) →
    ReadsCodeFault told path most_bytes code_reasons.TooLong
reads_long told path long = of_file_as long_held (of_long_file told path most_bytes long)

pub code_fault_is : {bytes : List ℕ} {i j : ℕ} {r s : CodeReason} → i ≡ j → r ≡ s → IsCodeFault bytes i r → IsCodeFault bytes j s
code_fault_is {bytes = bytes} {j = j} {r = r} a b f = subst (IsCodeFault bytes j) b (subst (λ (k : ℕ). IsCodeFault bytes k r) a f)

pub fault_is : {told : Option (List (List ℕ × List ℕ))} {path : List ℕ} {i j : ℕ} {r s : CodeReason} → i ≡ j → r ≡ s → ReadsCodeFault told path i r → ReadsCodeFault told path j s
fault_is {told = told} {path = path} {j = j} {r = r} a b f =
    subst (λ (s : CodeReason). ReadsCodeFault told path j s) b (subst (λ (k : ℕ). ReadsCodeFault told path k r) a f)
