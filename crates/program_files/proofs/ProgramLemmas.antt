-- On programs in files, and on what is answered to a text that is none.
use Rattle.std.proofs.Common.{◌≡◌, ◌<◌, ℕ, List, length, Option, None, Some, IfSome, IsSomeAnd, Result, Ok, subst, sym}
use Rattle.std.specs.Prelude.{IsErrAnd}
use Rattle.tool_io.specs.declared.lines.Lines.{Lines}
use Rattle.tool_io.specs.declared.outside.Sink.{Ghosts as SinkOf}
use Rattle.tool_io.specs.Files.{file_of}
use Rattle.tool_io.specs.Lines.{IsSilent, Puts, PutsBroken}
use Rattle.tool_frame.specs.declared.no_answer.NoAnswer.{NoAnswer}
use Rattle.tool_frame.specs.declared.no_answer.NoAnswer.TheVariants.{Write}
use Rattle.tool_frame.specs.Answers.{Says}
use Rattle.tool_frame.proofs.AnswerLemmas.{says_failed, said_text, said_front}
use Rattle.stapl_lexer.specs.declared.reason.Reason.{Reason}
use Rattle.stapl_lexer.specs.declared.reason.Reason.TheVariants as reasons
use Rattle.stapl_lexer.specs.Pieces.{text_limit}
use Rattle.stapl_syntax.specs.Programs.{FirstFault, is_too_long}
use Rattle.tool_frame.specs.Files.{OfFile}
use Rattle.named_files.specs.Texts.{refusal_line}
use Rattle.named_files.proofs.BoardLemmas.{of_file_as, of_long_file}
use Rattle.program_files.specs.ProgramFiles.{ReadsText, HasProgramFault, ReadsProgramFault}

-- the text that was read
pub reads_text : (told : Option (List (List ℕ × List ℕ))) (path bytes text : List ℕ) → IfSome told (λ files. file_of files path ≡ Some bytes) → text ≡ bytes →
    ReadsText told path text
reads_text told path bytes text whole e = record { same = subst (λ (t : List ℕ). IfSome told (λ files. file_of files path ≡ Some t)) (sym e) whole }

-- and what stands of it
pub of_text : (told : Option (List (List ℕ × List ℕ))) (path text : List ℕ) {P : Option (List ℕ) → Type 0} → ReadsText told path text → P (Some text) → OfFile told (Some path) P
of_text told path text read p = record { held = Some text; read = read; holds = p }

long_held : (held : Option (List ℕ)) → IsSomeAnd held (λ bytes. text_limit < length bytes) → HasProgramFault held 0 0 reasons.TooLong
long_held None long = long
long_held (Some bytes) long = is_too_long long

-- a text that is too long
pub reads_long : (told : Option (List (List ℕ × List ℕ))) (path : List ℕ) → IfSome told (λ files. IsSomeAnd (file_of files path) (λ bytes. text_limit < length bytes)) →
    ReadsProgramFault told path 0 0 reasons.TooLong
reads_long told path long = of_file_as long_held (of_long_file told path text_limit long)

-- a fault, by its parts
pub text_fault_is : {bytes : List ℕ} {p q l m : ℕ} {r s : Reason} → p ≡ q → l ≡ m → r ≡ s → FirstFault bytes p l r → FirstFault bytes q m s
text_fault_is {bytes = bytes} {q = q} {l = l} {m = m} {r = r} e f h x =
    subst (λ (s : Reason). FirstFault bytes q m s) h (subst (λ (k : ℕ). FirstFault bytes q k r) f (subst (λ (k : ℕ). FirstFault bytes k l r) e x))

pub fault_is : {told : Option (List (List ℕ × List ℕ))} {path : List ℕ} {p q l m : ℕ} {r s : Reason} → p ≡ q → l ≡ m → r ≡ s → ReadsProgramFault told path p l r →
    ReadsProgramFault told path q m s
fault_is {told = told} {path = path} {q = q} {l = l} {m = m} {r = r} e f h x =
    subst (λ (s : Reason). ReadsProgramFault told path q m s) h
    (subst (λ (k : ℕ). ReadsProgramFault told path q k r) f (subst (λ (k : ℕ). ReadsProgramFault told path k l r) e x))

-- the answers for bytes that are refused are those for a file that holds them
held_refused : {S : Type 0} (answers : List ℕ → List ℕ → S → Type 0) {status : S} {piece line : ℕ} {reason : Reason} (held : Option (List ℕ)) →
    ((bytes : List ℕ) → FirstFault bytes piece line reason → answers bytes (refusal_line piece line reason) status) → HasProgramFault held piece line reason →
    IsSomeAnd held (λ bytes. answers bytes (refusal_line piece line reason) status)
held_refused answers None refused fault = fault
held_refused answers (Some bytes) refused fault = refused bytes fault

-- The text that was read is no program: its refusal was put, or a front of it.
module _ {K S : Type 0} {sink : SinkOf K} {old new : Lines K} {told : Option (List (List ℕ × List ℕ))} {path : List ℕ} (piece line : ℕ) (reason : Reason)
    (answers : List ℕ → List ℕ → S → Type 0) (status : S)
    (refused : (bytes : List ℕ) → FirstFault bytes piece line reason → answers bytes (refusal_line piece line reason) status)
    (reads : ReadsProgramFault told path piece line reason) where
  pub refusal_failed : (r : Result S NoAnswer) → IsErrAnd r (λ e. e ≡ Write) → PutsBroken sink old (refusal_line piece line reason) new →
      OfFile told (Some path) (λ held. Says sink (λ text status. IsSomeAnd held (λ bytes. answers bytes text status)) (IsSilent old new) old new r)
  refusal_failed r is front = of_file_as (λ held fault.
      says_failed sink (λ text status. IsSomeAnd held (λ bytes. answers bytes text status)) _ old new r is
      (said_front (refusal_line piece line reason) status (held_refused answers held refused fault) front)) reads

  pub refusal_put : Puts sink old (refusal_line piece line reason) new →
      OfFile told (Some path) (λ held. Says sink (λ text status. IsSomeAnd held (λ bytes. answers bytes text status)) (IsSilent old new) old new (Ok status))
  refusal_put put = of_file_as (λ held fault. said_text (refusal_line piece line reason) (held_refused answers held refused fault) put) reads
