-- What a command does: `--help` and `--version`, each alone, are answered by a text of their own; all other words are
-- the tool's. The rules are these programs' own.
use Rattle.std.specs.Prelude.{◌≡◌, ℕ, List, [], ◌∷◌, codes, Option, None, Some, Result, Ok, Err, if◌then◌else◌}
use Rattle.std.specs.Str.{bytes_eq}
use Rattle.tool_io.specs.Bytes.{then_bytes, MovesFront}
use Rattle.tool_frame.specs.declared.no_answer.NoAnswer.{NoAnswer}
use Rattle.tool_frame.specs.declared.no_answer.NoAnswer.TheVariants.{Read, Write, Memory}
use Rattle.tool_frame.specs.declared.command.CommandEnding.{CommandEnding}
use Rattle.tool_frame.specs.declared.command.CommandEnding.TheVariants.{Shown, Answered}
use Rattle.tool_frame.specs.Files.{OfFiles}
use Rattle.tool_frame.specs.Frame.{WritesAndLeaves}

-- the text that a word asks for
abbrev pub text_of_word : List ℕ → List ℕ → List ℕ → Option (List ℕ)
text_of_word help version word =
    if bytes_eq word (codes "--help") then Some help else if bytes_eq word (codes "--version") then Some version else None

-- the text that the words ask for, if they are one that asks for one
abbrev pub text_asked : List ℕ → List ℕ → List (List ℕ) → Option (List ℕ)
text_asked help version (word ∷ []) = text_of_word help version word
text_asked help version _ = None

-- The answer to the words, if the tool's is this one: the text that they ask for, with the status of a command that is
-- done, or else the tool's.
pub data CommandAnswer {S : Type 0} (help version : List ℕ) (done : S) (ToolAnswer : List ℕ → S → Type 0)
    (words : List (List ℕ)) : List ℕ → S → Type 0 where
  shown : (text : List ℕ) → text_asked help version words ≡ Some text →
      CommandAnswer help version done ToolAnswer words text done
  worked : (text : List ℕ) (status : S) → text_asked help version words ≡ None → ToolAnswer text status →
      CommandAnswer help version done ToolAnswer words text status

-- the outcome of a command whose tool ended so
abbrev pub outcome_of : {E : Type 0} → Result E NoAnswer → Result (CommandEnding E) NoAnswer
outcome_of (Ok ending) = Ok (Answered ending)
outcome_of (Err cause) = Err cause

-- The text is written and nothing else, or a prefix of it at a write fault.
abbrev pub ShowsText : {E : Type 0} → List ℕ → Option (List ℕ) → Option (List ℕ) → Result (CommandEnding E) NoAnswer → Type 0
ShowsText text before after (Ok Shown) = after ≡ then_bytes before text
ShowsText text before after (Ok (Answered ending)) = ⊥
ShowsText text before after (Err Read) = ⊥
ShowsText text before after (Err Write) = MovesFront before text after
ShowsText text before after (Err Memory) = ⊥

-- What a command did: it shows the text that the words ask for, and what is lent stays as it was; or the tool ran.
pub data HasRunCommand {E R : Type 0} (help version : List ℕ) (words : List (List ℕ)) (told : Option (List (List ℕ × List ℕ)))
    (names : List (Option (List ℕ)) → Type 0) (answers : List (Option (List ℕ)) → List ℕ → E → Type 0)
    (leaves : List (Option (List ℕ)) → R → R → Result E NoAnswer → Type 0) (said_before said_after : Option (List ℕ))
    (before after : R) (result : Result (CommandEnding E) NoAnswer) : Type 0 where
  text_shown : (text : List ℕ) → text_asked help version words ≡ Some text → ShowsText text said_before said_after result →
      after ≡ before → HasRunCommand help version words told names answers leaves said_before said_after before after result
  tool_ran : text_asked help version words ≡ None → (r : Result E NoAnswer) → result ≡ outcome_of r →
      OfFiles names told (λ contents. WritesAndLeaves (answers contents) (leaves contents) said_before said_after before after r) →
      HasRunCommand help version words told names answers leaves said_before said_after before after result

-- the exit code of a command
abbrev pub exit_code_of : {E : Type 0} → (E → ℕ) → Result (CommandEnding E) NoAnswer → ℕ
exit_code_of code (Ok Shown) = 0
exit_code_of code (Ok (Answered ending)) = code ending
exit_code_of code (Err Read) = 9
exit_code_of code (Err Write) = 10
exit_code_of code (Err Memory) = 11

-- A process ended with this exit code: it is that of an outcome of which this stands.
pub record HasEnded {E : Type 0} (code_of : E → ℕ) (is_outcome : Result (CommandEnding E) NoAnswer → Type 0) (code : ℕ) : Type 0 where
  pub outcome : Result (CommandEnding E) NoAnswer
  pub ran : is_outcome outcome
  pub code_is : code ≡ exit_code_of code_of outcome
