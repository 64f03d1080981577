-- The answer to the words of a command. `--help` and `--version`, each alone, are answered by a text of their own; all
-- other words are the tool's. The rules are this program's own.
use Rattle.std.specs.Prelude.{◌≡◌, ◌⊎◌, ◌||◌, ℕ, pos, Bool, true, false, not, List, ◌∷◌, codes, Option, Result, Ok, Err}
use Rattle.tool_frame.specs.Answers.{WroteFront}
use Rattle.tool_frame.specs.Files.{OfFiles, NamesOne, first_of}
use Rattle.tool_frame.specs.Commands as commands
use Rattle.play_words.specs.declared.status.Status.{Status}
use Rattle.play_words.specs.declared.status.Status.TheVariants.{Done, ReadFault, WriteFault, Memory as NoMemory}
use Rattle.tool_frame.specs.declared.no_answer.NoAnswer.{NoAnswer}
use Rattle.tool_frame.specs.declared.no_answer.NoAnswer.TheVariants as causes
use Rattle.play_tool.specs.Answers.{WordsAnswer}
use Rattle.play_tool.specs.ReadContents.{NamesFiles, OfWords, IsReachedBy}
use Rattle.play_tool.specs.FinalRacks.{AskForPlay}
use Rattle.tool_questions.specs.Questions.{ask_question, QuestionAnswer, IsAskedOf}
use Rattle.why_tool.specs.Whys.{ask_why, WhyAnswer}
use Rattle.play_words.specs.declared.help.TheConstants.{HELP, VERSION}

-- The answer to the words, if the tool's is this one.
abbrev pub CommandAnswer : (List ℕ → Status → Type 0) → List (List ℕ) → (List ℕ → Status → Type 0)
CommandAnswer ToolAnswer words = commands.CommandAnswer HELP.now VERSION.now (Done (pos 0)) ToolAnswer words

-- a file that the words name, and that is read: one of the tool's, or that of a question
pub data IsReachedByCommand (told : Option (List (List ℕ × List ℕ))) (words : List (List ℕ)) (path : List ℕ) : Type 0 where
  by_tool : IsReachedBy told words path → IsReachedByCommand told words path
  by_question : IsAskedOf words path → IsReachedByCommand told words path

-- the files that the words name: those of their request, or, if they are a question, its file, or, if they ask why,
-- those of the request after that word
pub data NamesByCommand (words : List (List ℕ)) (named : List (Option (List ℕ))) : Type 0 where
  files_of_request : ask_question words ≡ false → NamesFiles words named → NamesByCommand words named
  file_of_question : ask_question words ≡ true → NamesOne (IsAskedOf words) named → NamesByCommand words named
  files_of_why : (rest : List (List ℕ)) → words ≡ codes "--why" ∷ rest → NamesFiles rest named → NamesByCommand words named

-- the words are no question, and do not ask why, so they are the tool's
abbrev pub are_of_tool : List (List ℕ) → Bool
are_of_tool words = not (ask_question words || ask_why words)

-- a play is asked for, or why a command does not do what was asked
abbrev pub MayPlay : List (List ℕ) → Type 0
MayPlay words = AskForPlay words ⊎ (ask_why words ≡ true)

-- A prefix of the answer to the words is written, with the contents of their files as they were read; or, if they are a
-- question, of the answer to that; or, if they ask why, of the answer to that, with these files that could not be read of
-- those that the words after it name.
pub record HasCommandFront (told : Option (List (List ℕ × List ℕ))) (unread : List (List ℕ) → List ℕ → Type 0) (words : List (List ℕ))
    (before after : Option (List ℕ)) : Type 0 where
  pub of_answer : are_of_tool words ≡ true →
      OfWords told words (λ contents. WroteFront (CommandAnswer (WordsAnswer words (λ request. contents)) words) before after)
  pub of_question : ask_question words ≡ true →
      OfFiles (NamesOne (IsAskedOf words)) told (λ contents. WroteFront (QuestionAnswer (first_of contents) words) before after)
  pub of_why : (rest : List (List ℕ)) → words ≡ codes "--why" ∷ rest →
      OfWords told rest (λ contents. WroteFront (WhyAnswer (unread rest) rest contents) before after)

-- the status of a run that ended in this way
abbrev pub status_of : Result Status NoAnswer → Status
status_of (Ok status) = status
status_of (Err causes.Read) = ReadFault
status_of (Err causes.Write) = WriteFault
status_of (Err causes.Memory) = NoMemory
