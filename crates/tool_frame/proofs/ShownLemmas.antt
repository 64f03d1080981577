-- On answers to the words of a command.
use Rattle.std.proofs.Common.{◌≡◌, ℕ, List, None}
use Rattle.tool_frame.proofs.AnswerLemmas.{IsWithin}
use Rattle.tool_frame.specs.Commands.{text_asked, CommandAnswer, worked}

-- where the words ask for no text, the answer is the tool's
pub tool_answers : {S : Type 0} (help version : List ℕ) (done : S) (A : List ℕ → S → Type 0) (words : List (List ℕ)) → text_asked help version words ≡ None →
    IsWithin A (CommandAnswer help version done A words)
tool_answers help version done A words none = record { to = λ text status a. worked text status none a }
