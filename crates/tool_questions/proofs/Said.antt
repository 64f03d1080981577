-- What is said to some words: a text, and the status with it.
use Rattle.std.proofs.Common.{◌≡◌, ℕ, List, refl, sym, ap, ◌∙◌}
use Rattle.named_files.specs.Texts.{usage_line}
use Rattle.play_words.specs.declared.status.Status.{Status}
use Rattle.play_words.specs.declared.status.Status.TheVariants.{Usage}
use Rattle.tool_questions.specs.Questions.{IsUsage}

-- The text and the status of an answer.
pub record Said : Type 0 where
  pub text : List ℕ
  pub status : Status

abbrev pub said : List ℕ → Status → Said
said text status = record { text = text; status = status }

-- A relation of a text and a status has an answer.
pub record IsAnswered (answers : List ℕ → Status → Type 0) : Type 0 where
  pub text : List ℕ
  pub status : Status
  pub answer : answers text status

pub usage : (m : ℕ) → IsAnswered (IsUsage m)
usage m = record { text = usage_line m; status = Usage m; answer = record { said_is = refl; status_is = refl } }

-- the refusal of one word is one answer
pub one_usage : (n m : ℕ) (a b : List ℕ) (s t : Status) → n ≡ m → IsUsage n a s → IsUsage m b t → said a s ≡ said b t
one_usage n m a b s t same x y =
    ap (λ (l : List ℕ). said l s) (x.said_is ∙ ap usage_line same ∙ sym y.said_is) ∙ ap (said b) (x.status_is ∙ ap Usage same ∙ sym y.status_is)
