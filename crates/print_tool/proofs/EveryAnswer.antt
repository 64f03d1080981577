-- Words whose file is held have an answer, whatever it holds.
use Rattle.std.proofs.Common.{◌≤◌, ◌<◌, ℕ, List, length, Some, ◌⊎◌, inl, inr}
use Rattle.std.proofs.lemmas.Bool.{cases_lt}
use Rattle.stapl_lexer.specs.declared.reason.Reason.{Reason}
use Rattle.stapl_lexer.specs.Pieces.{text_limit}
use Rattle.stapl_syntax.specs.Trees.{StmtTree}
use Rattle.stapl_syntax.specs.Programs.{IsProgram, FirstFault}
use Rattle.stapl_checker.proofs.Answered.{program_or_fault}
use Rattle.canonical_text.specs.CanonicalText.{canonical_text}
use Rattle.named_files.specs.Texts.{refusal_line, usage_line}
use Rattle.print_tool.specs.declared.status.PrintStatus.{PrintStatus}
use Rattle.print_tool.specs.declared.status.PrintStatus.TheVariants.{Done, Refused, TooLarge, Usage}
use Rattle.print_tool.specs.Words.{NamesProgram, HasUsage}
use Rattle.print_tool.specs.Answers.{too_large_line, TextAnswer, refused, too_large, printed, WordsAnswer, usage, asked}

-- some text and status are an answer
pub record IsAnswered (answers : List ℕ → PrintStatus → Type 0) : Type 0 where
  pub text : List ℕ
  pub status : PrintStatus
  pub answer : answers text status

program_answered : (bytes : List ℕ) (program : List StmtTree) → IsProgram bytes program → IsAnswered (TextAnswer bytes)
program_answered bytes program is = by (cases_lt text_limit (length (canonical_text program)))
  where
    by : (text_limit < length (canonical_text program)) ⊎ (length (canonical_text program) ≤ text_limit) → IsAnswered (TextAnswer bytes)
    by (inl large) = record { text = too_large_line; status = TooLarge; answer = too_large program is large }
    by (inr small) = record { text = canonical_text program; status = Done; answer = printed program is small }

text_answered : (bytes : List ℕ) → IsAnswered (TextAnswer bytes)
text_answered bytes = by (program_or_fault bytes)
  where
    by : ((statements : List StmtTree) × IsProgram bytes statements) ⊎ ((piece : ℕ) × (line : ℕ) × (reason : Reason) × FirstFault bytes piece line reason) →
        IsAnswered (TextAnswer bytes)
    by (inl found) = program_answered bytes found.0 found.1
    by (inr fault) = record { text = refusal_line fault.0 fault.1 fault.2; status = Refused fault.0 fault.2; answer = refused fault.0 fault.1 fault.2 fault.3 }

pub words_answered : (words : List (List ℕ)) (bytes : List ℕ) → ((path : List ℕ) × NamesProgram words path) ⊎ ((n : ℕ) × HasUsage words n) →
    IsAnswered (WordsAnswer (Some bytes) words)
words_answered words bytes (inl named) =
    let a = text_answered bytes in record { text = a.text; status = a.status; answer = asked named.0 a.text a.status named.1 a.answer }
words_answered words bytes (inr refusal) = record { text = usage_line refusal.0; status = Usage refusal.0; answer = usage refusal.0 refusal.1 }
