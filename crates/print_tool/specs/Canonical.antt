-- What stands of a text that is printed. The rules are this tool's own.
use Rattle.std.specs.Prelude.{◌≡◌, ℕ, List, map, Option, IfSome, IsSomeAnd}
use Rattle.stapl_syntax.specs.Trees.{StmtTree}
use Rattle.stapl_syntax.specs.Programs.{IsProgram}
use Rattle.canonical_text.specs.CanonicalText.{canonical_text, plain}
use Rattle.program_reports.specs.declared.checking.CheckWords.{CheckWords}
use Rattle.program_reports.specs.Checks.{HasCheckWords}
use Rattle.print_tool.specs.declared.status.PrintStatus.{PrintStatus}
use Rattle.print_tool.specs.declared.status.PrintStatus.TheVariants.{Done}
use Rattle.print_tool.specs.Answers.{WordsAnswer}

-- The text is a canonical text of some bytes: both are programs, whose statements are equal with the values of CRC left
-- out; its own canonical text is itself; and its CRC, if it has one, holds the check word of the bytes before it.
pub record IsCanonicalOf (bytes text : List ℕ) : Type 0 where
  pub program : List StmtTree
  pub is : IsProgram bytes program
  pub own : List StmtTree
  pub printed : IsProgram text own
  pub same : map plain own ≡ map plain program
  pub again : canonical_text own ≡ text
  pub good : (words : Option CheckWords) → HasCheckWords text own words → IfSome words (λ w. w.stored ≡ w.computed)

-- The answer to the words, if the file that they name holds this; and a text that is printed is a canonical text of it.
pub record PromisedAnswer (held : Option (List ℕ)) (words : List (List ℕ)) (text : List ℕ) (status : PrintStatus) : Type 0 where
  pub answer : WordsAnswer held words text status
  pub same : status ≡ Done → IsSomeAnd held (λ bytes. IsCanonicalOf bytes text)
