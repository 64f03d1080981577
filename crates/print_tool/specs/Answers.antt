-- What the program writes, and how it ends. The rules are this tool's own.
use Rattle.std.specs.Prelude.{◌≤◌, ◌<◌, ℕ, List, length, codes, Option, IsSomeAnd}
use Rattle.stapl_lexer.specs.declared.reason.Reason.{Reason}
use Rattle.stapl_lexer.specs.Pieces.{text_limit}
use Rattle.stapl_syntax.specs.Trees.{StmtTree}
use Rattle.stapl_syntax.specs.Programs.{IsProgram, FirstFault}
use Rattle.canonical_text.specs.CanonicalText.{canonical_text}
use Rattle.named_files.specs.Texts.{refusal_line, usage_line}
use Rattle.print_tool.specs.declared.status.PrintStatus.{PrintStatus}
use Rattle.print_tool.specs.declared.status.PrintStatus.TheVariants.{Done, Refused, TooLarge, Usage}
use Rattle.print_tool.specs.Words.{NamesProgram, HasUsage}

-- the line of a canonical text that is too large
abbrev pub too_large_line : List ℕ
too_large_line = codes "R print TooLarge\n"

-- The answer for a text: it is refused at its first fault; or it is a program, and its canonical text is written, or is
-- too large.
pub data TextAnswer (bytes : List ℕ) : List ℕ → PrintStatus → Type 0 where
  refused : (piece line : ℕ) (reason : Reason) → FirstFault bytes piece line reason →
      TextAnswer bytes (refusal_line piece line reason) (Refused piece reason)
  too_large : (program : List StmtTree) → IsProgram bytes program → text_limit < length (canonical_text program) →
      TextAnswer bytes too_large_line TooLarge
  printed : (program : List StmtTree) → IsProgram bytes program → length (canonical_text program) ≤ text_limit →
      TextAnswer bytes (canonical_text program) Done

-- The same for a file, where it is held.
abbrev pub HeldAnswer : Option (List ℕ) → List ℕ → PrintStatus → Type 0
HeldAnswer held text status = IsSomeAnd held (λ bytes. TextAnswer bytes text status)

-- The answer to words, if the file that they name holds this: they are refused, or the file is answered.
pub data WordsAnswer (held : Option (List ℕ)) (words : List (List ℕ)) : List ℕ → PrintStatus → Type 0 where
  usage : (n : ℕ) → HasUsage words n → WordsAnswer held words (usage_line n) (Usage n)
  asked : (path text : List ℕ) (status : PrintStatus) → NamesProgram words path → HeldAnswer held text status →
      WordsAnswer held words text status
