-- On the canonical text, as it was made.
use Rattle.std.proofs.Common.{◌≡◌, ◌≤◌, ℕ, List, length, subst, sym}
use Rattle.stapl_lexer.specs.Pieces.{text_limit}
use Rattle.stapl_syntax.specs.Trees.{StmtTree}
use Rattle.stapl_syntax.specs.Programs.{IsProgram}
use Rattle.canonical_text.specs.CanonicalText.{canonical_text}
use Rattle.print_tool.specs.declared.status.PrintStatus.TheVariants.{Done}
use Rattle.print_tool.specs.Answers.{TextAnswer, printed}

pub printed_as : (bytes text : List ℕ) (program : List StmtTree) → IsProgram bytes program → length (canonical_text program) ≤ text_limit →
    text ≡ canonical_text program → TextAnswer bytes text Done
printed_as bytes text program is small e = subst (λ (t : List ℕ). TextAnswer bytes t Done) (sym e) (printed program is small)
