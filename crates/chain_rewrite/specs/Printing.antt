-- Statements that are printed after a text.
use Rattle.std.specs.Prelude.{◌≡◌, ℕ, ◌<◌, ◌≤◌, List, length, Result, Ok, Err}
use Rattle.std.specs.Global.{Vec}
use Rattle.stapl_lexer.specs.Pieces.{text_limit}
use Rattle.stapl_syntax.specs.Trees.{StmtTree}
use Rattle.stapl_print.specs.Lines.{with_lines}
use Rattle.stapl_print.specs.declared.printing.PrintRefused.{PrintRefused}
use Rattle.stapl_print.specs.declared.printing.PrintRefused.TheVariants as refusals

-- what a call answers that puts the lines of these statements after a text: the longer text, or that it is too large
abbrev pub PrintsAfter : List ℕ → List StmtTree → Result (Vec ℕ) PrintRefused → Type 0
PrintsAfter text sts (Ok longer) = (longer.items ≡ with_lines text sts) × (length longer.items ≤ text_limit)
PrintsAfter text sts (Err refusals.TooLarge) = text_limit < length (with_lines text sts)
PrintsAfter text sts (Err refusals.Memory) = Unit {0}
