use Rattle.std.proofs.Common.{◌≡◌, ◌≤◌, drop, length}
use Rattle.stapl_lexer.specs.Pieces.{text_limit}
use Rattle.stapl_syntax.specs.Trees.{trees}
use Rattle.stapl_print.specs.Lines.{with_lines}
use Rattle.stapl_print.proofs.printing.print_after.Given as goal

-- what is left to write, after what is written, gives the whole
abbrev pub invariant-loop-statement : goal.invariant-loop-statement
invariant-loop-statement l =
    (with_lines l.writer.bytes (drop l.statement-index (trees l.stmts)) ≡ with_lines l.fn.text.items (trees l.stmts))
    × (length l.writer.bytes ≤ text_limit)
