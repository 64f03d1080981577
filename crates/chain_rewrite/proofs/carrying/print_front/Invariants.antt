use Rattle.std.proofs.Common.{◌≡◌, ◌≤◌, drop, length, map}
use Rattle.stapl_lexer.specs.Pieces.{text_limit}
use Rattle.stapl_syntax.specs.Trees.{trees}
use Rattle.stapl_print.specs.Lines.{with_lines}
use Rattle.carried_plays.specs.CarriedPrograms.{with_item}
use Rattle.chain_rewrite.proofs.carrying.print_front.Given as goal

-- what is left to write, after what is written, gives the whole
abbrev pub invariant-loop-statement : goal.invariant-loop-statement
invariant-loop-statement l =
    (with_lines l.longer.items (drop l.statement-index (map (with_item l.name) (trees l.statements))) ≡ with_lines l.fn.text.items (map (with_item l.name) (trees l.statements)))
    × (length l.longer.items ≤ text_limit)
