use Rattle.std.proofs.Common.{length, ap, arith}
use Rattle.stapl_syntax.specs.Trees.{stmt_tree, trees}
use Rattle.stapl_print.specs.Lines.{with_lines}
use Rattle.stapl_print.proofs.LineLemmas.{next_of, one_line, front_large}
use Rattle.stapl_print.proofs.printing.print_after.Goals as goal

pub returns-then-bytes-gt-TEXT_LIMIT-clause-too_large : goal.returns-then-bytes-gt-TEXT_LIMIT-clause-too_large
returns-then-bytes-gt-TEXT_LIMIT-clause-too_large c = λ is.
    let next = next_of stmt_tree c.loop-statement.statement-index c.args.stmts.now c.statement-item.result c.loop-statement-test.true c.statement-item.is in
    front_large c.put_line.new.self.bytes (with_lines c.args.text.items (trees c.args.stmts.now)) _
    (one_line c.loop-statement.writer.bytes c.put_line.new.self.bytes (with_lines c.args.text.items (trees c.args.stmts.now)) (stmt_tree c.statement-item.result) _ _ next
    c.loop-statement.invariant.0 c.in-Ok.ensures)
    (omega (arith, ap length c.bytes.ensures, c.if-bytes-gt-TEXT_LIMIT.true))

pub loop-statement-preserved : goal.loop-statement-preserved
loop-statement-preserved c = (
  one_line c.loop-statement.writer.bytes c.put_line.new.self.bytes (with_lines c.args.text.items (trees c.args.stmts.now)) (stmt_tree c.statement-item.result) _ _
      (next_of stmt_tree c.loop-statement.statement-index c.args.stmts.now c.statement-item.result c.loop-statement-test.true c.statement-item.is)
      c.loop-statement.invariant.0 c.in-Ok.ensures,
  omega (arith, ap length c.bytes.ensures, c.if-bytes-gt-TEXT_LIMIT.false),
)
