use Rattle.std.proofs.Common.{List, ◌+◌, drop, map, arith}
use Rattle.std.proofs.lemmas.List.{length-map}
use Rattle.stapl_syntax.specs.Trees.{StmtTree, stmt_tree, trees}
use Rattle.carried_plays.specs.CarriedPrograms.{with_item}
use Rattle.chain_rewrite.proofs.PieceLemmas.{next_with_item}
use Rattle.chain_rewrite.proofs.PrintLemmas.{one_put, one_failed, all_put}
use Rattle.chain_rewrite.proofs.carrying.print_front.Goals as goal

pub returns-in-Err : goal.returns-in-Err
returns-in-Err c =
    let all : List StmtTree = map (with_item c.args.name.now) (trees c.args.statements.now) in
    one_failed c.args.text.items c.loop-statement.longer.items all (drop c.loop-statement.statement-index all) (drop (c.loop-statement.statement-index + 1) all)
    (with_item c.args.name.now (stmt_tree c.statement-item.result)) c.in-Err.refused
    (next_with_item c.args.name.now c.loop-statement.statement-index c.args.statements.now c.statement-item.result c.loop-statement-test.true c.statement-item.is)
    c.loop-statement.invariant.0 c.in-Err.ensures

pub loop-statement-preserved : goal.loop-statement-preserved
loop-statement-preserved c =
    let all : List StmtTree = map (with_item c.args.name.now) (trees c.args.statements.now) in (
      one_put c.args.text.items c.loop-statement.longer.items c.in-Ok.more.items all (drop c.loop-statement.statement-index all) (drop (c.loop-statement.statement-index + 1) all)
          (with_item c.args.name.now (stmt_tree c.statement-item.result))
          (next_with_item c.args.name.now c.loop-statement.statement-index c.args.statements.now c.statement-item.result c.loop-statement-test.true c.statement-item.is)
          c.loop-statement.invariant.0 c.in-Ok.ensures.0,
      c.in-Ok.ensures.1,
    )

pub returns : goal.returns
returns c = (
  all_put c.args.text.items c.loop-statement.longer.items (map (with_item c.args.name.now) (trees c.args.statements.now)) c.loop-statement.statement-index
      (omega (arith, c.loop-statement-test.false, length-map c.args.statements.now stmt_tree, length-map (trees c.args.statements.now) (with_item c.args.name.now)))
      c.loop-statement.invariant.0,
  c.loop-statement.invariant.1,
)
