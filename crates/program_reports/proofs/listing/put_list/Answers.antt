use Rattle.tool_io.proofs.PutLemmas.{put_failed}
use Rattle.stapl_syntax.specs.Trees.{stmt_tree}
use Rattle.program_reports.specs.Listings.{lines_of}
use Rattle.program_reports.proofs.ListLemmas.{item_put, item_front, items_put}
use Rattle.program_reports.proofs.listing.put_list.Goals as goal

pub returns-in_err-put_statement : goal.returns-in_err-put_statement
returns-in_err-put_statement g c =
    put_failed c.from_residual.result c.from_residual.ensures.0
    (item_front (λ st. lines_of st.body) stmt_tree c.args.program.now c.loop-statement.statement-index
    c.statement-item.result c.loop-statement-test.true c.statement-item.is
    c.loop-statement.invariant.puts c.in_err-put_statement.ensures)

pub loop-statement-preserved : goal.loop-statement-preserved
loop-statement-preserved g c = record {
  puts = item_put (λ st. lines_of st.body) stmt_tree c.args.program.now c.loop-statement.statement-index
      c.statement-item.result c.loop-statement-test.true c.statement-item.is
      c.loop-statement.invariant.puts c.in_ok-put_statement.ensures;
}

pub returns : goal.returns
returns g c =
    items_put (λ st. lines_of st.body) stmt_tree c.args.program.now c.loop-statement.statement-index
    c.loop-statement-test.false c.loop-statement.invariant.puts
