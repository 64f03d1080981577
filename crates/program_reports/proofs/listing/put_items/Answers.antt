use Rattle.tool_io.proofs.PutLemmas.{put_failed}
use Rattle.stapl_syntax.specs.Trees.{item_tree}
use Rattle.program_reports.specs.Listings.{item_line}
use Rattle.program_reports.proofs.ListLemmas.{item_put, item_front, items_put}
use Rattle.program_reports.proofs.listing.put_items.Goals as goal

pub returns-in_err-put_item : goal.returns-in_err-put_item
returns-in_err-put_item g c =
    put_failed c.from_residual.result c.from_residual.ensures.0
    (item_front item_line item_tree c.args.items.now c.loop-item.item-index
    c.item-item.result c.loop-item-test.true c.item-item.is
    c.loop-item.invariant.puts c.in_err-put_item.ensures)

pub loop-item-preserved : goal.loop-item-preserved
loop-item-preserved g c = record {
  puts = item_put item_line item_tree c.args.items.now c.loop-item.item-index
      c.item-item.result c.loop-item-test.true c.item-item.is
      c.loop-item.invariant.puts c.in_ok-put_item.ensures;
}

pub returns : goal.returns
returns g c =
    items_put item_line item_tree c.args.items.now c.loop-item.item-index
    c.loop-item-test.false c.loop-item.invariant.puts
