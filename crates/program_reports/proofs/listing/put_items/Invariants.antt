use Rattle.std.proofs.Common.{take}
use Rattle.std.specs.List.{flat_map}
use Rattle.tool_io.specs.Lines.{Puts}
use Rattle.stapl_syntax.specs.Trees.{item_tree}
use Rattle.program_reports.specs.Listings.{item_line}
use Rattle.program_reports.proofs.listing.put_items.Given as goal

abbrev pub invariant-loop-item : goal.invariant-loop-item
invariant-loop-item g l = record {
  puts : Puts g.K.Sink l.fn.lines (flat_map (λ item. item_line (item_tree item)) (take l.item-index l.items)) l.lines;
}
