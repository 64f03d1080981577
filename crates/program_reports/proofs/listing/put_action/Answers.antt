use Rattle.std.proofs.Common.{map}
use Rattle.std.specs.List.{flat_map}
use Rattle.stapl_syntax.specs.Trees.{item_tree}
use Rattle.program_reports.specs.Listings.{item_line}
use Rattle.tool_io.proofs.PutLemmas.{front_with, put_failed, put_then_put}
use Rattle.program_reports.proofs.listing.put_action.Goals as goal

pub returns-in_err-put_action_line : goal.returns-in_err-put_action_line
returns-in_err-put_action_line g c =
    put_failed c.from_residual.result c.from_residual.ensures.0
    (front_with (flat_map item_line (map item_tree c.args.items.now)) c.in_err-put_action_line.ensures)

pub returns : goal.returns
returns g c =
    put_then_put _ _ c.put_items.result c.in_ok-put_action_line.ensures
    c.put_items.ensures
