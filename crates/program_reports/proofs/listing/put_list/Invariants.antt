use Rattle.std.proofs.Common.{take}
use Rattle.std.specs.List.{flat_map}
use Rattle.tool_io.specs.Lines.{Puts}
use Rattle.stapl_syntax.specs.Trees.{body_tree}
use Rattle.program_reports.specs.Listings.{lines_of}
use Rattle.program_reports.proofs.listing.put_list.Given as goal

abbrev pub invariant-loop-statement : goal.invariant-loop-statement
invariant-loop-statement g l = record {
  puts : Puts g.K.Sink l.fn.lines (flat_map (λ statement. lines_of (body_tree statement.body)) (take l.statement-index l.program)) l.lines;
}
