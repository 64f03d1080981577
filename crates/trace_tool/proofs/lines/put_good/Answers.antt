use Rattle.std.proofs.Common.{map}
use Rattle.tool_io.proofs.PutLemmas.{put_then, put_then_front, front_with, put_failed}
use Rattle.chain_sim.specs.Places.{cards_at}
use Rattle.chain_sim.specs.Reports.{report_in}
use Rattle.trace_tool.proofs.lines.put_good.Goals as goal

pub returns-in_err-put_count_line : goal.returns-in_err-put_count_line
returns-in_err-put_count_line g c =
    put_failed c.from_residual.result c.from_residual.ensures.0
    (front_with (report_in (cards_at (map g.D.Device.fitted c.args.rack.now) c.args.places.now)) c.in_err-put_count_line.ensures)

pub returns-in_err-put_report : goal.returns-in_err-put_report
returns-in_err-put_report g c =
    put_failed c.from_residual-in_err-put_report.result c.from_residual-in_err-put_report.ensures.0
    (put_then_front c.in_ok-put_count_line.ensures c.in_err-put_report.ensures)

pub returns : goal.returns
returns g c = put_then c.in_ok-put_count_line.ensures c.in_ok-put_report.ensures
