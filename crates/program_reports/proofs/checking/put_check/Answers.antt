use Rattle.program_reports.specs.Checks.{crc_line}
use Rattle.tool_io.proofs.PutLemmas.{front_with, put_failed, put_then_put}
use Rattle.program_reports.proofs.checking.put_check.Goals as goal

pub returns-in_err-put_counts : goal.returns-in_err-put_counts
returns-in_err-put_counts g c =
    put_failed c.from_residual.result c.from_residual.ensures.0
    (front_with (crc_line c.args.words) c.in_err-put_counts.ensures)

pub returns : goal.returns
returns g c =
    put_then_put _ _ c.put_crc.result c.in_ok-put_counts.ensures
    c.put_crc.ensures
