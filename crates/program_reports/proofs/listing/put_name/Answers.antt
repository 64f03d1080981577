use Rattle.tool_io.proofs.PutLemmas.{front_with, put_failed, put_then_put}
use Rattle.program_reports.proofs.listing.put_name.Goals as goal

pub returns-in_err-put : goal.returns-in_err-put
returns-in_err-put g c =
    put_failed c.from_residual.result c.from_residual.ensures.0
    (front_with c.args.name.now c.in_err-put.ensures.put)

pub returns : goal.returns
returns g c =
    put_then_put _ _ c.put-2.result c.in_ok-put.ensures.put
    (rw c.bytes.ensures.value at c.put-2.ensures.put)
