use Rattle.std.proofs.Common.{codes}
use Rattle.tool_io.proofs.PutLemmas.{put_then, put_then_front, front_with, put_failed, put_then_put}
use Rattle.why_tool.proofs.told.put_misfit.Goals as goal

pub returns-in_err-put : goal.returns-in_err-put
returns-in_err-put g c =
    put_failed c.from_residual.result c.from_residual.ensures.0
    (front_with (codes "\n") (front_with c.args.name.now c.in_err-put.ensures.put))

pub returns-in_err-put-2 : goal.returns-in_err-put-2
returns-in_err-put-2 g c =
    put_failed c.from_residual-in_err-put-2.result c.from_residual-in_err-put-2.ensures.0
    (front_with (codes "\n") (put_then_front c.in_ok-put.ensures.put c.in_err-put-2.ensures.put))

pub returns : goal.returns
returns g c = put_then_put _ _ c.put-3.result (put_then c.in_ok-put.ensures.put c.in_ok-put-2.ensures.put) c.put-3.ensures.put
