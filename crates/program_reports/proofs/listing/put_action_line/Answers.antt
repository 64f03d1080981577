use Rattle.std.proofs.Common.{[], ◌∷◌}
use Rattle.program_reports.specs.Listings.{action_text}
use Rattle.tool_io.proofs.PutLemmas.{put_then, put_then_front, front_with, put_failed, put_then_put}
use Rattle.program_reports.proofs.listing.put_action_line.Goals as goal

pub returns-in_err-put_name : goal.returns-in_err-put_name
returns-in_err-put_name g c =
    put_failed c.from_residual.result c.from_residual.ensures.0
    (front_with (10 ∷ [])
    (front_with (action_text c.args.text.now) c.in_err-put_name.ensures))

pub returns-in_err-put_action_text : goal.returns-in_err-put_action_text
returns-in_err-put_action_text g c =
    put_failed c.from_residual-in_err-put_action_text.result c.from_residual-in_err-put_action_text.ensures.0
    (front_with (10 ∷ [])
    (put_then_front c.in_ok-put_name.ensures c.in_err-put_action_text.ensures))

pub returns : goal.returns
returns g c =
    put_then_put _ _ c.put.result (put_then c.in_ok-put_name.ensures c.in_ok-put_action_text.ensures)
    c.put.ensures.put
