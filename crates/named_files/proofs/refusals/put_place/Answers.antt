use Rattle.std.proofs.Common.{codes, pos}
use Rattle.tool_io.specs.Texts.{labelled}
use Rattle.tool_io.proofs.PutLemmas.{put_then, put_then_front, front_with, put_failed}
use Rattle.named_files.proofs.refusals.put_place.Goals as goal

pub returns-in_err-put_count : goal.returns-in_err-put_count
returns-in_err-put_count g c =
    put_failed c.from_residual.result c.from_residual.ensures.0
    (front_with (labelled (codes " line ") (pos c.args.line)) c.in_err-put_count.ensures)

pub returns-in_err-put_count-2 : goal.returns-in_err-put_count-2
returns-in_err-put_count-2 g c =
    put_failed c.from_residual-in_err-put_count-2.result c.from_residual-in_err-put_count-2.ensures.0
    (put_then_front c.in_ok-put_count.ensures c.in_err-put_count-2.ensures)

pub returns : goal.returns
returns g c = put_then c.in_ok-put_count.ensures c.in_ok-put_count-2.ensures
