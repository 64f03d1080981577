use Rattle.tool_io.specs.Texts.{escaped}
use Rattle.tool_io.proofs.PutLemmas.{put_then, put_then_front, front_with, put_failed}
use Rattle.tool_io.proofs.texts.put_labelled_text.Goals as goal

pub returns-in_err-put : goal.returns-in_err-put
returns-in_err-put g c =
    put_failed c.from_residual.result c.from_residual.ensures.0 (front_with (escaped c.args.text.now) c.in_err-put.ensures.put)

pub returns-in_err-put_escaped : goal.returns-in_err-put_escaped
returns-in_err-put_escaped g c =
    put_failed c.from_residual-in_err-put_escaped.result c.from_residual-in_err-put_escaped.ensures.0
    (put_then_front c.in_ok-put.ensures.put c.in_err-put_escaped.ensures)

pub returns : goal.returns
returns g c = put_then c.in_ok-put.ensures.put c.in_ok-put_escaped.ensures
