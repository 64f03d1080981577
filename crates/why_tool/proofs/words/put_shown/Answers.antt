use Rattle.std.proofs.Common.{codes}
use Rattle.tool_io.proofs.PutLemmas.{front_with, put_failed, put_then_put}
use Rattle.why_tool.proofs.words.put_shown.Goals as goal

pub returns-in_err-put_labelled_text : goal.returns-in_err-put_labelled_text
returns-in_err-put_labelled_text g c =
    put_failed c.from_residual.result c.from_residual.ensures.0 (front_with (codes "\n") (rw c.as_bytes.ensures.value at c.in_err-put_labelled_text.ensures))

pub returns : goal.returns
returns g c = put_then_put _ _ c.put.result (rw c.as_bytes.ensures.value at c.in_ok-put_labelled_text.ensures) c.put.ensures.put
