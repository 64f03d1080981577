use Rattle.program_reports.specs.Checks.{hex_word}
use Rattle.tool_io.proofs.PutLemmas.{front_with, put_failed, put_then_put}
use Rattle.program_reports.proofs.checking.put_labelled_word.Goals as goal

pub returns-in_err-put : goal.returns-in_err-put
returns-in_err-put g c =
    put_failed c.from_residual.result c.from_residual.ensures.0
    (front_with (hex_word c.args.word) c.in_err-put.ensures.put)

pub returns : goal.returns
returns g c =
    put_then_put _ _ c.put_hex.result c.in_ok-put.ensures.put
    (rw c.from.ensures at c.put_hex.ensures)
