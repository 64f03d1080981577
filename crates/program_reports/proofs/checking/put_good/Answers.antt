use Rattle.std.proofs.Common.{[], ◌∷◌}
use Rattle.tool_io.proofs.PutLemmas.{front_with, put_failed, put_then_put}
use Rattle.program_reports.proofs.checking.put_good.Goals as goal

pub returns-in_err-put_labelled_word : goal.returns-in_err-put_labelled_word
returns-in_err-put_labelled_word g c =
    put_failed c.from_residual.result c.from_residual.ensures.0
    (front_with (10 ∷ []) c.in_err-put_labelled_word.ensures)

pub returns : goal.returns
returns g c =
    put_then_put _ _ c.put.result c.in_ok-put_labelled_word.ensures
    c.put.ensures.put
