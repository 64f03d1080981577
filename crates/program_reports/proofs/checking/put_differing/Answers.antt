use Rattle.std.proofs.Common.{[], ◌∷◌, codes}
use Rattle.program_reports.specs.Checks.{labelled_word}
use Rattle.tool_io.proofs.PutLemmas.{put_then, put_then_front, front_with, put_failed, put_then_put}
use Rattle.program_reports.proofs.checking.put_differing.Goals as goal

pub returns-in_err-put_labelled_word : goal.returns-in_err-put_labelled_word
returns-in_err-put_labelled_word g c =
    put_failed c.from_residual.result c.from_residual.ensures.0
    (front_with (10 ∷ [])
    (front_with (labelled_word (codes " computed ") c.args.computed) c.in_err-put_labelled_word.ensures))

pub returns-in_err-put_labelled_word-2 : goal.returns-in_err-put_labelled_word-2
returns-in_err-put_labelled_word-2 g c =
    put_failed c.from_residual-in_err-put_labelled_word-2.result c.from_residual-in_err-put_labelled_word-2.ensures.0
    (front_with (10 ∷ [])
    (put_then_front c.in_ok-put_labelled_word.ensures c.in_err-put_labelled_word-2.ensures))

pub returns : goal.returns
returns g c =
    put_then_put _ _ c.put.result (put_then c.in_ok-put_labelled_word.ensures c.in_ok-put_labelled_word-2.ensures)
    c.put.ensures.put
