use Rattle.std.proofs.Common.{[], ◌∷◌, codes}
use Rattle.tool_io.specs.Texts.{labelled_text}
use Rattle.tool_io.proofs.PutLemmas.{put_then, put_then_front, front_with, put_failed, put_then_put}
use Rattle.program_reports.proofs.listing.put_note.Goals as goal

pub returns-in_err-put_labelled_text : goal.returns-in_err-put_labelled_text
returns-in_err-put_labelled_text g c =
    put_failed c.from_residual.result c.from_residual.ensures.0
    (front_with (10 ∷ [])
    (front_with (labelled_text (codes " = ") c.args.text.now) c.in_err-put_labelled_text.ensures))

pub returns-in_err-put_labelled_text-2 : goal.returns-in_err-put_labelled_text-2
returns-in_err-put_labelled_text-2 g c =
    put_failed c.from_residual-in_err-put_labelled_text-2.result c.from_residual-in_err-put_labelled_text-2.ensures.0
    (front_with (10 ∷ [])
    (put_then_front c.in_ok-put_labelled_text.ensures c.in_err-put_labelled_text-2.ensures))

pub returns : goal.returns
returns g c =
    put_then_put _ _ c.put.result (put_then c.in_ok-put_labelled_text.ensures c.in_ok-put_labelled_text-2.ensures)
    c.put.ensures.put
