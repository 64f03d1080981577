use Rattle.tool_io.proofs.PutLemmas.{front_with, put_failed, put_then_put}
use Rattle.tool_questions.specs.Pieces.{refusal_text}
use Rattle.tool_questions.proofs.lines.put_shown.Goals as goal

pub returns-in_err-put_piece : goal.returns-in_err-put_piece
returns-in_err-put_piece g c =
    put_failed c.from_residual.result c.from_residual.ensures.0
    (front_with (refusal_text c.args.shown.now.number c.args.shown.now.refusal) c.in_err-put_piece.ensures)

pub returns : goal.returns
returns g c = put_then_put _ _ c.put_refusal_if.result c.in_ok-put_piece.ensures c.put_refusal_if.ensures
