use Rattle.std.proofs.Common.{codes, pos, refl}
use Rattle.std.proofs.lemmas.Str.Ascii.{trim_ascii_is}
use Rattle.tool_io.specs.Texts.{number_line}
use Rattle.tool_io.proofs.PutLemmas.{put_then, put_then_front, front_with, put_failed, put_then_put}
use Rattle.tool_questions.specs.Pieces.{piece_bytes}
use Rattle.tool_questions.proofs.lines.put_piece.Goals as goal

pub returns-in_err-put_count : goal.returns-in_err-put_count
returns-in_err-put_count g c =
    put_failed c.from_residual.result c.from_residual.ensures.0
    (front_with (codes "\n") (front_with (piece_bytes c.args.text.now c.args.piece.now)
    (front_with (number_line (codes " line ") (pos c.args.piece.now.line)) c.in_err-put_count.ensures)))

pub returns-in_err-put_count_line : goal.returns-in_err-put_count_line
returns-in_err-put_count_line g c =
    put_failed c.from_residual-in_err-put_count_line.result c.from_residual-in_err-put_count_line.ensures.0
    (front_with (codes "\n") (front_with (piece_bytes c.args.text.now c.args.piece.now)
    (put_then_front c.in_ok-put_count.ensures c.in_err-put_count_line.ensures)))

pub returns-in_err-put : goal.returns-in_err-put
returns-in_err-put g c =
    put_failed c.from_residual-in_err-put.result c.from_residual-in_err-put.ensures.0
    (front_with (codes "\n") (put_then_front (put_then c.in_ok-put_count.ensures c.in_ok-put_count_line.ensures)
    (rw (trim_ascii_is _ c.trim_ascii.result.now _ refl c.trim_ascii.ensures.value) at c.in_err-put.ensures.put)))

pub returns : goal.returns
returns g c =
    put_then_put _ _ c.put-2.result (put_then (put_then c.in_ok-put_count.ensures c.in_ok-put_count_line.ensures)
    (rw (trim_ascii_is _ c.trim_ascii.result.now _ refl c.trim_ascii.ensures.value) at c.in_ok-put.ensures.put)) c.put-2.ensures.put
