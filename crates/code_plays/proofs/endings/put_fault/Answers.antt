use Rattle.std.proofs.Common.{codes, pos}
use Rattle.tool_io.proofs.PutLemmas.{put_then, put_then_front, front_with, put_failed}
use Rattle.tool_io.specs.Texts.{number_line}
use Rattle.stapl_meaning.specs.Texts.{fault_name}
use Rattle.code_plays.proofs.FaultLines.{puts_line, puts_line_front}
use Rattle.code_plays.proofs.endings.put_fault.Goals as goal

pub returns-in_err-put : goal.returns-in_err-put
returns-in_err-put g c =
    put_failed c.from_residual.result c.from_residual.ensures.0 (puts_line_front c.args.fault c.args.piece
    (front_with (number_line (codes " at ") (pos c.args.piece)) (front_with (fault_name c.args.fault) c.in_err-put.ensures.put)))

pub returns-in_err-put-2 : goal.returns-in_err-put-2
returns-in_err-put-2 g c =
    put_failed c.from_residual-in_err-put-2.result c.from_residual-in_err-put-2.ensures.0 (puts_line_front c.args.fault c.args.piece
    (front_with (number_line (codes " at ") (pos c.args.piece))
    (put_then_front c.in_ok-put.ensures.put (rw c.name.ensures at c.in_err-put-2.ensures.put))))

pub returns-in_err-put_at_piece : goal.returns-in_err-put_at_piece
returns-in_err-put_at_piece g c =
    put_failed c.from_residual-in_err-put_at_piece.result c.from_residual-in_err-put_at_piece.ensures.0 (puts_line_front c.args.fault c.args.piece
    (put_then_front (put_then c.in_ok-put.ensures.put (rw c.name.ensures at c.in_ok-put-2.ensures.put)) c.in_err-put_at_piece.ensures))

pub returns : goal.returns
returns g c =
    puts_line c.args.fault c.args.piece
    (put_then (put_then c.in_ok-put.ensures.put (rw c.name.ensures at c.in_ok-put-2.ensures.put)) c.in_ok-put_at_piece.ensures)
