use Rattle.std.proofs.Common.{codes}
use Rattle.stapl_code.specs.Reasons.{reason_name}
use Rattle.tool_io.specs.Texts.{word_line}
use Rattle.tool_io.proofs.PutLemmas.{put_then, put_then_front, front_with, put_failed}
use Rattle.play_tool.proofs.lines.put_code_refusal.Goals as goal

pub returns-in_err-put_count : goal.returns-in_err-put_count
returns-in_err-put_count g c =
    put_failed c.from_residual.result c.from_residual.ensures.0
    (front_with (word_line (reason_name c.args.reason)) (front_with (codes " ") c.in_err-put_count.ensures))

pub returns-in_err-put : goal.returns-in_err-put
returns-in_err-put g c =
    put_failed c.from_residual-in_err-put.result c.from_residual-in_err-put.ensures.0
    (front_with (word_line (reason_name c.args.reason)) (put_then_front c.in_ok-put_count.ensures c.in_err-put.ensures.put))

pub returns-in_err-put_word_line : goal.returns-in_err-put_word_line
returns-in_err-put_word_line g c =
    put_failed c.from_residual-in_err-put_word_line.result c.from_residual-in_err-put_word_line.ensures.0
    (put_then_front (put_then c.in_ok-put_count.ensures c.in_ok-put.ensures.put) (rw c.name.ensures at c.in_err-put_word_line.ensures))

pub returns : goal.returns
returns g c =
    put_then (put_then c.in_ok-put_count.ensures c.in_ok-put.ensures.put) (rw c.name.ensures at c.in_ok-put_word_line.ensures)
