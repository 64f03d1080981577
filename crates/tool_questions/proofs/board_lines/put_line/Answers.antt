use Rattle.std.proofs.Common.{codes}
use Rattle.tool_io.specs.Texts.{word_line}
use Rattle.tool_io.proofs.PutLemmas.{put_then, put_then_front, front_with, put_failed, put_then_put}
use Rattle.tool_questions.proofs.board_lines.put_line.Goals as goal

pub returns-in_err-put_count : goal.returns-in_err-put_count
returns-in_err-put_count g c =
    put_failed c.from_residual.result c.from_residual.ensures.0
    (front_with (word_line c.args.line.now) (front_with (codes " ") c.in_err-put_count.ensures))

pub returns-in_err-put : goal.returns-in_err-put
returns-in_err-put g c =
    put_failed c.from_residual-in_err-put.result c.from_residual-in_err-put.ensures.0
    (front_with (word_line c.args.line.now) (put_then_front c.in_ok-put_count.ensures c.in_err-put.ensures.put))

pub returns : goal.returns
returns g c = put_then_put _ _ c.put_word_line.result (put_then c.in_ok-put_count.ensures c.in_ok-put.ensures.put) c.put_word_line.ensures
