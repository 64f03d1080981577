use Rattle.std.specs.Prelude.{codes, pos, [], ◌∷◌}
use Rattle.tool_io.proofs.PutLemmas.{put_then, put_then_front, front_with, put_failed}
use Rattle.account_lines.proofs.lines.put_size_line.Goals as goal

pub returns-in_err-put_size : goal.returns-in_err-put_size
returns-in_err-put_size g c =
    put_failed c.from_residual.result c.from_residual.ensures.0
    (front_with (10 ∷ [])
    c.in_err-put_size.ensures)

pub returns-in_err-put : goal.returns-in_err-put
returns-in_err-put g c =
    put_failed c.from_residual-in_err-put.result c.from_residual-in_err-put.ensures.0
    (put_then_front c.in_ok-put_size.ensures c.in_err-put.ensures.put)

pub returns : goal.returns
returns g c = put_then c.in_ok-put_size.ensures c.in_ok-put.ensures.put
