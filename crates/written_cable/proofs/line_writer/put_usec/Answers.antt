use Rattle.tool_io.proofs.PutLemmas.{puts_end, front_end, put_failed}
use Rattle.written_cable.proofs.line_writer.put_usec.Goals as goal

pub returns-in_err-put_count_line : goal.returns-in_err-put_count_line
returns-in_err-put_count_line g c = put_failed c.from_residual.result c.from_residual.ensures.0 c.in_err-put_count_line.ensures

pub returns-in_err-finish : goal.returns-in_err-finish
returns-in_err-finish g c =
    put_failed c.from_residual-in_err-finish.result c.from_residual-in_err-finish.ensures.0
    (front_end c.in_ok-put_count_line.ensures c.in_err-finish.ensures.put)

pub returns : goal.returns
returns g c = puts_end c.in_ok-put_count_line.ensures c.in_ok-finish.ensures.put
