use Rattle.tool_io.proofs.PutLemmas.{front_with, put_failed, put_then_put}
use Rattle.tool_questions.specs.BoardLines.{fault_text}
use Rattle.tool_questions.proofs.board_lines.put_line_and_fault.Goals as goal

pub returns-in_err-put_line : goal.returns-in_err-put_line
returns-in_err-put_line g c =
    put_failed c.from_residual.result c.from_residual.ensures.0 (front_with (fault_text c.args.number c.args.fault) c.in_err-put_line.ensures)

pub returns : goal.returns
returns g c = put_then_put _ _ c.put_fault_if.result c.in_ok-put_line.ensures c.put_fault_if.ensures
