use Rattle.std.proofs.Common.{ap, Err}
use Rattle.board_text.proofs.OneAnswer.{no_board_has_a_fault}
use Rattle.tool_questions.proofs.LineLemmas.{fault_elsewhere}
use Rattle.tool_questions.proofs.board.fault_at.Goals as goal

pub returns-in-Ok : goal.returns-in-Ok
returns-in-Ok c = λ reason fault. no_board_has_a_fault c.args.text.now _ c.args.number reason c.in-Ok.ensures.board fault

pub returns-in-Err-At : goal.returns-in-Err-At
returns-in-Err-At c =
    fault_elsewhere c.args.text.now c.in-Err-At.line c.args.number c.in-Err-At.field-0-1 c.if-line-number.true
    (c.in-Err-At.ensures.fault c.in-Err-At.line c.in-Err-At.field-0-1 (ap Err c.in-Err-At.field-0-is))
