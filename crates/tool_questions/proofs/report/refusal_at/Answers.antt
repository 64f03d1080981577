use Rattle.stapl_checker.proofs.UniqueLemmas.{no_fault}
use Rattle.tool_questions.proofs.ReportLemmas.{elsewhere}
use Rattle.tool_questions.proofs.report.refusal_at.Goals as goal

pub returns-in-Ok : goal.returns-in-Ok
returns-in-Ok c = λ line reason fault. no_fault _ c.in-Ok.ensures.program fault

pub returns-in-Err-Refused : goal.returns-in-Err-Refused
returns-in-Err-Refused c =
    elsewhere c.args.text.now c.in-Err-Refused.piece c.args.number c.in-Err-Refused.field-0-1 c.in-Err-Refused.field-0-2 c.if-piece-number.true
    (rw c.in-Err-Refused.field-0-is at c.in-Err-Refused.ensures.refused)
