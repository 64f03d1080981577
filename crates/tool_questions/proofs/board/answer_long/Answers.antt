use Rattle.std.proofs.Common.{Some, pos}
use Rattle.board_text.specs.declared.reason.BoardReason.TheVariants.{TooLong}
use Rattle.play_words.specs.declared.status.Status.TheVariants.{Done}
use Rattle.tool_frame.proofs.AnswerLemmas.{says_failed, said_text, said_front}
use Rattle.tool_questions.specs.BoardLines.{fault_text, too_long}
use Rattle.tool_questions.proofs.board.answer_long.Goals as goal

pub returns-in_err-put_fault : goal.returns-in_err-put_fault
returns-in_err-put_fault g c =
    says_failed _ _ _ _ _ c.from_residual-in_err-put_fault.result c.from_residual-in_err-put_fault.ensures.1
    (said_front (fault_text 0 (Some TooLong)) (Done (pos 0)) too_long c.in_err-put_fault.ensures)

pub returns : goal.returns
returns g c = said_text (fault_text 0 (Some TooLong)) too_long c.in_ok-put_fault.ensures
