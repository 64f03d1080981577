use Rattle.std.proofs.Common.{pos, refl, ap, Err}
use Rattle.play_words.specs.declared.status.Status.TheVariants.{Done}
use Rattle.tool_frame.proofs.AnswerLemmas.{says_failed, said_text, said_front, says_within}
use Rattle.tool_questions.specs.BoardLines.{devices_line, good, faulty}
use Rattle.tool_questions.proofs.board.check_text.Goals as goal

pub returns-in_err-put_devices-in-Ok : goal.returns-in_err-put_devices-in-Ok
returns-in_err-put_devices-in-Ok g c =
    says_failed _ _ _ _ _ c.from_residual.result c.from_residual.ensures.1
    (said_front (devices_line c.in-Ok.devices.items) (Done (pos 0)) (good c.in-Ok.devices.items c.in-Ok.ensures.board refl refl)
    (rw c.deref.ensures.value at c.in_err-put_devices-in-Ok.ensures))

pub returns-in_ok-put_devices-in-Ok : goal.returns-in_ok-put_devices-in-Ok
returns-in_ok-put_devices-in-Ok g c =
    said_text (devices_line c.in-Ok.devices.items) (good c.in-Ok.devices.items c.in-Ok.ensures.board refl refl)
    (rw c.deref.ensures.value at c.in_ok-put_devices-in-Ok.ensures)

pub returns-in-Err-At : goal.returns-in-Err-At
returns-in-Err-At g c =
    says_within _ _ _ _ _ c.answer_line.result (record {
      to = λ said status a. faulty c.in-Err-At.line c.in-Err-At.reason (c.in-Err-At.ensures.fault c.in-Err-At.line c.in-Err-At.reason (ap Err c.in-Err-At.field-0-is)) a;
    }) (λ none. absurd none) c.answer_line.ensures
