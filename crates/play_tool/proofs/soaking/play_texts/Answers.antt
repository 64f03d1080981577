use Rattle.std.proofs.Common.{sym, ap, Err}
use Rattle.play_words.specs.declared.status.Status.TheVariants.{BoardRefused}
use Rattle.tool_frame.proofs.AnswerLemmas.{says_within, says_failed, said_text, said_front}
use Rattle.code_plays.proofs.PlayLemmas.{rack_as}
use Rattle.play_tool.specs.Answers.{board_refused}
use Rattle.play_tool.proofs.AnswerLemmas.{board_of_devices}
use Rattle.play_tool.proofs.SoakLemmas.{board_fault_is}
use Rattle.play_tool.proofs.soaking.play_texts.Goals as goal

pub returns-in-Ok-clause-says : goal.returns-in-Ok-clause-says
returns-in-Ok-clause-says g c =
    says_within _ _ _ _ _ c.play_text.result (board_of_devices c.in-Ok.devices.items c.in-Ok.ensures.board) (λ z. z) (rw c.deref.ensures.value at c.play_text.ensures.says)

pub returns-in-Ok-clause-rack : goal.returns-in-Ok-clause-rack
returns-in-Ok-clause-rack g c =
    rack_as c.play_text.result (λ p. p) (λ p. p)
    (λ rack final. record { devices = c.in-Ok.devices.items; is_board = c.in-Ok.ensures.board; final = final }) (rw c.deref.ensures.value at c.play_text.ensures.rack)

pub returns-in_err-put_board_refusal-in-Err-At-clause-says : goal.returns-in_err-put_board_refusal-in-Err-At-clause-says
returns-in_err-put_board_refusal-in-Err-At-clause-says g c =
    says_failed _ _ _ _ _ c.from_residual.result c.from_residual.ensures.1
    (said_front _ (BoardRefused _ _) (board_refused _ _
    (board_fault_is _ _ _ _ (sym c.in-Err-At.line-is) (sym c.in-Err-At.reason-is) (c.in-Err-At.ensures.fault _ _ (ap Err c.in-Err-At.field-0-is))))
    c.in_err-put_board_refusal-in-Err-At.ensures)

pub returns-in_ok-put_board_refusal-in-Err-At-clause-says : goal.returns-in_ok-put_board_refusal-in-Err-At-clause-says
returns-in_ok-put_board_refusal-in-Err-At-clause-says g c =
    said_text _ (board_refused _ _
    (board_fault_is _ _ _ _ (sym c.in-Err-At.line-is) (sym c.in-Err-At.reason-is) (c.in-Err-At.ensures.fault _ _ (ap Err c.in-Err-At.field-0-is))))
    c.in_ok-put_board_refusal-in-Err-At.ensures
