use Rattle.std.proofs.Common.{Some, pos}
use Rattle.stapl_lexer.specs.declared.reason.Reason.TheVariants.{TooLong}
use Rattle.play_words.specs.declared.status.Status.TheVariants.{Done}
use Rattle.tool_frame.proofs.AnswerLemmas.{says_failed, said_text, said_front}
use Rattle.tool_questions.specs.Pieces.{refusal_text, too_long}
use Rattle.tool_questions.proofs.piece.answer_long.Goals as goal

pub returns-in_err-put_refused : goal.returns-in_err-put_refused
returns-in_err-put_refused g c =
    says_failed _ _ _ _ _ c.from_residual-in_err-put_refused.result c.from_residual-in_err-put_refused.ensures.1
    (said_front (refusal_text 0 (Some (record { line = 0; reason = TooLong }))) (Done (pos 0)) too_long c.in_err-put_refused.ensures)

pub returns : goal.returns
returns g c = said_text (refusal_text 0 (Some (record { line = 0; reason = TooLong }))) too_long c.in_ok-put_refused.ensures
