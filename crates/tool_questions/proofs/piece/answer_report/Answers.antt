use Rattle.std.proofs.Common.{pos}
use Rattle.play_words.specs.declared.status.Status.TheVariants.{Done}
use Rattle.tool_frame.proofs.AnswerLemmas.{says_failed, said_text, said_front}
use Rattle.tool_questions.specs.Pieces.{shown_text, known, shown}
use Rattle.tool_questions.proofs.piece.answer_report.Goals as goal

pub returns-in_err-put_shown-in-Some : goal.returns-in_err-put_shown-in-Some
returns-in_err-put_shown-in-Some g c =
    says_failed _ _ _ _ _ c.from_residual.result c.from_residual.ensures.1
    (said_front (shown_text c.args.text.now c.args.number c.in-Some.piece c.args.report.refusal) (Done (pos 0))
    (known c.requires.small (shown c.args.report c.in-Some.piece c.requires.report c.in-Some.is)) c.in_err-put_shown-in-Some.ensures)

pub returns-in_ok-put_shown-in-Some : goal.returns-in_ok-put_shown-in-Some
returns-in_ok-put_shown-in-Some g c =
    said_text (shown_text c.args.text.now c.args.number c.in-Some.piece c.args.report.refusal)
    (known c.requires.small (shown c.args.report c.in-Some.piece c.requires.report c.in-Some.is)) c.in_ok-put_shown-in-Some.ensures
