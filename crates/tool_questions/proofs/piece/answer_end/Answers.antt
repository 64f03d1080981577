use Rattle.std.proofs.Common.{Some, pos}
use Rattle.named_files.specs.Texts.{usage_line}
use Rattle.play_words.specs.declared.status.Status.TheVariants.{Done, Usage}
use Rattle.tool_frame.proofs.AnswerLemmas.{says_failed, said_text, said_front}
use Rattle.tool_questions.specs.Pieces.{refusal_text, known, ended, lacking}
use Rattle.tool_questions.proofs.piece.answer_end.Goals as goal

pub returns-in_err-put_refused-in-Some : goal.returns-in_err-put_refused-in-Some
returns-in_err-put_refused-in-Some g c =
    says_failed _ _ _ _ _ c.from_residual.result c.from_residual.ensures.1
    (said_front (refusal_text c.args.number (Some c.in-Some.refusal)) (Done (pos 0))
    (known c.requires.small (ended c.args.report c.in-Some.refusal c.requires.report c.requires.none c.in-Some.is))
    c.in_err-put_refused-in-Some.ensures)

pub returns-in_ok-put_refused-in-Some : goal.returns-in_ok-put_refused-in-Some
returns-in_ok-put_refused-in-Some g c =
    said_text (refusal_text c.args.number (Some c.in-Some.refusal))
    (known c.requires.small (ended c.args.report c.in-Some.refusal c.requires.report c.requires.none c.in-Some.is))
    c.in_ok-put_refused-in-Some.ensures

pub returns-in_err-put_usage-in-None : goal.returns-in_err-put_usage-in-None
returns-in_err-put_usage-in-None g c =
    says_failed _ _ _ _ _ c.from_residual-in_err-put_usage-in-None.result c.from_residual-in_err-put_usage-in-None.ensures.1
    (said_front (usage_line 2) (Usage 2)
    (known c.requires.small (lacking c.args.report c.requires.report c.requires.none c.in-None.is)) c.in_err-put_usage-in-None.ensures)

pub returns-in_ok-put_usage-in-None : goal.returns-in_ok-put_usage-in-None
returns-in_ok-put_usage-in-None g c =
    said_text (usage_line 2)
    (known c.requires.small (lacking c.args.report c.requires.report c.requires.none c.in-None.is)) c.in_ok-put_usage-in-None.ensures
