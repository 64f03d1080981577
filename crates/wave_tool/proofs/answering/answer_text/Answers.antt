use Rattle.std.proofs.Common.{refl}
use Rattle.tool_frame.proofs.AnswerLemmas.{says_failed, said_text, said_front}
use Rattle.wave_tool.specs.declared.status.WaveStatus.TheVariants.{Written, BadLine}
use Rattle.wave_tool.specs.Answers.{bad_line, written}
use Rattle.wave_tool.proofs.answering.answer_text.Goals as goal

pub returns-in_err-put_bad_line-in-Some : goal.returns-in_err-put_bad_line-in-Some
returns-in_err-put_bad_line-in-Some g c =
    says_failed _ _ _ _ _ c.from_residual.result c.from_residual.ensures.1
    (said_front _ (BadLine c.in-Some.n) (bad_line c.in-Some.n c.requires.few (c.in-Some.ensures.some c.in-Some.n refl)) c.in_err-put_bad_line-in-Some.ensures)

pub returns-in_ok-put_bad_line-in-Some : goal.returns-in_ok-put_bad_line-in-Some
returns-in_ok-put_bad_line-in-Some g c =
    said_text _ (bad_line c.in-Some.n c.requires.few (c.in-Some.ensures.some c.in-Some.n refl)) c.in_ok-put_bad_line-in-Some.ensures

pub returns-in_err-put_wave-in-None : goal.returns-in_err-put_wave-in-None
returns-in_err-put_wave-in-None g c =
    says_failed _ _ _ _ _ c.from_residual-in_err-put_wave-in-None.result c.from_residual-in_err-put_wave-in-None.ensures.1
    (said_front _ Written (written c.requires.few (c.in-None.ensures.none refl)) c.in_err-put_wave-in-None.ensures)

pub returns-in_ok-put_wave-in-None : goal.returns-in_ok-put_wave-in-None
returns-in_ok-put_wave-in-None g c = said_text _ (written c.requires.few (c.in-None.ensures.none refl)) c.in_ok-put_wave-in-None.ensures
