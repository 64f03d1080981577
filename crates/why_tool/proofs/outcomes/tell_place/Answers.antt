use Rattle.std.proofs.Common.{pos, codes}
use Rattle.play_words.specs.declared.status.Status.TheVariants.{Done}
use Rattle.tool_frame.proofs.AnswerLemmas.{says_failed}
use Rattle.tool_questions.specs.BoardLines.{devices_line}
use Rattle.why_tool.specs.Texts.{misfit_line}
use Rattle.why_tool.proofs.OutcomeLemmas.{part_said, part_front, part_failed, told_more}
use Rattle.why_tool.proofs.outcomes.tell_place.Goals as goal

pub returns-in_err-tell : goal.returns-in_err-tell
returns-in_err-tell g c =
    part_failed _ _ _ _ _ (devices_line c.args.devices.now) (Done (pos 0)) _ c.from_residual.result
    (told_more (misfit_line (codes "place")) (codes "place, of the words:") _) c.from_residual.ensures.1 c.in_err-tell.ensures

pub returns-in_err-put_devices : goal.returns-in_err-put_devices
returns-in_err-put_devices g c =
    says_failed _ _ _ _ _ c.from_residual-in_err-put_devices.result c.from_residual-in_err-put_devices.ensures.1
    (part_front _ (Done (pos 0)) (told_more (misfit_line (codes "place")) (codes "place, of the words:") _) c.in_ok-tell.ensures c.in_err-put_devices.ensures)

pub returns : goal.returns
returns g c = part_said _ (Done (pos 0)) (told_more (misfit_line (codes "place")) (codes "place, of the words:") _) c.in_ok-tell.ensures c.in_ok-put_devices.ensures
