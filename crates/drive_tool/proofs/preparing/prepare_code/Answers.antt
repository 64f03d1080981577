use Rattle.std.proofs.Common.{sym, ap, ◌∙◌, Err}
use Rattle.tool_frame.proofs.AnswerLemmas.{on_ok}
use Rattle.drive_tool.specs.declared.refusals.Refusal.TheVariants.{Action, Choice, Place}
use Rattle.drive_tool.specs.Plans.{no_action, bad_choice, bad_place, is_ready}
use Rattle.drive_tool.proofs.PlanLemmas.{refused_as}
use Rattle.drive_tool.proofs.preparing.prepare_code.Goals as goal

pub returns-in-Ok : goal.returns-in-Ok
returns-in-Ok c =
    on_ok c.prepare_chosen.result
    (λ step is. record { plan = _; planned = is_ready c.in-Ok.chosen.items c.in-Ok.ensures.ok (sym c.has_place.ensures ∙ c.if-has_place.true); is = is })
    c.prepare_chosen.ensures

pub returns-in-Ok-2 : goal.returns-in-Ok-2
returns-in-Ok-2 c = refused_as Place (bad_place _ c.in-Ok-2.ensures.ok (sym c.has_place.ensures ∙ c.if-has_place.false))

pub returns-in-Err-NoAction : goal.returns-in-Err-NoAction
returns-in-Err-NoAction c = refused_as Action (no_action (c.in-Err-NoAction.ensures.action (ap Err c.in-Err-NoAction.field-0-is)))

pub returns-in-Err-BadChoice : goal.returns-in-Err-BadChoice
returns-in-Err-BadChoice c = refused_as Choice (bad_choice (c.in-Err-BadChoice.ensures.choice (ap Err c.in-Err-BadChoice.field-0-is)))
