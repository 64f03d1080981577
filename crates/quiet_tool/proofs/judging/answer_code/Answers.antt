use Rattle.std.proofs.Common.{sym, ap, ◌∙◌, Err}
use Rattle.stapl_meaning.specs.Choices.{chosen}
use Rattle.tool_frame.proofs.AnswerLemmas.{on_ok}
use Rattle.play_tool.proofs.ChoiceLemmas.{choice_in_program}
use Rattle.quiet_tool.specs.Answers.{no_action, bad_choice, bad_place, judged}
use Rattle.quiet_tool.proofs.AnswerLemmas.{answer_is}
use Rattle.quiet_tool.proofs.judging.answer_code.Goals as goal

pub returns-in-Ok-clause-answer : goal.returns-in-Ok-clause-answer
returns-in-Ok-clause-answer g c =
    on_ok c.judge_chosen.result
    (λ answer v.
    judged c.deref.result.now answer.text.items answer.status
    (choice_in_program c.args.task.now.request.now c.programs_are_typed.ensures c.requires.program c.requires.code (c.in-Ok.ensures.ok ∙ ap chosen (sym c.deref.ensures.value)))
    (sym c.has_place.ensures ∙ c.if-has_place.true) v)
    c.judge_chosen.ensures.answer

pub returns-in-Ok-2-clause-answer : goal.returns-in-Ok-2-clause-answer
returns-in-Ok-2-clause-answer g c =
    on_ok c.refuse.result
    (λ answer same.
    answer_is same.0 same.1
    (bad_place _ (choice_in_program c.args.task.now.request.now c.programs_are_typed.ensures c.requires.program c.requires.code c.in-Ok-2.ensures.ok)
    (sym c.has_place.ensures ∙ c.if-has_place.false)))
    c.refuse.ensures

pub returns-in-Err-NoAction-clause-answer : goal.returns-in-Err-NoAction-clause-answer
returns-in-Err-NoAction-clause-answer g c =
    on_ok c.refuse-in-Err-NoAction.result
    (λ answer same.
    answer_is same.0 same.1
    (no_action (choice_in_program c.args.task.now.request.now c.programs_are_typed.ensures c.requires.program c.requires.code
    (c.in-Err-NoAction.ensures.action (ap Err c.in-Err-NoAction.field-0-is)))))
    c.refuse-in-Err-NoAction.ensures

pub returns-in-Err-BadChoice-clause-answer : goal.returns-in-Err-BadChoice-clause-answer
returns-in-Err-BadChoice-clause-answer g c =
    on_ok c.refuse-in-Err-BadChoice.result
    (λ answer same.
    answer_is same.0 same.1
    (bad_choice (choice_in_program c.args.task.now.request.now c.programs_are_typed.ensures c.requires.program c.requires.code
    (c.in-Err-BadChoice.ensures.choice (ap Err c.in-Err-BadChoice.field-0-is)))))
    c.refuse-in-Err-BadChoice.ensures
