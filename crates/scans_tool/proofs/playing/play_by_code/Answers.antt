use Rattle.std.proofs.Common.{sym, ap, ◌∙◌, Err, codes}
use Rattle.stapl_syntax.specs.ProgramValues.{trees_of}
use Rattle.stapl_meaning.specs.Choices.{chosen}
use Rattle.play_words.specs.declared.status.Status.TheVariants.{NoAction, BadChoice, BadPlace}
use Rattle.play_tool.proofs.ChoiceLemmas.{choice_in_program}
use Rattle.tool_frame.proofs.AnswerLemmas.{says_within, says_failed, said_text, said_front}
use Rattle.scans_tool.specs.Answers.{no_action, bad_choice, bad_place}
use Rattle.scans_tool.proofs.AnswerLemmas.{chosen_in_program}
use Rattle.scans_tool.proofs.playing.play_by_code.Goals as goal

pub returns-in-Ok-clause-says : goal.returns-in-Ok-clause-says
returns-in-Ok-clause-says g c =
    says_within _ _ _ _ _ c.play_chosen.result
    (chosen_in_program c.args.task.now.request.now c.args.task.now.devices.now c.args.program.now.text (trees_of c.args.program.now) c.deref.result.now
    (choice_in_program c.args.task.now.request.now c.programs_are_typed.ensures c.requires.program c.requires.code (c.in-Ok.ensures.ok ∙ ap chosen (sym c.deref.ensures.value)))
    (sym c.has_place.ensures ∙ c.if-has_place.true))
    (λ z. z) c.play_chosen.ensures.says

pub returns-in_err-put-in-Ok-2-clause-says : goal.returns-in_err-put-in-Ok-2-clause-says
returns-in_err-put-in-Ok-2-clause-says g c =
    says_failed _ _ _ _ _ c.from_residual.result c.from_residual.ensures.1
    (said_front (codes "R place\n") BadPlace
    (bad_place _ (choice_in_program c.args.task.now.request.now c.programs_are_typed.ensures c.requires.program c.requires.code c.in-Ok-2.ensures.ok)
    (sym c.has_place.ensures ∙ c.if-has_place.false)) c.in_err-put-in-Ok-2.ensures.put)

pub returns-in_ok-put-in-Ok-2-clause-says : goal.returns-in_ok-put-in-Ok-2-clause-says
returns-in_ok-put-in-Ok-2-clause-says g c =
    said_text (codes "R place\n")
    (bad_place _ (choice_in_program c.args.task.now.request.now c.programs_are_typed.ensures c.requires.program c.requires.code c.in-Ok-2.ensures.ok)
    (sym c.has_place.ensures ∙ c.if-has_place.false)) c.in_ok-put-in-Ok-2.ensures.put

pub returns-in_err-put-in-Err-NoAction-clause-says : goal.returns-in_err-put-in-Err-NoAction-clause-says
returns-in_err-put-in-Err-NoAction-clause-says g c =
    says_failed _ _ _ _ _ c.from_residual-in_err-put-in-Err-NoAction.result c.from_residual-in_err-put-in-Err-NoAction.ensures.1
    (said_front (codes "R action\n") NoAction
    (no_action (choice_in_program c.args.task.now.request.now c.programs_are_typed.ensures c.requires.program c.requires.code
    (c.in-Err-NoAction.ensures.action (ap Err c.in-Err-NoAction.field-0-is)))) c.in_err-put-in-Err-NoAction.ensures.put)

pub returns-in_ok-put-in-Err-NoAction-clause-says : goal.returns-in_ok-put-in-Err-NoAction-clause-says
returns-in_ok-put-in-Err-NoAction-clause-says g c =
    said_text (codes "R action\n")
    (no_action (choice_in_program c.args.task.now.request.now c.programs_are_typed.ensures c.requires.program c.requires.code
    (c.in-Err-NoAction.ensures.action (ap Err c.in-Err-NoAction.field-0-is)))) c.in_ok-put-in-Err-NoAction.ensures.put

pub returns-in_err-put-in-Err-BadChoice-clause-says : goal.returns-in_err-put-in-Err-BadChoice-clause-says
returns-in_err-put-in-Err-BadChoice-clause-says g c =
    says_failed _ _ _ _ _ c.from_residual-in_err-put-in-Err-BadChoice.result c.from_residual-in_err-put-in-Err-BadChoice.ensures.1
    (said_front (codes "R choice\n") BadChoice
    (bad_choice (choice_in_program c.args.task.now.request.now c.programs_are_typed.ensures c.requires.program c.requires.code
    (c.in-Err-BadChoice.ensures.choice (ap Err c.in-Err-BadChoice.field-0-is)))) c.in_err-put-in-Err-BadChoice.ensures.put)

pub returns-in_ok-put-in-Err-BadChoice-clause-says : goal.returns-in_ok-put-in-Err-BadChoice-clause-says
returns-in_ok-put-in-Err-BadChoice-clause-says g c =
    said_text (codes "R choice\n")
    (bad_choice (choice_in_program c.args.task.now.request.now c.programs_are_typed.ensures c.requires.program c.requires.code
    (c.in-Err-BadChoice.ensures.choice (ap Err c.in-Err-BadChoice.field-0-is)))) c.in_ok-put-in-Err-BadChoice.ensures.put
