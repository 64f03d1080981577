use Rattle.std.proofs.Common.{sym, ap, ◌∙◌, Err, codes}
use Rattle.stapl_meaning.specs.Choices.{chosen}
use Rattle.play_words.specs.declared.status.Status.TheVariants.{NoAction, BadChoice, BadPlace}
use Rattle.tool_frame.proofs.AnswerLemmas.{says_within, says_failed, said_text, said_front}
use Rattle.code_plays.specs.Plays.{no_action, bad_choice, bad_place}
use Rattle.code_plays.specs.CodePlays.{task_play}
use Rattle.code_plays.proofs.PlayLemmas.{ends_played, rack_played}
use Rattle.code_plays.proofs.CodeLemmas.{code_play_of, code_left_final}
use Rattle.code_plays.proofs.playing.play_code.Goals as goal

pub returns-in-Ok-clause-says : goal.returns-in-Ok-clause-says
returns-in-Ok-clause-says g c =
    says_within _ _ _ _ _ c.play_on_board.result
    (ends_played c.args.task.now.request.now (task_play c.args.code.now c.deref.result.now c.args.task.now)
    (code_play_of c.args.task.now c.args.code.now c.deref.result.now (c.in-Ok.ensures.ok ∙ ap chosen (sym c.deref.ensures.value)) (sym c.has_place.ensures ∙ c.if-has_place.true)))
    (λ z. z) c.play_on_board.ensures.says

pub returns-in-Ok-clause-rack : goal.returns-in-Ok-clause-rack
returns-in-Ok-clause-rack g c =
    rack_played g.K.Sink c.args.task.now.request.now (task_play c.args.code.now c.deref.result.now c.args.task.now) _ _ c.play_on_board.result
    c.play_on_board.ensures.says c.play_on_board.ensures.kinds c.play_on_board.ensures.left
    (code_left_final
    (code_play_of c.args.task.now c.args.code.now c.deref.result.now (c.in-Ok.ensures.ok ∙ ap chosen (sym c.deref.ensures.value)) (sym c.has_place.ensures ∙ c.if-has_place.true)))

pub returns-in_err-put-in-Ok-2-clause-says : goal.returns-in_err-put-in-Ok-2-clause-says
returns-in_err-put-in-Ok-2-clause-says g c =
    says_failed _ _ _ _ _ c.from_residual.result c.from_residual.ensures.1
    (said_front (codes "R place\n") BadPlace (bad_place _ c.in-Ok-2.ensures.ok (sym c.has_place.ensures ∙ c.if-has_place.false)) c.in_err-put-in-Ok-2.ensures.put)

pub returns-in_ok-put-in-Ok-2-clause-says : goal.returns-in_ok-put-in-Ok-2-clause-says
returns-in_ok-put-in-Ok-2-clause-says g c =
    said_text (codes "R place\n") (bad_place _ c.in-Ok-2.ensures.ok (sym c.has_place.ensures ∙ c.if-has_place.false)) c.in_ok-put-in-Ok-2.ensures.put

pub returns-in_err-put-in-Err-NoAction-clause-says : goal.returns-in_err-put-in-Err-NoAction-clause-says
returns-in_err-put-in-Err-NoAction-clause-says g c =
    says_failed _ _ _ _ _ c.from_residual-in_err-put-in-Err-NoAction.result c.from_residual-in_err-put-in-Err-NoAction.ensures.1
    (said_front (codes "R action\n") NoAction (no_action (c.in-Err-NoAction.ensures.action (ap Err c.in-Err-NoAction.field-0-is))) c.in_err-put-in-Err-NoAction.ensures.put)

pub returns-in_ok-put-in-Err-NoAction-clause-says : goal.returns-in_ok-put-in-Err-NoAction-clause-says
returns-in_ok-put-in-Err-NoAction-clause-says g c =
    said_text (codes "R action\n") (no_action (c.in-Err-NoAction.ensures.action (ap Err c.in-Err-NoAction.field-0-is))) c.in_ok-put-in-Err-NoAction.ensures.put

pub returns-in_err-put-in-Err-BadChoice-clause-says : goal.returns-in_err-put-in-Err-BadChoice-clause-says
returns-in_err-put-in-Err-BadChoice-clause-says g c =
    says_failed _ _ _ _ _ c.from_residual-in_err-put-in-Err-BadChoice.result c.from_residual-in_err-put-in-Err-BadChoice.ensures.1
    (said_front (codes "R choice\n") BadChoice (bad_choice (c.in-Err-BadChoice.ensures.choice (ap Err c.in-Err-BadChoice.field-0-is))) c.in_err-put-in-Err-BadChoice.ensures.put)

pub returns-in_ok-put-in-Err-BadChoice-clause-says : goal.returns-in_ok-put-in-Err-BadChoice-clause-says
returns-in_ok-put-in-Err-BadChoice-clause-says g c =
    said_text (codes "R choice\n") (bad_choice (c.in-Err-BadChoice.ensures.choice (ap Err c.in-Err-BadChoice.field-0-is))) c.in_ok-put-in-Err-BadChoice.ensures.put
