use Rattle.stapl_meaning.specs.Choices.{no_action, bad_choice, chosen}
use Rattle.tool_frame.proofs.AnswerLemmas.{on_ok}
use Rattle.code_plays.proofs.CodeLemmas.{code_comes_to}
use Rattle.code_plays.proofs.playing.choose_asked.Goals as goal

pub returns-clause-ok : goal.returns-clause-ok
returns-clause-ok c =
    on_ok c.choose.result
    (λ procedures e.
    code_comes_to c.args.code.now (chosen procedures.items) c.args.request.now.action c.args.request.now.todo c.args.request.now.skip c.as_slice-asked.ensures c.as_slice-skipped.ensures e)
    c.choose.ensures.ok

pub returns-clause-action : goal.returns-clause-action
returns-clause-action c = λ is.
    code_comes_to c.args.code.now no_action c.args.request.now.action c.args.request.now.todo c.args.request.now.skip c.as_slice-asked.ensures c.as_slice-skipped.ensures (c.choose.ensures.action is)

pub returns-clause-choice : goal.returns-clause-choice
returns-clause-choice c = λ is.
    code_comes_to c.args.code.now bad_choice c.args.request.now.action c.args.request.now.todo c.args.request.now.skip c.as_slice-asked.ensures c.as_slice-skipped.ensures (c.choose.ensures.choice is)
