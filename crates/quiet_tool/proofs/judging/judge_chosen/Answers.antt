use Rattle.stapl_syntax.specs.ProgramValues.{trees_of}
use Rattle.stapl_meaning.specs.Scopes.{as_played}
use Rattle.quiet_tool.proofs.AnswerLemmas.{verdict_same}
use Rattle.quiet_tool.proofs.judging.judge_chosen.Goals as goal

pub returns-clause-answer : goal.returns-clause-answer
returns-clause-answer g c =
    verdict_same (as_played (trees_of c.args.program.now)) c.args.chosen.now c.args.task.now.request.now.turns _ _ _ _ c.text.ensures.text c.run_of-run.ensures
    (c.in_ok-answer.ensures (as_played (trees_of c.args.program.now)) c.args.chosen.now c.run_of-run.result.now
    (c.in_ok-verdict.ensures.verdict (as_played (trees_of c.args.program.now)) c.requires.code))
