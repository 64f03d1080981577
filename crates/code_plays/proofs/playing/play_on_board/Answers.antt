use Rattle.std.proofs.Common.{refl}
use Rattle.tool_frame.proofs.AnswerLemmas.{says_failed, says_no_memory}
use Rattle.code_plays.specs.CodePlays.{task_play}
use Rattle.code_plays.proofs.PlayLemmas.{run_said, run_said_front}
use Rattle.code_plays.proofs.playing.play_on_board.Goals as goal

pub returns-in_err-places-clause-says : goal.returns-in_err-places-clause-says
returns-in_err-places-clause-says g c = says_no_memory _ _ _ _ _ c.from_residual.result c.from_residual.ensures.1 (refl, refl)

pub returns-in_err-machine-clause-says : goal.returns-in_err-machine-clause-says
returns-in_err-machine-clause-says g c =
    says_no_memory _ _ _ _ _ c.from_residual-in_err-machine.result c.from_residual-in_err-machine.ensures.1 (refl, refl)

pub returns-in_err-ending-clause-says : goal.returns-in_err-ending-clause-says
returns-in_err-ending-clause-says g c =
    says_failed _ _ _ _ _ c.from_residual-in_err-ending.result c.from_residual-in_err-ending.ensures.1
    (run_said_front c.args.task.now.request.now (task_play c.args.code.now c.args.chosen.now c.args.task.now) c.check_ending.ensures c.in_err-ending.ensures.plays)

pub returns-clause-says : goal.returns-clause-says
returns-clause-says g c =
    run_said c.args.task.now.request.now (task_play c.args.code.now c.args.chosen.now c.args.task.now) c.in_ok-ending.ending _
    c.in_ok-ending.ensures.plays.ended c.status_of.ensures c.in_ok-ending.ensures.plays.put
