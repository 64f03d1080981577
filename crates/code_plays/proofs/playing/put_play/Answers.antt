use Rattle.code_plays.specs.CodePlays.{task_play}
use Rattle.code_plays.proofs.PlayLemmas.{run_failed, events_failed, report_failed, ending_failed, run_put, left_far, left_described, left_count}
use Rattle.code_plays.proofs.playing.put_play.Goals as goal

pub put_asked_report-requires-clause-board : goal.put_asked_report-requires-clause-board
put_asked_report-requires-clause-board g c = record {
  described = rw c.deref.ensures.value (left_described c.in_ok-ending.ensures.plays.left);
  counted = left_count c.in_ok-ending.ensures.plays.left;
}

pub returns-in_err-ending-clause-plays : goal.returns-in_err-ending-clause-plays
returns-in_err-ending-clause-plays g c =
    run_failed _ _ c.from_residual.result c.from_residual.ensures.0
    (events_failed c.args.task.now.request.now (task_play c.args.code.now c.args.chosen.now c.args.task.now) c.in_err-ending.ensures.plays)

pub returns-in_err-put_asked_report-clause-plays : goal.returns-in_err-put_asked_report-clause-plays
returns-in_err-put_asked_report-clause-plays g c =
    let played = c.in_ok-ending.ensures.plays in
    run_failed _ _ c.from_residual-in_err-put_asked_report.result c.from_residual-in_err-put_asked_report.ensures.0
    (report_failed c.args.task.now.request.now (task_play c.args.code.now c.args.chosen.now c.args.task.now) played.put
    (rw (c.deref.ensures.value, left_far played.left) at c.in_err-put_asked_report.ensures))

pub returns-in_err-put_ending-clause-plays : goal.returns-in_err-put_ending-clause-plays
returns-in_err-put_ending-clause-plays g c =
    let played = c.in_ok-ending.ensures.plays in
    run_failed _ _ c.from_residual-in_err-put_ending.result c.from_residual-in_err-put_ending.ensures.0
    (ending_failed c.args.task.now.request.now (task_play c.args.code.now c.args.chosen.now c.args.task.now) c.in_ok-ending.ending played.ended played.put
    (rw (c.deref.ensures.value, left_far played.left) at c.in_ok-put_asked_report.ensures) c.in_err-put_ending.ensures)

pub returns-clause-plays : goal.returns-clause-plays
returns-clause-plays g c =
    let played = c.in_ok-ending.ensures.plays in
    record {
      put = run_put c.args.task.now.request.now (task_play c.args.code.now c.args.chosen.now c.args.task.now) c.in_ok-ending.ending played.ended played.put
          (rw (c.deref.ensures.value, left_far played.left) at c.in_ok-put_asked_report.ensures) c.in_ok-put_ending.ensures;
      ended = played.ended;
      left = played.left;
    }
