use Rattle.scan_paths.specs.Scans.{lengths_of}
use Rattle.machine_memory.specs.Acts.{state_of}
use Rattle.stapl_machine.specs.Turns.{turn_at}
use Rattle.run_cable.specs.EndedRuns.{runs_in}
use Rattle.code_plays.proofs.PlayLemmas.{write_cause}
use Rattle.account_plays.proofs.AccountLemmas.{accounted, runs_torn, turn_torn}
use Rattle.account_plays.proofs.accounting.account_turn.Goals as goal

pub returns-in-Ok-put_runs-clause-accounted : goal.returns-in-Ok-put_runs-clause-accounted
returns-in-Ok-put_runs-clause-accounted g c =
    let course = c.args.course.now in let k = c.in-Ok.ensures.kept in let new = c.play_kept_part.new in
    accounted g.C.Cable g.K.Sink (lengths_of course.base) c.args.said c.args.tap c.in-Ok.turned.tap
    (turn_at course.code.now c.args.place (state_of course.chosen.now c.args.work.now)) c.args.cable.now new.cable c.args.runs.now new.runs c.count_scans.new.self
    c.args.out.now new.out c.in-Ok.turned.went (state_of course.chosen.now new.work) c.in-Ok.ensures.turned k.same_paper k.whole_paper k.paper_kept
    c.close.new.self c.close.ensures.closed c.close.ensures.fits c.count_scans.ensures c.requires.none_lost c.requires.room (runs_in c.ended.result) c.ended.ensures.runs c.put_runs.new.out c.in-Ok-put_runs.ensures

pub returns-in-Err-put_runs-clause-accounted : goal.returns-in-Err-put_runs-clause-accounted
returns-in-Err-put_runs-clause-accounted g c =
    let course = c.args.course.now in let k = c.in-Ok.ensures.kept in let new = c.play_kept_part.new in
    runs_torn g.C.Cable g.K.Sink (lengths_of course.base) c.args.said c.args.tap c.in-Ok.turned.tap
    (turn_at course.code.now c.args.place (state_of course.chosen.now c.args.work.now)) c.args.cable.now new.cable c.args.runs.now new.runs c.count_scans.new.self
    c.args.out.now new.out c.in-Ok.turned.went (state_of course.chosen.now new.work) c.in-Ok.ensures.turned k.same_paper k.whole_paper k.paper_kept
    c.close.new.self c.close.ensures.closed c.close.ensures.fits c.count_scans.ensures c.requires.none_lost c.requires.room (runs_in c.ended.result) c.ended.ensures.runs c.put_runs.new.out c.in-Err-put_runs.ensures

pub returns-in-Err-clause-accounted : goal.returns-in-Err-clause-accounted
returns-in-Err-clause-accounted g c =
    let course = c.args.course.now in let k = c.in-Err.ensures.kept in let new = c.play_kept_part.new in
    turn_torn g.C.Cable g.K.Sink (lengths_of course.base) c.args.said c.args.tap c.args.tap
    (turn_at course.code.now c.args.place (state_of course.chosen.now c.args.work.now)) c.args.cable.now new.cable c.args.runs.now new.runs new.runs
    c.args.out.now new.out c.in-Err.ensures.turned k.same_paper k.paper_kept (write_cause _ _ c.in-Err.trouble c.failed.ensures k.fault)
