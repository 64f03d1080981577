use Rattle.std.proofs.Common.{arith}
use Rattle.code_plays.proofs.PlayLemmas.{run_begins, run_described, run_reported}
use Rattle.code_plays.proofs.playing.put_reported.Goals as goal

pub put_report-requires-clause-board : goal.put_report-requires-clause-board
put_report-requires-clause-board g c = run_described _ c.args.places.now c.args.task.now.devices.now _ _ c.requires.board.described

pub returns-in-Some : goal.returns-in-Some
returns-in-Some g c =
    let begins = run_begins c.args.task.now.request.now.place c.in-Some.run' c.args.task.now.devices.now c.requires.placed c.in-Some.is in
    let same = run_reported _ c.args.places.now c.args.task.now.devices.now c.in-Some.run' _ (omega (arith, begins)) c.requires.board.described in
    rw (c.in-Some.is, ← same) c.put_report.ensures
