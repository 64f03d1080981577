use Rattle.scan_paths.specs.Scans.{lengths_of}
use Rattle.accounted_plays.proofs.CodeTurns.{all_told, all_fit, turns_played, turns_torn}
use Rattle.accounted_plays.proofs.over_cable.run_surely.Goals as goal

pub account_run-requires-clause-told : goal.account_run-requires-clause-told
account_run-requires-clause-told g c =
    let course = c.args.course.now in
    all_told g.C.Cable g.K.Sink course.code.now course.table.now course.chosen.now (lengths_of course.base) c.args.task.now.devices.now
    _ c.requires.zeros c.args.cable.now c.requires.board c.args.runs.now c.requires.can

pub account_run-requires-clause-room : goal.account_run-requires-clause-room
account_run-requires-clause-room g c =
    let course = c.args.course.now in
    all_fit g.C.Cable g.K.Sink course.code.now course.table.now course.chosen.now (lengths_of course.base) c.args.task.now.devices.now
    _ c.requires.zeros c.args.cable.now c.requires.board c.args.runs.now c.requires.can

pub returns-in-Ok-clause-played : goal.returns-in-Ok-clause-played
returns-in-Ok-clause-played g c =
    let course = c.args.course.now in let new = c.account_run.new in
    turns_played g.C.Cable g.K.Sink course.code.now course.table.now course.chosen.now (lengths_of course.base) c.args.task.now.devices.now
    _ c.requires.zeros c.args.cable.now c.requires.board c.args.runs.now c.args.lines.now c.args.task.now.request.now.turns
    c.in-Ok.over new.cable new.runs new.out c.in-Ok.ensures.played

pub returns-clause-played : goal.returns-clause-played
returns-clause-played g c =
    let course = c.args.course.now in let new = c.account_run.new in
    turns_torn g.C.Cable g.K.Sink course.code.now course.table.now course.chosen.now (lengths_of course.base) c.args.task.now.devices.now
    _ c.requires.zeros c.args.cable.now c.requires.board c.args.runs.now c.args.lines.now c.args.task.now.request.now.turns new.out c.in-Err.ensures.played
