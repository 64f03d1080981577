use Rattle.std.proofs.Common.{subst, sym}
use Rattle.scan_paths.specs.Scans.{lengths_of}
use Rattle.machine_memory.specs.declared.memory.Workspace.{Workspace}
use Rattle.account_plays.specs.AccountTurns.{CanPlayTurns}
use Rattle.accounted_plays.proofs.CodeTurns.{after_first}
use Rattle.accounted_plays.proofs.over_cable.account_over_cable.Goals as goal

pub run_surely-played-requires-clause-ready : goal.run_surely-played-requires-clause-ready
run_surely-played-requires-clause-ready g c =
    let ready = c.reset_surely.ensures.ready c.args.course.now.code.now c.requires.prepared.ready in
    subst (λ (w : Workspace). CanPlayTurns c.args.course.now.code.now w) (sym c.into_workspace-work.ensures)
    (record { countable = c.requires.can.countable; none = ready.none; room = ready.room })

pub returns-clause-played : goal.returns-clause-played
returns-clause-played g c =
    let course = c.args.course.now in
    after_first g.K.Sink course.code.now course.table.now course.chosen.now (lengths_of course.base) c.args.task.now.devices.now
    c.args.runs.now c.reset_surely.new.runs c.run_surely-played.new.runs c.args.lines.now c.run_surely-played.new.lines c.args.task.now.request.now.turns
    c.run_surely-played.result c.reset_surely.ensures.sums c.run_surely-played.ensures.played

pub returns-clause-clocked : goal.returns-clause-clocked
returns-clause-clocked g c =
    let first = c.reset_surely.ensures.clocked in let next = c.run_surely-played.ensures.clocked in
    record { signals = _; made = g.met.C.Cable.both_made _ _ _ first.signals next.signals first.made next.made }
