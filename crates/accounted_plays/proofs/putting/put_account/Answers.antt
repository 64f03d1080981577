use Rattle.scan_paths.specs.Scans.{lengths_of}
use Rattle.accounted_plays.proofs.Sums.{sums_torn, ending_torn, all_put}
use Rattle.accounted_plays.proofs.putting.put_account.Goals as goal

pub returns-in_err-put_sums-clause-puts : goal.returns-in_err-put_sums-clause-puts
returns-in_err-put_sums-clause-puts g c =
    let course = c.args.course.now in
    sums_torn course.code.now course.table.now course.chosen.now (lengths_of course.base) c.args.task.now.devices.now g.K.Sink c.args.task.now.request.now.turns
    c.args.lines.now c.account_on_chain.new.lines c.args.runs.now c.account_on_chain.new.runs c.in_ok-over.over c.in-Some.ending c.in-Some.is
    c.requires.first.0 c.requires.first.1 c.in_ok-over.ensures.played c.sums_of.result c.sums_of.ensures c.put_sums.new.out
    c.from_residual-in_err-put_sums.result c.from_residual-in_err-put_sums.ensures.0 c.in_err-put_sums.ensures

pub returns-in_err-put_ending-clause-puts : goal.returns-in_err-put_ending-clause-puts
returns-in_err-put_ending-clause-puts g c =
    let course = c.args.course.now in
    ending_torn course.code.now course.table.now course.chosen.now (lengths_of course.base) c.args.task.now.devices.now g.K.Sink c.args.task.now.request.now.turns
    c.args.lines.now c.account_on_chain.new.lines c.args.runs.now c.account_on_chain.new.runs c.in_ok-over.over c.in-Some.ending c.in-Some.is
    c.requires.first.0 c.requires.first.1 c.in_ok-over.ensures.played c.sums_of.result c.sums_of.ensures c.put_sums.new.out c.in_ok-put_sums.ensures
    c.put_ending.new.lines c.from_residual-in_err-put_ending.result c.from_residual-in_err-put_ending.ensures.0 c.in_err-put_ending.ensures

pub returns-clause-puts : goal.returns-clause-puts
returns-clause-puts g c =
    let course = c.args.course.now in
    all_put course.code.now course.table.now course.chosen.now (lengths_of course.base) c.args.task.now.devices.now g.K.Sink c.args.task.now.request.now.turns
    c.args.lines.now c.account_on_chain.new.lines c.args.runs.now c.account_on_chain.new.runs c.in_ok-over.over c.in-Some.ending c.in-Some.is
    c.requires.first.0 c.requires.first.1 c.in_ok-over.ensures.played c.sums_of.result c.sums_of.ensures c.put_sums.new.out c.in_ok-put_sums.ensures
    c.put_ending.new.lines c.in_ok-put_ending.ensures
