use Rattle.machine_memory.specs.Acts.{state_of}
use Rattle.stapl_machine.specs.Runs.{play_from, play_ticks_from}
use Rattle.written_cable.proofs.DeedLemmas.{kept_both}
use Rattle.stapl_machine.proofs.PlayLemmas.{parts_whole, parts_broken, plays_end, plays_torn, plays_front}
use Rattle.stapl_machine.proofs.runs.play_out.Goals as goal

pub returns-in-Ok-finish-clause-plays : goal.returns-in-Ok-finish-clause-plays
returns-in-Ok-finish-clause-plays g c =
    let m = g.C.Cable in let code = c.args.code.now in let chosen = c.args.chosen.now in let v = c.args.work.now.memory.variables.items in let n = c.args.turns in
    plays_end m g.O.Paper (play_from code chosen v n)
    (play_ticks_from code chosen v n) c.args.port.now c.play.new.port c.finish.new.self c.args.steps.now c.play.new.steps
    c.in-Ok.ending (state_of chosen c.play.new.work) c.finish.ensures.still.cable c.finish.ensures.still.tap c.finish.ensures.kept.same.base c.in-Ok.ensures.runs c.in-Ok-finish.ensures.finished.put

pub returns-in-Err-finish-clause-plays : goal.returns-in-Err-finish-clause-plays
returns-in-Err-finish-clause-plays g c =
    let m = g.C.Cable in let code = c.args.code.now in let chosen = c.args.chosen.now in let v = c.args.work.now.memory.variables.items in let n = c.args.turns in
    plays_torn m g.O.Paper (play_from code chosen v n)
    (play_ticks_from code chosen v n) c.args.port.now c.play.new.port c.finish.new.self c.args.steps.now c.play.new.steps
    c.in-Ok.ending (state_of chosen c.play.new.work) c.finish.ensures.still.cable c.in-Ok.ensures.runs c.in-Err-finish.ensures.finished.front

pub returns-in-Err-clause-plays : goal.returns-in-Err-clause-plays
returns-in-Err-clause-plays g c =
    let m = g.C.Cable in let code = c.args.code.now in let chosen = c.args.chosen.now in let v = c.args.work.now.memory.variables.items in let n = c.args.turns in
    plays_front m g.O.Paper (play_from code chosen v n)
    (play_ticks_from code chosen v n) c.args.port.now c.play.new.port c.args.steps.now c.play.new.steps c.in-Err.ensures.runs

pub returns-in-Ok-finish-clause-kept : goal.returns-in-Ok-finish-clause-kept
returns-in-Ok-finish-clause-kept g c =
    parts_whole g.C.Cable g.O.Paper c.args.port.now c.finish.new.self (kept_both c.in-Ok.ensures.keeps.kept c.finish.ensures.kept) c.in-Ok.ending c.in-Ok-finish.ensures.finished.unbroken

pub returns-in-Err-finish-clause-kept : goal.returns-in-Err-finish-clause-kept
returns-in-Err-finish-clause-kept g c =
    parts_broken g.C.Cable g.O.Paper c.args.port.now c.finish.new.self (kept_both c.in-Ok.ensures.keeps.kept c.finish.ensures.kept) c.trouble_of.result c.trouble_of.ensures

pub returns-in-Err-clause-kept : goal.returns-in-Err-clause-kept
returns-in-Err-clause-kept g c = parts_broken g.C.Cable g.O.Paper c.args.port.now c.play.new.port c.in-Err.ensures.keeps.kept c.in-Err.trouble c.in-Err.ensures.keeps.broke

pub finish-requires : goal.finish-requires
finish-requires g c = c.in-Ok.ensures.keeps.open_now.whole_port
