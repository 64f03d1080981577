use Rattle.std.proofs.Common.{ap, ◌∙◌, reverse, None}
use Rattle.machine_memory.specs.Acts.{state_of}
use Rattle.stapl_instructions.specs.Moves.{led_to}
use Rattle.stapl_instructions.proofs.OperandLemmas.{none_hold, room_kept}
use Rattle.stapl_machine.proofs.RunLemmas.{play_goes, play_goes_front, play_breaks, chosen_goes, chosen_goes_front, chosen_ends, prologue_lacks}
use Rattle.stapl_machine.proofs.runs.play.Goals as goal

pub returns-in-Ok-clause-runs : goal.returns-in-Ok-clause-runs
returns-in-Ok-clause-runs g c =
    let m = g.C.Cable in let p = g.O.Paper in let code = c.args.code.now in let chosen = c.args.chosen.now in let n = c.args.turns in let work = c.args.work.now in
    let none = c.requires.none in let no = c.requires.unused in let a = c.args.port.now in let b = c.rest_of_turn.new.port in let mid = c.rest_of_turn.new.work in
    let u = state_of chosen mid in let steps = c.args.steps.now in let then = c.rest_of_turn.new.steps in let made = g.met.C.Cable.none_made a.cable.now in
    let w = c.in-Ok-On.field-0 in let v = state_of chosen (record mid { next = c.begin_next.new.next }) in
    let begins = c.begin_next.ensures (reverse mid.memory.records.items) mid.memory.ir mid.memory.dr mid.memory.variables.items ∙ ap (λ w. led_to w v) c.in-On.is in
    let new = c.run_turns.new in let t = state_of chosen new.work in
    play_goes m p g.met.C.Cable.both_made code chosen work n none no a b steps then made c.requires.open.whole_port w u c.in-Ok-On.ensures.does new.port new.steps c.in-Ok.ending t
    (chosen_goes m p code n u v w c.in-Ok-On.field-0-is c.in-On.start b new.port then new.steps c.in-Ok.ending t begins c.in-Ok.ensures.runs)

pub returns-in-Err-run_turns-clause-runs : goal.returns-in-Err-run_turns-clause-runs
returns-in-Err-run_turns-clause-runs g c =
    let m = g.C.Cable in let p = g.O.Paper in let code = c.args.code.now in let chosen = c.args.chosen.now in let n = c.args.turns in let work = c.args.work.now in
    let none = c.requires.none in let no = c.requires.unused in let a = c.args.port.now in let b = c.rest_of_turn.new.port in let mid = c.rest_of_turn.new.work in
    let u = state_of chosen mid in let steps = c.args.steps.now in let then = c.rest_of_turn.new.steps in let made = g.met.C.Cable.none_made a.cable.now in
    let w = c.in-Ok-On.field-0 in let v = state_of chosen (record mid { next = c.begin_next.new.next }) in
    let begins = c.begin_next.ensures (reverse mid.memory.records.items) mid.memory.ir mid.memory.dr mid.memory.variables.items ∙ ap (λ w. led_to w v) c.in-On.is in
    let new = c.run_turns.new in
    play_goes_front m p g.met.C.Cable.both_made code chosen work n none no a b steps then made c.requires.open.whole_port w u c.in-Ok-On.ensures.does new.port new.steps
    (chosen_goes_front m p code n u v w c.in-Ok-On.field-0-is c.in-On.start b new.port then new.steps begins c.in-Err-run_turns.ensures.runs)

pub returns-in-Over-clause-runs : goal.returns-in-Over-clause-runs
returns-in-Over-clause-runs g c =
    let m = g.C.Cable in let p = g.O.Paper in let code = c.args.code.now in let chosen = c.args.chosen.now in let n = c.args.turns in let work = c.args.work.now in
    let none = c.requires.none in let no = c.requires.unused in let a = c.args.port.now in let b = c.rest_of_turn.new.port in let mid = c.rest_of_turn.new.work in
    let u = state_of chosen mid in let steps = c.args.steps.now in let then = c.rest_of_turn.new.steps in let made = g.met.C.Cable.none_made a.cable.now in
    let w = c.in-Ok-On.field-0 in let v = state_of chosen (record mid { next = c.begin_next.new.next }) in
    let begins = c.begin_next.ensures (reverse mid.memory.records.items) mid.memory.ir mid.memory.dr mid.memory.variables.items ∙ ap (λ w. led_to w v) c.in-Over.is in
    play_goes m p g.met.C.Cable.both_made code chosen work n none no a b steps then made c.requires.open.whole_port w u c.in-Ok-On.ensures.does b then c.in-Over.ending v
    (chosen_ends m p code n u v w c.in-Ok-On.field-0-is b then c.in-Over.ending (g.met.C.Cable.none_made b.cable.now) c.in-Ok-On.ensures.keeps.open_now.whole_port begins)

pub returns-in-Ok-Over-clause-runs : goal.returns-in-Ok-Over-clause-runs
returns-in-Ok-Over-clause-runs g c =
    let m = g.C.Cable in let p = g.O.Paper in let code = c.args.code.now in let chosen = c.args.chosen.now in let n = c.args.turns in let work = c.args.work.now in
    let none = c.requires.none in let no = c.requires.unused in let a = c.args.port.now in let b = c.rest_of_turn.new.port in let mid = c.rest_of_turn.new.work in
    let u = state_of chosen mid in let steps = c.args.steps.now in let then = c.rest_of_turn.new.steps in let made = g.met.C.Cable.none_made a.cable.now in
    let w = c.in-Ok-Over.field-0 in
    play_goes m p g.met.C.Cable.both_made code chosen work n none no a b steps then made c.requires.open.whole_port w u c.in-Ok-Over.ensures.does b then None u
    (prologue_lacks m p code n u w b then c.in-Ok-Over.field-0-is (g.met.C.Cable.none_made b.cable.now) c.in-Ok-Over.ensures.keeps.open_now.whole_port)

pub returns-in-Err-clause-runs : goal.returns-in-Err-clause-runs
returns-in-Err-clause-runs g c =
    let m = g.C.Cable in let p = g.O.Paper in let code = c.args.code.now in let chosen = c.args.chosen.now in let n = c.args.turns in let work = c.args.work.now in
    let none = c.requires.none in let no = c.requires.unused in let a = c.args.port.now in let b = c.rest_of_turn.new.port in let mid = c.rest_of_turn.new.work in
    let u = state_of chosen mid in let steps = c.args.steps.now in let then = c.rest_of_turn.new.steps in let made = g.met.C.Cable.none_made a.cable.now in
    play_breaks m p g.met.C.Cable.both_made code chosen work n none no a b steps then made c.requires.open.whole_port c.in-Err.ensures.does

pub rest_of_turn-requires-clause-room : goal.rest_of_turn-requires-clause-room
rest_of_turn-requires-clause-room g c =
    let work = c.args.work.now in
    record {
      countable = c.requires.countable;
      room = c.requires.room;
      few = none_hold c.args.code.now 0 (record work { next = 0 }) c.requires.room c.requires.none;
    }

pub run_turns-requires-clause-room : goal.run_turns-requires-clause-room
run_turns-requires-clause-room g c =
    room_kept c.args.code.now (record c.args.work.now { next = 0 }) (record c.rest_of_turn.new.work { next = c.begin_next.new.next }) c.requires.room c.rest_of_turn.ensures.room
