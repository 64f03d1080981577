use Rattle.std.proofs.Common.{◌∙◌, rules}
use Rattle.scan_paths.specs.Scans.{lengths_of}
use Rattle.machine_memory.specs.Acts.{state_of}
use Rattle.stapl_instructions.specs.Moves.{led_on}
use Rattle.stapl_machine.specs.Turns.{no_ticks}
use Rattle.account_plays.specs.AccountTurns.{part_at, part_ticks}
use Rattle.account_plays.proofs.TurnLemmas.{turned, turned_front}
use Rattle.account_plays.proofs.turns.play_part.Goals as goal

pub returns-in-Ok-clause-turned : goal.returns-in-Ok-clause-turned
returns-in-Ok-clause-turned g c =
    let o = c.over-port.ensures in let code = c.args.course.now.code.now in let chosen = c.args.course.now.chosen.now in
    let u = state_of chosen c.do_part.new.work in
    turned g.C.Cable g.O.Paper (lengths_of c.args.course.now.base) c.args.tap c.tap-tap.result c.args.cable.now _ c.args.out.now _ c.over-port.result c.do_part.new.port
    o.cable o.out o.tap o.base (o.digits ∙ c.none.ensures) o.pins (search rules) (search rules) (part_at code c.args.part chosen c.args.work.now) (part_ticks code c.args.part chosen c.args.work.now)
    c.args.steps.now c.do_part.new.steps (led_on c.in-Ok.went u) no_ticks c.tap-tap.ensures c.in-Ok.ensures.keeps.kept.same.base c.in-Ok.ensures.does

pub returns-in-Err-clause-turned : goal.returns-in-Err-clause-turned
returns-in-Err-clause-turned g c =
    let o = c.over-port.ensures in let code = c.args.course.now.code.now in let chosen = c.args.course.now.chosen.now in
    turned_front g.C.Cable g.O.Paper (lengths_of c.args.course.now.base) c.args.tap c.args.tap c.args.cable.now _ c.args.out.now _ c.over-port.result c.do_part.new.port
    o.cable o.out o.tap o.base (o.digits ∙ c.none.ensures) o.pins (search rules) (search rules) (part_at code c.args.part chosen c.args.work.now) (part_ticks code c.args.part chosen c.args.work.now)
    c.args.steps.now c.do_part.new.steps c.in-Err.ensures.does
