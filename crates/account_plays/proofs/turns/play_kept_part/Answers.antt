use Rattle.std.proofs.Common.{◌∙◌, rules}
use Rattle.scan_paths.specs.Scans.{lengths_of}
use Rattle.machine_memory.specs.Acts.{state_of}
use Rattle.stapl_instructions.specs.Moves.{led_on}
use Rattle.account_plays.specs.AccountTurns.{part_at}
use Rattle.account_plays.proofs.TurnLemmas.{kept_turned}
use Rattle.account_plays.proofs.turns.play_kept_part.Goals as goal

pub returns-in-Ok-clause-turned : goal.returns-in-Ok-clause-turned
returns-in-Ok-clause-turned g c =
    let o = c.over-over.ensures in let course = c.args.course.now in let t = c.in-Ok.ensures.turned in
    let u = state_of course.chosen.now c.play_part.new.work in
    kept_turned g.C.Cable g.O.Paper (lengths_of course.base) c.args.tap c.in-Ok.turned.tap c.args.cable.now _ c.args.runs.now _ c.args.out.now c.play_part.new.out
    c.over-over.result c.play_part.new.cable o.over.cable (search rules) (o.runs ∙ c.begin.ensures) (search rules) c.in-Ok.ensures.open.whole_cable
    (part_at course.code.now c.args.part course.chosen.now c.args.work.now) (led_on c.in-Ok.turned.went u) t.events t.made t.put t.does
