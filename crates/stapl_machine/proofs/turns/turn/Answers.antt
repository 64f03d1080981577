use Rattle.std.proofs.Common.{rules, ◌≡◌, ◌+◌, Some, None, slice_get}
use Rattle.stapl_instructions.specs.declared.control.Went.TheVariants as went
use Rattle.machine_memory.specs.Acts.{state_of}
use Rattle.stapl_instructions.specs.Moves.{led_on}
use Rattle.stapl_machine.specs.Turns.{rest_of, ticks_from, no_ticks, piece_of, turn_at, ticks_at}
use Rattle.stapl_instructions.proofs.OperandLemmas.{none_hold}
use Rattle.stapl_machine.proofs.TurnLemmas.{turn_begins, turn_ticks_begin, turn_lacks, turn_ticks_lack, does_still, does_of, front_of, one_tick_more, no_tick}
use Rattle.stapl_machine.proofs.turns.turn.Goals as goal

pub returns-in-None-clause-does : goal.returns-in-None-clause-does
returns-in-None-clause-does g c =
    let m = g.C.Cable in let code = c.args.code.now in let place = c.args.place in let u = state_of c.args.chosen.now c.args.work.now in
    let h : piece_of (slice_get code.instrs place) ≡ None = search rules in
    does_still m g.O.Paper c.args.port.now (turn_at code place u) (led_on (went.Over None) u) (ticks_at code place u) no_ticks c.args.steps.now c.args.steps.now
    (g.met.C.Cable.none_made c.args.port.now.cable.now) c.requires.open.whole_port (turn_lacks code place u h)
    (λ k. no_tick c.args.steps.now (ticks_at code place u k) (turn_ticks_lack code place u h k))

pub returns-in-Ok-clause-does : goal.returns-in-Ok-clause-does
returns-in-Ok-clause-does g c =
    let m = g.C.Cable in let code = c.args.code.now in let place = c.args.place in let chosen = c.args.chosen.now in let work = c.args.work.now in
    let piece = c.in-Some.piece in let u = state_of chosen work in
    let h : piece_of (slice_get code.instrs place) ≡ Some piece = search rules in
    does_of m g.O.Paper c.args.port.now c.rest_of_turn.new.port (rest_of code (place + 1) chosen (record work { piece = piece }))
    (turn_at code place u) (led_on c.in-Ok.went (state_of chosen c.rest_of_turn.new.work))
    (ticks_from code (place + 1) chosen (record work { piece = piece })) (ticks_at code place u) no_ticks c.args.steps.now c.tick.new.self c.rest_of_turn.new.steps
    (turn_begins code place piece chosen work c.requires.none h)
    (λ k. one_tick_more c.args.steps.now c.tick.new.self _ _ c.tick.ensures (turn_ticks_begin code place piece chosen work c.requires.none h k)) c.in-Ok.ensures.does

pub returns-in-Err-clause-does : goal.returns-in-Err-clause-does
returns-in-Err-clause-does g c =
    let m = g.C.Cable in let code = c.args.code.now in let place = c.args.place in let chosen = c.args.chosen.now in let work = c.args.work.now in
    let piece = c.in-Some.piece in let u = state_of chosen work in
    let h : piece_of (slice_get code.instrs place) ≡ Some piece = search rules in
    front_of m g.O.Paper c.args.port.now c.rest_of_turn.new.port (rest_of code (place + 1) chosen (record work { piece = piece })) (turn_at code place u)
    (ticks_from code (place + 1) chosen (record work { piece = piece })) (ticks_at code place u) c.args.steps.now c.tick.new.self c.rest_of_turn.new.steps
    (turn_begins code place piece chosen work c.requires.none h)
    (λ k. one_tick_more c.args.steps.now c.tick.new.self _ _ c.tick.ensures (turn_ticks_begin code place piece chosen work c.requires.none h k)) c.in-Err.ensures.does

pub rest_of_turn-requires-clause-room : goal.rest_of_turn-requires-clause-room
rest_of_turn-requires-clause-room g c =
    let work = c.args.work.now in
    record {
      countable = c.requires.countable;
      room = c.requires.room;
      few = none_hold c.args.code.now (c.args.place + 1) (record work { piece = c.in-Some.piece }) c.requires.room c.requires.none;
    }
