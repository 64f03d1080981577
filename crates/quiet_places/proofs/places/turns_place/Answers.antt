use Rattle.std.proofs.Common.{◌≡◌, ◌+◌, ◌-◌, ap, suc, arith, sym, rules}
use Rattle.machine_memory.specs.Acts.{state_of}
use Rattle.stapl_instructions.specs.Moves.{led_on}
use Rattle.stapl_machine.specs.Turns.{no_ticks, turn_at, ticks_at}
use Rattle.stapl_machine.specs.Runs.{run_of, run_ticks_of}
use Rattle.stapl_instructions.proofs.OperandLemmas.{room_kept}
use Rattle.stapl_machine.proofs.TurnLemmas.{does_same}
use Rattle.stapl_machine.proofs.RunLemmas.{runs_none, turn_on, one_left, none_left}
use Rattle.quiet_places.proofs.PlaceLemmas.{run_place, makes_both, passes_make, front_makes}
use Rattle.quiet_places.proofs.places.turns_place.Goals as goal

pub loop-turn-init : goal.loop-turn-init
loop-turn-init g c =
    let m = g.C.Cable in let u = state_of c.args.chosen.now c.args.work.now in
    let none : c.args.turns - 0 ≡ c.args.turns = omega arith in
    let all = run_of c.args.code.now c.args.turns c.args.start u in let count = run_ticks_of c.args.code.now c.args.turns c.args.start u in
    record {
      open_now = c.requires.ready.open_port;
      room = c.requires.ready.room;
      none = c.requires.none;
      within = omega arith;
      runs = runs_none m g.O.Paper c.args.port.now all (run_of c.args.code.now (c.args.turns - 0) c.args.start u) count
          (run_ticks_of c.args.code.now (c.args.turns - 0) c.args.start u) c.args.steps.now
          (g.met.C.Cable.none_made c.args.port.now.cable.now) c.requires.ready.open_port.whole_port (λ k. ap (λ n. run_of c.args.code.now n c.args.start u k) (sym none))
          (λ k. ap (λ n. c.args.steps.now + run_ticks_of c.args.code.now n c.args.start u k) none);
    }

pub loop-turn-preserved : goal.loop-turn-preserved
loop-turn-preserved g c =
    let m = g.C.Cable in let w = g.O.Paper in let code = c.args.code.now in let chosen =
    c.args.chosen.now in let place = c.loop-turn.place in
    let first = state_of chosen c.args.work.now in let s = state_of chosen c.loop-turn.work in let u = state_of chosen c.turn.new.work in
    let left = c.args.turns - c.loop-turn._turn in let more = c.args.turns - (c.loop-turn._turn + 1) in
    let e : left ≡ suc more = one_left c.args.turns c.loop-turn._turn c.loop-turn-test.true in
    let d = does_same m w c.loop-turn.port c.turn.new.port (turn_at code place s) (ticks_at code place s) c.loop-turn.steps c.turn.new.steps
    (λ v. led_on v u) (λ v. no_ticks) c.in-Ok-On.field-0-is c.in-Ok-On.ensures.does in
    record {
      open_now = c.in-Ok-On.ensures.keeps.open_now;
      room = room_kept code c.loop-turn.work c.turn.new.work c.loop-turn.invariant.room c.turn.ensures.room;
      none = search rules;
      within = search rules;
      runs = turn_on m w g.met.C.Cable.both_made c.args.port.now c.loop-turn.port c.turn.new.port (run_of code c.args.turns c.args.start first)
          (run_ticks_of code c.args.turns c.args.start first) s
          (run_of code more) (run_ticks_of code more) (turn_at code place s) (ticks_at code place s) (run_of code left place s)
          (run_ticks_of code left place s) c.args.steps.now c.loop-turn.steps c.turn.new.steps
          (λ k. ap (λ n. run_of code n place s k) e) (λ k. ap (λ n. run_ticks_of code n place s k) e) c.loop-turn.invariant.runs c.in-Ok-On.to u d;
    }

pub returns-clause-place : goal.returns-clause-place
returns-clause-place g c =
    let m = g.C.Cable in let code = c.args.code.now in let chosen = c.args.chosen.now in
    let first = state_of chosen c.args.work.now in let s = state_of chosen c.loop-turn.work in
    run_place m g.O.Paper c.args.port.now c.loop-turn.port code (run_of code c.args.turns c.args.start first)
    (run_ticks_of code c.args.turns c.args.start first) (c.args.turns - c.loop-turn._turn) c.loop-turn.place s
    c.args.steps.now c.loop-turn.steps (none_left c.args.turns c.loop-turn._turn (omega arith)) c.loop-turn.invariant.runs

pub returns-clause-made : goal.returns-clause-made
returns-clause-made g c = passes_make c.loop-turn.invariant.runs.passed

pub returns-in-Ok-Over-clause-made : goal.returns-in-Ok-Over-clause-made
returns-in-Ok-Over-clause-made g c =
    makes_both g.met.C.Cable.both_made (passes_make c.loop-turn.invariant.runs.passed) (passes_make c.in-Ok-Over.ensures.does.passed)

pub returns-in-Err-clause-made : goal.returns-in-Err-clause-made
returns-in-Err-clause-made g c =
    makes_both g.met.C.Cable.both_made (passes_make c.loop-turn.invariant.runs.passed) (front_makes c.in-Err.ensures.keeps.kept.same c.in-Err.ensures.does.passed)
