use Rattle.stapl_meaning.specs.Deeds.{Chain}
use Rattle.stapl_code.specs.Machine.{entry_of, begins_chosen}
use Rattle.stapl_code.specs.Safe.{entries_of}
use Rattle.machine_memory.specs.Acts.{state_of}
use Rattle.stapl_instructions.specs.Moves.{led_on}
use Rattle.stapl_machine.specs.Turns.{rest_of, ticks_from, no_ticks}
use Rattle.stapl_machine.specs.Runs.{run_of, play_from}
use Rattle.stapl_instructions.proofs.OperandLemmas.{none_hold, room_kept}
use Rattle.stapl_machine.proofs.RunLemmas.{at_first, started, begun_by, play_is, begun_does}
use Rattle.quiet_places.proofs.PlaceLemmas.{place_then, if_found, makes_both, passes_make, front_makes}
use Rattle.quiet_places.proofs.places.play_place.Goals as goal

pub returns-in-Ok-begun_place-clause-place : goal.returns-in-Ok-begun_place-clause-place
returns-in-Ok-begun_place-clause-place g c =
    let m = g.C.Cable in let w = g.O.Paper in let code = c.args.code.now in let chosen = c.args.chosen.now in let n = c.args.turns in
    let work = c.args.work.now in let none = c.requires.none in let no = c.requires.unused in let entry = entry_of (entries_of code.procedures) in
    let first = at_first code chosen work n none no in let s = started code chosen work n none no in let begun = begun_by code chosen work n none no in
    let u = state_of chosen c.rest_of_turn.new.work in let led = λ (k : Chain). begins_chosen entry (led_on c.in-Ok.went u k) in
    if_found c.in-Ok-begun_place.place
    (λ p. place_then m w g.met.C.Cable.both_made c.args.port.now c.rest_of_turn.new.port c.begun_place.new.port
    (play_from code chosen work.memory.variables.items n) s u (run_of code n) begun led (ticks_from code 0 chosen first) no_ticks c.args.steps.now c.rest_of_turn.new.steps p
    (play_is code chosen work n none no)
    (begun_does m w c.args.port.now c.rest_of_turn.new.port entry (rest_of code 0 chosen first) (led_on c.in-Ok.went u)
    (ticks_from code 0 chosen first) no_ticks c.args.steps.now c.rest_of_turn.new.steps c.in-Ok.ensures.does))
    c.in-Ok-begun_place.ensures.place

pub rest_of_turn-requires-clause-room : goal.rest_of_turn-requires-clause-room
rest_of_turn-requires-clause-room g c =
    let work = c.args.work.now in
    record {
      countable = c.requires.ready.countable;
      room = c.requires.ready.room;
      few = none_hold c.args.code.now 0 (record work { next = 0 }) c.requires.ready.room c.requires.none;
    }

pub begun_place-requires-clause-ready : goal.begun_place-requires-clause-ready
begun_place-requires-clause-ready g c =
    let work = c.args.work.now in
    record {
      countable = c.requires.ready.countable;
      open_port = c.in-Ok.ensures.keeps.open_now;
      room = room_kept c.args.code.now (record work { next = 0 }) c.rest_of_turn.new.work c.requires.ready.room c.rest_of_turn.ensures.room;
    }

pub returns-in-Ok-begun_place-clause-made : goal.returns-in-Ok-begun_place-clause-made
returns-in-Ok-begun_place-clause-made g c = makes_both g.met.C.Cable.both_made (passes_make c.in-Ok.ensures.does.passed) c.begun_place.ensures.made

pub returns-in-Err-begun_place-clause-made : goal.returns-in-Err-begun_place-clause-made
returns-in-Err-begun_place-clause-made g c = makes_both g.met.C.Cable.both_made (passes_make c.in-Ok.ensures.does.passed) c.begun_place.ensures.made

pub returns-in-Err-clause-made : goal.returns-in-Err-clause-made
returns-in-Err-clause-made g c = front_makes c.in-Err.ensures.keeps.kept.same c.in-Err.ensures.does.passed
