use Rattle.stapl_instructions.specs.declared.control.Went.TheVariants as went
use Rattle.machine_memory.specs.Acts.{state_of}
use Rattle.stapl_instructions.specs.Moves.{led_on}
use Rattle.stapl_machine.specs.Runs.{chosen_run, begun_run}
use Rattle.stapl_machine.proofs.RunLemmas.{begun_on}
use Rattle.quiet_places.proofs.PlaceLemmas.{place_same, if_found, makes_none}
use Rattle.quiet_places.proofs.places.begun_place.Goals as goal

pub returns-in-Ok-clause-place : goal.returns-in-Ok-clause-place
returns-in-Ok-clause-place g c =
    let m = g.C.Cable in let code = c.args.code.now in let n = c.args.turns in let chosen = c.args.chosen.now in
    let s = state_of chosen c.args.work.now in let place = c.in-On.field-0 in
    rw c.in-On.is (if_found c.in-Ok.place
    (λ p. place_same m g.O.Paper c.args.port.now c.chosen_place.new.port (chosen_run code n s) (begun_run code n (led_on (went.On place) s) s) p
    (begun_on code n place s)) c.in-Ok.ensures.place)

pub returns-in-Over-clause-made : goal.returns-in-Over-clause-made
returns-in-Over-clause-made g c = makes_none g.met.C.Cable.none_made c.args.port.now
