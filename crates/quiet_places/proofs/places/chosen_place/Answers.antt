use Rattle.std.proofs.Common.{ap, ◌∙◌, reverse}
use Rattle.machine_memory.specs.Acts.{state_of}
use Rattle.stapl_instructions.specs.Moves.{led_to}
use Rattle.stapl_machine.specs.Runs.{run_of, chosen_run}
use Rattle.stapl_machine.proofs.RunLemmas.{chosen_on}
use Rattle.quiet_places.proofs.PlaceLemmas.{place_same, if_found, makes_none}
use Rattle.quiet_places.proofs.places.chosen_place.Goals as goal

pub returns-in-Ok-clause-place : goal.returns-in-Ok-clause-place
returns-in-Ok-clause-place g c =
    let m = g.C.Cable in let code = c.args.code.now in let n = c.args.turns in let work = c.args.work.now in let chosen = c.args.chosen.now in
    let s = state_of chosen work in let u = state_of chosen (record work { next = c.begin_next.new.next }) in let start = c.in-On.start in
    let begins = c.begin_next.ensures (reverse work.memory.records.items) work.memory.ir work.memory.dr work.memory.variables.items ∙ ap (λ w. led_to w u) c.in-On.is in
    if_found c.in-Ok.place
    (λ p. place_same m g.O.Paper c.args.port.now c.turns_place.new.port (run_of code n start u) (chosen_run code n s) p (chosen_on code n s u start begins))
    c.in-Ok.ensures.place

pub returns-in-Over-clause-made : goal.returns-in-Over-clause-made
returns-in-Over-clause-made g c = makes_none g.met.C.Cable.none_made c.args.port.now
