use Rattle.scan_paths.specs.Cables.{pulsed}
use Rattle.scan_paths.specs.Scans.{lengths_of}
use Rattle.quiet_places.proofs.PlaceLemmas.{told_place, if_found}
use Rattle.quiet_places.proofs.playing.place_after.Goals as goal

pub returns-in-Ok-place_with-clause-place : goal.returns-in-Ok-place_with-clause-place
returns-in-Ok-place_with-clause-place g c =
    let m = g.C.Cable in
    if_found c.in-Ok-place_with.place
    (λ p. told_place m.board m.made (lengths_of c.args.base.now) c.args.code.now c.args.chosen.now c.args.turns c.args.cable.now c.reset_chain.new.cable _ p c.in-Ok.ensures.reset.reset)
    c.in-Ok-place_with.ensures.place

pub returns-in-Ok-place_with-clause-made : goal.returns-in-Ok-place_with-clause-made
returns-in-Ok-place_with-clause-made g c =
    let reset = c.in-Ok.ensures.reset.reset.made in let made = c.place_with.ensures.made in
    (_, g.met.C.Cable.both_made _ _ _ (pulsed reset.clocks) made.0 reset.made.made made.1)

pub returns-in-Ok-clause-made : goal.returns-in-Ok-clause-made
returns-in-Ok-clause-made g c =
    let reset = c.in-Ok.ensures.reset.reset.made in let made = c.place_with.ensures.made in
    (_, g.met.C.Cable.both_made _ _ _ (pulsed reset.clocks) made.0 reset.made.made made.1)
