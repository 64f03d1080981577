use Rattle.std.proofs.Common.{◌≡◌, ◌∙◌, rules}
use Rattle.scan_paths.specs.Scans.{lengths_of}
use Rattle.stapl_machine.specs.Runs.{play_from}
use Rattle.quiet_places.proofs.PlaceLemmas.{goes_over, code_place, if_found, made_over}
use Rattle.quiet_places.proofs.playing.place_on.Goals as goal

pub returns-in-Ok-clause-place : goal.returns-in-Ok-clause-place
returns-in-Ok-clause-place g c =
    let m = g.C.Cable in let code = c.args.code.now in let chosen = c.args.chosen.now in let n = c.args.turns in
    let lists = c.lists-lists.result.now in let same : lists ≡ code = c.lists-lists.ensures.lists ∙ c.raw.ensures.raw in let v = c.args.work.now.memory.variables.items in
    let o = c.over-port.ensures in let port = c.over-port.result in let base = lengths_of c.args.base.now in
    if_found c.in-Ok.place
    (λ p at. code_place m.board base lists code chosen v n c.args.cable.now p same c.requires.fresh.variables
    (goes_over m g.O.Paper port c.play_place.new.port c.args.cable.now base (play_from lists chosen v n) p o.cable o.tap o.base at))
    c.in-Ok.ensures.place

pub returns-in-Ok-clause-made : goal.returns-in-Ok-clause-made
returns-in-Ok-clause-made g c =
    made_over g.C.Cable.made c.over-port.result c.play_place.new.port c.args.cable.now _ c.over-port.ensures.cable (search rules) c.play_place.ensures.made

pub returns-in-Err-clause-made : goal.returns-in-Err-clause-made
returns-in-Err-clause-made g c =
    made_over g.C.Cable.made c.over-port.result c.play_place.new.port c.args.cable.now _ c.over-port.ensures.cable (search rules) c.play_place.ensures.made
