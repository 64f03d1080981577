use Rattle.std.proofs.lemmas.List.{nil_from_length}
use Rattle.chain_sim.proofs.BlockRuns.{no_places, no_places_seen, first_fitted, all_shifted, all_seen}
use Rattle.chain_sim.proofs.rack.+shift_all.Goals as goal

pub shift_at-requires-clause-fitted : goal.shift_at-requires-clause-fitted
shift_at-requires-clause-fitted g t c =
    first_fitted g.D.Device.fitted c.args.rack.now.items c.shift_all-after.new.rack.items c.args.places.now _ _
    c.in-Some.ensures.cases.0 c.requires.apart c.requires.fitted c.shift_all-after.ensures.others

pub returns-in-None-clause-cards : goal.returns-in-None-clause-cards
returns-in-None-clause-cards g t c = no_places _ c.args.places.now c.args.tdi c.args.n c.args.last (nil_from_length c.args.places.now c.in-None.ensures.cases)

pub returns-in-None-clause-tdo : goal.returns-in-None-clause-tdo
returns-in-None-clause-tdo g t c = no_places_seen _ c.args.places.now c.args.tdi c.args.n _ c.args.last
    (nil_from_length c.args.places.now c.in-None.ensures.cases) c.lowest.ensures

pub returns-in-Some-clause-cards : goal.returns-in-Some-clause-cards
returns-in-Some-clause-cards g t c =
    all_shifted g.D.Device.fitted c.args.rack.now.items c.shift_all-after.new.rack.items c.args.places.now _ _
    c.args.tdi c.args.n c.shift_all-after.result c.args.last c.shift_at.new.rack.items
    c.in-Some.ensures.cases.0 c.requires.apart c.requires.fitted c.shift_all-after.ensures.others
    c.shift_all-after.ensures.cards c.shift_all-after.ensures.tdo c.shift_at.ensures.card
    c.shift_at.ensures.others

pub returns-in-Some-clause-tdo : goal.returns-in-Some-clause-tdo
returns-in-Some-clause-tdo g t c =
    all_seen g.D.Device.fitted c.args.rack.now.items c.shift_all-after.new.rack.items c.args.places.now _ _ c.args.tdi
    c.args.n c.shift_all-after.result c.args.last c.shift_at.result
    c.in-Some.ensures.cases.0 c.requires.apart c.requires.fitted c.shift_all-after.ensures.others c.shift_all-after.ensures.tdo c.shift_at.ensures.tdo
