use Rattle.std.proofs.Common.{◌≡◌, ℕ, ◌<◌, ◌∙◌, length, take, sym, subst, rules, arith}
use Rattle.std.proofs.lemmas.List.{take_all}
use Rattle.std.proofs.lemmas.List.Elements.{All-get_or}
use Rattle.dev_card.specs.Descriptions.{IsGood}
use Rattle.chain_sim.proofs.Fitting.{fit_more, places_pushed, others_more, others_left, kind_at_place}
use Rattle.chain_sim.proofs.Racks.{place_inside}
use Rattle.chain_sim.proofs.fit.fit_all.Goals as goal

pub fit_at-requires-clause-inside : goal.fit_at-requires-clause-inside
fit_at-requires-clause-inside g c =
    let inside = place_inside g.D.Device.kind_of c.args.rack.now.items c.loop-i.rack.items c.loop-i.i c.place_at-place.result c.index-descs-i.result c.requires.rack
    c.loop-i.invariant.kinds (omega arith) c.place_at-place.ensures in
    omega (arith, inside)

pub fit_at-requires-clause-good : goal.fit_at-requires-clause-good
fit_at-requires-clause-good g c =
    subst IsGood (sym c.index-descs-i.is) (All-get_or IsGood c.args.descs.now c.loop-i.i c.index-descs-i.result (omega arith) c.requires.good)

pub returns-in-Err-Memory-clause-kinds : goal.returns-in-Err-Memory-clause-kinds
returns-in-Err-Memory-clause-kinds g c = c.fit_at.ensures.kinds ∙ c.loop-i.invariant.kinds

pub returns-in-Err-Memory-clause-others : goal.returns-in-Err-Memory-clause-others
returns-in-Err-Memory-clause-others g c =
    others_left _ _ _ c.args.descs.now c.loop-i.i _ c.index-descs-i.result (omega arith) c.index-descs-i.is c.place_at-place.ensures c.loop-i.invariant.others c.fit_at.ensures.others

pub returns-in_err-push-clause-kinds : goal.returns-in_err-push-clause-kinds
returns-in_err-push-clause-kinds g c = c.fit_at.ensures.kinds ∙ c.loop-i.invariant.kinds

pub returns-in_err-push-clause-others : goal.returns-in_err-push-clause-others
returns-in_err-push-clause-others g c =
    others_left _ _ _ c.args.descs.now c.loop-i.i _ c.index-descs-i.result (omega arith) c.index-descs-i.is c.place_at-place.ensures c.loop-i.invariant.others c.fit_at.ensures.others

pub unreachable-requires : goal.unreachable-requires
unreachable-requires g c =
    let kind = kind_at_place g.D.Device.kind_of c.args.rack.now.items c.loop-i.rack.items c.loop-i.i c.place_at-place.result c.index-descs-i.result c.requires.rack
    c.loop-i.invariant.kinds (omega arith) c.place_at-place.ensures in
    c.in-Err-WrongKind.ensures.wrong_kind (search rules) kind

pub loop-i-preserved : goal.loop-i-preserved
loop-i-preserved g c =
    let descs = c.args.descs.now in
    let d = c.index-descs-i.result in
    let i : ℕ = c.loop-i.i in
    let place : ℕ = c.place_at-place.result in
    let inside : i < length c.args.descs.now = omega arith in
    record {
      kinds = c.fit_at.ensures.kinds ∙ c.loop-i.invariant.kinds;
      places = places_pushed descs i place d c.loop-i.places.items c.push.new.self.items inside c.index-descs-i.is c.loop-i.invariant.places c.place_at-place.ensures c.in_ok-push.ensures.items;
      cards = fit_more g.D.Device.fitted c.loop-i.rack.items c.fit_at.new.rack.items descs i place d inside c.index-descs-i.is c.place_at-place.ensures c.loop-i.invariant.cards
          c.in-Ok.ensures.card c.fit_at.ensures.others;
      others = others_more _ _ _ descs i place d inside c.index-descs-i.is c.place_at-place.ensures c.loop-i.invariant.others c.fit_at.ensures.others;
    }

pub returns-clause-places : goal.returns-clause-places
returns-clause-places g c =
    let all : take c.loop-i.i c.args.descs.now ≡ c.args.descs.now = take_all _ _ (omega arith) in
    rw all at c.loop-i.invariant.places

pub returns-clause-cards : goal.returns-clause-cards
returns-clause-cards g c =
    let all : take c.loop-i.i c.args.descs.now ≡ c.args.descs.now = take_all _ _ (omega arith) in
    rw all at c.loop-i.invariant.cards

pub returns-clause-others : goal.returns-clause-others
returns-clause-others g c =
    let all : take c.loop-i.i c.args.descs.now ≡ c.args.descs.now = take_all _ _ (omega arith) in
    rw all at c.loop-i.invariant.others
