use Rattle.std.proofs.Common.{rules}
use Rattle.chain_sim.proofs.Clocking.{rest_fitted, all_clocked}
use Rattle.chain_sim.proofs.rack.+clock_all.Goals as goal

pub clock_all-requires : goal.clock_all-requires
clock_all-requires g t c =
    λ κs h. (search rules, (h, rest_fitted _ _ _ c.args.places.now _ _ c.in-Some.ensures.cases.0 c.requires.apart c.requires.fitted c.clock_at.ensures.others))

pub returns-in-Some-clause-cards : goal.returns-in-Some-clause-cards
returns-in-Some-clause-cards g t c =
    all_clocked _ _ _ _ c.args.places.now _ _ c.args.tms c.args.tdi _ c.in-Some.ensures.cases.0 c.requires.apart c.requires.fitted
    c.clock_at.ensures.others c.clock_at.ensures.card c.first_tdo-bit.ensures c.clock_all.ensures.cards c.clock_all.ensures.others
