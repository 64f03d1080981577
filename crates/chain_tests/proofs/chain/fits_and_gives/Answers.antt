use Rattle.std.proofs.Common.{◌∙◌}
use Rattle.chain_sim.specs.Rack.{places_of}
use Rattle.chain_tests.proofs.Fresh.{fresh_at}
use Rattle.chain_tests.proofs.chain.fits_and_gives.Goals as goal

pub wake_twice-woken-requires-clause-at : goal.wake_twice-woken-requires-clause-at
wake_twice-woken-requires-clause-at g c =
    fresh_at _ _ (places_of c.args.descs.now) c.args.descs.now (c.deref.ensures.value ∙ c.in_ok-places.ensures.places) c.in_ok-places.ensures.cards
