use Rattle.std.proofs.Common.{◌≡◌, ℕ, map, take, Some, slice_get}
use Rattle.dev_card.specs.Card.{fresh}
use Rattle.chain_sim.specs.Places.{cards_at, IsAbsent}
use Rattle.chain_sim.specs.Rack.{places_of}
use Rattle.chain_sim.proofs.fit.fit_all.Given as goal

abbrev pub invariant-loop-i : goal.invariant-loop-i
invariant-loop-i g l =
    record {
      kinds : map g.D.Device.kind_of l.rack.items ≡ map g.D.Device.kind_of l.fn.rack.items;
      places : l.places.items ≡ places_of (take l.i l.descs);
      cards : cards_at (map g.D.Device.fitted l.rack.items) (places_of (take l.i l.descs)) ≡ Some (map fresh (take l.i l.descs));
      others : (k : ℕ) → IsAbsent k (places_of (take l.i l.descs)) → slice_get l.rack.items k ≡ slice_get l.fn.rack.items k;
    }
