use Rattle.std.proofs.Common.{◌≡◌, ◌*◌, map, take}
use Rattle.chain_sim.specs.Rack.{rack_kinds}
use Rattle.chain_sim.proofs.kinds.is_rack.Given as goal

abbrev pub invariant-loop-p : goal.invariant-loop-p
invariant-loop-p g l = map g.D.Device.kind_of (take (3 * l.p) l.rack) ≡ rack_kinds l.p
