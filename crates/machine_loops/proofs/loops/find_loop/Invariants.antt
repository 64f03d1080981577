use Rattle.std.proofs.Common.{◌≡◌, ◌≤◌, length, reverse, take}
use Rattle.stapl_meaning.specs.Effects.{nearest_loop}
use Rattle.machine_loops.proofs.loops.find_loop.Given as goal

abbrev pub invariant-down : goal.invariant-down
invariant-down l = record {
  inside : l.at ≤ length l.records;
  same : nearest_loop l.n (reverse l.records) ≡ nearest_loop l.n (reverse (take l.at l.records));
}

abbrev pub decreases-down : goal.decreases-down
decreases-down l = l.at
